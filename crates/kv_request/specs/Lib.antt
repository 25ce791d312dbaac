pub mod Opcodes
pub mod Parts
pub mod Multi
pub mod Tables
pub mod Reading
pub mod Viewing
pub mod Sending
