pub mod Nodes
pub mod Tokens
pub mod Reading
pub mod Machine
pub mod Brackets
pub mod Turns
pub mod Places
