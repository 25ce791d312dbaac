pub mod Layout
pub mod Grammar
pub mod Judging
pub mod Reading
pub mod Heads
