pub mod Grammar
pub mod Judging
pub mod Reading
pub mod Viewing
