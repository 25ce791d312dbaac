pub mod Gaps
pub mod Objects
pub mod Steps
pub mod Found
