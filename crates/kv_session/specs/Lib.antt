pub mod Answers
pub mod Filling
pub mod Session
pub mod Making
pub mod Cutting
pub mod Weaving
