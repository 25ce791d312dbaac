pub mod Digits
pub mod Planning
pub mod Looks
pub mod Edits
