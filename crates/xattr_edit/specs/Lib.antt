pub mod Telling
pub mod Updating
