pub mod Stepping
pub mod Places
pub mod Telling
