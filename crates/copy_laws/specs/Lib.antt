pub mod Collections
pub mod Documents
pub mod Guards
pub mod Histories
pub mod Leaving
