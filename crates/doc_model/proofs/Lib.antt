pub mod Entries
pub mod Drops
pub mod Searched
pub mod Weights
mod Freed
pub mod Slots
mod Apart
mod Listed
