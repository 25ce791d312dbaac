pub mod Depth
pub mod Names
pub mod Pairs
pub mod Going
pub mod Fronts
pub mod Sections
pub mod Changes
pub mod Places
