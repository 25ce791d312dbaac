pub mod Objects
pub mod Steps
pub mod Found
pub mod Kept
pub mod Texts
pub mod Sections
pub mod Upserted
pub mod Sizes
