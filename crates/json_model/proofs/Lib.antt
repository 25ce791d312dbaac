pub mod PlainLaws
pub mod Splicing
pub mod Following
pub mod Depths
pub mod Kept
