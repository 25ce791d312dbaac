pub mod ExtraLaws
pub mod FrameLaws
pub mod HeaderLaws
pub mod Kept
pub mod Unique
pub mod Growing
