pub mod OneSpec
pub mod Walking
pub mod Failing
pub mod Small
pub mod Spelled
