pub mod CuttingLaws
pub mod Feeding
pub mod Giving
pub mod Granting
pub mod Missing
pub mod Lying
pub mod Telling
pub mod Weaving
