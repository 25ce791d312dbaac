pub mod Chained
pub mod Deeds
