pub mod Images
pub mod Moments
pub mod Ranges
pub mod SyncedCalls
pub mod Bytes
pub mod Survival
pub mod Left
