pub mod Expiry
pub mod Counter
pub mod Replies
pub mod Parts
pub mod Step
pub mod Laws
