pub mod Counts
pub mod Ready
pub mod Keyed
pub mod Reached
pub mod Swept
pub mod Committed
pub mod Acks
