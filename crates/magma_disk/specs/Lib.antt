pub mod Calls
pub mod Contents
pub mod Counting
pub mod Device
pub mod Memory
pub mod Moments
pub mod Plan
pub mod Steps
