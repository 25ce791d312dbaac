-- Chains of places, when a prepare is ready, and what a tracker knows.
pub mod Chains
pub mod Ready
pub mod Tracking
pub mod Reaches
pub mod Kept
