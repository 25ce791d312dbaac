-- The copies of a vbucket together, and the logs of its terms.
pub mod Worlds
pub mod Terms
pub mod Folded
pub mod Facts
pub mod Replays
pub mod Connections
pub mod Scripts
pub mod Laws
