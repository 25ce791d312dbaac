pub mod Edge
pub mod Fields
pub mod Memory
pub mod Standard
pub mod Transfer
