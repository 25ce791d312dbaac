pub mod Values
pub mod Ends
pub mod Reading
pub mod Writing
pub mod Laws
pub mod Functions
