pub mod Section
pub mod Faults
pub mod Fields
pub mod Edits
pub mod Pairs
pub mod Equal
