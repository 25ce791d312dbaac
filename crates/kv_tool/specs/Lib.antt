pub mod Course
pub mod Disks
pub mod Outcomes
pub mod Progress
pub mod Statuses
pub mod Alike
