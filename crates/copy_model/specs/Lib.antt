-- A copy of a vbucket and what each event makes of it.
pub mod Copies
pub mod Entries
pub mod Disk
pub mod Requests
pub mod Hearing
pub mod Events
pub mod Openings
pub mod Laying
pub mod Folded
pub mod Grown
