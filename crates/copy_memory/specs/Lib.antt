-- What of a copy is in memory: messages, tickets, what is known of the others, and which copy it is.
pub mod Sending
pub mod Tickets
pub mod Tracks
pub mod Shown
pub mod Remembers
pub mod Settling
pub mod Moving
pub mod Beginning
