-- Terms and their owners, fences and promotions, what a copy does with a message, and what it is after.
pub mod Terms
pub mod Promotion
pub mod Hearing
pub mod Moving
