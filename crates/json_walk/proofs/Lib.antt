pub mod Shorter
pub mod Strings
pub mod Words
pub mod Passing
pub mod Standing
pub mod Heads
pub mod Further
pub mod Changes
