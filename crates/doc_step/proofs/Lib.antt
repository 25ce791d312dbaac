pub mod Counting
pub mod Small
pub mod Drawn
pub mod Alone
pub mod Edits
pub mod Among
