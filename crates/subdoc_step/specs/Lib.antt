-- Look-ups and edits of a JSON text as functions.
pub mod Texts
pub mod Paths
pub mod Given
pub mod Answers
pub mod Apart
