-- Look-ups and edits of a document's extended attributes as functions.
pub mod Object
pub mod Answers
