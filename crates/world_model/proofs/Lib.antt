pub mod Beginning
pub mod Remembering
pub mod Leading
pub mod Folding
pub mod Reporting
