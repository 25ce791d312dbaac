pub mod OneNumber
pub mod Layouts
pub mod HeadFields
pub mod Measured
pub mod OneMessage
pub mod Judged
