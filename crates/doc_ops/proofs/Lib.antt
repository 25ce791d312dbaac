mod Answered
mod Beginning
mod Counting
mod Editing
mod Looking
mod Storing
