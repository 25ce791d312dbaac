-- What runs of `pipe` are to a vbucket.
pub mod Deeds
