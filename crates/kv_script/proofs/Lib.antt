mod Numbers
mod Places
mod Reread
mod Same
mod Solid
mod Tuples
