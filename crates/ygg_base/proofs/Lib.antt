mod Places
mod Turns
mod Attached
mod Losing
