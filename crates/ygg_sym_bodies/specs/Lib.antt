pub mod Numbers
pub mod Places
pub mod Sites
pub mod Blocks
pub mod Runs
pub mod Worths
