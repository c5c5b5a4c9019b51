pub mod Places
pub mod PlaceTable
pub mod Held
pub mod Counts
pub mod Arena
