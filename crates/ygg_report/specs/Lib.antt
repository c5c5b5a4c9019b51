pub mod Picks
pub mod Lines
pub mod Putting
pub mod Tallies
