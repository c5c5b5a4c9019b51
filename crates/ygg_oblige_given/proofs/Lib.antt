pub mod Filling
pub mod Runs
pub mod Bound
pub mod Counted
