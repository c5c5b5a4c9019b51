pub mod Nodes
pub mod Makes
pub mod Making
pub mod Values
pub mod Inputs
pub mod Reaching
pub mod Pending
