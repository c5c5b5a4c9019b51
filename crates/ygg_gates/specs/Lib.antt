pub mod Circuits
pub mod Clauses
pub mod Rows
pub mod Sources
pub mod Groups
pub mod Laws
pub mod Reaching
