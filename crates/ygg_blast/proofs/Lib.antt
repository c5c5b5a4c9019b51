pub use Rattle.ygg_gates.proofs as of_ygg_gates
pub mod Steps
pub mod Reading
pub mod Zero
pub mod Named
pub mod Kept
pub mod Tested
pub mod Filling
pub mod Rows
