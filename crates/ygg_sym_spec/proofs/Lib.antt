pub use Rattle.ygg_sym_runs.proofs.of_ygg_shape
pub use Rattle.ygg_sym_runs.proofs as of_ygg_sym_runs
pub mod Bare
pub mod Bits
pub mod Going
pub mod Falling
pub mod Asked
pub mod WholeRun
pub mod Left
pub mod Carried
pub mod ZerosMade
pub mod Started
pub mod Binding
