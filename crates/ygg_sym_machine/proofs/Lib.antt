pub use Rattle.ygg_sym_runs.proofs as of_ygg_sym_runs
pub use Rattle.ygg_sym_runs.proofs.Blocks
pub use Rattle.ygg_sym_runs.proofs.Specs
pub mod Chains
pub mod Standing
pub mod Leaving
pub mod Lasting
pub mod Stands
pub mod Asked
pub mod Calls
