pub use Rattle.ygg_sym_spec.proofs.of_ygg_shape
pub use Rattle.ygg_sym_spec.proofs.of_ygg_sym_runs
pub use Rattle.ygg_sym_machine.proofs as of_ygg_sym_machine
pub use Rattle.ygg_sym_spec.proofs.WholeRun
pub use Rattle.ygg_sym_spec.proofs.Carried
pub use Rattle.ygg_sym_spec.proofs.Left
pub mod Losing
pub mod Placed
pub mod Ran
pub use Rattle.ygg_sym_spec.proofs.ZerosMade
pub mod PlacesCounted
pub mod Cutting
pub mod DiskFailed
pub mod SpecFailed
