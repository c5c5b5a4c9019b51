pub use Rattle.ygg_sym_runs.specs.ygg_bank
pub use Rattle.ygg_sym_runs.specs.ygg_bank_proofs_Meaning
pub use Rattle.ygg_sym_runs.specs.ygg_bank_proofs_Widths
pub use Rattle.ygg_sym_runs.specs.ygg_meaning_laws
pub use Rattle.ygg_sym_runs.specs.ygg_meaning
pub use Rattle.ygg_sym_runs.specs.ygg_rules
pub use Rattle.ygg_sym_runs.specs.ygg_shape
pub use Rattle.ygg_sym_runs.specs.ygg_shape_cells
pub use Rattle.ygg_sym_runs.specs as ygg_sym_runs
pub use Rattle.ygg_sym_runs.proofs.Grows as ygg_sym_runs_proofs_Grows
pub use Rattle.ygg_sym_runs.proofs.Shaped as ygg_sym_runs_proofs_Shaped
pub use Rattle.ygg_sym_runs.proofs.Chosen as ygg_sym_runs_proofs_Chosen
pub use Rattle.ygg_sym_runs.proofs.Lows as ygg_sym_runs_proofs_Lows
pub use Rattle.ygg_sym_runs.proofs.Specs as ygg_sym_runs_proofs_Specs
pub use Rattle.ygg_sym_runs.specs.ygg_syntax
pub use Rattle.ygg_sym_runs.specs.ygg_type_rules
pub use Rattle.ygg_sym_runs.specs.ygg_meaning_laws_proofs_ProgressFits
pub use Rattle.ygg_sym_runs.specs.Typed
pub use Rattle.ygg_sym_runs.specs.Below
pub mod Bare
pub mod Picking
pub mod Layers
pub mod Chooser
pub mod Choosing
pub mod Machine
pub mod Meaning
pub mod Kept
pub mod Sites
