pub use Rattle.ygg_sym_spec.specs.ygg_bank_proofs_Meaning
pub use Rattle.ygg_sym_spec.specs.ygg_bank_proofs_Widths
pub use Rattle.ygg_sym_spec.specs.ygg_bank
pub use Rattle.ygg_sym_spec.specs.ygg_meaning
pub use Rattle.ygg_sym_spec.specs.ygg_rules
pub use Rattle.ygg_sym_spec.specs.ygg_shape
pub use Rattle.ygg_sym_spec.specs.ygg_shape_cells
pub use Rattle.ygg_sym_spec.specs.ygg_sym_runs_proofs_Chosen
pub use Rattle.ygg_sym_spec.specs.ygg_sym_runs_proofs_Lows
pub use Rattle.ygg_sym_spec.specs.ygg_sym_runs_proofs_Specs
pub use Rattle.ygg_sym_spec.specs.ygg_sym_runs
pub use Rattle.ygg_sym_spec.specs.ygg_sym_runs_proofs_Grows
pub use Rattle.ygg_sym_spec.specs.ygg_sym_runs_proofs_Shaped
pub use Rattle.ygg_sym_laws.specs as ygg_sym_laws
pub use Rattle.ygg_sym_spec.specs.ygg_syntax
pub use Rattle.ygg_sym_spec.specs.ygg_meaning_laws_proofs_ProgressFits
pub use Rattle.ygg_sym_spec.specs.ygg_meaning_laws
pub use Rattle.ygg_sym_spec.specs.ygg_type_rules
pub use Rattle.ygg_sym_machine.specs.Stopping
pub use Rattle.ygg_sym_machine.specs as ygg_sym_machine
pub use Rattle.ygg_sym_spec.specs as ygg_sym_spec
pub use Rattle.ygg_sym_spec.specs.Machine
pub use Rattle.ygg_sym_spec.specs.declared.picks.SymPicks
pub use Rattle.ygg_sym_spec.specs.declared.layer.SymLayer
pub use Rattle.ygg_sym_spec.specs.Layers
pub use Rattle.ygg_sym_spec.specs.Kept
pub use Rattle.ygg_sym_spec.specs.Sites
pub mod Ends
pub mod Running
pub mod Falls
pub mod DiskFailing
pub mod DiskFailingKeeps
pub mod SpecFailing
pub mod Growing
pub mod SpecFailingKeeps
