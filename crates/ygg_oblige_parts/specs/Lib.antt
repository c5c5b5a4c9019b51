pub use Rattle.ygg_sym_spec.specs.ygg_bank_proofs_Widths
pub use Rattle.ygg_sym_spec.specs.ygg_bank
pub use Rattle.ygg_sym_spec.specs.ygg_meaning
pub use Rattle.ygg_oblige_laws.specs as ygg_oblige_laws
pub use Rattle.ygg_oblige_given.specs.Numbering
pub use Rattle.ygg_sym_spec.specs.ygg_rules
pub use Rattle.ygg_sym_spec.specs.ygg_shape
pub use Rattle.ygg_sym_spec.specs.ygg_shape_cells
pub use Rattle.ygg_sym_spec.specs.ygg_sym_runs_proofs_Lows
pub use Rattle.ygg_sym_spec.specs.ygg_sym_runs
pub use Rattle.ygg_sym_spec.specs.ygg_sym_runs_proofs_Shaped
pub use Rattle.ygg_oblige_laws.specs.ygg_sym_laws
pub use Rattle.ygg_sym_spec.specs as ygg_sym_spec
pub use Rattle.ygg_sym_spec.specs.ygg_meaning_laws
pub use Rattle.ygg_sym_spec.specs.declared.layer.SymLayer
pub use Rattle.ygg_sym_spec.specs.Layers
pub use Rattle.ygg_oblige_laws.specs.Steps as ObligePiecesSteps
pub use Rattle.ygg_sym_spec.specs.Kept
pub use Rattle.ygg_sym_spec.specs.declared.below.SymBelow
pub use Rattle.ygg_sym_spec.specs.Sites
pub mod Digits
pub mod Formulas
pub mod Makers
pub mod Passing
