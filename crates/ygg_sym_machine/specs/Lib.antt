pub use Rattle.ygg_sym_runs.proofs.Cuts as ygg_sym_runs_proofs_Cuts
pub use Rattle.ygg_sym_runs.proofs.Definitions as ygg_sym_runs_proofs_Definitions
pub use Rattle.ygg_sym_runs.proofs.DiskKeeps as ygg_sym_runs_proofs_DiskKeeps
pub use Rattle.ygg_sym_runs.proofs.Grows as ygg_sym_runs_proofs_Grows
pub use Rattle.ygg_sym_runs.proofs.Keeps as ygg_sym_runs_proofs_Keeps
pub use Rattle.ygg_sym_runs.proofs.MadeInputs as ygg_sym_runs_proofs_MadeInputs
pub use Rattle.ygg_sym_runs.proofs.Shaped as ygg_sym_runs_proofs_Shaped
pub use Rattle.ygg_sym_runs.proofs.SpecKeeps as ygg_sym_runs_proofs_SpecKeeps
pub use Rattle.ygg_sym_runs.proofs.SpecStops as ygg_sym_runs_proofs_SpecStops
pub use Rattle.ygg_sym_runs.specs as ygg_sym_runs
pub use Rattle.ygg_sym_runs.specs.Cuts
pub use Rattle.ygg_sym_runs.specs.Lows as SymBelowLows
pub use Rattle.ygg_sym_runs.specs.SpecCuts
pub use Rattle.ygg_sym_runs.specs.Specs
pub use Rattle.ygg_sym_runs.specs.StopTerms
pub use Rattle.ygg_sym_runs.specs.Wholes
pub use Rattle.ygg_sym_runs.specs.ygg_bank
pub use Rattle.ygg_sym_runs.specs.ygg_bank_proofs_Made
pub use Rattle.ygg_sym_runs.specs.ygg_bank_proofs_Meaning
pub use Rattle.ygg_sym_runs.specs.ygg_bank_proofs_Widths
pub use Rattle.ygg_sym_runs.specs.ygg_meaning
pub use Rattle.ygg_sym_runs.specs.ygg_meaning_laws
pub use Rattle.ygg_sym_runs.specs.ygg_meaning_laws_proofs_Tests
pub use Rattle.ygg_sym_runs.specs.ygg_rules
pub use Rattle.ygg_sym_runs.specs.ygg_shape_cells
pub use Rattle.ygg_sym_runs.specs.ygg_shape_words_proofs_Keeps
pub use Rattle.ygg_sym_runs.specs.ygg_type_rules
pub mod Stopping
pub mod Halting
pub mod HaltingKeeps
pub mod Asking
pub mod Means
pub mod Keeps
