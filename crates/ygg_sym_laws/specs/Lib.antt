pub use Rattle.ygg_sym_runs.specs.ygg_bank_proofs_Exist
pub use Rattle.ygg_sym_runs.specs.ygg_bank_proofs_Inputs
pub use Rattle.ygg_sym_runs.specs.ygg_bank_proofs_Made
pub use Rattle.ygg_sym_runs.specs.ygg_bank_proofs_Meaning
pub use Rattle.ygg_sym_runs.specs.ygg_bank_proofs_Widths
pub use Rattle.ygg_sym_runs.specs.ygg_bank
pub use Rattle.ygg_sym_runs.specs.ygg_meaning_laws_proofs_Choosing
pub use Rattle.ygg_sym_runs.specs.ygg_meaning_laws_proofs_DiskServes
pub use Rattle.ygg_sym_runs.specs.ygg_meaning_laws_proofs_Order
pub use Rattle.ygg_sym_runs.specs.ygg_meaning_laws_proofs_Placing
pub use Rattle.ygg_sym_runs.specs.ygg_meaning_laws_proofs_Rooms
pub use Rattle.ygg_sym_runs.specs.ygg_meaning_laws_proofs_RunPlacing
pub use Rattle.ygg_sym_runs.specs.ygg_meaning_laws_proofs_SpecServes
pub use Rattle.ygg_sym_runs.specs.ygg_meaning_laws
pub use Rattle.ygg_sym_runs.specs.ygg_disk
pub use Rattle.ygg_sym_runs.specs.ygg_meaning
pub use Rattle.ygg_sym_runs.specs.ygg_rules
pub use Rattle.ygg_sym_runs.specs.ygg_shape_proofs_Compared
pub use Rattle.ygg_sym_runs.specs.ygg_shape_proofs_ComparedKeeps
pub use Rattle.ygg_sym_runs.specs.ygg_shape
pub use Rattle.ygg_sym_runs.specs.ygg_shape_cells_proofs_Grows
pub use Rattle.ygg_sym_runs.specs.ygg_shape_cells_proofs_Keeps
pub use Rattle.ygg_sym_runs.specs.ygg_shape_cells_proofs_Makers
pub use Rattle.ygg_sym_runs.specs.ygg_shape_cells_proofs_Wider
pub use Rattle.ygg_sym_runs.specs.ygg_shape_cells
pub use Rattle.ygg_sym_runs.specs.ygg_shape_words_proofs_Fit
pub use Rattle.ygg_sym_runs.specs.ygg_shape_words_proofs_Keeps
pub use Rattle.ygg_sym_runs.specs.ygg_shape_words_proofs_Terms
pub use Rattle.ygg_sym_runs.specs.ygg_shape_words
pub use Rattle.ygg_sym_runs.proofs.Chosen as ygg_sym_runs_proofs_Chosen
pub use Rattle.ygg_sym_runs.proofs.Cuts as ygg_sym_runs_proofs_Cuts
pub use Rattle.ygg_sym_runs.proofs.Disks as ygg_sym_runs_proofs_Disks
pub use Rattle.ygg_sym_runs.proofs.Lows as ygg_sym_runs_proofs_Lows
pub use Rattle.ygg_sym_runs.proofs.SpecFalls as ygg_sym_runs_proofs_SpecFalls
pub use Rattle.ygg_sym_runs.proofs.SpecMeans as ygg_sym_runs_proofs_SpecMeans
pub use Rattle.ygg_sym_runs.proofs.SpecStops as ygg_sym_runs_proofs_SpecStops
pub use Rattle.ygg_sym_runs.proofs.Specs as ygg_sym_runs_proofs_Specs
pub use Rattle.ygg_sym_runs.proofs.WholeRuns as ygg_sym_runs_proofs_WholeRuns
pub use Rattle.ygg_sym_runs.specs as ygg_sym_runs
pub use Rattle.ygg_sym_runs.proofs.Definitions as ygg_sym_runs_proofs_Definitions
pub use Rattle.ygg_sym_runs.proofs.Grows as ygg_sym_runs_proofs_Grows
pub use Rattle.ygg_sym_runs.proofs.Keeps as ygg_sym_runs_proofs_Keeps
pub use Rattle.ygg_sym_runs.proofs.Shaped as ygg_sym_runs_proofs_Shaped
pub use Rattle.ygg_sym_runs.proofs.Values as ygg_sym_runs_proofs_Values
pub use Rattle.ygg_sym_runs.specs.ygg_type_rules
pub use Rattle.ygg_sym_runs.specs.ygg_syntax
pub use Rattle.ygg_sym_runs.specs.ygg_meaning_laws_proofs_Files
pub use Rattle.ygg_sym_runs.specs.ygg_meaning_laws_proofs_ProgressFits
pub use Rattle.ygg_sym_runs.specs.ygg_meaning_laws_proofs_Following
pub use Rattle.ygg_sym_runs.specs.ygg_meaning_laws_proofs_Operations
pub use Rattle.ygg_sym_runs.specs.ygg_meaning_laws_proofs_Sizes
pub use Rattle.ygg_sym_runs.specs.ygg_meaning_laws_proofs_Specs
pub use Rattle.ygg_sym_runs.specs.ygg_meaning_laws_proofs_TypeErrors
pub use Rattle.ygg_sym_runs.specs.ygg_meaning_laws_proofs_Typed
pub use Rattle.ygg_sym_runs.specs.ygg_meaning_laws_proofs_Definitions
pub use Rattle.ygg_sym_runs.specs.ygg_meaning_laws_proofs_Fits
pub use Rattle.ygg_sym_runs.specs.ygg_meaning_laws_proofs_Parameters
pub use Rattle.ygg_sym_runs.specs.ygg_meaning_laws_proofs_Rules
pub use Rattle.ygg_sym_runs.specs.ygg_meaning_laws_proofs_Sounds
pub use Rattle.ygg_sym_runs.specs.ygg_meaning_laws_proofs_Tests
pub use Rattle.ygg_sym_runs.specs.Exprs
pub use Rattle.ygg_sym_runs.specs.Names
pub use Rattle.ygg_sym_runs.specs.Stops
pub use Rattle.ygg_sym_runs.specs.Cuts
pub use Rattle.ygg_sym_runs.specs.Runs
pub use Rattle.ygg_sym_runs.specs.Lows
pub use Rattle.ygg_sym_runs.specs.Laws
pub use Rattle.ygg_sym_runs.specs.Meaning
pub use Rattle.ygg_sym_runs.specs.Wholes
pub use Rattle.ygg_sym_runs.specs.StopTerms
pub use Rattle.ygg_sym_runs.specs.SpecCuts
pub use Rattle.ygg_sym_runs.specs.Specs
pub use Rattle.ygg_sym_runs.specs.Disks
pub use Rattle.ygg_sym_runs.specs.Below
pub use Rattle.ygg_sym_runs.specs.Typed
pub use Rattle.ygg_sym_runs.specs.Means
pub mod DiskLaws
pub mod SpecLaws
pub mod Taking
pub mod Fronts
pub mod FrontLaws
pub mod Named
pub mod SymLaws
