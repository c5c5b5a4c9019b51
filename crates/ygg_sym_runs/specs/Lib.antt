pub use Rattle.ygg_meaning_laws.proofs.Choosing as ygg_meaning_laws_proofs_Choosing
pub use Rattle.ygg_meaning_laws.proofs.Definitions as ygg_meaning_laws_proofs_Definitions
pub use Rattle.ygg_meaning_laws.proofs.DiskServes as ygg_meaning_laws_proofs_DiskServes
pub use Rattle.ygg_meaning_laws.proofs.Disks as ygg_meaning_laws_proofs_Disks
pub use Rattle.ygg_meaning_laws.proofs.Files as ygg_meaning_laws_proofs_Files
pub use Rattle.ygg_meaning_laws.proofs.Fits as ygg_meaning_laws_proofs_Fits
pub use Rattle.ygg_meaning_laws.proofs.Following as ygg_meaning_laws_proofs_Following
pub use Rattle.ygg_meaning_laws.proofs.Mirror as ygg_meaning_laws_proofs_Mirror
pub use Rattle.ygg_meaning_laws.proofs.Operations as ygg_meaning_laws_proofs_Operations
pub use Rattle.ygg_meaning_laws.proofs.Order as ygg_meaning_laws_proofs_Order
pub use Rattle.ygg_meaning_laws.proofs.Parameters as ygg_meaning_laws_proofs_Parameters
pub use Rattle.ygg_meaning_laws.proofs.Placing as ygg_meaning_laws_proofs_Placing
pub use Rattle.ygg_meaning_laws.proofs.ProgressFits as ygg_meaning_laws_proofs_ProgressFits
pub use Rattle.ygg_meaning_laws.proofs.ProgressSounds as ygg_meaning_laws_proofs_ProgressSounds
pub use Rattle.ygg_meaning_laws.proofs.Rooms as ygg_meaning_laws_proofs_Rooms
pub use Rattle.ygg_meaning_laws.proofs.Rules as ygg_meaning_laws_proofs_Rules
pub use Rattle.ygg_meaning_laws.proofs.RunPlacing as ygg_meaning_laws_proofs_RunPlacing
pub use Rattle.ygg_meaning_laws.proofs.Sizes as ygg_meaning_laws_proofs_Sizes
pub use Rattle.ygg_meaning_laws.proofs.Sounds as ygg_meaning_laws_proofs_Sounds
pub use Rattle.ygg_meaning_laws.proofs.SpecServes as ygg_meaning_laws_proofs_SpecServes
pub use Rattle.ygg_meaning_laws.proofs.Specs as ygg_meaning_laws_proofs_Specs
pub use Rattle.ygg_meaning_laws.proofs.Tests as ygg_meaning_laws_proofs_Tests
pub use Rattle.ygg_meaning_laws.proofs.TypeErrors as ygg_meaning_laws_proofs_TypeErrors
pub use Rattle.ygg_meaning_laws.proofs.Typed as ygg_meaning_laws_proofs_Typed
pub use Rattle.ygg_meaning_laws.specs as ygg_meaning_laws
pub use Rattle.ygg_meaning_laws.specs.Blocks
pub use Rattle.ygg_meaning_laws.specs.Direct
pub use Rattle.ygg_meaning_laws.specs.DirectLaws
pub use Rattle.ygg_meaning_laws.specs.Kinds
pub use Rattle.ygg_meaning_laws.specs.Machines
pub use Rattle.ygg_meaning_laws.specs.Questions
pub use Rattle.ygg_meaning_laws.specs.RunPlaces
pub use Rattle.ygg_meaning_laws.specs.ygg_disk
pub use Rattle.ygg_meaning_laws.specs.ygg_meaning
pub use Rattle.ygg_meaning_laws.specs.ygg_syntax
pub use Rattle.ygg_meaning_laws.specs.ygg_type_rules
pub use Rattle.ygg_shape.proofs.Compared as ygg_shape_proofs_Compared
pub use Rattle.ygg_shape.proofs.ComparedKeeps as ygg_shape_proofs_ComparedKeeps
pub use Rattle.ygg_shape.specs as ygg_shape
pub use Rattle.ygg_shape.specs.ygg_bank
pub use Rattle.ygg_shape.specs.ygg_bank_proofs_Exist
pub use Rattle.ygg_shape.specs.ygg_bank_proofs_Inputs
pub use Rattle.ygg_shape.specs.ygg_bank_proofs_Made
pub use Rattle.ygg_shape.specs.ygg_bank_proofs_Meaning
pub use Rattle.ygg_shape.specs.ygg_bank_proofs_Widths
pub use Rattle.ygg_shape.specs.ygg_rules
pub use Rattle.ygg_shape.specs.ygg_shape_cells
pub use Rattle.ygg_shape.specs.ygg_shape_cells_proofs_Grows
pub use Rattle.ygg_shape.specs.ygg_shape_cells_proofs_Keeps
pub use Rattle.ygg_shape.specs.ygg_shape_cells_proofs_Makers
pub use Rattle.ygg_shape.specs.ygg_shape_cells_proofs_Wider
pub use Rattle.ygg_shape.specs.ygg_shape_cells_proofs_Worth
pub use Rattle.ygg_shape_joins.proofs.Joins as ygg_shape_joins_proofs_Joins
pub use Rattle.ygg_shape_joins.proofs.JoinedAnswers as ygg_shape_joins_proofs_JoinedAnswers
pub use Rattle.ygg_shape_joins.proofs.JoinedWorth as ygg_shape_joins_proofs_JoinedWorth
pub use Rattle.ygg_shape_joins.specs as ygg_shape_joins
pub use Rattle.ygg_shape.specs.ygg_shape_words
pub use Rattle.ygg_shape.specs.ygg_shape_words_proofs_Fit
pub use Rattle.ygg_shape.specs.ygg_shape_words_proofs_Grows
pub use Rattle.ygg_shape.specs.ygg_shape_words_proofs_Keeps
pub use Rattle.ygg_shape.specs.ygg_shape_words_proofs_Picks
pub use Rattle.ygg_shape.specs.ygg_shape_words_proofs_Terms
pub mod Names
pub mod Exprs
pub mod ExpressionMeaning
pub mod Seen
pub mod Putting
pub mod Runs
pub mod Meaning
pub mod Lower
pub mod Ready
pub mod Joining
pub mod Lows
pub mod Disks
pub mod Wholes
pub mod Laws
pub mod Stops
pub mod StopTerms
pub mod Cuts
pub mod Specs
pub mod SpecCuts
pub mod WholeReady
pub mod Below
pub mod Typed
pub mod Means
