pub use Rattle.ygg_eval_expr.specs as ygg_eval_expr
pub use Rattle.ygg_eval_expr.specs.ygg_disk
pub use Rattle.ygg_eval_expr.specs.ygg_meaning_laws_proofs_Names
pub use Rattle.ygg_eval_expr.specs.ygg_meaning_laws_proofs_Parameters
pub use Rattle.ygg_eval_expr.specs.ygg_meaning_proofs_Exact
pub use Rattle.ygg_eval_expr.specs.ygg_syntax
pub use Rattle.ygg_meaning_laws.proofs.Asking as ygg_meaning_laws_proofs_Asking
pub use Rattle.ygg_meaning_laws.proofs.DiskServes as ygg_meaning_laws_proofs_DiskServes
pub use Rattle.ygg_meaning_laws.proofs.Disks as ygg_meaning_laws_proofs_Disks
pub use Rattle.ygg_meaning_laws.proofs.Files as ygg_meaning_laws_proofs_Files
pub use Rattle.ygg_meaning_laws.proofs.Fits as ygg_meaning_laws_proofs_Fits
pub use Rattle.ygg_meaning_laws.proofs.Following as ygg_meaning_laws_proofs_Following
pub use Rattle.ygg_meaning_laws.proofs.Grammar as ygg_meaning_laws_proofs_Grammar
pub use Rattle.ygg_meaning_laws.proofs.Made as ygg_meaning_laws_proofs_Made
pub use Rattle.ygg_meaning_laws.proofs.Mirror as ygg_meaning_laws_proofs_Mirror
pub use Rattle.ygg_meaning_laws.proofs.Operations as ygg_meaning_laws_proofs_Operations
pub use Rattle.ygg_meaning_laws.proofs.Order as ygg_meaning_laws_proofs_Order
pub use Rattle.ygg_meaning_laws.proofs.ProgressFits as ygg_meaning_laws_proofs_ProgressFits
pub use Rattle.ygg_meaning_laws.proofs.ProgressSounds as ygg_meaning_laws_proofs_ProgressSounds
pub use Rattle.ygg_meaning_laws.proofs.Sizes as ygg_meaning_laws_proofs_Sizes
pub use Rattle.ygg_meaning_laws.proofs.SpecServes as ygg_meaning_laws_proofs_SpecServes
pub use Rattle.ygg_meaning_laws.proofs.Tests as ygg_meaning_laws_proofs_Tests
pub use Rattle.ygg_meaning_laws.proofs.TypeErrors as ygg_meaning_laws_proofs_TypeErrors
pub use Rattle.ygg_meaning_laws.proofs.Typed as ygg_meaning_laws_proofs_Typed
pub use Rattle.ygg_meaning_laws.specs as ygg_meaning_laws
pub use Rattle.ygg_meaning_laws.specs.ygg_meaning
pub use Rattle.ygg_meaning_laws.specs.ygg_meaning_proofs_Mirrored
pub use Rattle.ygg_meaning_laws.specs.ygg_type_rules
pub use Rattle.ygg_type.proofs.Least as ygg_type_proofs_Least
pub use Rattle.ygg_type.specs as ygg_type
pub mod Layers
pub mod Bodies
pub mod Lower
pub mod Conversations
pub mod Numbers
pub mod Naming
pub mod Ready
pub mod BlockSteps
pub mod Runs
pub mod Ending
pub mod Files
pub mod Steps
pub mod Running
pub mod Formulas
pub mod Zeros
pub mod Taken
pub mod Kept
pub mod Tables
pub mod Ran
pub mod Keeping
