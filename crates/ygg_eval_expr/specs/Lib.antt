pub use Rattle.ygg_meaning_laws.specs.ygg_disk
pub use Rattle.ygg_meaning_laws.specs.ygg_meaning_proofs_Exact
pub use Rattle.ygg_meaning_laws.specs.ygg_meaning
pub use Rattle.ygg_meaning_laws.specs.ygg_type_rules
pub use Rattle.ygg_meaning_laws.specs.ygg_syntax
pub use Rattle.ygg_meaning_laws.proofs.Definitions as ygg_meaning_laws_proofs_Definitions
pub use Rattle.ygg_meaning_laws.proofs.Fits as ygg_meaning_laws_proofs_Fits
pub use Rattle.ygg_meaning_laws.proofs.Lists as ygg_meaning_laws_proofs_Lists
pub use Rattle.ygg_meaning_laws.proofs.Names as ygg_meaning_laws_proofs_Names
pub use Rattle.ygg_meaning_laws.proofs.Parameters as ygg_meaning_laws_proofs_Parameters
pub use Rattle.ygg_meaning_laws.proofs.Parts as ygg_meaning_laws_proofs_Parts
pub use Rattle.ygg_meaning_laws.proofs.Rules as ygg_meaning_laws_proofs_Rules
pub use Rattle.ygg_meaning_laws.proofs.Sounds as ygg_meaning_laws_proofs_Sounds
pub use Rattle.ygg_meaning_laws.proofs.Steps as ygg_meaning_laws_proofs_Steps
pub use Rattle.ygg_meaning_laws.proofs.Tests as ygg_meaning_laws_proofs_Tests
pub use Rattle.ygg_meaning_laws.specs as ygg_meaning_laws
pub mod Words
pub mod Held
pub mod Known
pub mod Writing
