pub use Rattle.ygg_meaning.specs.ygg_disk
pub use Rattle.ygg_meaning.proofs.Mirrored as ygg_meaning_proofs_Mirrored
pub use Rattle.ygg_meaning.proofs.Monotone as ygg_meaning_proofs_Monotone
pub use Rattle.ygg_meaning.specs as ygg_meaning
pub use Rattle.ygg_meaning.proofs.Exact as ygg_meaning_proofs_Exact
pub use Rattle.ygg_report.specs as ygg_report
pub use Rattle.ygg_type.specs.ygg_type_rules
pub use Rattle.ygg_type.specs.ygg_syntax
pub use Rattle.ygg_type.proofs.Least as ygg_type_proofs_Least
pub use Rattle.ygg_type.specs as ygg_type
pub mod Flaws
pub mod Picks
pub mod Sites
pub mod Cases
pub mod Naming
pub mod Words
pub mod Numbers
pub mod Values
pub mod Lines
pub mod Reading
pub mod Printing
pub mod Fitting
pub mod Laws
