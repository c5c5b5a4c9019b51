pub use Rattle.ygg_shape_words.specs.ygg_bank_proofs_Exist
pub use Rattle.ygg_shape_words.specs.ygg_bank_proofs_Fitting
pub use Rattle.ygg_shape_words.specs.ygg_bank_proofs_Inputs
pub use Rattle.ygg_shape_words.specs.ygg_bank_proofs_Made
pub use Rattle.ygg_shape_words.specs.ygg_bank_proofs_Meaning
pub use Rattle.ygg_shape_words.specs.ygg_bank_proofs_Widths
pub use Rattle.ygg_shape_words.specs.ygg_bank
pub use Rattle.ygg_shape_words.specs.ygg_rules
pub use Rattle.ygg_shape_words.proofs.Children as ygg_shape_words_proofs_Children
pub use Rattle.ygg_shape_words.proofs.Compares as ygg_shape_words_proofs_Compares
pub use Rattle.ygg_shape_words.proofs.Fit as ygg_shape_words_proofs_Fit
pub use Rattle.ygg_shape_words.proofs.Grows as ygg_shape_words_proofs_Grows
pub use Rattle.ygg_shape_words.proofs.Keeps as ygg_shape_words_proofs_Keeps
pub use Rattle.ygg_shape_words.proofs.Picks as ygg_shape_words_proofs_Picks
pub use Rattle.ygg_shape_words.proofs.Terms as ygg_shape_words_proofs_Terms
pub use Rattle.ygg_shape_words.specs as ygg_shape_words
pub mod Parts
pub mod Readings
pub mod Gathers
pub mod Sides
pub mod Products
pub mod Multiplies
pub mod Cancels
pub mod Reduces
pub mod Splits
pub mod Sharing
pub mod Remains
pub mod Equates
pub mod Plain
