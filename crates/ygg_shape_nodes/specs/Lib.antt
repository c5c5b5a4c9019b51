pub use Rattle.ygg_shape_words.specs.ygg_bank_proofs_Exist
pub use Rattle.ygg_shape_words.specs.ygg_bank_proofs_Fitting
pub use Rattle.ygg_shape_words.specs.ygg_bank_proofs_Inputs
pub use Rattle.ygg_shape_words.specs.ygg_bank_proofs_Made
pub use Rattle.ygg_shape_words.specs.ygg_bank_proofs_Meaning
pub use Rattle.ygg_shape_words.specs.ygg_bank_proofs_Widths
pub use Rattle.ygg_shape_words.specs.ygg_bank
pub use Rattle.ygg_shape_words.specs.ygg_rules
pub use Rattle.ygg_shape_words.specs as ygg_shape_words
pub mod Surely
pub mod Moving
pub mod Rules
pub mod Making
