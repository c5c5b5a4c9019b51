pub use Rattle.ygg_shape_cells.specs.ygg_bank_proofs_Exist
pub use Rattle.ygg_shape_cells.specs.ygg_bank_proofs_Inputs
pub use Rattle.ygg_shape_cells.specs.ygg_bank_proofs_Made
pub use Rattle.ygg_shape_cells.specs.ygg_bank_proofs_Meaning
pub use Rattle.ygg_shape_cells.specs.ygg_bank_proofs_Widths
pub use Rattle.ygg_shape_cells.specs.ygg_bank
pub use Rattle.ygg_shape_cells.specs.ygg_rules
pub use Rattle.ygg_shape_cells.proofs.Grows as ygg_shape_cells_proofs_Grows
pub use Rattle.ygg_shape_cells.proofs.Keeps as ygg_shape_cells_proofs_Keeps
pub use Rattle.ygg_shape_cells.proofs.Makers as ygg_shape_cells_proofs_Makers
pub use Rattle.ygg_shape_cells.proofs.Wider as ygg_shape_cells_proofs_Wider
pub use Rattle.ygg_shape_cells.proofs.Worth as ygg_shape_cells_proofs_Worth
pub use Rattle.ygg_shape_cells.specs as ygg_shape_cells
pub use Rattle.ygg_shape_cells.specs.ygg_shape_words_proofs_Fit
pub use Rattle.ygg_shape_cells.specs.ygg_shape_words_proofs_Grows
pub use Rattle.ygg_shape_cells.specs.ygg_shape_words_proofs_Keeps
pub use Rattle.ygg_shape_cells.specs.ygg_shape_words_proofs_Picks
pub use Rattle.ygg_shape_cells.specs.ygg_shape_words_proofs_Terms
pub use Rattle.ygg_shape_cells.specs.ygg_shape_words
pub use Rattle.ygg_shape_cells.specs.Fresh
pub use Rattle.ygg_shape_cells.specs.Guarding
pub use Rattle.ygg_shape_cells.specs.RowPlaces
pub use Rattle.ygg_shape_cells.specs.Wholes
pub use Rattle.ygg_shape_cells.specs.Meaning
pub mod Equates
pub mod Comparing
pub mod Replacing
pub mod Conjuncts
pub mod Equations
pub mod Joins
pub mod Finding
pub mod Laws
