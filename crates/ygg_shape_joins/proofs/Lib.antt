pub use Rattle.ygg_shape_cells.proofs as of_ygg_shape_cells
pub mod Joins
pub mod JoinedWorth
pub mod JoinedAnswers
