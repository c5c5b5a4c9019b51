pub use Rattle.ygg_shape_words.proofs.of_ygg_bank
pub mod Moved
pub mod Sure
pub mod Instead
pub mod Worth
pub mod Made
pub mod Steps
