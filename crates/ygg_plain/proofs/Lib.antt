pub use Rattle.ygg_replay.specs.ygg_meaning_laws_proofs_Fits as Fits
pub mod Like
pub mod Standing
pub mod Named
