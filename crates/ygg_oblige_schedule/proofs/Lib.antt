pub use Rattle.ygg_eval.proofs as of_ygg_eval
pub use Rattle.ygg_eval.proofs.of_ygg_meaning_laws
pub use Rattle.ygg_replay.proofs.of_ygg_sched
pub use Rattle.ygg_eval_places.proofs.ChoiceNoting
pub mod Zeros
pub mod StartsOnce
pub mod Stands
pub mod Parts
pub mod Means
pub mod Falling
pub mod Values
pub mod Fitted
pub mod EachKind
