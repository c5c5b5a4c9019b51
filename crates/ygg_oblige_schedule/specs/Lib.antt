pub use Rattle.ygg_eval.proofs.Blocks as ygg_eval_proofs_Blocks
pub use Rattle.ygg_eval.specs as ygg_eval
pub use Rattle.ygg_eval.specs.ygg_meaning_laws_proofs_ProgressFits
pub use Rattle.ygg_eval.specs.ygg_type_rules
pub use Rattle.ygg_eval.specs.ygg_meaning_laws_proofs_Fits
pub use Rattle.ygg_replay.specs.ygg_sched
pub use Rattle.ygg_oblige_given.specs.Tables
pub mod Here
pub mod Runs
pub mod Schedules
pub mod Fitted
