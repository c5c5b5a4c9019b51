pub use Rattle.ygg_eval.specs as ygg_eval
pub use Rattle.ygg_sched.specs.ygg_meaning
pub use Rattle.ygg_sched.specs.ygg_report
pub use Rattle.ygg_sched.specs as ygg_sched
pub use Rattle.ygg_eval.specs.ygg_meaning_laws_proofs_TypeErrors
pub use Rattle.ygg_sched.specs.ygg_type_rules
pub use Rattle.ygg_eval.specs.ygg_meaning_laws_proofs_Fits
pub use Rattle.ygg_eval.specs.ygg_meaning_laws_proofs_Names
pub use Rattle.ygg_eval.specs.ygg_meaning_laws_proofs_Tests
pub use Rattle.ygg_eval.specs.Zeros
pub mod Schedules
pub mod Sites
pub mod Runs
pub mod Steps
pub mod Ends
pub mod Passing
pub mod Showing
pub mod Shown
pub mod Ending
pub mod Laws
