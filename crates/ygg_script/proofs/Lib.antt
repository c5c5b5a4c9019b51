pub use Rattle.ygg_sched.proofs.of_ygg_meaning
pub use Rattle.ygg_sched.proofs.of_ygg_report
pub mod Pieces
pub mod Arguments
pub mod Onward
pub mod Fitted
