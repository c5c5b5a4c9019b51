pub use Rattle.ygg_sched.specs.ygg_disk
pub use Rattle.ygg_sched.specs.ygg_meaning_proofs_Mirrored
pub use Rattle.ygg_sched.specs.ygg_meaning_proofs_Monotone
pub use Rattle.ygg_sched.specs.ygg_meaning
pub use Rattle.ygg_sched.specs.ygg_report
pub use Rattle.ygg_sched.specs as ygg_sched
pub use Rattle.ygg_sched.specs.ygg_type
pub mod Flaws
pub mod Names
pub mod Places
pub mod Lines
pub mod Reading
pub mod Fitting
pub mod Plain
pub mod Left
