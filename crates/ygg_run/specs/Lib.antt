pub use Rattle.ygg_machine.specs.ygg_disk
pub use Rattle.ygg_machine.specs.ygg_eval
pub use Rattle.ygg_run_play.specs.ygg_meaning_proofs_Mirrored
pub use Rattle.ygg_run_play.specs.ygg_meaning
pub use Rattle.ygg_machine.specs as ygg_machine
pub use Rattle.ygg_run_play.specs.ygg_report
pub use Rattle.ygg_run_play.specs as ygg_run_play
pub use Rattle.ygg_run_play.specs.ygg_sched
pub use Rattle.ygg_run_play.specs.ygg_script
pub use Rattle.ygg_machine.specs.ygg_type_proofs_Least
pub use Rattle.ygg_machine.specs.ygg_type
pub use Rattle.ygg_run_play.specs.ygg_meaning_laws_proofs_Grammar
pub use Rattle.ygg_run_play.specs.ygg_meaning_laws
pub use Rattle.ygg_machine.specs.ygg_type_rules
pub mod Playing
pub mod TowerPlaying
pub mod Falling
