pub use Rattle.ygg_run_play.proofs.of_ygg_meaning
pub use Rattle.ygg_machine.proofs as of_ygg_machine
pub use Rattle.ygg_run_play.proofs.of_ygg_report
pub use Rattle.ygg_run_play.proofs as of_ygg_run_play
pub use Rattle.ygg_machine.proofs.of_ygg_type
pub use Rattle.ygg_run_play.proofs.of_ygg_meaning_laws
mod Layers
mod Plays
pub mod Played
pub mod Asked
pub mod Staging
