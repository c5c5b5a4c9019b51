pub use Rattle.ygg_meaning_laws.specs as ygg_meaning_laws
pub use Rattle.ygg_script.specs.ygg_disk
pub use Rattle.ygg_script.specs.ygg_meaning_proofs_Mirrored
pub use Rattle.ygg_script.specs.ygg_meaning_proofs_Monotone
pub use Rattle.ygg_script.specs.ygg_meaning
pub use Rattle.ygg_script.specs.ygg_report
pub use Rattle.ygg_script.specs.ygg_sched
pub use Rattle.ygg_script.specs as ygg_script
pub use Rattle.ygg_meaning_laws.proofs.Grammar as ygg_meaning_laws_proofs_Grammar
pub mod Named
pub mod Lines
pub mod Played
pub mod Laws
pub mod Scene
pub mod Doing
pub mod Playing
