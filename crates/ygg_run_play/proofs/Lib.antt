pub use Rattle.ygg_meaning_laws.proofs as of_ygg_meaning_laws
pub use Rattle.ygg_script.proofs.of_ygg_meaning
pub use Rattle.ygg_script.proofs.of_ygg_report
pub mod Endings
pub mod Alike
pub mod Blocks
pub mod Layered
pub mod Disks
pub mod Names
pub mod Scripted
pub mod OneText
pub mod Shown
pub mod Histories
pub mod Falling
mod Leaving
mod Finishing
mod Lines
mod Going
mod Ending
