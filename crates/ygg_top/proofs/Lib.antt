pub use Rattle.ygg_top_command.proofs as of_ygg_top_command
pub use Rattle.ygg_top_command.proofs.of_ygg_report
pub use Rattle.ygg_yard.proofs.of_ygg_meaning_laws
mod Replays
mod Explains
pub mod Verdicts
mod Written
pub mod Judging
pub mod Shown
pub mod Reporting
mod Counts
mod Made
mod Found
mod Checked
mod Again
mod Opened
mod Certifies
mod Failing
mod Left
pub mod Ending
pub mod RunImaged
pub mod Scripted
pub mod Certified
pub mod Named
mod Once
mod Plays
pub mod Imaged
mod ByWords
mod Placed
mod Sites
mod Asked
mod Decides
mod Printed
mod Solves
