pub use Rattle.ygg_eval.proofs.of_ygg_meaning_laws
pub use Rattle.ygg_sched.proofs as of_ygg_sched
mod Picks
mod Turns
mod Blocks
mod Stops
mod Firsts
mod Tried
mod SpecSteps
mod Typing
mod Specified
mod Stepped
mod Starting
mod Bases
mod Serving
mod Recovering
mod Twice
mod Reaching
mod Concluding
mod Shown
mod Agreeing
mod Asked
mod Losing
mod Own
mod Relating
pub mod Places
pub mod Values
pub mod Bridge
pub mod Once
