pub use Rattle.ygg_machine.proofs as of_ygg_machine
pub mod Pieces
pub mod Numbers
pub mod ImageRows
pub mod Blocks
pub mod Images
pub mod ImageJudging
pub mod Staying
pub mod Held
pub mod Keeping
pub mod Telling
mod Leaving
pub mod Whole
pub mod JudgedBlocks
pub mod Attached
pub mod Some
pub mod StackKeeping
pub mod Alike
pub mod Ended
pub mod Filled
pub mod Finished
pub mod Kept
pub mod FormatRows
pub mod Turns
pub mod Sealed
