pub use Rattle.ygg_bank.proofs as of_ygg_bank
pub mod Terms
pub mod Children
pub mod Tests
pub mod Masks
pub mod Undone
pub mod Fit
pub mod Keeps
pub mod Grows
pub mod Picks
pub mod Steps
pub mod Compares
pub mod Answered
pub mod Sizes
pub mod Each
pub mod Decided
pub mod Givens
pub mod GivenSteps
