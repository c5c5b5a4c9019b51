pub mod Lits
pub mod Steps
pub mod Soundness
pub mod Once
pub mod Apart
pub mod LogLemmas
mod Digits
pub mod Decimals
pub mod Words
pub mod Turning
pub mod Leading
pub mod Ending
pub mod Decoding
pub mod Running
pub mod Flowing
