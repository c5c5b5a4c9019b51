pub use Rattle.ygg_blast.proofs.of_ygg_gates
pub use Rattle.ygg_cnf.proofs as of_ygg_cnf
mod Splitting
mod Digits
mod Decimals
mod Sets
mod Taking
mod Numbered
mod Again
mod Lining
pub mod Values
pub mod Gatewise
pub mod Texts
