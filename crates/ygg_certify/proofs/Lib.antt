pub use Rattle.ygg_oblige_laws.proofs.of_ygg_meaning_laws
pub use Rattle.ygg_cnf.proofs as of_ygg_cnf
pub mod Listed
pub mod Choosing
pub mod Deciding
mod Refining
mod Certified
mod Certificate
mod Firsts
mod Standing
