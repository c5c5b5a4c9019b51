pub use Rattle.ygg_cnf.proofs as of_ygg_cnf
pub mod LearnLemmas
pub mod TeachLemmas
mod RenameLemmas
mod NameLemmas
pub mod LeftLemmas
pub mod ModelLemmas
pub mod ReadyLemmas
