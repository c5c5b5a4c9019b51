pub use Rattle.ygg_cnf.specs as ygg_cnf
pub mod Texts
pub mod Places
pub mod Judging
pub mod Matching
pub mod Standing
pub mod Laws
pub mod Telling
pub mod Opened
