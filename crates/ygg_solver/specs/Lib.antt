pub use Rattle.ygg_cnf.specs as ygg_cnf
pub mod Learning
pub mod Answers
pub mod Names
pub mod Kept
pub mod Ends
