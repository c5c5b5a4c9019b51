pub use Rattle.ygg_syntax.proofs as of_ygg_syntax
pub mod Entries
