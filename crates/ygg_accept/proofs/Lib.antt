pub use Rattle.ygg_print.proofs as of_ygg_print
mod Counted
mod Only
