pub use Rattle.ygg_run.proofs.of_ygg_meaning
pub use Rattle.ygg_run.proofs.of_ygg_meaning_laws
mod Mirroring
mod Extended
mod Done
mod Answering
mod Going
