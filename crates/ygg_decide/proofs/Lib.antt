pub use Rattle.ygg_blast.proofs.of_ygg_gates
mod Sound
