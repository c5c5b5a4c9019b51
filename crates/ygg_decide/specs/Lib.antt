pub use Rattle.ygg_blast.specs.ygg_bank_proofs_Widths
pub use Rattle.ygg_blast.specs.ygg_bank
pub use Rattle.ygg_blast.specs.ygg_cnf
pub use Rattle.ygg_blast.specs.ygg_gates
pub use Rattle.ygg_blast.specs.ygg_rules
pub mod Deciding
