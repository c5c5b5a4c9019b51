pub use Rattle.ygg_bank.proofs.Widths as ygg_bank_proofs_Widths
pub use Rattle.ygg_bank.specs as ygg_bank
pub use Rattle.ygg_cnf.specs as ygg_cnf
pub use Rattle.ygg_gates.specs as ygg_gates
pub use Rattle.ygg_rules.specs as ygg_rules
pub mod Table
pub mod Rows
