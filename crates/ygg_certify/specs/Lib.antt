pub use Rattle.ygg_decide.specs.ygg_bank_proofs_Widths
pub use Rattle.ygg_decide.specs.ygg_bank
pub use Rattle.ygg_decide.specs.ygg_cnf
pub use Rattle.ygg_decide.specs as ygg_decide
pub use Rattle.ygg_decide.specs.ygg_gates
pub use Rattle.ygg_oblige_laws.specs.ygg_meaning
pub use Rattle.ygg_oblige_laws.specs as ygg_oblige_laws
pub use Rattle.ygg_decide.specs.ygg_rules
pub use Rattle.ygg_oblige_laws.specs.ygg_sym_runs
pub use Rattle.ygg_oblige_laws.specs.ygg_sym_laws
pub use Rattle.ygg_oblige_laws.specs.ygg_meaning_laws
pub use Rattle.ygg_cert.specs as ygg_cert
pub use Rattle.ygg_report.specs as ygg_report
pub mod Laws
pub mod FileGoals
pub mod Certifying
pub mod Checking
pub mod Findings
