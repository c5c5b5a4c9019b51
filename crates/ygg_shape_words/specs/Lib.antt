pub use Rattle.ygg_bank.proofs.Exist as ygg_bank_proofs_Exist
pub use Rattle.ygg_bank.proofs.Fitting as ygg_bank_proofs_Fitting
pub use Rattle.ygg_bank.proofs.Inputs as ygg_bank_proofs_Inputs
pub use Rattle.ygg_bank.proofs.Made as ygg_bank_proofs_Made
pub use Rattle.ygg_bank.proofs.Meaning as ygg_bank_proofs_Meaning
pub use Rattle.ygg_bank.proofs.Widths as ygg_bank_proofs_Widths
pub use Rattle.ygg_bank.specs as ygg_bank
pub use Rattle.ygg_rules.specs as ygg_rules
pub mod Picking
pub mod Digits
pub mod Forms
pub mod Same
pub mod Sizing
pub mod Deciding
pub mod Giving
