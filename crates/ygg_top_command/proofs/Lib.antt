pub use Rattle.ygg_report.proofs as of_ygg_report
mod Budgets
pub mod Stops
pub mod Telling
pub mod Breaks
