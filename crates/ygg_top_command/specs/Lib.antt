pub use Rattle.ygg_report.specs as ygg_report
pub mod Words
pub mod Refusing
pub mod Standing
pub mod Fetched
pub mod Reports
pub mod Breaking
