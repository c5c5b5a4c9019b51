pub use Rattle.ygg_oblige_schedule.specs.Fitted
pub mod Like
pub mod Plain
