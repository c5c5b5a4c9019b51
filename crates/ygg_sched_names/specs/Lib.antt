pub use Rattle.ygg_replay.specs as ygg_replay
pub use Rattle.ygg_oblige_laws.specs.Schedules
pub use Rattle.ygg_oblige_laws.specs.ScheduleLaws as ObligeSchedulesLaws
pub mod Names
pub mod Violating
pub mod Laws
