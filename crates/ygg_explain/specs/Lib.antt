pub use Rattle.ygg_replay.specs as ygg_replay
pub mod Lines
pub mod Parts
pub mod Views
pub mod Told
pub mod Sites
pub mod Ending
