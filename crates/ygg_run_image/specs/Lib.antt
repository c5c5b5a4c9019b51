pub use Rattle.ygg_base.specs as ygg_base
pub use Rattle.ygg_machine.specs.ygg_disk
pub use Rattle.ygg_machine.specs.ygg_eval
pub use Rattle.ygg_machine.specs.ygg_meaning
pub use Rattle.ygg_machine.specs as ygg_machine
pub use Rattle.ygg_machine.specs.ygg_type
pub mod Image
pub mod Judged
pub mod Laws
pub mod Kept
pub mod HeldLaws
pub mod Sight
pub mod Turning
pub mod DeviceMeaning
pub mod Standing
pub mod GroundLaws
pub mod Mounting
pub mod Formatted
pub mod Formatting
pub mod Leaving
pub mod Sealing
