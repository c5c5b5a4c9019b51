pub use Rattle.ygg_run_image.specs.ygg_base
pub use Rattle.ygg_run_commands.specs as ygg_run_commands
pub use Rattle.ygg_run_image.specs as ygg_run_image
pub use Rattle.ygg_run_commands.specs.ygg_script
pub mod Errand
pub mod OnDevice
pub mod Extending
pub mod Ran
pub mod Ending
