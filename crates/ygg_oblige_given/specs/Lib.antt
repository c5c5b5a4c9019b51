pub use Rattle.ygg_oblige_laws.specs as ygg_oblige_laws
pub mod Ones
pub mod Tables
pub mod Numbering
