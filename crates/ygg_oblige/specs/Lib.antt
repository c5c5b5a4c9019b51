pub use Rattle.ygg_sym.specs.ygg_sym_spec.declared.below.SymBelow
pub use Rattle.ygg_oblige_parts.specs.Sites
pub use Rattle.ygg_oblige_parts.specs.Makers
pub use Rattle.ygg_oblige_parts.specs.Numbering
pub use Rattle.ygg_oblige_laws.specs.ygg_bank
pub use Rattle.ygg_oblige_laws.specs as ygg_oblige_laws
pub use Rattle.ygg_oblige_laws.specs.ygg_sym_runs
pub use Rattle.ygg_oblige_laws.specs.ygg_sym_laws
pub use Rattle.ygg_oblige_parts.specs.ygg_sym_spec
pub mod Making
pub mod Parts
pub mod Adding
pub mod Kinds
pub mod Obligations
