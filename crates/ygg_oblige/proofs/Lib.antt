pub use Rattle.ygg_oblige_parts.proofs.Carried
pub use Rattle.ygg_oblige_parts.proofs.Left
pub use Rattle.ygg_oblige_laws.proofs as of_ygg_oblige_laws
pub mod Sites
pub mod Chains
pub mod Alike
pub mod KindsBegun
pub mod Cases
pub mod Numbered
pub mod KnownSo
pub mod Going
pub mod Asking
pub mod Ticks
pub mod Begun
pub mod Walking
