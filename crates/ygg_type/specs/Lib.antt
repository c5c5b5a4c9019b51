pub use Rattle.ygg_type_rules.specs as ygg_type_rules
pub use Rattle.ygg_type_rules.specs.ygg_syntax
pub mod Checking
pub mod Ready
pub mod Typed
