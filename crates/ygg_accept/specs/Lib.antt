pub use Rattle.ygg_type.specs.ygg_type_rules
pub use Rattle.ygg_type.specs.ygg_syntax
pub mod Accepting
