pub use Rattle.ygg_syntax.specs as ygg_syntax
pub use Rattle.ygg_syntax.specs.Weights
pub mod Names
pub mod TypeErrors
pub mod Limits
pub mod Shapes
pub mod Comparisons
pub mod Scopes
pub mod Expressions
pub mod Statements
pub mod Definitions
pub mod Layers
pub mod Files
