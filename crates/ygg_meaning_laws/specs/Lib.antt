pub use Rattle.ygg_meaning.specs.ygg_disk
pub use Rattle.ygg_meaning.proofs.Exact as ygg_meaning_proofs_Exact
pub use Rattle.ygg_meaning.specs as ygg_meaning
pub use Rattle.ygg_type_rules.specs as ygg_type_rules
pub use Rattle.ygg_type_rules.specs.ygg_syntax
pub use Rattle.ygg_type_rules.specs.Weights
pub use Rattle.ygg_meaning.specs.Related
pub use Rattle.ygg_meaning.specs.Runs
pub use Rattle.ygg_meaning.specs.Replayed
pub use Rattle.ygg_meaning.specs.Violates
pub use Rattle.ygg_meaning.specs.Refines
pub use Rattle.ygg_meaning.specs.Obligations
pub use Rattle.ygg_meaning.specs.Spec
pub use Rattle.ygg_meaning.specs.DiskMachine
pub use Rattle.ygg_meaning.specs.Layer
pub use Rattle.ygg_meaning.specs.Machine
pub use Rattle.ygg_meaning.specs.Progress
pub use Rattle.ygg_meaning.specs.Shapes as MeaningShapes
pub use Rattle.ygg_meaning.specs.Meaning
pub use Rattle.ygg_meaning.specs.Environments
pub use Rattle.ygg_type_rules.specs.Comparisons
pub use Rattle.ygg_type_rules.specs.declared.scope.Variable
pub use Rattle.ygg_type_rules.specs.declared.scope.Owner
pub use Rattle.ygg_type_rules.specs.Definitions
pub use Rattle.ygg_type_rules.specs.declared.scope.Visibility
pub use Rattle.ygg_type_rules.specs.Limits
pub use Rattle.ygg_type_rules.specs.declared.scope.Local
pub use Rattle.ygg_type_rules.specs.declared.scope.TypedExpr
pub use Rattle.ygg_type_rules.specs.Expressions
pub use Rattle.ygg_type_rules.specs.Shapes
pub use Rattle.ygg_type_rules.specs.Layers
pub use Rattle.ygg_type_rules.specs.declared.scope.Signature
pub use Rattle.ygg_type_rules.specs.Files
pub use Rattle.ygg_type_rules.specs.Statements
pub use Rattle.ygg_type_rules.specs.Scopes
pub use Rattle.ygg_type_rules.specs.TypeErrors
pub use Rattle.ygg_meaning.proofs.Mirrored as ygg_meaning_proofs_Mirrored
pub use Rattle.ygg_meaning.specs.Noted
pub use Rattle.ygg_meaning.specs.Stack
pub mod Fitting
pub mod Agrees
pub mod Laws
pub mod Kinds
pub mod Questions
pub mod Blocks
pub mod Machines
pub mod ProgressLaws
pub mod Direct
pub mod Acts
pub mod DirectLaws
pub mod DiskActs
pub mod Places
pub mod SpecActs
pub mod Replaying
pub mod SpecPlaces
pub mod RunPlaces
pub mod StackActs
pub mod StackFalls
