pub use Rattle.ygg_accept.specs as ygg_accept
pub use Rattle.ygg_type_rules.specs as ygg_type_rules
pub use Rattle.ygg_meaning_laws.specs.ygg_meaning
pub use Rattle.ygg_meaning_laws.specs as ygg_meaning_laws
pub mod Texts
pub mod Laws
pub mod Trees
pub mod Marks
pub mod ReadLaws
pub mod TypedLaws
pub mod RefinesLaws
