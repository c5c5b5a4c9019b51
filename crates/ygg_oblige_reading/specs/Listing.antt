-- What is known of the obligations of a layer.
use Rattle.ygg_oblige_list.specs.ygg_meaning.Obligations.{Obligation}
use Rattle.ygg_oblige.specs.ygg_oblige_laws.LayerTerms.{ShapesKept}
use Rattle.ygg_oblige.specs.ygg_oblige_laws.Numbers.{arguments_of}
pub use Rattle.ygg_oblige_schedule.specs.Schedules.{StandsIn}

-- the shapes of the arguments that an obligation speaks of keep the limits
abbrev pub ArgumentsKept : Obligation → Type 0
ArgumentsKept o = ShapesKept (arguments_of o)
