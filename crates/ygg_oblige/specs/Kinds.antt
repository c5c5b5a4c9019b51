-- What an obligation asks.
use Rattle.ygg_oblige_laws.specs.ygg_meaning.Obligations.{Obligation, Init, CallOf, CutOf, TickOf, CutTickOf, Idle, Again}
use Rattle.ygg_oblige.specs.declared.obligation.Kind.{Kind}
use Rattle.ygg_oblige.specs.declared.obligation.Kind.TheVariants as kind

-- what an obligation asks
abbrev pub kind_in : Obligation → Kind
kind_in Init = kind.Init
kind_in (CallOf o) = kind.Call
kind_in (CutOf o) = kind.Cut
kind_in (TickOf t) = kind.Tick
kind_in (CutTickOf t) = kind.CutTick
kind_in Idle = kind.Idle
kind_in Again = kind.Again
