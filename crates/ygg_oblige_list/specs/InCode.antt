-- The obligations of a layer in code.
use Rattle.ygg_meaning.specs.Obligations.{Obligation, Init, CallOf, CutOf, TickOf, CutTickOf, Idle, Again}
use Rattle.ygg_oblige_list.specs.declared.obligation.SymObligation as code
use Rattle.ygg_oblige_list.specs.declared.obligation.SymObligation.TheVariants as asked

-- the obligation that this is
abbrev pub obligation_of : code.SymObligation → Obligation
obligation_of asked.Init = Init
obligation_of (asked.Call o) = CallOf o.now
obligation_of (asked.Cut o) = CutOf o.now
obligation_of (asked.Tick t) = TickOf t.now
obligation_of (asked.CutTick t) = CutTickOf t.now
obligation_of asked.Idle = Idle
obligation_of asked.Again = Again
