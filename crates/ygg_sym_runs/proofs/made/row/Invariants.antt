use Rattle.std.proofs.Common.{◌≡◌, ◌++◌, drop, map}
use Rattle.ygg_sym_runs.specs.Exprs.{id_in}
use Rattle.ygg_sym_runs.proofs.made.row.Given as goal

-- those so far, and then what is left
abbrev pub invariant-loop-part : goal.invariant-loop-part
invariant-loop-part l = l.words ++ map id_in (drop l.part-index l.parts) ≡ map id_in l.parts
