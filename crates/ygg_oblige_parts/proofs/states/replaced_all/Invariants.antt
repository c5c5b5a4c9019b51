use Rattle.std.proofs.Common.{◌≡◌, ◌++◌, drop}
use Rattle.ygg_oblige_laws.specs.TermStates.{replaced_all}
use Rattle.ygg_oblige_parts.proofs.states.replaced_all.Given as goal

-- those so far, and then what is left
abbrev pub invariant-loop-value : goal.invariant-loop-value
invariant-loop-value l = l.answer ++ replaced_all l.replacements (drop l.value-index l.all) ≡ replaced_all l.replacements l.all
