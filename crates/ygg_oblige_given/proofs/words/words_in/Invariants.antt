use Rattle.std.proofs.Common.{◌≡◌, ◌+◌, drop}
use Rattle.ygg_oblige_laws.specs.LayerTerms.{ShapesKept}
use Rattle.ygg_oblige_laws.specs.TermStates.{words_in}
use Rattle.ygg_oblige_given.proofs.words.words_in.Given as goal

-- those so far, and those that are left
abbrev pub invariant-loop-variable : goal.invariant-loop-variable
invariant-loop-variable l = record {
  count : l.count + words_in (drop l.variable-index l.declared) ≡ words_in l.declared;
  kept : ShapesKept (drop l.variable-index l.declared);
}
