use Rattle.std.proofs.Common.{◌≡◌, drop}
use Rattle.std.specs.Prelude.{◌&&◌}
use Rattle.ygg_type_rules.specs.TypeErrors.{first_after, none}
use Rattle.ygg_type_rules.specs.Expressions.{row_words}
use Rattle.ygg_type.proofs.first.First.row_words.Given as goal

-- the type errors so far and those of what is left
abbrev pub invariant-loop-part : goal.invariant-loop-part
invariant-loop-part l = record {
  first : first_after l.self.type_error (row_words l.first (drop l.part-index l.parts)) ≡ first_after l.initial.self.type_error (row_words l.first l.parts);
  none : (l.right && none (row_words l.first (drop l.part-index l.parts))) ≡ none (row_words l.first l.parts);
}
