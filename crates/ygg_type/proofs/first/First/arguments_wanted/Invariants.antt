use Rattle.std.proofs.Common.{◌≡◌, drop}
use Rattle.std.specs.Prelude.{◌&&◌}
use Rattle.ygg_type_rules.specs.TypeErrors.{first_after, none}
use Rattle.ygg_type_rules.specs.Expressions.{arguments_wanted}
use Rattle.ygg_type.proofs.first.First.arguments_wanted.Given as goal

-- the type errors so far and those of what is left
abbrev pub invariant-loop-i : goal.invariant-loop-i
invariant-loop-i l = record {
  first : first_after l.self.type_error (arguments_wanted (drop l.i l.parts) (drop l.i l.wanted)) ≡ first_after l.initial.self.type_error
      (arguments_wanted l.parts l.wanted);
  none : (l.right && none (arguments_wanted (drop l.i l.parts) (drop l.i l.wanted))) ≡ none (arguments_wanted l.parts l.wanted);
}
