use Rattle.ygg_plain.specs.Plain.{IsPlainOf}
use Rattle.ygg_plain.proofs.trying.plain.Given as goal

abbrev pub invariant-loop-round : goal.invariant-loop-round
invariant-loop-round l = IsPlainOf l.typed.file l.fn.case l.fn.schedule l.plain
