use Rattle.ygg_plain.specs.Plain.{IsPlainOf}
use Rattle.ygg_plain.proofs.trying.Plainer.after_all.Given as goal

abbrev pub invariant-loop-step : goal.invariant-loop-step
invariant-loop-step l = IsPlainOf l.self.typed.now.file l.self.case l.fn.schedule l.plain
