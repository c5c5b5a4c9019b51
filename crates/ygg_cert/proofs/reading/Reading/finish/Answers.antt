use Rattle.std.proofs.Common.{ℕ, List, subst}
use Rattle.ygg_cert.specs.Telling.{Tells}
use Rattle.ygg_cert.proofs.Told.{told_judged, told_lost}
use Rattle.ygg_cert.proofs.reading.Reading.finish.Goals as goal

pub returns-clause-judged : goal.returns-clause-judged
returns-clause-judged c goals text was =
    told_judged goals text c.args.self _
    (subst
    (λ (n : List ℕ). Tells c.args.self.next.phase n c.args.self.next.passed c.args.self.lines c.args.self.column c.told.result)
    c.into_name.ensures c.told.ensures)
    was

pub returns-clause-lost : goal.returns-clause-lost
returns-clause-lost c lost = told_lost c.args.self.next.phase _ _ _ _ _ c.told.ensures lost
