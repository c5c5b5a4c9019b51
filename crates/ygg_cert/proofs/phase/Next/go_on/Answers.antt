use Rattle.std.proofs.Common.{[], OnOk, sym, subst}
use Rattle.ygg_cert.specs.Places.{Place}
use Rattle.ygg_cert.specs.Standing.{IsAt}
use Rattle.ygg_cert.proofs.Stood.{first_done, opening_done, log_done, last_done}
use Rattle.ygg_cert.proofs.phase.Next.go_on.Goals as goal

pub returns-in-First : goal.returns-in-First
returns-in-First g c to done =
    let d = first_done (g.G.Goals.wanted c.args.goals.now) to c.args.self.now c.in-First.is done in
    subst (λ (p : Place). OnOk c.after_goals.result (IsAt (g.G.Goals.wanted c.args.goals.now) p [] c.after_goals.new.self)) (sym d.0)
    (c.after_goals.ensures d.1)

pub returns-in-Opening : goal.returns-in-Opening
returns-in-Opening g c to done =
    opening_done (g.G.Goals.wanted c.args.goals.now) to c.args.self.now.line c.args.self.now.log c.args.self.now.phase c.args.self.now.passed
    c.in-Opening.is done

pub returns-in-Log : goal.returns-in-Log
returns-in-Log g c to done =
    let d = log_done (g.G.Goals.wanted c.args.goals.now) to c.args.self.now c.in-Log.is done in
    subst (λ (p : Place). OnOk c.after_log.result (IsAt (g.G.Goals.wanted c.args.goals.now) p [] c.after_log.new.self)) (sym d.0) (c.after_log.ensures d.1)

pub returns-in-Last : goal.returns-in-Last
returns-in-Last g c to done =
    last_done (g.G.Goals.wanted c.args.goals.now) to c.args.self.now.line c.args.self.now.log c.args.self.now.phase c.args.self.now.passed c.in-Last.is done
