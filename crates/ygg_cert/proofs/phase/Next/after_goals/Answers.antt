use Rattle.std.proofs.Common.{◌≡◌, Some, None, sym, ◌∙◌}
use Rattle.std.specs.Prelude.{slice_get}
use Rattle.ygg_cert.proofs.Stood.{goal_next, no_goal, all_behind}
use Rattle.ygg_cert.proofs.phase.Next.after_goals.Goals as goal

pub returns-in-Some : goal.returns-in-Some
returns-in-Some g c within =
    let got : slice_get (g.G.Goals.wanted c.args.goals.now) c.args.self.now.passed ≡ Some c.in-Some.goal = sym c.in_ok-goal.ensures ∙ c.in-Some.is in
    c.open.ensures (g.G.Goals.wanted c.args.goals.now) (goal_next (g.G.Goals.wanted c.args.goals.now) c.args.self.now.passed c.in-Some.goal got)

pub returns-in-None : goal.returns-in-None
returns-in-None g c within =
    let got : slice_get (g.G.Goals.wanted c.args.goals.now) c.args.self.now.passed ≡ None = sym c.in_ok-goal.ensures ∙ c.in-None.is in
    c.close.ensures (g.G.Goals.wanted c.args.goals.now) (no_goal (g.G.Goals.wanted c.args.goals.now) c.args.self.now.passed got)
    (all_behind (g.G.Goals.wanted c.args.goals.now) c.args.self.now.passed got within)
