use Rattle.std.proofs.Common.{Some, length, option_map, refl, sym, ap, ◌∙◌}
use Rattle.std.proofs.lemmas.Option.{slice_get-map, slice_get_read, slice_get_past}
use Rattle.ygg_certify.specs.FileGoals.{goal_in}
use Rattle.ygg_certify.proofs.goals.FileGoalsGoals.goal.Goals as goal

pub returns-in_ok-goal_in-in-Some : goal.returns-in_ok-goal_in-in-Some
returns-in_ok-goal_in-in-Some c =
    let nodes = c.args.self.now.bank.now in
    let all = c.args.self.now.all.now in
    let there = slice_get_read all (length all) c.args.place c.in-Some.o.now refl c.in-Some.ensures.lookup.3.0 c.in-Some.ensures.lookup.1 in
    ap Some c.in_ok-goal_in-in-Some.ensures ∙ sym (slice_get-map (goal_in nodes) all c.args.place ∙ ap (option_map (goal_in nodes)) there)

pub returns-in-None : goal.returns-in-None
returns-in-None c =
    let nodes = c.args.self.now.bank.now in
    let all = c.args.self.now.all.now in
    sym (slice_get-map (goal_in nodes) all c.args.place ∙ ap (option_map (goal_in nodes)) (slice_get_past all c.args.place c.in-None.ensures.lookup.3))
