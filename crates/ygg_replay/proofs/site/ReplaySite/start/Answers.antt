use Rattle.std.proofs.Common.{◌≡◌, true, List, refl, sym, ap, ◌∙◌, subst}
use Rattle.ygg_value.specs.declared.row.Value.{Value}
use Rattle.ygg_sched.specs.ygg_meaning.Shapes.{values_fit}
use Rattle.ygg_eval.specs.Zeros.{AreShapes, zero_values}
use Rattle.ygg_replay.proofs.Starting.{nothing_but_whole, started_so, start_runs, whole_only}
use Rattle.ygg_replay.proofs.Typing.{state_shapes, state_zeros}
use Rattle.ygg_replay.proofs.site.ReplaySite.start.Goals as goal

pub zeros-requires : goal.zeros-requires
zeros-requires c =
    let s = c.args.self.now in
    subst AreShapes (sym c.as_slice-declared.ensures) (state_shapes s.typed.now.file s.typed.now.typed s.typed.now.derivable s.place s.layer.now c.requires)

pub zeros-requires-2 : goal.zeros-requires-2
zeros-requires-2 c =
    let s = c.args.self.now in
    subst AreShapes (sym c.as_slice-declared.ensures) (state_shapes s.typed.now.file s.typed.now.typed s.typed.now.derivable s.place s.layer.now c.requires)

pub specification-requires-clause-fits : goal.specification-requires-clause-fits
specification-requires-clause-fits c =
    let s = c.args.self.now in
    subst (λ (vs : List Value). values_fit s.layer.now.state vs ≡ true)
    (sym (c.in_ok-zeros.ensures ∙ ap zero_values c.as_slice-declared.ensures))
    (state_zeros s.typed.now.file s.typed.now.typed s.typed.now.derivable s.place s.layer.now c.requires)

pub run_body-requires-clause-body : goal.run_body-requires-clause-body
run_body-requires-clause-body c =
    let s = c.args.self.now in
    start_runs s c.in_ok-state.state c.new-none.result c.requires
    (state_zeros s.typed.now.file s.typed.now.typed s.typed.now.derivable s.place s.layer.now c.requires)
    (c.in_ok-state.ensures ∙ ap zero_values c.as_slice-declared.ensures) c.new-none.ensures

pub unreachable-requires : goal.unreachable-requires
unreachable-requires c =
    let s = c.args.self.now in
    let ends = c.in_ok-run_body.ensures.ends s.layer.now s.layer.now.start (record { layer = c.requires; block = refl }) in
    nothing_but_whole c.in_ok-run_body.field-0 (whole_only _ _ _ _ _ _ _ _ c.in_ok-run_body.field-0 _ ends) c.in-Stopped.is

pub returns : goal.returns
returns c =
    let s = c.args.self.now in
    let ends = rw c.in-Whole.is at (c.in_ok-run_body.ensures.ends s.layer.now s.layer.now.start (record { layer = c.requires; block = refl })) in
    started_so s c.run_body.new.state c.in_ok-state.state c.new-none.result c.in-Whole.field-0 _ _
    (state_zeros s.typed.now.file s.typed.now.typed s.typed.now.derivable s.place s.layer.now c.requires)
    (c.in_ok-state.ensures ∙ ap zero_values c.as_slice-declared.ensures) c.new-none.ensures ends.1
