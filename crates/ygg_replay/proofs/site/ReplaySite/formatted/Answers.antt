use Rattle.std.proofs.Common.{true, refl, sym, ap, ◌∙◌, subst}
use Rattle.ygg_eval.specs.declared.body.Part.TheVariants as part
use Rattle.ygg_eval.specs.Zeros.{AreShapes, zero_values}
use Rattle.ygg_replay.proofs.Recovering.{formats_from}
use Rattle.ygg_replay.proofs.Serving.{below_at_start}
use Rattle.ygg_replay.proofs.Starting.{memory_runs}
use Rattle.ygg_replay.proofs.Typing.{memory_shapes}
use Rattle.ygg_replay.proofs.site.ReplaySite.formatted.Goals as goal

pub zeros-requires : goal.zeros-requires
zeros-requires c =
    let s = c.args.self.now in
    subst AreShapes (sym c.as_slice.ensures) (memory_shapes s.typed.now.file s.typed.now.typed s.typed.now.derivable s.place s.layer.now c.requires)

pub run-requires-clause-block : goal.run-requires-clause-block
run-requires-clause-block c =
    let s = c.args.self.now in
    memory_runs s part.Format s.layer.now.format c.in_ok-memory.memory c.new-none.result c.requires refl refl refl
    (c.in_ok-memory.ensures ∙ ap zero_values c.as_slice.ensures) c.new-none.ensures

pub run-requires-clause-lower : goal.run-requires-clause-lower
run-requires-clause-lower c =
    below_at_start c.args.self.now c.in_ok-low.low c.in_ok-lower.lower c.requires c.in_ok-low.ensures.fits c.in_ok-lower.ensures

pub returns-clause-formatted : goal.returns-clause-formatted
returns-clause-formatted c =
    let s = c.args.self.now in
    formats_from s c.args.schedule.now c.in_ok-low.low c.in_ok-memory.memory c.in_ok-lower.lower c.in_ok-answer.answer
    (record { answer = c.in_ok-answer.answer; memory = c.run.new.memory; lower = c.run.new.lower; side = true })
    (c.in_ok-memory.ensures ∙ ap zero_values c.as_slice.ensures) c.in_ok-lower.ensures c.in_ok-low.ensures.starts
    (c.in_ok-answer.ensures.ran s.layer.now.format refl)
