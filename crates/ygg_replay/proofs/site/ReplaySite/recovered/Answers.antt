use Rattle.std.proofs.Common.{refl, sym, ap, ◌∙◌, subst}
use Rattle.ygg_eval.specs.declared.body.Part.TheVariants as part
use Rattle.ygg_eval.specs.Zeros.{AreShapes, zero_values}
use Rattle.ygg_replay.proofs.Starting.{memory_runs}
use Rattle.ygg_replay.proofs.Typing.{memory_shapes}
use Rattle.ygg_replay.proofs.site.ReplaySite.recovered.Goals as goal

pub zeros-requires : goal.zeros-requires
zeros-requires c =
    let s = c.args.self.now in
    subst AreShapes (sym c.as_slice.ensures) (memory_shapes s.typed.now.file s.typed.now.typed s.typed.now.derivable s.place s.layer.now c.requires.here)

pub run-requires-clause-block : goal.run-requires-clause-block
run-requires-clause-block c =
    let s = c.args.self.now in
    memory_runs s part.Recover s.layer.now.recover c.in_ok-memory.memory c.new-none.result c.requires.here refl refl refl
    (c.in_ok-memory.ensures ∙ ap zero_values c.as_slice.ensures) c.new-none.ensures
