use Rattle.std.proofs.Common.{◌≡◌, ◌&&◌, refl, sym, ap, ◌∙◌, subst}
use Rattle.ygg_eval.specs.declared.body.Part.TheVariants as part
use Rattle.ygg_replay.specs.Ends.{same_list}
use Rattle.ygg_eval.specs.Zeros.{AreShapes, zero_values}
use Rattle.ygg_replay.proofs.Starting.{memory_runs}
use Rattle.ygg_replay.proofs.Twice.{fell_again, twice}
use Rattle.ygg_replay.proofs.Typing.{memory_shapes}
use Rattle.ygg_replay.proofs.site.ReplaySite.recovered_twice.Goals as goal
use Rattle.ygg_replay.proofs.site.ReplaySite.recovered_twice.Goals.{then-end, else-end}

pub zeros-requires : goal.zeros-requires
zeros-requires c =
    let s = c.args.self.now in
    subst AreShapes (sym c.as_slice.ensures) (memory_shapes s.typed.now.file s.typed.now.typed s.typed.now.derivable s.place s.layer.now c.requires.here)

pub cut_short-requires-clause-block : goal.cut_short-requires-clause-block
cut_short-requires-clause-block c =
    let s = c.args.self.now in
    memory_runs s part.Recover s.layer.now.recover c.in_ok-memory.memory c.new-none.result c.requires.here refl refl refl
    (c.in_ok-memory.ensures ∙ ap zero_values c.as_slice.ensures) c.new-none.ensures

pub returns-in_default : goal.returns-in_default
returns-in_default c =
    let s = c.args.self.now in
    let none = rw c.in_default.is at (c.in_ok-fallen.ensures.fell s.layer.now.recover refl) in
    let are = c.in_ok-memory.ensures ∙ ap zero_values c.as_slice.ensures in
    (refl, λ fallen f. none fallen (fell_again s c.args.schedule.now c.in_ok-memory.memory are fallen f))

pub returns : goal.returns
returns c =
    let s = c.args.self.now in
    let e = c.in_ok-end.end in
    let f = c.in_ok-other.other in
    let same = same_list e.memory f.memory && same_list e.lower.values f.lower.values in
    let side_is : c.if-end.side ≡ (e.side && same) = elim c.if-end.branch [
      | then-end w ↦ w.side-is ∙ (w.is_state_of-side.ensures ∙ ap (λ b. b && same) (sym w.if-end.true))
      | else-end w ↦ w.side-is ∙ (w.if-end.false ∙ ap (λ b. b && same) (sym w.if-end.false))
    ] in
    twice s c.args.schedule.now c.in_ok-memory.memory c.in_ok-below.field-0.values c.in-Some.fallen.values e f c.if-end.side
    (c.in_ok-memory.ensures ∙ ap zero_values c.as_slice.ensures) c.in_ok-below.ensures.values c.in_ok-end.ensures.fits c.in_ok-other.ensures.fits
    (rw c.in-Some.is at (c.in_ok-fallen.ensures.fell s.layer.now.recover refl)) c.in_ok-end.ensures.recovered c.in_ok-other.ensures.ran side_is
