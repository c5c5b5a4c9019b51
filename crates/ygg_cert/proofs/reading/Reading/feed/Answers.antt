use Rattle.std.proofs.Common.{◌≡◌, ◌+◌, ◌++◌, take, refl, sym, subst, ◌∙◌, arith}
use Rattle.ygg_cert.specs.declared.verdict.Fed.{Fed}
use Rattle.ygg_cert.specs.declared.reading.Reading.{Reading}
use Rattle.ygg_cert.specs.Judging.{SoFar}
use Rattle.ygg_cert.specs.Standing.{IsEnded}
use Rattle.ygg_cert.proofs.Read.{piece_none, piece_more, piece_run, run_within, piece_all}
use Rattle.ygg_cert.proofs.Told.{fed_so_far}
use Rattle.ygg_cert.proofs.reading.Reading.feed.Goals as goal

pub loop-done-init : goal.loop-done-init
loop-done-init g c = record { within = omega arith; fed = λ text was. piece_none _ text c.args.piece.now c.args.self.now was; still = λ ended. refl }

pub loop-done-preserved : goal.loop-done-preserved
loop-done-preserved g c = record {
  within = run_within c.args.piece.now (c.loop-done.done + 1) c.run_on-done.result (omega (arith, c.loop-done-test.true)) c.run_on-done.ensures.within;
  fed = λ text was.
      piece_run (g.G.Goals.wanted c.args.goals.now) text c.args.piece.now (c.loop-done.done + 1) c.run_on-done.result c.run_on-done.new.self
      (c.run_on-done.ensures.fed (g.G.Goals.wanted c.args.goals.now) (text ++ take (c.loop-done.done + 1) c.args.piece.now)
      (piece_more _ text c.args.piece.now c.loop-done.done c.read.new.self c.loop-done-test.true
      (c.read.ensures.fed (text ++ take c.loop-done.done c.args.piece.now) (c.loop-done.invariant.fed text was))));
  still = λ ended.
      let before : c.loop-done.self ≡ c.args.self.now = c.loop-done.invariant.still ended in
      let after : c.read.new.self ≡ c.args.self.now = c.read.ensures.still (subst (λ (r : Reading). IsEnded r.next.phase) (sym before) ended) ∙ before in
      c.run_on-done.ensures.still (subst (λ (r : Reading). IsEnded r.next.phase) (sym after) ended) ∙ after;
}

pub returns-clause-fed : goal.returns-clause-fed
returns-clause-fed g c text was =
    piece_all _ text c.args.piece.now c.loop-done.done c.loop-done.self c.loop-done-test.false (c.loop-done.invariant.fed text was)

pub returns-clause-told : goal.returns-clause-told
returns-clause-told g c text was =
    subst (λ (f : Fed). SoFar (g.G.Goals.wanted c.args.goals.now) (text ++ c.args.piece.now) f) (sym c.so_far.ensures)
    (fed_so_far (g.G.Goals.wanted c.args.goals.now) (text ++ c.args.piece.now) c.loop-done.self
    (piece_all _ text c.args.piece.now c.loop-done.done c.loop-done.self c.loop-done-test.false (c.loop-done.invariant.fed text was)))

pub returns-clause-still : goal.returns-clause-still
returns-clause-still g c ended = c.loop-done.invariant.still ended
