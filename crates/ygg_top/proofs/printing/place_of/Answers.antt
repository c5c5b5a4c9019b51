use Rattle.std.proofs.Common.{length, refl, sym, ◌∙◌, arith}
use Rattle.std.proofs.lemmas.Option.{slice_get_read}
use Rattle.ygg_top.proofs.Placed.{named_none, next_none, eq_true, eq_false}
use Rattle.ygg_top.proofs.printing.place_of.Goals as goal

pub returns-then-eq-clause-found : goal.returns-then-eq-clause-found
returns-then-eq-clause-found c = record {
  obligation = c.index-all-place.result;
  within = c.loop-place-test.true;
  stands = slice_get_read c.args.all.now (length c.args.all.now) c.loop-place.place c.index-all-place.result refl c.loop-place-test.true c.index-all-place.is;
  named = sym c.as_slice.ensures ∙ eq_true c.as_slice.result.now c.args.name.now (sym c.eq.ensures ∙ c.if-eq.true);
}

pub loop-place-preserved : goal.loop-place-preserved
loop-place-preserved c =
    next_none c.args.all.now c.loop-place.place c.index-all-place.result c.args.name.now c.index-all-place.is c.loop-place.invariant
    (λ named. eq_false c.as_slice.result.now c.args.name.now (sym c.eq.ensures ∙ c.if-eq.false) (c.as_slice.ensures ∙ named))

pub returns-clause-none : goal.returns-clause-none
returns-clause-none c e =
    named_none c.args.all.now c.args.name.now (λ k o within. c.loop-place.invariant k o (omega (arith, within, c.loop-place-test.false)))
