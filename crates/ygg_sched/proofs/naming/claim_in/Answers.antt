use Rattle.std.proofs.Common.{sym, ap, ◌∙◌, List, ◌+◌, drop}
use Rattle.std.specs.List.{find}
use Rattle.ygg_syntax.specs.declared.tree.Declared.{Declared}
use Rattle.ygg_sched.specs.Sites.{low_in, sites_on, is_named}
use Rattle.ygg_sched.proofs.Finding.{site_found, sites_passed}
use Rattle.ygg_sched.proofs.naming.claim_in.Goals as goal

pub returns-in-Some-clause-named : goal.returns-in-Some-clause-named
returns-in-Some-clause-named c =
    sym (site_found c.args.name.now (low_in c.loop-place.low) c.args.layers.now c.loop-place.place c.index-layers-place.result c.loop-place-test.true
    c.index-layers-place.is _ (sym c.in-Some.ensures.named))
    ∙ c.loop-place.invariant

pub loop-place-preserved : goal.loop-place-preserved
loop-place-preserved c =
    ap (λ (ds : List Declared). find (is_named c.args.name.now) (sites_on (c.loop-place.place + 1) ds (drop (c.loop-place.place + 1) c.args.layers.now)))
    c.as_slice.ensures
    ∙ sym (sites_passed c.args.name.now (low_in c.loop-place.low) c.args.layers.now c.loop-place.place c.index-layers-place.result c.loop-place-test.true
    c.index-layers-place.is (sym c.in-None.ensures.named))
    ∙ c.loop-place.invariant
