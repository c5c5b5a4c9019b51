use Rattle.std.proofs.Common.{sym, ap}
use Rattle.ygg_eval_expr.specs.Held.{env_of}
use Rattle.ygg_explain.specs.Views.{known_in}
use Rattle.ygg_explain.proofs.Seeing.{settled_known, settled_ready}
use Rattle.ygg_explain.proofs.formulas.put_false_settled.Goals as goal

pub put_parts-requires : goal.put_parts-requires
put_parts-requires c =
    let s = c.args.site.now in
    let same = settled_known s c.args.low.now (known_in c.seen-view.result) c.as_slice.result.now (env_of c.in_ok-low.low.items)
    (env_of c.as_slice-2.result.now) c.seen-view.ensures.known (ap env_of c.as_slice-2.ensures.value) c.in_ok-low.ensures c.as_slice.ensures in
    settled_ready s c.args.low.now c.requires.here c.seen-view.ensures.typed c.requires.fits (known_in c.seen-view.result) same c.args.number
    c.in-Some.e.now (sym (rw c.in-Some.is at c.nth.ensures))
