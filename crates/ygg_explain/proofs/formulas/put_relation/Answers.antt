use Rattle.std.proofs.Common.{◌≡◌, true, codes, ap, subst, slice_get, Some, refl}
use Rattle.ygg_eval_expr.specs.Held.{env_of}
use Rattle.ygg_explain.specs.Views.{AllPartsIn, known_in}
use Rattle.ygg_explain.proofs.Adding.{adds_after, on_ok}
use Rattle.ygg_explain.proofs.Seeing.{all_parts_seen, always_ready, known_is, parts_seen, relate_ready}
use Rattle.ygg_explain.proofs.formulas.put_relation.Goals as goal

pub put_parts-requires : goal.put_parts-requires
put_parts-requires c =
    let s = c.args.site.now in
    let same = known_is s c.args.state.now c.args.memory.now c.args.low.now (known_in c.seen-view.result) c.as_slice.result.now c.as_slice-2.result.now
    c.as_slice-3.result.now (env_of c.in_ok-own.own.items) (env_of c.as_slice-4.result.now) (env_of c.in_ok-low.low.items) (env_of c.as_slice-5.result.now)
    c.seen-view.ensures.known (ap env_of c.as_slice-4.ensures.value) c.in_ok-own.ensures c.as_slice.ensures c.as_slice-2.ensures
    (ap env_of c.as_slice-5.ensures.value) c.in_ok-low.ensures c.as_slice-3.ensures in
    relate_ready s c.args.state.now c.args.memory.now c.args.low.now c.requires.here c.seen-view.ensures.typed c.requires.fits (known_in c.seen-view.result)
    same

pub put_all_parts-requires : goal.put_all_parts-requires
put_all_parts-requires c = λ i e there.
    let s = c.args.site.now in
    let same = known_is s c.args.state.now c.args.memory.now c.args.low.now (known_in c.seen-view.result) c.as_slice.result.now c.as_slice-2.result.now
    c.as_slice-3.result.now (env_of c.in_ok-own.own.items) (env_of c.as_slice-4.result.now) (env_of c.in_ok-low.low.items) (env_of c.as_slice-5.result.now)
    c.seen-view.ensures.known (ap env_of c.as_slice-4.ensures.value) c.in_ok-own.ensures c.as_slice.ensures c.as_slice-2.ensures
    (ap env_of c.as_slice-5.ensures.value) c.in_ok-low.ensures c.as_slice-3.ensures in
    always_ready s c.args.state.now c.args.memory.now c.args.low.now c.requires.here c.seen-view.ensures.typed c.requires.fits (known_in c.seen-view.result)
    same i e (subst (λ es. slice_get es i ≡ Some e) c.as_slice-6.ensures there)

pub returns : goal.returns
returns c =
    let s = c.args.site.now in
    let same = known_is s c.args.state.now c.args.memory.now c.args.low.now (known_in c.seen-view.result) c.as_slice.result.now c.as_slice-2.result.now
    c.as_slice-3.result.now (env_of c.in_ok-own.own.items) (env_of c.as_slice-4.result.now) (env_of c.in_ok-low.low.items) (env_of c.as_slice-5.result.now)
    c.seen-view.ensures.known (ap env_of c.as_slice-4.ensures.value) c.in_ok-own.ensures c.as_slice.ensures c.as_slice-2.ensures
    (ap env_of c.as_slice-5.ensures.value) c.in_ok-low.ensures c.as_slice-3.ensures in
    let first = c.in_ok-put_parts.ensures in
    on_ok c.put_all_parts.result (adds_after first.text first.added (λ text h. record {
      relate = first.text;
      always = text;
      is_relate = parts_seen s c.args.state.now c.args.memory.now c.args.low.now c.seen-view.result same true (codes "relate") s.layer.now.relate first.text
          first.like;
      is_always = all_parts_seen s c.args.state.now c.args.memory.now c.args.low.now c.seen-view.result same true (codes "always") s.layer.now.always text
          (subst (λ es. AllPartsIn c.seen-view.result true (codes "always") es text) c.as_slice-6.ensures h);
      text_is = refl;
    })) c.put_all_parts.ensures
