use Rattle.std.proofs.Common.{◌≡◌, true, ◌++◌, sym, ap, ◌∙◌, subst}
use Rattle.ygg_eval_expr.specs.ygg_meaning.Environments.{bind}
use Rattle.ygg_eval_expr.specs.ygg_meaning.Shapes.{values_fit}
use Rattle.ygg_eval.specs.ygg_meaning.Stack.{tables_of}
use Rattle.ygg_eval_expr.specs.Held.{env_of}
use Rattle.ygg_eval.proofs.Asked.{low_first, low_later}
use Rattle.ygg_eval.proofs.related.name_low.Goals as goal

pub name_tables-requires : goal.name_tables-requires
name_tables-requires c = subst (λ ds. values_fit ds c.args.values.now ≡ true)
    (low_first (tables_of c.args.disk.now) c.args.layers.now c.args.place c.if-place-eq0.true) c.requires.fits

pub returns-then-place-eq0 : goal.returns-then-place-eq0
returns-then-place-eq0 c =
    c.in_ok-name_tables.ensures
    ∙ ap (λ ds. env_of c.args.bindings.now.items ++ bind ds c.args.values.now)
    (sym (low_first (tables_of c.args.disk.now) c.args.layers.now c.args.place c.if-place-eq0.true))

pub returns : goal.returns
returns c =
    let layers = c.args.layers.now in
    let l = c.index-layers-place.result in
    c.in_ok-lend_values.ensures
    ∙ ap (λ ds. env_of c.args.bindings.now.items ++ bind ds c.args.values.now)
    (c.as_slice.ensures ∙ sym (low_later (tables_of c.args.disk.now) layers c.args.place l c.requires.within c.if-place-eq0.false c.index-layers-place.is))
