use Rattle.std.proofs.Common.{◌≡◌, OnOk, IsTrue, sym, ap, ◌∙◌, subst}
use Rattle.std.proofs.lemmas.List.{take_at}
use Rattle.ygg_eval.specs.ygg_meaning.Shapes.{values_fit}
use Rattle.ygg_eval.specs.Layers.{variables_at, signatures_at}
use Rattle.ygg_eval.specs.Lower.{Fell, outage_of}
use Rattle.ygg_eval.specs.Kept.{spec_meaning, standing}
use Rattle.ygg_eval.proofs.disk.fall.Goals as goal

pub fall_tables-fallen-requires-clause-fits : goal.fall_tables-fallen-requires-clause-fits
fall_tables-fallen-requires-clause-fits c =
    ap (values_fit (variables_at c.args.typed.now.file 0)) (c.as_mut_slice.ensures.value ∙ c.into_vec-tables.ensures ∙ c.replace.ensures.value)
    ∙ c.requires.fits

pub returns-clause-fell : goal.returns-clause-fell
returns-clause-fell c =
    let file = c.args.typed.now.file in
    let tables = c.as_mut_slice.result.now in
    let before : tables ≡ c.args.state.now = c.as_mut_slice.ensures.value ∙ c.into_vec-tables.ensures ∙ c.replace.ensures.value in
    let after : c.from_vec.result ≡ c.fall_tables-fallen.new.tables =
    c.from_vec.ensures ∙ take_at _ _ _ (c.fall_tables-fallen.auto.tables ∙ c.as_mut_slice.ensures.len) in
    let how = outage_of c.fall_tables-fallen.result in
    let from = c.args.power.now in
    let to = c.fall_tables-fallen.new.power in
    subst (λ vs. Fell spec_meaning file (signatures_at file 0) c.args.op c.args.args.now how (standing 0 vs from) (standing 0 c.from_vec.result to)) before
    (subst (λ vs. Fell spec_meaning file (signatures_at file 0) c.args.op c.args.args.now how (standing 0 tables from) (standing 0 vs to)) (sym after)
    c.fall_tables-fallen.ensures.fell)

pub returns-clause-fits : goal.returns-clause-fits
returns-clause-fits c =
    subst (λ vs. OnOk c.fall_tables-fallen.result (IsTrue (values_fit (variables_at c.args.typed.now.file 0) vs)))
    (sym (c.from_vec.ensures ∙ take_at _ _ _ (c.fall_tables-fallen.auto.tables ∙ c.as_mut_slice.ensures.len))) c.fall_tables-fallen.ensures.fits
