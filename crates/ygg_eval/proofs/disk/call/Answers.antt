use Rattle.std.proofs.Common.{◌≡◌, IsTrue, sym, ap, ◌∙◌, subst}
use Rattle.std.proofs.lemmas.List.{take_at}
use Rattle.ygg_eval.specs.ygg_meaning.Shapes.{values_fit}
use Rattle.ygg_eval.specs.Layers.{variables_at, signatures_at}
use Rattle.ygg_eval.specs.Lower.{Called, AfterWhole, ending_of}
use Rattle.ygg_eval.specs.Kept.{spec_meaning, standing}
use Rattle.ygg_eval.proofs.disk.call.Goals as goal

pub call_tables-turn-requires-clause-fits : goal.call_tables-turn-requires-clause-fits
call_tables-turn-requires-clause-fits c =
    ap (values_fit (variables_at c.args.typed.now.file 0)) (c.as_mut_slice.ensures.value ∙ c.into_vec-tables.ensures ∙ c.replace.ensures.value)
    ∙ c.requires.fits

pub returns-clause-called : goal.returns-clause-called
returns-clause-called c =
    let file = c.args.typed.now.file in
    let tables = c.as_mut_slice.result.now in
    let before : tables ≡ c.args.state.now = c.as_mut_slice.ensures.value ∙ c.into_vec-tables.ensures ∙ c.replace.ensures.value in
    let after : c.from_vec.result ≡ c.call_tables-turn.new.tables =
    c.from_vec.ensures ∙ take_at _ _ _ (c.call_tables-turn.auto.tables ∙ c.as_mut_slice.ensures.len) in
    let how = ending_of c.call_tables-turn.result in
    let from = c.args.power.now in
    let to = c.call_tables-turn.new.power in
    subst (λ vs. Called spec_meaning file (signatures_at file 0) c.args.op c.args.args.now how (standing 0 vs from) (standing 0 c.from_vec.result to)) before
    (subst (λ vs. Called spec_meaning file (signatures_at file 0) c.args.op c.args.args.now how (standing 0 tables from) (standing 0 vs to)) (sym after)
    c.call_tables-turn.ensures.called)

pub returns-clause-fits : goal.returns-clause-fits
returns-clause-fits c =
    subst (λ vs. AfterWhole (ending_of c.call_tables-turn.result) (IsTrue (values_fit (variables_at c.args.typed.now.file 0) vs)))
    (sym (c.from_vec.ensures ∙ take_at _ _ _ (c.call_tables-turn.auto.tables ∙ c.as_mut_slice.ensures.len))) c.call_tables-turn.ensures.fits
