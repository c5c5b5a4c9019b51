use Rattle.std.proofs.Common.{◌≡◌, OnOk, IsTrue, sym, ap, ◌∙◌, subst}
use Rattle.std.proofs.lemmas.List.{take_at}
use Rattle.ygg_eval.specs.ygg_meaning.Shapes.{values_fit}
use Rattle.ygg_eval.specs.ygg_disk.declared.power.Power.{Power}
use Rattle.ygg_eval.specs.Layers.{variables_at}
use Rattle.ygg_eval.specs.Lower.{outage_of}
use Rattle.ygg_eval.specs.Kept.{standing, Loses}
use Rattle.ygg_eval.proofs.disk.lose.Goals as goal

pub lose_tables-lost-requires : goal.lose_tables-lost-requires
lose_tables-lost-requires c =
    ap (values_fit (variables_at c.args.typed.now.file 0)) (c.as_mut_slice.ensures.value ∙ c.into_vec-tables.ensures ∙ c.replace.ensures.value)
    ∙ c.requires

pub returns-clause-lost : goal.returns-clause-lost
returns-clause-lost c =
    let file = c.args.typed.now.file in
    let tables = c.as_mut_slice.result.now in
    let before : tables ≡ c.args.state.now = c.as_mut_slice.ensures.value ∙ c.into_vec-tables.ensures ∙ c.replace.ensures.value in
    let after : c.from_vec.result ≡ c.lose_tables-lost.new.tables =
    c.from_vec.ensures ∙ take_at _ _ _ (c.lose_tables-lost.auto.tables ∙ c.as_mut_slice.ensures.len) in
    let lost = c.lose_tables-lost.result in
    subst (λ vs. (p : Power) → Loses file (standing 0 vs p) (outage_of lost) (standing 0 c.from_vec.result p)) before
    (subst (λ vs. (p : Power) → Loses file (standing 0 tables p) (outage_of lost) (standing 0 vs p)) (sym after) c.lose_tables-lost.ensures.lost)

pub returns-clause-fits : goal.returns-clause-fits
returns-clause-fits c =
    subst (λ vs. OnOk c.lose_tables-lost.result (IsTrue (values_fit (variables_at c.args.typed.now.file 0) vs)))
    (sym (c.from_vec.ensures ∙ take_at _ _ _ (c.lose_tables-lost.auto.tables ∙ c.as_mut_slice.ensures.len))) c.lose_tables-lost.ensures.fits
