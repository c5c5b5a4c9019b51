use Rattle.std.proofs.Common.{◌≡◌, ◌++◌, List, take, drop, sym, subst, ⊎_elim, Contains, arith}
use Rattle.std.proofs.lemmas.Grind.{common_steps}
use Rattle.std.proofs.lemmas.List.Elements.{Contains-append_cases}
use Rattle.ygg_cnf.specs.declared.lit.Lit.{Lit}
use Rattle.ygg_cnf_set.proofs.ListLemmas.{contains_front}
use Rattle.ygg_watch.proofs.LinkLemmas.{some_more, none_more}
use Rattle.ygg_watch.proofs.visit.replacement_from.Goals as goal

pub returns-clause-some : goal.returns-clause-some
returns-clause-some c =
    some_more c.replacement-2.result _ _ (λ y h. (
      contains_front c.args.clause.now c.if-place-clause.place y (rw c.split_at.ensures.front at h.0),
      h.1,
    )) c.replacement-2.ensures.some

pub returns-clause-none : goal.returns-clause-none
returns-clause-none c =
    let clause : List Lit = c.args.clause.now in
    let n = c.if-place-clause.place in
    let whole : take n clause ++ drop n clause ≡ clause = grind (arith, common_steps) in
    none_more c.replacement-2.result _ _ (λ before y k d. ⊎_elim
    (λ a. before y (rw c.split_at.ensures.front a) d)
    (λ b. c.in_default.ensures.none y (rw c.split_at.ensures.back b) d)
    (Contains-append_cases (take n clause) (drop n clause) y (subst (λ (z : List Lit). Contains z y) (sym whole) k)))
    c.replacement-2.ensures.none
