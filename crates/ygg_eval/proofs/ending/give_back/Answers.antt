use Rattle.std.proofs.Common.{[], ◌∷◌, ◌++◌, sym, ap, ◌∙◌, append_assoc, arith}
use Rattle.std.proofs.lemmas.List.{append-nil, at_drop_all}
use Rattle.ygg_eval_expr.specs.Held.{env_of}
use Rattle.ygg_eval.specs.Ending.{values_in}
use Rattle.ygg_eval.proofs.Public.{env_of-take}
use Rattle.ygg_eval.proofs.ending.give_back.Goals as goal

pub loop-binding-init : goal.loop-binding-init
loop-binding-init c =
    ap (λ vs. vs ++ values_in (env_of c.into_iter-binding-iterator.result.rest.items)) c.new-values.ensures
    ∙ ap (λ bs. values_in (env_of bs)) (c.into_iter-binding-iterator.ensures.into_iter_gives.0 ∙ c.truncate.ensures.items)
    ∙ ap values_in (env_of-take c.args.count c.args.names.items)

pub loop-binding-preserved : goal.loop-binding-preserved
loop-binding-preserved c =
    let before = c.loop-binding.values in
    let left = values_in (env_of c.next.new.self.rest.items) in
    ap (λ vs. vs ++ left) c.in_ok-push.ensures.ok
    ∙ append_assoc before (c.in_ok-value.value ∷ []) left
    ∙ ap (λ v. before ++ v ∷ left) c.in_ok-value.ensures
    ∙ sym (ap (λ bs. before ++ values_in (env_of bs)) c.in-Some.ensures.steps.0)
    ∙ c.loop-binding.invariant

pub returns : goal.returns
returns c =
    let values = c.loop-binding.values in
    let rest = c.loop-binding.binding-iterator.rest in
    sym (append-nil values)
    ∙ sym (at_drop_all (λ bs. values ++ values_in (env_of bs)) rest.items 0 (omega (arith, rest.ok.0, c.in-None.ensures.steps.0)))
    ∙ c.loop-binding.invariant
