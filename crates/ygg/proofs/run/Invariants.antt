use Rattle.std.proofs.Common.{◌≡◌, [], ◌∷◌, map, take}
use Rattle.ygg_rules.specs.declared.rule.RuleKind.TheVariants as kind
use Rattle.ygg.proofs.run.Given as goal

abbrev pub invariant-loop-kind : goal.invariant-loop-kind
invariant-loop-kind l = (l.kind-items ≡ kind.Fold ∷ kind.AndOnes ∷ kind.AndZero ∷ kind.OrZero ∷ kind.AddZero ∷ kind.EqSelf ∷ kind.PickSame ∷ [])
    × (map (λ rule. rule.kind) l.rules.items ≡ take l.kind-index l.kind-items)
