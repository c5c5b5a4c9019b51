-- Comparing lists of values.
use Rattle.std.proofs.Common.{◌≡◌, List, [], ◌∷◌, refl, ap}
use Rattle.ygg_value.specs.declared.operation.Op.TheVariants.{And}
use Rattle.ygg_sym_spec.specs.ygg_rules.declared.rule.RuleKind.{RuleKind}
use Rattle.ygg_sym_spec.specs.ygg_bank.Makes.{Out, goes_on}
use Rattle.ygg_sym_spec.specs.ygg_bank.Making.{made}
use Rattle.ygg_sym_spec.specs.ygg_bank.declared.node.Id.{Id}
use Rattle.ygg_sym_spec.specs.ygg_bank.declared.node.Node.{Node}
use Rattle.ygg_sym_spec.specs.ygg_bank.declared.node.Node.TheVariants.{Bin}
use Rattle.ygg_sym_spec.specs.ygg_shape.Comparing.{compared}
use Rattle.ygg_sym_spec.specs.ygg_shape_cells.declared.terms.SymValue.{SymValue}
use Rattle.ygg_sym_spec.specs.ygg_shape.Comparing as comparing
use Rattle.ygg_oblige_laws.specs.TermStates.{all_compared}

-- the comparison of lists is what obligations' terms are defined by
pub compared_are : (kinds : List RuleKind) (xs ys : List SymValue) (nodes : List Node) →
    comparing.all_compared kinds xs ys nodes ≡ all_compared kinds xs ys nodes
compared_are kinds [] [] nodes = refl
compared_are kinds [] (y ∷ ys) nodes = refl
compared_are kinds (x ∷ xs) [] nodes = refl
compared_are kinds (x ∷ xs) (y ∷ ys) nodes =
    let a = compared kinds x y nodes in
    ap (λ (o : Out Id). goes_on o (λ rest. made kinds (Bin And a.value rest))) (compared_are kinds xs ys a.nodes)
