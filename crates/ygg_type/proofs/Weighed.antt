-- Weights that are given as 1,000,000 where they are more.
use Rattle.std.proofs.Common.{◌≡◌, ℕ, min, arith, Option, ap}
use Rattle.std.proofs.lemmas.Bool.Decides.{nat_tests}
use Rattle.ygg_base.specs.declared.reason.Reason.TheVariants as reason
use Rattle.ygg_value.specs.declared.shape.Shape.{Shape}
use Rattle.ygg_syntax.specs.declared.tree.Block.{Block}
use Rattle.ygg_syntax.specs.declared.tree.Expr.{Expr}
use Rattle.ygg_type.specs.ygg_syntax.Budget.{limit}
use Rattle.ygg_type.specs.ygg_type_rules.TypeErrors.{both, unless}
use Rattle.ygg_type.specs.ygg_type_rules.Limits.{weight_fits}
use Rattle.ygg_type.specs.ygg_type_rules.Scopes.{Scope}
use Rattle.ygg_type.specs.ygg_type_rules.Expressions.{typing, expected_errors}
use Rattle.ygg_type.specs.ygg_type_rules.Statements.{block_errors, body_errors}
use Rattle.ygg_type.specs.ygg_type_rules.Definitions.{claim_errors}

pub weight_stays : (n : ℕ) → weight_fits (min limit n) ≡ weight_fits n
weight_stays n = grind (arith, nat_tests)

pub weighed_body : (b : Block) (shape : Option Shape) (n : ℕ) (scope : Scope) → body_errors b shape (min limit n) scope ≡ body_errors b shape n scope
weighed_body b shape n scope = ap (λ fits. both (block_errors b shape scope) (unless fits reason.TooLong b.place)) (weight_stays n)

pub weighed_claim : (e : Expr) (shape : Option Shape) (n : ℕ) (scope : Scope) → claim_errors e shape (min limit n) scope ≡ claim_errors e shape n scope
weighed_claim e shape n scope = ap (λ fits. both (expected_errors e shape scope) (unless fits reason.TooLong (typing e scope).part.place)) (weight_stays n)
