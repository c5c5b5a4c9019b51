-- Formulas over terms.
use Rattle.std.specs.Prelude.{◌≡◌, List, [], ◌∷◌, Some}
use Rattle.ygg_value.specs.declared.shape.Shape.TheVariants.{Word}
use Rattle.ygg_syntax.specs.declared.tree.Def.{Def}
use Rattle.ygg_syntax.specs.declared.tree.Expr.{Expr}
use Rattle.ygg_sym_spec.specs.ygg_type_rules.Expressions.{typing}
use Rattle.ygg_sym_spec.specs.ygg_rules.declared.rule.RuleKind.{RuleKind}
use Rattle.ygg_sym_spec.specs.ygg_bank.Makes.{Make, pure, and_make}
use Rattle.ygg_sym_spec.specs.ygg_bank.declared.node.Id.{Id}
use Rattle.ygg_sym_spec.specs.ygg_bank.declared.node.Node.{Node}
use Rattle.ygg_sym_spec.specs.ygg_sym_runs.Exprs.{id_in}
use Rattle.ygg_sym_spec.specs.ygg_sym_runs.Names.{SymEnv}
use Rattle.ygg_sym_spec.specs.ygg_sym_runs.Seen.{SymKnown, CanTerm, terms_called, terms_in}
use Rattle.ygg_oblige_laws.specs.TermStates.{truths_made}

-- these definitions, and these names
abbrev pub seen : List Def → SymEnv → SymEnv → SymKnown
seen defs own low = record { defs = defs; scope = record { own = own; low = low } }

-- the expression has terms, and is a single digit
pub record CanTest (k : SymKnown) (nodes : List Node) (e : Expr) : Type 0 where
  pub can : CanTerm k nodes e
  pub digit : (typing e can.scope).part.shape ≡ Some (Word 1)

-- the digits of expressions, in order
abbrev pub digits_made : List RuleKind → SymKnown → List Expr → Make (List Id)
digits_made kinds k [] = pure []
digits_made kinds k (e ∷ es) = and_make (terms_in kinds k e) (λ x. and_make (digits_made kinds k es) (λ rest. pure (id_in x ∷ rest)))

-- whether all of these expressions are 1
abbrev pub truths_in : List RuleKind → SymKnown → List Expr → Make Id
truths_in kinds k es = truths_made kinds (terms_called kinds k.defs) es k.scope
