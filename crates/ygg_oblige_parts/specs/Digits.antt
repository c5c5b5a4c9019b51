-- Terms of one digit, and the conjunction of several.
use Rattle.std.specs.Prelude.{List, [], ◌∷◌, Option, Some}
use Rattle.ygg_value.specs.Words.{word}
use Rattle.ygg_value.specs.declared.operation.Op.TheVariants.{And}
use Rattle.ygg_sym_spec.specs.ygg_rules.declared.rule.RuleKind.{RuleKind}
use Rattle.ygg_sym_spec.specs.ygg_bank.Makes.{Make, and_make}
use Rattle.ygg_sym_spec.specs.ygg_bank.Making.{made}
use Rattle.ygg_sym_spec.specs.ygg_bank.Nodes.{HasWidth}
use Rattle.ygg_sym_spec.specs.ygg_bank.declared.node.Id.{Id}
use Rattle.ygg_sym_spec.specs.ygg_bank.declared.node.Node.{Node}
use Rattle.ygg_sym_spec.specs.ygg_bank.declared.node.Node.TheVariants.{Const, Bin}
use Rattle.ygg_sym_spec.specs.ygg_shape_cells.Terms.{AreAlike}
use Rattle.ygg_sym_spec.specs.ygg_shape_cells.declared.terms.SymValue.{SymValue}

-- a term of one digit stands among the nodes
abbrev pub IsDigit : List Node → Id → Type 0
IsDigit nodes a = HasWidth nodes a 1

-- whether all of these digits are 1
abbrev pub conjunction : List RuleKind → List Id → Make Id
conjunction kinds [] = made kinds (Const (word 1 1))
conjunction kinds (a ∷ more) = and_make (conjunction kinds more) (λ rest. made kinds (Bin And a rest))

-- two answers have one shape, where both are there
abbrev pub AnswersAlike : List Node → Option SymValue → Option SymValue → Type 0
AnswersAlike nodes (Some a) (Some b) = AreAlike nodes a b
AnswersAlike nodes _ _ = Unit {0}
