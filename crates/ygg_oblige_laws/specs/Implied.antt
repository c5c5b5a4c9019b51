-- A test that is implied by another, as a term.
use Rattle.std.specs.Prelude.{List}
use Rattle.ygg_value.specs.declared.operation.Op.TheVariants.{And}
use Rattle.ygg_sym_laws.specs.ygg_rules.declared.rule.RuleKind.{RuleKind}
use Rattle.ygg_sym_laws.specs.ygg_bank.Makes.{Make, and_make}
use Rattle.ygg_sym_laws.specs.ygg_bank.Making.{made}
use Rattle.ygg_sym_laws.specs.ygg_bank.declared.node.Id.{Id}
use Rattle.ygg_sym_laws.specs.ygg_bank.declared.node.Node.TheVariants.{Bin, Not}

-- whether the second test is 1 where the first is: it is never so that the first is 1 and the second isn't. The rules see through these nodes.
abbrev pub implied_made : List RuleKind → Id → Id → Make Id
implied_made kinds a b =
    and_make (made kinds (Not b)) (λ other. and_make (made kinds (Bin And a other)) (λ broken. made kinds (Not broken)))
