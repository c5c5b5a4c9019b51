-- Rows where a test is known: what their words are there.
use Rattle.std.specs.Prelude.{Bool, List}
use Rattle.ygg_shape_words.specs.ygg_rules.declared.rule.RuleKind.{RuleKind}
use Rattle.ygg_shape_words.specs.ygg_bank.Makes.{Make}
use Rattle.ygg_shape_words.specs.ygg_bank.declared.node.Id.{Id}
use Rattle.ygg_shape_words.specs.Giving.{given}
use Rattle.ygg_shape_cells.specs.Lists.{each_from}

-- what the words of a row are where a test has this value
abbrev pub given_row : List RuleKind → Id → Bool → List Id → Make (List Id)
given_row kinds t on = each_from (λ number a. given kinds t on a) 0
