-- Where the picks of a specification come from.
use Rattle.std.specs.Prelude.{◌==◌, ◌+◌, ℕ, Bool, false, List}
use Rattle.ygg_sym_runs.specs.ygg_meaning_laws.Acts.{next_of}
use Rattle.ygg_sym_runs.specs.ygg_meaning_laws.Places.{left_after}
use Rattle.ygg_sym_runs.specs.ygg_rules.declared.rule.RuleKind.{RuleKind}
use Rattle.ygg_sym_runs.specs.ygg_bank.Makes.{Make}
use Rattle.ygg_sym_runs.specs.ygg_bank.Values.{Inputs}
use Rattle.ygg_sym_runs.specs.ygg_bank.declared.node.Id.{Id}
use Rattle.ygg_sym_runs.specs.Specs.{input_pick, given_pick}
use Rattle.ygg_sym_spec.specs.declared.picks.SymPicks.{SymPicks}
use Rattle.ygg_sym_spec.specs.declared.picks.SymPicks.TheVariants as picks

-- the pick of each place
abbrev pub picking : List RuleKind → SymPicks → ℕ → Make Id
picking kinds (picks.Inputs first) = input_pick kinds first
picking kinds (picks.Given given first) = given_pick kinds given.now

-- the pick of a place among some that are given, which go on with 0
abbrev pub bit_in : ℕ → List Bool → Bool
bit_in i given = next_of false (left_after i given)

-- the bit that the pick of each place is
abbrev pub bit_at : Inputs → SymPicks → ℕ → Bool
bit_at inputs (picks.Inputs first) i = inputs (first + i) == 1
bit_at inputs (picks.Given given first) i = bit_in i given.now

-- inputs of the bank with this number or a greater one are single digits
abbrev pub first_number : SymPicks → ℕ
first_number (picks.Inputs first) = first
first_number (picks.Given given first) = first
