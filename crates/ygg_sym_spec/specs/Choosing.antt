-- Choices over terms do what they mean.
use Rattle.std.specs.Prelude.{List, [], refl}
use Rattle.ygg_sym_runs.specs.ygg_rules.declared.rule.RuleKind.{RuleKind}
use Rattle.ygg_sym_runs.specs.ygg_bank.Values.{Inputs, Values}
use Rattle.ygg_sym_runs.specs.Lower.{IsLower}
use Rattle.ygg_sym_runs.proofs.Specs.{PickMeans, chooser_means, input_pick_means, given_pick_means}
use Rattle.ygg_sym_spec.specs.Picking.{bit_at, picking}
use Rattle.ygg_sym_spec.specs.Chooser.{chooser_meaning}
use Rattle.ygg_sym_spec.specs.declared.chooser.SymChooser.{SymChooser}
use Rattle.ygg_sym_spec.specs.declared.picks.SymPicks.{SymPicks}
use Rattle.ygg_sym_spec.specs.declared.picks.SymPicks.TheVariants as picks

-- the pick of each place is the bit of it
pub pick_means : (inputs : Inputs) (v : Values) (kinds : List RuleKind) (p : SymPicks) → PickMeans inputs v (picking kinds p) (bit_at inputs p)
pick_means inputs v kinds (picks.Inputs first) = input_pick_means inputs v kinds first
pick_means inputs v kinds (picks.Given given first) = given_pick_means inputs v kinds given.now

pub chooser_keeps : (m : SymChooser) → IsLower (chooser_meaning m)
chooser_keeps m = record {
  means = λ serves kinds inputs v. chooser_means inputs v (picking kinds m.picks) (bit_at inputs m.picks) (pick_means inputs v kinds m.picks) [];
  space = λ kinds name. refl;
}
