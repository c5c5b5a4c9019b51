-- What choices over terms are as the machine on which a block of a specification runs.
use Rattle.std.specs.Prelude.{[]}
use Rattle.ygg_syntax.specs.declared.grammar.BlockKind.TheVariants.{Spec}
use Rattle.ygg_sym_runs.specs.Lower.{SymMeaning}
use Rattle.ygg_sym_runs.specs.Specs.{Nothing, sym_chooser}
use Rattle.ygg_sym_runs.proofs.Specs.{choose_at, low_nothing}
use Rattle.ygg_sym_spec.specs.Picking.{bit_at, first_number, picking}
use Rattle.ygg_sym_spec.specs.declared.chooser.SymChooser.{SymChooser}

-- each choice has the pick of its place; there are no operations below
abbrev pub chooser_meaning : SymChooser → SymMeaning Nothing
chooser_meaning m = record {
  Worth = Nothing;
  low = low_nothing;
  kind = Spec;
  lower = [];
  machine = λ kinds. sym_chooser (picking kinds m.picks);
  space = λ f. 1;
  direct = λ inputs v. choose_at (bit_at inputs m.picks);
  Serves = Nothing;
  first = first_number m.picks;
}
