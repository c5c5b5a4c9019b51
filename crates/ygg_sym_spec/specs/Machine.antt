-- What the specification of a layer over terms is as the machine on which a block runs.
use Rattle.std.specs.Prelude.{ℕ, List}
use Rattle.ygg_syntax.specs.declared.grammar.BlockKind.TheVariants.{Impl}
use Rattle.ygg_sym_runs.specs.ygg_meaning.Environments.{Env}
use Rattle.ygg_sym_runs.specs.ygg_meaning.Machine.{State}
use Rattle.ygg_sym_runs.specs.ygg_meaning_laws.RunPlaces.{spec_space}
use Rattle.ygg_sym_runs.specs.ygg_shape_cells.declared.terms.SymValue.{SymValue}
use Rattle.ygg_sym_runs.specs.Lower.{SymMeaning}
use Rattle.ygg_sym_runs.specs.Laws.{picked_by}
use Rattle.ygg_sym_runs.specs.ygg_rules.declared.rule.RuleKind.{RuleKind}
use Rattle.ygg_sym_runs.specs.ygg_bank.Makes.{Make}
use Rattle.ygg_sym_runs.specs.ygg_meaning.Environments.{Name}
use Rattle.ygg_sym_runs.specs.Runs.{Call}
use Rattle.ygg_sym_runs.specs.Disks.{Done}
use Rattle.ygg_sym_runs.specs.Specs.{input_pick, spec_handles, sym_spec}
use Rattle.ygg_sym_spec.specs.declared.layer.SymLayer.{SymLayer}
use Rattle.ygg_sym_runs.proofs.Lows.{low_of}
use Rattle.ygg_sym_runs.proofs.SpecMeans.{spec_at}
use Rattle.ygg_sym_runs.specs.Below.{signatures_of}
use Rattle.ygg_sym_spec.specs.Layers.{SpecServes, closed, terms_in}
use Rattle.ygg_sym_spec.specs.declared.machine.SymSpec.{SymSpec}

-- a specification without type errors, with inputs as picks from a number on, by place
abbrev pub spec_meaning : SymSpec → SymMeaning (List SymValue)
spec_meaning m = record {
  Worth = State Env;
  low = low_of (m.layer.layer.now).state;
  kind = Impl;
  lower = signatures_of (m.layer.layer.now).operations;
  machine = λ kinds. sym_spec kinds (terms_in kinds m.layer) (closed m.layer) (input_pick kinds m.first);
  space = spec_space (closed m.layer);
  direct = λ inputs v. spec_at (closed m.layer) (picked_by inputs m.first);
  Serves = SpecServes m.layer;
  first = m.first;
}

-- what the specification does with a call of an operation, whose picks have the inputs from a number on
abbrev pub call_of : List RuleKind → SymLayer → ℕ → Name → List SymValue → List SymValue → Make Done
call_of kinds l first name args vars = spec_handles kinds (terms_in kinds l) (closed l) (input_pick kinds first) (Call name args) vars
