-- A disk over terms at its start.
use Rattle.std.proofs.Common.{◌≡◌, true, List, [], refl, sym, ap, ◌∙◌, subst}
use Rattle.ygg_base.specs.declared.geometry.DiskKind.{DiskKind}
use Rattle.ygg_base.specs.declared.geometry.DiskKind.TheVariants.{Sync, Async}
use Rattle.ygg_syntax.specs.declared.tree.Def.{Def}
use Rattle.ygg_syntax.specs.declared.tree.DiskText.{DiskText}
use Rattle.ygg_syntax.specs.declared.tree.Layer.{Layer}
use Rattle.ygg_syntax.specs.declared.tree.TypeText.TheVariants as text
use Rattle.ygg_sym_laws.specs.ygg_type_rules.TypeErrors.{none}
use Rattle.ygg_sym_laws.specs.ygg_type_rules.Files.{disk_errors}
use Rattle.ygg_sym_laws.specs.ygg_disk.Kinds.{model_of}
use Rattle.ygg_sym_laws.specs.ygg_meaning.Environments.{Env}
use Rattle.ygg_sym_laws.specs.ygg_meaning.Meaning.{Functions}
use Rattle.ygg_sym_laws.specs.ygg_meaning.Machine.{Picks, State, based}
use Rattle.ygg_sym_laws.specs.ygg_meaning.DiskMachine.{DiskMachine, tables_in, zeros_on}
use Rattle.ygg_sym_laws.specs.ygg_meaning.Refines.{OnDisk}
use Rattle.ygg_sym_laws.specs.ygg_meaning.Shapes.{zeros_of}
use Rattle.ygg_sym_laws.specs.ygg_meaning.Stack.{tables_of_kind, tables_of}
use Rattle.ygg_sym_laws.specs.ygg_meaning_laws_proofs_Parameters.{type_is}
use Rattle.ygg_sym_laws.specs.ygg_rules.declared.rule.RuleKind.{RuleKind}
use Rattle.ygg_sym_laws.specs.ygg_bank.Inputs.{InputsBelow}
use Rattle.ygg_sym_laws.specs.ygg_bank.Values.{Inputs, Values, Fits}
use Rattle.ygg_sym_laws.specs.ygg_bank.declared.node.Node.{Node}
use Rattle.ygg_sym_laws.specs.ygg_shape_words_proofs_Keeps.{inputs_stay}
use Rattle.ygg_sym_laws.specs.Lows.{low_worth}
use Rattle.ygg_sym_laws.specs.Below.{zeros_made}
use Rattle.ygg_sym_laws.specs.Means.{StartMeans}
use Rattle.ygg_sym_runs.proofs.DeclaredZeros.{AreShapes, zeros_made_keep, zeros_made_grow, AreZeros, zeros_give}
use Rattle.ygg_sym_laws.specs.DiskLaws.{DiskStart}
use Rattle.ygg_sym_laws.proofs.DiskBegun.{on_disk}

-- the tables of a disk without type errors keep the limits
tables_shaped : (d : DiskText) (kind : DiskKind) → none (disk_errors d) ≡ true → AreShapes (tables_of_kind kind d)
tables_shaped d Sync right = ((type_is (text.Table d.rows d.words d.width) right).limits, tt)
tables_shaped d Async right = let l = (type_is (text.Table d.rows d.words d.width) right).limits in (l, (l, tt))

-- they start with zeros
zeros_start : (d : DiskText) (kind : DiskKind) → zeros_of (tables_of_kind kind d) ≡ tables_in kind ((model_of kind).start (zeros_on d))
zeros_start d Sync = refl
zeros_start d Async = refl

module _ (kinds : List RuleKind) (defs : List Def) (d : DiskText) (right : none (disk_errors d) ≡ true) where
  -- the tables of the disk at its start
  abbrev fresh : Env
  fresh = tables_in d.kind ((model_of d.kind).start (zeros_on d))

  module _ (inputs : Inputs) (v : Values) (nodes : List Node) (h : Fits inputs v (zeros_made kinds (tables_of d) nodes).nodes) where
    zeros_here : AreZeros kinds inputs v (tables_of d) (zeros_made kinds (tables_of d) nodes).nodes (zeros_made kinds (tables_of d) nodes).value
    zeros_here = zeros_give kinds inputs v (tables_of d) nodes (tables_shaped d d.kind right) h

    fresh_is : low_worth v (tables_of d) (zeros_made kinds (tables_of d) nodes).value ≡ fresh
    fresh_is = zeros_here.is ∙ zeros_start d d.kind

    start_sound : (taken : Picks) × (DiskMachine d).Starts (based (low_worth v (tables_of d) (zeros_made kinds (tables_of d) nodes).value)) taken
    start_sound = ([], (low_worth v (tables_of d) (zeros_made kinds (tables_of d) nodes).value, refl, refl, fresh_is))

    start_back : (s : State Env) (taken : Picks) → (DiskMachine d).Starts s taken →
        s ≡ based (low_worth v (tables_of d) (zeros_made kinds (tables_of d) nodes).value)
    start_back s taken starts = let (b, none, is, at) = starts in is ∙ ap based (at ∙ sym fresh_is)

  pub start_means : (functions : Functions) (layer : Layer) → StartMeans kinds defs (OnDisk d) (on_disk d functions layer)
  start_means functions layer = record {
    after = λ inputs v nodes h. (zeros_here inputs v nodes h).has;
    sound = λ inputs v nodes h. start_sound inputs v nodes h;
    back = λ s taken starts inputs v nodes h. start_back inputs v nodes h s taken starts;
    grows = λ nodes. zeros_made_grow kinds (tables_of d) nodes;
    inputs_below = λ next nodes p. zeros_made_keep kinds (InputsBelow next) (inputs_stay kinds next) (tables_of d) nodes p;
  }

pub disk_start : DiskStart
disk_start kinds defs d L right low =
    subst (λ ds. StartMeans kinds defs (OnDisk d) (record { functions = L.functions; layer = L.layer; low = ds })) (sym low)
    (start_means kinds defs d right L.functions L.layer)
