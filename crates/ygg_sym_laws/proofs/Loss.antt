-- Power loss between operations on a disk over terms.
use Rattle.std.proofs.Common.{◌≡◌, true, false, Bool, List, [], ◌++◌, refl, sym, ap, ◌∙◌, subst}
use Rattle.ygg_syntax.specs.declared.tree.Def.{Def}
use Rattle.ygg_syntax.specs.declared.tree.DiskText.{DiskText}
use Rattle.ygg_syntax.specs.declared.tree.Layer.{Layer}
use Rattle.ygg_sym_laws.specs.ygg_type_rules.TypeErrors.{none}
use Rattle.ygg_sym_laws.specs.ygg_type_rules.Files.{disk_errors}
use Rattle.ygg_sym_laws.specs.ygg_meaning.Environments.{Env}
use Rattle.ygg_sym_laws.specs.ygg_meaning.Meaning.{Functions}
use Rattle.ygg_sym_laws.specs.ygg_meaning.Machine.{Picks, based}
use Rattle.ygg_sym_laws.specs.ygg_meaning.DiskMachine.{DiskMachine}
use Rattle.ygg_sym_laws.specs.ygg_meaning.Refines.{OnDisk}
use Rattle.ygg_sym_laws.specs.ygg_meaning.Stack.{tables_of}
use Rattle.ygg_sym_laws.specs.ygg_meaning_laws.Machines.{IsSized}
use Rattle.ygg_sym_laws.specs.ygg_meaning_laws_proofs_Sizes.{disk_answers_all}
use Rattle.ygg_sym_laws.specs.ygg_rules.declared.rule.RuleKind.{RuleKind}
use Rattle.ygg_sym_laws.specs.ygg_bank_proofs_Widths.{extends_self}
use Rattle.ygg_sym_laws.specs.ygg_bank.Values.{Inputs, Values, Fits}
use Rattle.ygg_sym_laws.specs.ygg_bank.declared.node.Node.{Node}
use Rattle.ygg_sym_laws.specs.ygg_shape_cells.declared.terms.SymValue.{SymValue}
use Rattle.ygg_sym_laws.specs.ygg_meaning_laws.Acts.{Fell}
use Rattle.ygg_sym_laws.specs.ygg_meaning_laws.DiskActs.{disk_acts}
use Rattle.ygg_sym_laws.proofs.of_ygg_meaning_laws.DiskActed.{disk_acted}
use Rattle.ygg_sym_laws.specs.ygg_meaning_laws_proofs_Placing.{taken_self}
use Rattle.ygg_sym_laws.specs.Meaning.{IsLow}
use Rattle.ygg_sym_laws.specs.Lows.{LowShaped, low_worth}
use Rattle.ygg_sym_laws.specs.Cuts.{disk_loses}
use Rattle.ygg_sym_laws.proofs.Lows.{low_fits}
use Rattle.ygg_sym_laws.proofs.Cuts.{left_of, disk_stops_mean}
use Rattle.ygg_sym_laws.specs.Means.{LossMeans}
use Rattle.ygg_sym_laws.specs.DiskLaws.{DiskLoss}
use Rattle.ygg_sym_laws.proofs.DiskBegun.{on_disk}

module _ (kinds : List RuleKind) (defs : List Def) (d : DiskText) (right : none (disk_errors d) ≡ true) where
  -- what the disk's function says that power loss leaves
  abbrev lost_of : Env → Picks → Fell Env Bool
  lost_of low picks = (disk_acts false d).loses (based low) picks

  -- what the disk leaves is what its function says
  loses_one : (low fallen : Env) (taken : Picks) → (DiskMachine d).Loses (based low) taken fallen → (lost_of low (taken ++ [])).base ≡ fallen
  loses_one low fallen taken l =
      ap (λ (f : Fell Env Bool). f.base) ((disk_acted false d).loses (based low) taken (taken ++ []) [] fallen l (taken_self false taken []))

  module _ (inputs : Inputs) (v : Values) (low : List SymValue) (nodes : List Node) (shaped : LowShaped nodes (tables_of d) low) (h : Fits inputs v nodes) where
    -- what is left over terms is worth what the disk's function says
    left_here : IsLow inputs v (left_of d) (lost_of (low_worth v (tables_of d) low) []).base nodes (disk_loses d.kind low)
    left_here =
        let m = (disk_stops_mean inputs v kinds d false right 0 0).lose_is low nodes shaped h in record { has = m.has; is = m.is }

    loss_sound : (taken : Picks) × (DiskMachine d).Loses (based (low_worth v (tables_of d) low)) taken (low_worth v (tables_of d) (disk_loses d.kind low))
    loss_sound =
        let base = low_worth v (tables_of d) low in
        let sized : IsSized d (based base) = record { tables = base; is = refl; sized = low_fits inputs v nodes (tables_of d) low h shaped } in
        let can = (disk_answers_all d right).can_lose (based base) sized in
        let is : can.fallen ≡ low_worth v (tables_of d) (disk_loses d.kind low) = sym (loses_one base can.fallen can.picks can.loses) ∙ sym left_here.is in
        (can.picks, subst (λ e. (DiskMachine d).Loses (based base) can.picks e) is can.loses)

    loss_back : (base fallen : Env) (taken : Picks) → (DiskMachine d).Loses (based base) taken fallen → low_worth v (tables_of d) low ≡ base →
        low_worth v (tables_of d) (disk_loses d.kind low) ≡ fallen
    loss_back base fallen taken l e = left_here.is ∙ ap (λ low. (lost_of low []).base) e ∙ loses_one base fallen taken l

  pub loss_means : (functions : Functions) (layer : Layer) → LossMeans kinds defs (OnDisk d) (on_disk d functions layer)
  loss_means functions layer = record {
    after = λ inputs v last low nodes shaped h. (left_here inputs v low nodes shaped h).has;
    sound = λ inputs v last low nodes shaped h. loss_sound inputs v low nodes shaped h;
    back = λ base fallen taken fit l. (λ i. false, λ inputs v last low nodes shaped h e are. loss_back inputs v low nodes shaped h base fallen taken l e);
    grows = λ last low nodes. extends_self nodes;
    inputs_below = λ last next low nodes p l. p;
  }

pub disk_loss : DiskLoss
disk_loss kinds defs d L right low =
    subst (λ ds. LossMeans kinds defs (OnDisk d) (record { functions = L.functions; layer = L.layer; low = ds })) (sym low)
    (loss_means kinds defs d right L.functions L.layer)
