-- What runs over terms on a disk begin with.
use Rattle.std.proofs.Common.{◌≡◌, ℕ, true, List, [], ◌++◌, map, sym, ap, ◌∙◌, subst}
use Rattle.ygg_syntax.specs.declared.grammar.BlockKind.TheVariants.{Impl}
use Rattle.ygg_syntax.specs.declared.tree.Declared.{Declared}
use Rattle.ygg_syntax.specs.declared.tree.Def.{Def}
use Rattle.ygg_syntax.specs.declared.tree.Layer.{Layer}
use Rattle.ygg_syntax.specs.declared.tree.Block.{Block}
use Rattle.ygg_syntax.specs.declared.tree.DiskText.{DiskText}
use Rattle.ygg_sym_laws.specs.ygg_type_rules.TypeErrors.{none}
use Rattle.ygg_sym_laws.specs.ygg_type_rules.Definitions.{definitions_errors}
use Rattle.ygg_sym_laws.specs.ygg_type_rules.Files.{disk_errors, disk_operations}
use Rattle.ygg_sym_laws.specs.ygg_meaning.Environments.{Env}
use Rattle.ygg_sym_laws.specs.ygg_meaning.Meaning.{Functions, functions_of}
use Rattle.ygg_sym_laws.specs.ygg_meaning.Shapes.{env_fits}
use Rattle.ygg_sym_laws.specs.ygg_meaning.Layer.{ClosedLayer}
use Rattle.ygg_sym_laws.specs.ygg_meaning.Refines.{OnDisk}
use Rattle.ygg_sym_laws.specs.ygg_meaning.Stack.{tables_of}
use Rattle.ygg_sym_laws.specs.ygg_meaning_laws.Agrees.{Agrees}
use Rattle.ygg_sym_laws.specs.ygg_meaning_laws.Questions.{plain}
use Rattle.ygg_sym_laws.specs.ygg_rules.declared.rule.RuleKind.{RuleKind}
use Rattle.ygg_sym_laws.specs.ygg_bank.Values.{Inputs, Values, Fits}
use Rattle.ygg_sym_laws.specs.ygg_bank.declared.node.Node.{Node}
use Rattle.ygg_sym_laws.specs.ygg_shape_cells.Terms.{worth}
use Rattle.ygg_sym_laws.specs.ygg_meaning_laws.Direct.{room_of}
use Rattle.ygg_sym_laws.specs.ygg_meaning_laws.DirectLaws.{IsTypedBlock}
use Rattle.ygg_sym_laws.specs.ygg_meaning_laws.RunPlaces.{disk_space}
use Rattle.ygg_sym_laws.specs.ygg_sym_runs.Names.{sym_bind}
use Rattle.ygg_sym_laws.specs.ygg_sym_runs.ExpressionMeaning.{worths}
use Rattle.ygg_sym_laws.specs.Lows.{low_worth}
use Rattle.ygg_sym_laws.specs.Laws.{IsTypedOver}
use Rattle.ygg_sym_laws.proofs.Blocks.{values_worth}
use Rattle.ygg_sym_laws.proofs.Lows.{low_fits}
use Rattle.ygg_sym_laws.proofs.Specs.{bound_worth}
use Rattle.ygg_sym_laws.specs.Typed.{BlockTyped}
use Rattle.ygg_sym_laws.specs.Means.{Values3, Begins, AreWorth}

-- a layer on a disk
abbrev pub on_disk : DiskText → Functions → Layer → ClosedLayer
on_disk d functions layer = record { functions = functions; layer = layer; low = tables_of d }

-- so many places as a block on a disk has
abbrev pub room : Block → ℕ
room = room_of disk_space

module _ (kinds : List RuleKind) (defs : List Def) (d : DiskText) (functions : Functions) (layer : Layer) (b : Block) (vars args : List Declared)
    (t : BlockTyped defs (on_disk d functions layer) Impl (disk_operations d) b vars args) (sound : none (definitions_errors defs [] []) ≡ true)
    (right : none (disk_errors d) ≡ true) (same : functions ≡ functions_of defs) where
  abbrev L : ClosedLayer
  L = on_disk d functions layer

  -- the block without what is known of its names
  abbrev pub typed : IsTypedOver defs (disk_operations d) b
  typed = record {
    scope = t.scope;
    shape = t.shape;
    lower_is = t.lower_is;
    defs_is = t.defs_is;
    without_errors = t.without_errors;
    kept = t.kept;
  }

  -- what the values that a run begins with are worth under a valuation that fits
  pub record Begun (inputs : Inputs) (v : Values) (x : Values3) : Type 0 where
    pub vars_fit : env_fits vars (low_worth v vars x.vars) ≡ true
    pub low_fit : env_fits (tables_of d) (low_worth v (tables_of d) x.low) ≡ true
    pub good : Agrees functions t.scope (plain (low_worth v vars x.vars ++ low_worth v args x.args))
    pub agreed : Agrees (functions_of defs) t.scope (plain (worths v (sym_bind vars x.vars) ++ worths v (sym_bind args x.args)))

  pub begun : (inputs : Inputs) (v : Values) (x : Values3) (nodes : List Node) → Begins kinds defs (OnDisk d) L b vars args nodes x → Fits inputs v nodes →
      Begun inputs v x
  begun inputs v x nodes begins h =
      let given = values_worth inputs v nodes args x.args h begins.args_are in
      let good = t.agrees (map (worth v) x.vars) (map (worth v) x.args) (values_worth inputs v nodes vars x.vars h begins.vars_are) given in
      let bound : low_worth v vars x.vars ++ low_worth v args x.args ≡ worths v (sym_bind vars x.vars) ++ worths v (sym_bind args x.args) =
      ap (λ e. e ++ low_worth v args x.args) (sym (bound_worth inputs v kinds vars x.vars))
      ∙ ap (λ e. worths v (sym_bind vars x.vars) ++ e) (sym (bound_worth inputs v kinds args x.args)) in
      record {
        vars_fit = low_fits inputs v nodes vars x.vars h begins.vars_are;
        low_fit = low_fits inputs v nodes (tables_of d) x.low h begins.low_are;
        good = good;
        agreed = subst (λ e. Agrees (functions_of defs) t.scope (plain e)) bound
            (subst (λ f. Agrees f t.scope (plain (low_worth v vars x.vars ++ low_worth v args x.args))) same good);
      }

  -- a typed block over names of the declared shapes
  pub typed_block : (memory given : Env) → Agrees functions t.scope (plain (memory ++ given)) → IsTypedBlock L (disk_operations d) b (memory ++ given)
  typed_block memory given good = record {
    scope = t.scope;
    shape = t.shape;
    lower_is = t.lower_is;
    agrees = good;
    without_errors = t.without_errors;
    kept = t.kept;
  }

  -- what stands under a valuation that makes the values that a run begins with these
  pub record Stands (memory given low : Env) : Type 0 where
    pub good : Agrees functions t.scope (plain (memory ++ given))
    pub sized : env_fits (tables_of d) low ≡ true

  pub stands : (inputs : Inputs) (v : Values) (x : Values3) (memory given low : Env) → Begun inputs v x →
      AreWorth kinds defs (OnDisk d) L b vars args v x memory given low → Stands memory given low
  stands inputs v x memory given low s worth = record {
    good = subst (λ e. Agrees functions t.scope (plain (e ++ given))) worth.vars_is
        (subst (λ e. Agrees functions t.scope (plain (low_worth v vars x.vars ++ e))) worth.args_is s.good);
    sized = subst (λ e. env_fits (tables_of d) e ≡ true) worth.low_is s.low_fit;
  }

-- the block over a layer on the disk
abbrev pub typed_on : (defs : List Def) (d : DiskText) (L : ClosedLayer) (b : Block) (vars args : List Declared) →
    BlockTyped defs L Impl (disk_operations d) b vars args → BlockTyped defs (on_disk d L.functions L.layer) Impl (disk_operations d) b vars args
typed_on defs d L b vars args t = record {
  scope = t.scope;
  shape = t.shape;
  lower_is = t.lower_is;
  defs_is = t.defs_is;
  without_errors = t.without_errors;
  kept = t.kept;
  agrees = t.agrees;
}
