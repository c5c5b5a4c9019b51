-- A block of a specification may be run on choices alone, and what it leaves stands.
use Rattle.std.proofs.Common.{◌≡◌, suc, reverse, List, [], ◌∷◌, ◌++◌, length, map, Option, IsTrue, refl, sym, ap, ◌∙◌, subst}
use Rattle.std.proofs.lemmas.List.{map-append}
use Rattle.std.proofs.lemmas.List.Elements.{All-append}
use Rattle.ygg_syntax.specs.declared.tree.Block.{Block}
use Rattle.ygg_syntax.specs.declared.tree.Declared.{Declared}
use Rattle.ygg_sym_runs.specs.ygg_type_rules.TypeErrors.{none}
use Rattle.ygg_sym_runs.specs.ygg_type_rules.Scopes.{Scope}
use Rattle.ygg_sym_runs.specs.ygg_type_rules.Definitions.{with_definitions}
use Rattle.ygg_sym_runs.specs.ygg_meaning.Environments.{Name, bind}
use Rattle.ygg_sym_runs.specs.ygg_meaning.Meaning.{Functions, functions_of}
use Rattle.ygg_sym_runs.specs.ygg_meaning.Meaning as meaning
use Rattle.ygg_sym_runs.specs.ygg_meaning_laws.Agrees.{Agrees}
use Rattle.ygg_sym_runs.specs.ygg_meaning_laws.Questions.{plain}
use Rattle.ygg_sym_runs.specs.ygg_rules.declared.rule.RuleKind.{RuleKind}
use Rattle.ygg_sym_runs.specs.ygg_bank_proofs_Meaning.{fits_fewer}
use Rattle.ygg_sym_runs.specs.ygg_bank.Nodes.{IsBank}
use Rattle.ygg_sym_runs.specs.ygg_bank.Values.{value_of}
use Rattle.ygg_sym_runs.specs.ygg_bank.declared.node.Node.{Node}
use Rattle.ygg_sym_runs.proofs.of_ygg_shape.Answered.{no_inputs, some_fit}
use Rattle.ygg_sym_runs.specs.ygg_shape_cells.Terms.{worth}
use Rattle.ygg_sym_runs.specs.ygg_shape_cells.declared.terms.SymValue.{SymValue}
use Rattle.ygg_sym_runs.specs.Names.{SymEnv, sym_bind}
use Rattle.ygg_sym_runs.specs.ExpressionMeaning.{worths}
use Rattle.ygg_sym_runs.specs.Seen.{env_of}
use Rattle.ygg_sym_runs.specs.declared.held.SymBinding.{SymBinding}
use Rattle.ygg_sym_runs.proofs.Definitions.{functions_mean}
use Rattle.ygg_sym_runs.proofs.Grows.{functions_grow}
use Rattle.ygg_sym_runs.proofs.Worths.{NameShaped}
use Rattle.ygg_sym_runs.specs.Disks.{done}
use Rattle.ygg_sym_runs.specs.Lows.{LowShaped}
use Rattle.ygg_sym_runs.proofs.Blocks.{BlockOfSpec, block_made_gives, block_made_grows, low_stands, values_worth}
use Rattle.ygg_sym_runs.proofs.Specs.{bound_worth, low_shaped}
use Rattle.ygg_sym_runs.specs.Means.{values_in}
use Rattle.ygg_sym_runs.specs.WholeReady.{CanWhole, IsWhole}
use Rattle.ygg_sym_runs.specs.Specs.{Nothing}
use Rattle.ygg_sym_spec.proofs.Bare.{block_alike}
use Rattle.ygg_sym_spec.specs.Bare.{bare}
use Rattle.ygg_sym_spec.specs.Choosing.{pick_means}
use Rattle.ygg_sym_spec.specs.Chooser.{chooser_meaning}
use Rattle.ygg_sym_spec.specs.Layers.{CanBlock, block_of, closed, terms_in}
use Rattle.ygg_sym_spec.specs.Picking.{bit_at, picking}
use Rattle.ygg_sym_spec.specs.declared.layer.SymLayer.{SymLayer}
use Rattle.ygg_sym_spec.specs.declared.picks.SymPicks.{SymPicks}

-- there are as many values as declared names
pub lows_count : (nodes : List Node) (ds : List Declared) (xs : List SymValue) → LowShaped nodes ds xs → length ds ≡ length xs
lows_count nodes [] [] h = refl
lows_count nodes [] (x ∷ xs) h = absurd h
lows_count nodes (d ∷ ds) [] h = absurd h
lows_count nodes (d ∷ ds) (x ∷ xs) h = ap suc (lows_count nodes ds xs h.1)

bare_agrees : (functions : Functions) (scope : Scope) (env : meaning.Scope) → Agrees functions scope env → Agrees functions (bare scope) env
bare_agrees functions scope env a = record {
  names = λ name l h. a.names name l h;
  taken = λ name h. a.taken name h;
  low = λ name known h. a.low name known h;
  defs = λ name d h. a.defs name d h;
  lower = λ name o h. absurd (cc);
}

module _ (l : SymLayer) (p : SymPicks) (nodes : List Node) (b : Block) (vars : List SymValue) (args : List Declared) (values : List SymValue)
    (can : CanBlock l p nodes b vars args values) where
  -- the names that the block sees
  abbrev names_of : SymEnv
  names_of = sym_bind (l.layer.now).state vars ++ sym_bind args values

  pub can_whole : (env : SymEnv) → env ≡ names_of → CanWhole (chooser_meaning (record { picks = p })) l.defs.now b nodes env tt
  can_whole env e =
      let typed = (can.typed).block in
      let state = (l.layer.now).state in
      subst (λ z. CanWhole (chooser_meaning (record { picks = p })) l.defs.now b nodes z tt) (sym e) (record {
        scope = bare typed.scope;
        shape = typed.shape;
        names = record {
          sound = can.sound;
          defs_is = typed.defs_is;
          lower_is = refl;
          shaped = All-append (NameShaped nodes) (sym_bind state vars) (sym_bind args values)
              (low_shaped no_inputs (value_of no_inputs nodes) [] state vars nodes can.vars_are)
              (low_shaped no_inputs (value_of no_inputs nodes) [] args values nodes can.args_are);
          agrees = λ inputs v h.
              let joined : worths v names_of ≡ bind state (map (worth v) vars) ++ bind args (map (worth v) values) =
              map-append (λ (b : Name × SymValue). (b.0, worth v b.1)) (sym_bind state vars) (sym_bind args values)
              ∙ ap (λ z. z ++ worths v (sym_bind args values)) (bound_worth inputs v [] state vars)
              ∙ ap (λ z. bind state (map (worth v) vars) ++ z) (bound_worth inputs v [] args values) in
              bare_agrees (functions_of l.defs.now) typed.scope (plain (worths v names_of))
              (subst (λ z. Agrees (functions_of l.defs.now) typed.scope (plain z)) (sym joined)
              (typed.agrees (map (worth v) vars) (map (worth v) values) (values_worth inputs v nodes state vars h can.vars_are)
              (values_worth inputs v nodes args values h can.args_are)));
        };
        stands = record { serves = tt; has = tt; single = can.single };
        without_errors = subst (λ z. IsTrue (none z)) (sym (block_alike b typed.shape typed.kept typed.scope)) typed.without_errors;
        keeps = typed.kept;
      })

  -- what the block leaves has the declared shapes
  pub block_shaped : (kinds : List RuleKind) → let out = block_of kinds l p b vars args values nodes in IsBank out.nodes →
      LowShaped out.nodes (l.layer.now).state out.value.to
  block_shaped kinds bank =
      let defs = l.defs.now in
      let ds = with_definitions defs [] in
      let m = closed l in
      let terms = terms_in kinds l in
      let grow = functions_grow kinds (reverse defs) in
      let out = block_of kinds l p b vars args values nodes in
      let v = value_of no_inputs out.nodes in
      let h = some_fit out.nodes bank in
      let mean = functions_mean no_inputs v kinds defs can.sound in
      let pick = picking kinds p in
      let bits = bit_at no_inputs p in
      let picks = pick_means no_inputs v kinds p in
      let typed = (can.typed).block in
      let grows = block_made_grows no_inputs v kinds ds m terms grow mean pick bits picks b vars (sym_bind args values) nodes in
      let before = fits_fewer no_inputs v nodes out.nodes grows h in
      let fit = values_worth no_inputs v nodes args values before can.args_are in
      let there : BlockOfSpec ds m b typed.shape args = record {
        scope = typed.scope;
        defs_is = typed.defs_is;
        without_errors = typed.without_errors;
        kept = typed.kept;
        agrees = typed.agrees;
      } in
      let is = block_made_gives no_inputs v kinds ds m terms grow mean pick bits picks b typed.shape args there vars values nodes fit
      (low_stands no_inputs v nodes args values can.args_are) can.vars_are h in
      is.has

  -- so it is of what a whole run leaves
  pub block_left : (kinds : List RuleKind) (new : List Node) (answer : Option SymValue) (items slice : List SymBinding) (to : Nothing) (left : List SymValue) →
      IsBank new →
      IsWhole (chooser_meaning (record { picks = p })) l.defs.now kinds b (sym_bind (l.layer.now).state vars) (sym_bind args values) tt nodes answer
      (env_of items) to new →
      left ≡ values_in (env_of slice) → slice ≡ items → LowShaped new (l.layer.now).state left
  block_left kinds new answer items slice to left bank w e f =
      let out = block_of kinds l p b vars args values nodes in
      let same : left ≡ out.value.to = e ∙ ap (λ z. values_in (env_of z)) f ∙ ap values_in w.leaves in
      let shaped = block_shaped kinds (subst IsBank w.nodes bank) in
      subst (λ z. LowShaped z (l.layer.now).state left) (sym w.nodes) (subst (LowShaped out.nodes (l.layer.now).state) (sym same) shaped)

  -- and this is what the block leaves
  pub block_form : (kinds : List RuleKind) (new : List Node) (answer : Option SymValue) (items slice : List SymBinding) (to : Nothing) (left : List SymValue) →
      IsWhole (chooser_meaning (record { picks = p })) l.defs.now kinds b (sym_bind (l.layer.now).state vars) (sym_bind args values) tt nodes answer
      (env_of items) to new →
      left ≡ values_in (env_of slice) → slice ≡ items → done answer left ≡ (block_of kinds l p b vars args values nodes).value
  block_form kinds new answer items slice to left w e f =
      let out = block_of kinds l p b vars args values nodes in
      let same : left ≡ out.value.to = e ∙ ap (λ z. values_in (env_of z)) f ∙ ap values_in w.leaves in
      ap (λ z. done z left) w.answered ∙ ap (λ z. done out.value.answer z) same

-- how many names are put for declared values
pub bound_count : (nodes : List Node) (ds : List Declared) (xs : List SymValue) → LowShaped nodes ds xs → length (sym_bind ds xs) ≡ length xs
bound_count nodes [] [] h = refl
bound_count nodes [] (x ∷ xs) h = absurd h
bound_count nodes (d ∷ ds) [] h = absurd h
bound_count nodes (d ∷ ds) (x ∷ xs) h = ap suc (bound_count nodes ds xs h.1)

-- the names that were put one after another
pub first_names : (start : List SymBinding) (one : SymEnv) (ds these : List Declared) (xs those : List SymValue) → start ≡ [] →
    one ≡ env_of start ++ sym_bind these those → these ≡ ds → those ≡ xs → one ≡ sym_bind ds xs
first_names start one ds these xs those e f g h =
    f ∙ ap (λ z. env_of z ++ sym_bind these those) e ∙ ap (λ z. sym_bind z those) g ∙ ap (λ z. sym_bind ds z) h

pub all_names : (one two : SymEnv) (ds args : List Declared) (xs values : List SymValue) → one ≡ sym_bind ds xs → two ≡ one ++ sym_bind args values →
    two ≡ sym_bind ds xs ++ sym_bind args values
all_names one two ds args xs values e f = f ∙ ap (λ z. z ++ sym_bind args values) e
