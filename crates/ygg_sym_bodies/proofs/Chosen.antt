-- Whole runs over terms of a block that runs on no machine.
use Rattle.std.proofs.Common.{◌≡◌, ℕ, Bool, true, false, List, [], reverse, Some, refl, sym, ap, ◌∙◌, subst}
use Rattle.std.proofs.lemmas.List.{append-nil}
use Rattle.ygg_syntax.specs.declared.tree.Block.{Block}
use Rattle.ygg_syntax.specs.declared.tree.Declared.{Declared}
use Rattle.ygg_syntax.specs.declared.tree.Def.{Def}
use Rattle.ygg_type_rules.specs.Names.{Named}
use Rattle.ygg_type_rules.specs.Definitions.{definitions_errors, with_definitions}
use Rattle.ygg_type_rules.specs.TypeErrors.{none}
use Rattle.ygg_type_rules.specs.declared.scope.Signature.{Signature}
use Rattle.ygg_meaning.specs.Environments.{Env}
use Rattle.ygg_meaning.specs.Layer.{ClosedLayer}
use Rattle.ygg_meaning.specs.Machine.{Picks, State, on, based}
use Rattle.ygg_meaning.specs.Meaning.{functions_of}
use Rattle.ygg_meaning.specs.Progress.{Answer}
use Rattle.ygg_meaning.specs.Refines.{Below}
use Rattle.ygg_meaning.specs.Spec.{Outcome, block_outcome, chosen as answers}
use Rattle.ygg_rules.specs.declared.rule.RuleKind.{RuleKind}
use Rattle.ygg_bank.proofs.Meaning.{fits_fewer}
use Rattle.ygg_bank.specs.Makes.{Make}
use Rattle.ygg_bank.specs.Values.{Inputs, Values, Fits}
use Rattle.ygg_bank.specs.declared.node.Id.{Id}
use Rattle.ygg_bank.specs.declared.node.Node.{Node}
use Rattle.ygg_meaning_laws.specs.Acts.{Taken}
use Rattle.ygg_meaning_laws.specs.SpecActs.{Ran, block_ran}
use Rattle.ygg_meaning_laws.proofs.Placing.{taken_self}
use Rattle.ygg_meaning_laws.proofs.SpecActed.{block_whole}
use Rattle.ygg_meaning_laws.proofs.SpecServes.{ran_alone}
use Rattle.ygg_sym_runs.specs.ExpressionMeaning.{Grows}
use Rattle.ygg_sym_runs.specs.Names.{sym_bind}
use Rattle.ygg_sym_runs.specs.Meaning.{AnswerShaped, answer_worth}
use Rattle.ygg_sym_runs.specs.Lows.{low_worth}
use Rattle.ygg_sym_runs.specs.SpecCuts.{choice_room}
use Rattle.ygg_sym_runs.proofs.Blocks.{BlockOfSpec, block_made_gives, block_made_grows, low_stands, values_worth}
use Rattle.ygg_sym_runs.proofs.Chosen.{backs, block_end}
use Rattle.ygg_sym_runs.proofs.Specs.{PickMeans}
use Rattle.ygg_sym_runs.proofs.Definitions.{functions_mean}
use Rattle.ygg_sym_runs.proofs.Grows.{FunctionsGrow, functions_grow}
use Rattle.ygg_sym_runs.proofs.Values.{FunctionsMean}
use Rattle.ygg_sym_laws.specs.Means.{terms_of}
use Rattle.ygg_sym_laws.specs.Typed.{SpecBlockTyped}
use Rattle.ygg_sym_laws.specs.Taking.{block_takes}
use Rattle.ygg_sym_laws.proofs.Spec.{block_named}
use Rattle.ygg_sym_bodies.specs.Runs.{Ending, chosen}
use Rattle.ygg_sym_bodies.specs.Sites.{IsShaped, Site}
use Rattle.ygg_sym_bodies.specs.Worths.{Chooses, SameBits, args_worth, vars_worth}
use Rattle.ygg_sym_bodies.specs.declared.state.SymState.{SymState}

all_taken : (taken : Picks) → Taken false taken taken []
all_taken taken = subst (λ ps. Taken false taken ps []) (append-nil taken) (taken_self false taken [])

-- a block with the picks of places ends as it does with those that it takes, from the front
pub ends_named : (L : ClosedLayer) (bits : ℕ → Bool) (b : Block) (vars args : Env) →
    block_outcome L b vars args (answers (block_takes L bits b vars args))
    ≡ Some (record { vars = (block_end L bits b vars args).vars; answer = (block_end L bits b vars args).answer; left = [] })
ends_named L bits b vars args =
    let picks = block_takes L bits b vars args in
    let end = block_end L bits b vars args in
    let ran : block_ran false L b vars args picks ≡ record { vars = end.vars; answer = end.answer; taken = picks; left = [] } =
    ap (block_ran false L b vars args) (sym (append-nil picks)) ∙ block_named L bits b vars args [] in
    let alone = ran_alone false L b vars args picks in
    subst (λ (r : Ran). block_outcome L b vars args (answers r.taken) ≡ Some (record { vars = r.vars; answer = r.answer; left = [] })) ran alone

module _ (kinds : List RuleKind) (defs : List Def) (G : Below) (L : ClosedLayer) (b : Block) (args : List Declared)
    (sound : none (definitions_errors defs [] []) ≡ true) (same : L.functions ≡ functions_of defs) (t : SpecBlockTyped defs L b args) where
  abbrev pub site : Site
  site = record { defs = defs; below = G; layer = L; block = b; vars = L.layer.state; args = args; calls = false }

  abbrev grow : FunctionsGrow (terms_of kinds defs)
  grow = functions_grow kinds (reverse defs)

  abbrev names : Named Signature
  names = with_definitions defs []

  meant : (inputs : Inputs) (v : Values) → FunctionsMean inputs v kinds names L.functions (terms_of kinds defs) grow
  meant inputs v = subst (λ f. FunctionsMean inputs v kinds names f (terms_of kinds defs) grow) (sym same)
      (functions_mean inputs v kinds defs sound)

  block : BlockOfSpec names L b (t.block).shape args
  block = record {
    scope = (t.block).scope;
    defs_is = (t.block).defs_is;
    without_errors = (t.block).without_errors;
    kept = (t.block).kept;
    agrees = (t.block).agrees;
  }

  module _ (from : SymState) (pick : ℕ → Make Id) (one : Id) where
    module _ (inputs : Inputs) (v : Values) (bits : ℕ → Bool) (picks : PickMeans inputs v pick bits) where
      pub chosen_grows : Grows (chosen kinds site from pick one)
      chosen_grows nodes =
          block_made_grows inputs v kinds names L (terms_of kinds defs) grow (meant inputs v) pick bits picks b from.vars
          (sym_bind args from.args) nodes

      -- what it leaves is worth the block's end with the bits of these picks
      pub record ChosenIs (nodes : List Node) (e : Ending) : Type 0 where
        pub shaped : AnswerShaped nodes e.answer
        pub answer : answer_worth v e.answer ≡ (block_end L bits b (vars_worth v site from) (args_worth v site from)).answer
        pub vars : low_worth v L.layer.state e.vars ≡ (block_end L bits b (vars_worth v site from) (args_worth v site from)).vars
        pub low : e.low ≡ from.low
        pub reached : e.reached ≡ one

      pub chosen_is : (nodes : List Node) → IsShaped site nodes from → let out = chosen kinds site from pick one nodes in
          Fits inputs v out.nodes → ChosenIs out.nodes out.value
      chosen_is nodes shaped h =
          let out = chosen kinds site from pick one nodes in
          let before = fits_fewer inputs v nodes out.nodes (chosen_grows nodes) h in
          let is = block_made_gives inputs v kinds names L (terms_of kinds defs) grow (meant inputs v) pick bits picks b (t.block).shape
          args block from.vars from.args nodes (values_worth inputs v nodes args from.args before shaped.args)
          (low_stands inputs v nodes args from.args shaped.args) shaped.vars h in
          record { shaped = is.shaped; answer = is.answer; vars = is.is; low = refl; reached = refl }

  -- a run that ends so with the bits of places
  pub named_so : (vars given low : Env) (bits : ℕ → Bool) (answer : Answer) (left : Env) →
      answer ≡ (block_end L bits b vars given).answer → left ≡ (block_end L bits b vars given).vars →
      Chooses site vars given low (block_takes L bits b vars given) answer (on left (based low))
  named_so vars given low bits answer left a e = record {
    vars' = left;
    gives = ends_named L bits b vars given
        ∙ ap (λ (x : Env). Some (let z : Outcome = record { vars = x; answer = (block_end L bits b vars given).answer; left = [] } in z)) (sym e)
        ∙ ap (λ (y : Answer). Some (let z : Outcome = record { vars = left; answer = y; left = [] } in z)) (sym a);
    to_is = refl;
  }

  -- each run, with certain bits of places
  pub record Any (vars given low : Env) (answer : Answer) (to : State Env) : Type 0 where
    pub bits : ℕ → Bool
    pub ends : (others : ℕ → Bool) → SameBits (choice_room b) others bits →
        ((block_end L others b vars given).answer ≡ answer) × (on (block_end L others b vars given).vars (based low) ≡ to)

  pub any_so : (vars given low : Env) (picks : Picks) (answer : Answer) (to : State Env) → Chooses site vars given low picks answer to →
      Any vars given low answer to
  any_so vars given low picks answer to run =
      let ran = block_whole false L b vars given picks picks [] run.vars' answer run.gives (all_taken picks) in
      let d = backs L false b vars given picks in
      record {
        bits = d.bits;
        ends = λ others same.
            let e = d.holds others same in (
              e.1 ∙ ap (λ (x : Ran). x.answer) ran,
              ap (λ (x : Env). on x (based low)) (e.0 ∙ ap (λ (x : Ran). x.vars) ran) ∙ sym run.to_is,
            );
      }
