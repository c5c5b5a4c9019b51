-- Power loss between operations on a specification over terms, and its start.
use Rattle.std.proofs.Common.{◌≡◌, ◌<◌, ◌+◌, ℕ, Bool, true, false, List, [], ◌∷◌, ◌++◌, All, Some, refl, sym, ap, ◌∙◌, subst, arith}
use Rattle.std.proofs.lemmas.List.{append-nil}
use Rattle.std.proofs.lemmas.List.Elements.{All-nil, All-head, All-tail}
use Rattle.ygg_value.specs.Shapes.{IsShape}
use Rattle.ygg_value.specs.Words.{word, bit_of}
use Rattle.ygg_syntax.specs.declared.tree.Declared.{Declared}
use Rattle.ygg_syntax.specs.declared.tree.Def.{Def}
use Rattle.ygg_syntax.specs.declared.tree.Layer.{Layer}
use Rattle.ygg_sym_laws.specs.ygg_type_rules.TypeErrors.{none}
use Rattle.ygg_sym_laws.specs.ygg_type_rules.Definitions.{definitions_errors}
use Rattle.ygg_sym_laws.specs.ygg_meaning.Environments.{Env}
use Rattle.ygg_sym_laws.specs.ygg_meaning.Meaning.{Functions}
use Rattle.ygg_sym_laws.specs.ygg_meaning.Shapes.{shape_in, env_fits, zeros_of}
use Rattle.ygg_sym_laws.specs.ygg_meaning.Machine.{Picks, State, based}
use Rattle.ygg_sym_laws.specs.ygg_meaning.Layer.{ClosedLayer}
use Rattle.ygg_sym_laws.specs.ygg_meaning.Refines.{OnSpec}
use Rattle.ygg_sym_laws.specs.ygg_meaning.Spec.{Outcome, SpecLoses, SpecStarts, Spec}
use Rattle.ygg_sym_laws.specs.ygg_rules.declared.rule.RuleKind.{RuleKind}
use Rattle.ygg_sym_laws.specs.ygg_bank_proofs_Meaning.{fits_fewer}
use Rattle.ygg_sym_laws.specs.ygg_bank_proofs_Widths.{extends_both}
use Rattle.ygg_sym_laws.specs.ygg_bank.Inputs.{InputsBelow}
use Rattle.ygg_sym_laws.specs.ygg_bank.Makes.{Out}
use Rattle.ygg_sym_laws.specs.ygg_bank.Values.{Inputs, Values, Fits}
use Rattle.ygg_sym_laws.specs.ygg_bank.declared.node.Node.{Node}
use Rattle.ygg_sym_laws.specs.ygg_bank.declared.node.Node.TheVariants.{Const}
use Rattle.ygg_sym_laws.specs.ygg_shape_words_proofs_Keeps.{inputs_stay}
use Rattle.ygg_sym_laws.specs.ygg_shape_cells.declared.terms.SymValue.{SymValue}
use Rattle.ygg_sym_laws.specs.ygg_meaning_laws.Acts.{next_of, Taken}
use Rattle.ygg_sym_laws.specs.ygg_meaning_laws.Places.{left_after}
use Rattle.ygg_sym_laws.specs.ygg_meaning_laws.SpecActs.{Ran, block_ran}
use Rattle.ygg_sym_laws.specs.ygg_meaning_laws_proofs_Placing.{taken_self}
use Rattle.ygg_sym_laws.proofs.of_ygg_meaning_laws.SpecActed.{block_whole}
use Rattle.ygg_sym_laws.specs.ygg_meaning_laws_proofs_SpecServes.{ran_alone}
use Rattle.ygg_sym_laws.specs.ygg_sym_runs.ExpressionMeaning.{SomeShape, Grows}
use Rattle.ygg_sym_laws.specs.Laws.{picked_by}
use Rattle.ygg_sym_laws.specs.Lows.{LowShaped, low_worth}
use Rattle.ygg_sym_laws.specs.SpecCuts.{fall_room}
use Rattle.ygg_sym_laws.specs.Specs.{input_pick, given_pick}
use Rattle.ygg_sym_laws.proofs.Blocks.{block_made_grows, block_made_gives}
use Rattle.ygg_sym_laws.proofs.Chosen.{Decided, block_end, fronts, backs}
use Rattle.ygg_sym_laws.proofs.Lows.{low_fits}
use Rattle.ygg_sym_laws.proofs.MadeInputs.{fresh_below, terms_below}
use Rattle.ygg_sym_laws.proofs.SpecFalls.{crash_end}
use Rattle.ygg_sym_laws.proofs.SpecKeeps.{block_keeps, lose_keeps}
use Rattle.ygg_sym_laws.proofs.Specs.{input_pick_means, given_pick_means}
use Rattle.ygg_sym_laws.proofs.SpecStops.{crash_grows, crash_gives}
use Rattle.ygg_sym_laws.specs.Below.{zeros_made, lost_made, lows_at_start}
use Rattle.ygg_sym_laws.specs.Typed.{SpecTyped}
use Rattle.ygg_sym_laws.specs.Means.{LossMeans, StartMeans}
use Rattle.ygg_sym_runs.proofs.DeclaredZeros.{AreShapes, zeros_made_grow, zeros_made_keep, zeros_give}
use Rattle.ygg_sym_laws.proofs.SpecBegun.{terms, names, grow, mean_of, block_of, falls_typed}

all_taken : (past : Bool) (taken : Picks) → Taken past taken taken []
all_taken past taken = subst (λ ps. Taken past taken ps []) (append-nil taken) (taken_self past taken [])

shapes_kept : (ds : List Declared) → All (λ (d : Declared). IsShape (shape_in d.shape)) ds → AreShapes ds
shapes_kept [] p = tt
shapes_kept (d ∷ ds) p =
    (All-head (λ (d : Declared). IsShape (shape_in d.shape)) d ds p, shapes_kept ds (All-tail (λ (d : Declared). IsShape (shape_in d.shape)) d ds p))

module _ (kinds : List RuleKind) (defs : List Def) (sound : none (definitions_errors defs [] []) ≡ true) (m : ClosedLayer) (spec : SpecTyped defs m)
    (functions : Functions) (layer : Layer) where
  abbrev layer_on : ClosedLayer
  layer_on = record { functions = functions; layer = layer; low = m.layer.state }

  abbrev lost : ℕ → List SymValue → List Node → Out (List SymValue)
  lost last low nodes = lost_made kinds (terms kinds defs) (OnSpec m) last low nodes

  loss_grows : (last : ℕ) (low : List SymValue) → Grows (lost_made kinds (terms kinds defs) (OnSpec m) last low)
  loss_grows last low nodes =
      let inputs : Inputs = λ n. 0 in
      let v : Values = λ n. word 1 0 in
      crash_grows inputs v kinds (names kinds defs) m (terms kinds defs) (grow kinds defs) (mean_of kinds defs sound m spec inputs v) (input_pick kinds last)
      (picked_by inputs last) (input_pick_means inputs v kinds last) low nodes

  record Lost (inputs : Inputs) (v : Values) (last : ℕ) (low : List SymValue) (nodes : List Node) : Type 0 where
    has : LowShaped (lost last low nodes).nodes m.layer.state (lost last low nodes).value
    is : low_worth v m.layer.state (lost last low nodes).value ≡ crash_end m (picked_by inputs last) (low_worth v m.layer.state low)

  lost_is : (inputs : Inputs) (v : Values) (last : ℕ) (low : List SymValue) (nodes : List Node) → LowShaped nodes m.layer.state low →
      Fits inputs v (lost last low nodes).nodes → Lost inputs v last low nodes
  lost_is inputs v last low nodes p h =
      let c = crash_gives inputs v kinds (names kinds defs) m (terms kinds defs) (grow kinds defs) (mean_of kinds defs sound m spec inputs v)
      (falls_typed kinds defs sound m spec) (input_pick kinds last) (picked_by inputs last) (input_pick_means inputs v kinds last) low nodes p h in
      record { has = c.has; is = c.is }

  -- what the picks of places leave, power may leave
  loses : (bits : ℕ → Bool) (vars : Env) → env_fits m.layer.state vars ≡ true → (taken : Picks) × (Spec m).Loses (based vars) taken (crash_end m bits vars)
  loses bits vars shaped =
      let f = fronts m false bits m.layer.crash vars [] in
      let r = block_ran false m m.layer.crash vars [] (f.picks ++ []) in
      let step : SpecLoses m (based vars) r.taken r.vars = record {
        vars = vars;
        from_is = refl;
        shaped = shaped;
        answer = r.answer;
        gives = ran_alone false m m.layer.crash vars [] (f.picks ++ []);
      } in
      (r.taken, subst (λ (e : Env). SpecLoses m (based vars) r.taken e) (ap (λ (x : Ran). x.vars) (f.is [])) step)

  -- whatever power leaves, some picks of places leave it
  loses_back : (base fallen : Env) (taken : Picks) → (Spec m).Loses (based base) taken fallen → Decided (fall_room m) (λ g. crash_end m g base ≡ fallen)
  loses_back base fallen taken l =
      let same : base ≡ l.vars = ap (λ (s : State Env). s.base) l.from_is in
      let ran = block_whole false m m.layer.crash l.vars [] taken taken [] fallen l.answer l.gives (all_taken false taken) in
      let d = backs m false m.layer.crash base [] taken in
      record {
        bits = d.bits;
        holds = λ g agree.
            let e = d.holds g (λ k less. let more : k < fall_room m = omega (arith, less) in agree k more) in
            e.0 ∙ ap (λ (z : Env). (block_ran false m m.layer.crash z [] taken).vars) same ∙ ap (λ (x : Ran). x.vars) ran;
      }

  pub loss_means : LossMeans kinds defs (OnSpec m) layer_on
  loss_means = record {
    after = λ inputs v last low nodes p h. (lost_is inputs v last low nodes p h).has;
    sound = λ inputs v last low nodes p h.
        let l = lost_is inputs v last low nodes p h in
        let fits = fits_fewer inputs v nodes (lost last low nodes).nodes (loss_grows last low nodes) h in
        let before = low_worth v m.layer.state low in
        let s = loses (picked_by inputs last) before (low_fits inputs v nodes m.layer.state low fits p) in
        (s.0, subst (λ (e : Env). (Spec m).Loses (based before) s.0 e) (sym l.is) s.1);
    back = λ base fallen taken shaped l.
        let d = loses_back base fallen taken l in (
          d.bits,
          λ inputs v last low nodes p h before are.
              (lost_is inputs v last low nodes p h).is ∙ ap (crash_end m (picked_by inputs last)) before ∙ d.holds (picked_by inputs last) are,
        );
    grows = λ last low nodes. loss_grows last low nodes;
    inputs_below = λ last next low nodes p l.
        lose_keeps kinds (InputsBelow next) (inputs_stay kinds next) (terms kinds defs) (terms_below kinds defs next) m (input_pick kinds last)
        (λ k less. fresh_below kinds (last + k) next (omega (arith, l, less))) low nodes p;
  }

  -- the bits of no picks
  abbrev unset : ℕ → Bool
  unset i = next_of false (left_after i [])

  abbrev started : List Node → Out (List SymValue)
  started nodes = lows_at_start kinds (terms kinds defs) (OnSpec m) nodes

  start_grows : Grows (lows_at_start kinds (terms kinds defs) (OnSpec m))
  start_grows nodes =
      let inputs : Inputs = λ n. 0 in
      let v : Values = λ n. word 1 0 in
      let z = zeros_made kinds m.layer.state nodes in
      extends_both nodes z.nodes (started nodes).nodes (zeros_made_grow kinds m.layer.state nodes)
      (block_made_grows inputs v kinds (names kinds defs) m (terms kinds defs) (grow kinds defs) (mean_of kinds defs sound m spec inputs v)
      (given_pick kinds []) unset (given_pick_means inputs v kinds []) m.layer.start z.value [] z.nodes)

  -- the start state
  record Started (inputs : Inputs) (v : Values) (nodes : List Node) : Type 0 where
    has : LowShaped (started nodes).nodes m.layer.state (started nodes).value
    is : low_worth v m.layer.state (started nodes).value ≡ (block_end m unset m.layer.start (zeros_of m.layer.state) []).vars

  start_is : (inputs : Inputs) (v : Values) (nodes : List Node) → Fits inputs v (started nodes).nodes → Started inputs v nodes
  start_is inputs v nodes h =
      let mean = mean_of kinds defs sound m spec inputs v in
      let z = zeros_made kinds m.layer.state nodes in
      let given = given_pick_means inputs v kinds [] in
      let g = block_made_grows inputs v kinds (names kinds defs) m (terms kinds defs) (grow kinds defs) mean (given_pick kinds []) unset given m.layer.start
      z.value [] z.nodes in
      let zeros = zeros_give kinds inputs v m.layer.state nodes (shapes_kept m.layer.state spec.limits)
      (fits_fewer inputs v z.nodes (started nodes).nodes g h) in
      let block = block_of kinds defs sound m spec m.layer.start [] spec.start in
      let b = block_made_gives inputs v kinds (names kinds defs) m (terms kinds defs) (grow kinds defs) mean (given_pick kinds []) unset given m.layer.start
      block.shape [] block.typed z.value [] z.nodes refl (All-nil (SomeShape z.nodes)) zeros.has h in
      record { has = b.has; is = b.is ∙ ap (λ (e : Env). (block_end m unset m.layer.start e []).vars) zeros.is }

  -- a start state is what the `start` block leaves
  ends_there : (s : State Env) (k : SpecStarts m s) → (block_end m unset m.layer.start (zeros_of m.layer.state) []).vars ≡ k.vars
  ends_there s k =
      let zeros = zeros_of m.layer.state in
      let f = fronts m false unset m.layer.start zeros [] in
      let ran = block_whole false m m.layer.start zeros [] [] (f.picks ++ []) (f.picks ++ []) k.vars k.answer k.gives refl in
      ap (λ (x : Ran). x.vars) (sym (f.is []) ∙ ran)

  pub start_means : StartMeans kinds defs (OnSpec m) layer_on
  start_means = record {
    after = λ inputs v nodes h. (start_is inputs v nodes h).has;
    sound = λ inputs v nodes h.
        let s = spec.answers.starts in
        let start = s.starts in
        let k = start.1 in
        let out = low_worth v m.layer.state (started nodes).value in
        let same : k.vars ≡ out = sym (ends_there s.state k) ∙ sym (start_is inputs v nodes h).is in
        let step : SpecStarts m (based out) = record {
          vars = out;
          answer = k.answer;
          gives = k.gives ∙ ap (λ (e : Env). Some (let o : Outcome = record { vars = e; answer = k.answer; left = [] } in o)) same;
          to_is = refl;
        } in
        ([], (refl, step));
    back = λ s taken start inputs v nodes h.
        let k = start.1 in k.to_is ∙ ap (λ (e : Env). based e) (sym (ends_there s k) ∙ sym (start_is inputs v nodes h).is);
    grows = λ nodes. start_grows nodes;
    inputs_below = λ next nodes p.
        let z = zeros_made kinds m.layer.state nodes in
        block_keeps kinds (InputsBelow next) (inputs_stay kinds next) (terms kinds defs) (terms_below kinds defs next) m (given_pick kinds []) m.layer.start
        (λ k less more q. inputs_stay kinds next (Const (word 1 (bit_of (unset k)))) more tt q) z.value [] z.nodes
        (zeros_made_keep kinds (InputsBelow next) (inputs_stay kinds next) m.layer.state nodes p);
  }
