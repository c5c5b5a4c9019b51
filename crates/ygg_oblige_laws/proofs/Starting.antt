-- The states that obligations begin with.
use Rattle.std.proofs.Common.{◌≡◌, ◌&&◌, ◌+◌, ℕ, true, List, [], ◌∷◌, map, refl, sym, ap, ◌∙◌, subst, arith}
use Rattle.std.proofs.lemmas.Bool.{and_from as both_of}
use Rattle.ygg_syntax.specs.declared.tree.Declared.{Declared}
use Rattle.ygg_syntax.specs.declared.tree.Def.{Def}
use Rattle.ygg_sym_laws.specs.ygg_meaning.Environments.{bind}
use Rattle.ygg_sym_laws.specs.ygg_meaning.Layer.{ClosedLayer}
use Rattle.ygg_sym_laws.specs.ygg_meaning.Refines.{Below}
use Rattle.ygg_sym_laws.specs.ygg_meaning.Related.{all_true, relations, relates, settles}
use Rattle.ygg_sym_laws.specs.ygg_meaning.Shapes.{shape_in, env_fits}
use Rattle.ygg_sym_laws.specs.ygg_rules.declared.rule.RuleKind.{RuleKind}
use Rattle.ygg_sym_laws.specs.ygg_bank_proofs_Meaning.{fits_fewer}
use Rattle.ygg_sym_laws.specs.ygg_bank_proofs_Widths.{wider, extends_both}
use Rattle.ygg_sym_laws.specs.ygg_bank.Inputs.{InputsBelow}
use Rattle.ygg_sym_laws.specs.ygg_bank.Nodes.{Extends}
use Rattle.ygg_sym_laws.specs.ygg_bank.Values.{Inputs, Values}
use Rattle.ygg_sym_laws.specs.ygg_bank.declared.node.Node.{Node}
use Rattle.ygg_sym_laws.specs.ygg_shape_words_proofs_Keeps.{Stays, inputs_stay}
use Rattle.ygg_sym_laws.specs.ygg_shape_cells.Terms.{worth}
use Rattle.ygg_sym_laws.specs.ygg_shape_cells.declared.terms.SymValue.{SymValue}
use Rattle.ygg_sym_laws.proofs.of_ygg_shape.Replaced.{AreTrue, value_fits, value_is}
use Rattle.ygg_sym_laws.specs.ygg_shape.Replacing.{replaced_value, AreFit}
use Rattle.ygg_sym_laws.specs.ygg_shape.declared.replacing.Replacement.{Replacement}
use Rattle.ygg_sym_laws.specs.ygg_sym_runs.Exprs.{SymFunctions}
use Rattle.ygg_sym_laws.specs.ygg_sym_runs.ExpressionMeaning.{Grows, Gives}
use Rattle.ygg_sym_laws.specs.ygg_sym_runs_proofs_Keeps.{Keeps, FunctionsKeep}
use Rattle.ygg_sym_laws.proofs.Lows.{low_wider}
use Rattle.ygg_sym_laws.specs.Lows.{LowShaped, low_worth}
use Rattle.ygg_sym_laws.specs.Means.{terms_of}
use Rattle.ygg_oblige_laws.specs.LayerTerms.{LayerTyped}
use Rattle.ygg_oblige_laws.specs.TermStates.{
  words_in,
  Trio,
  replaced_all,
  replaced_trio,
  fresh_all,
  trio_scope,
  related_made,
  settled_made,
  related_under,
  settled_under,
  fresh_trio,
  state_words,
  starting,
}
use Rattle.ygg_oblige_laws.proofs.Fresh.{all_grows, all_stand, all_below, all_gives, given_fits, stand_wider}
use Rattle.ygg_oblige_laws.proofs.Truth.{adds}
use Rattle.ygg_oblige_laws.proofs.Truths.{truths_keep, defs_keep, truths_give, related_gives, settled_gives}
use Rattle.ygg_oblige_laws.proofs.Under.{UnderSo, facts_wider, under_keep, under_after, under_gives}
use Rattle.ygg_oblige_laws.specs.Inputs.{given_env}
use Rattle.ygg_oblige_laws.specs.States.{RelatedIs, SettledIs, given_stand, StartsSo, StatesStand, StatesMeanSo, AddsNoInputs}
use Rattle.ygg_oblige_laws.specs.Worth.{TrioShaped, Stand, trio_worth}

-- values with terms in the stead of inputs keep their shapes
pub all_shaped : (nodes : List Node) (rs : List Replacement) (ds : List Declared) (xs : List SymValue) → AreFit nodes rs → LowShaped nodes ds xs →
    LowShaped nodes ds (replaced_all rs xs)
all_shaped nodes rs [] [] f p = tt
all_shaped nodes rs [] (x ∷ xs) f p = absurd p
all_shaped nodes rs (d ∷ ds) [] f p = absurd p
all_shaped nodes rs (d ∷ ds) (x ∷ xs) f p =
    let s = shape_in d.shape in
    let y = replaced_value rs x in
    let here = p.0 in (
      record {
        limits = here.limits;
        has = value_fits nodes rs s (replaced_value rs y) f (value_fits nodes rs s y f (value_fits nodes rs s x f here.has));
      },
      all_shaped nodes rs ds xs f p.1,
    )

pub trio_shaped : (L : ClosedLayer) (nodes : List Node) (rs : List Replacement) (x : Trio) → AreFit nodes rs → TrioShaped L nodes x →
    TrioShaped L nodes (replaced_trio rs x)
trio_shaped L nodes rs x f s = record {
  vars = all_shaped nodes rs L.layer.state x.vars f s.vars;
  memory = all_shaped nodes rs L.layer.memory x.memory f s.memory;
  low = all_shaped nodes rs L.low x.low f s.low;
}

pub trio_wider : (L : ClosedLayer) (old new : List Node) (x : Trio) → Extends old new → TrioShaped L old x → TrioShaped L new x
trio_wider L old new x g s = record {
  vars = low_wider old new L.layer.state x.vars g s.vars;
  memory = low_wider old new L.layer.memory x.memory g s.memory;
  low = low_wider old new L.low x.low g s.low;
}

-- where the terms have their inputs' values, they are worth what they were
all_worth : (v : Values) (rs : List Replacement) (xs : List SymValue) → AreTrue v rs → map (worth v) (replaced_all rs xs) ≡ map (worth v) xs
all_worth v rs [] t = refl
all_worth v rs (x ∷ xs) t =
    let y = replaced_value rs x in
    ap (λ z. z ∷ map (worth v) (replaced_all rs xs)) (value_is v rs (replaced_value rs y) t ∙ value_is v rs y t ∙ value_is v rs x t)
    ∙ ap (λ zs. worth v x ∷ zs) (all_worth v rs xs t)

low_same : (v : Values) (rs : List Replacement) (ds : List Declared) (xs : List SymValue) → AreTrue v rs →
    low_worth v ds (replaced_all rs xs) ≡ low_worth v ds xs
low_same v rs ds xs t = ap (bind ds) (all_worth v rs xs t)

module _ (kinds : List RuleKind) (P : List Node → Type 0) (stays : Stays kinds P) where
  module _ (terms : SymFunctions) (keep : FunctionsKeep P terms) (L : ClosedLayer) where
    pub related_keeps : (x : Trio) → Keeps P (related_made kinds terms L x)
    related_keeps x nodes p = truths_keep kinds P stays terms keep (relations L) (trio_scope kinds terms L x) nodes p

    pub settled_keeps : (low : List SymValue) → Keeps P (settled_made kinds terms L low)
    settled_keeps low nodes p = truths_keep kinds P stays terms keep L.layer.settled _ nodes p

    related_under_keeps : (x : Trio) → Keeps P (related_under kinds terms L x)
    related_under_keeps x =
        under_keep kinds P stays (related_made kinds terms L x) (λ rs. related_made kinds terms L (replaced_trio rs x)) (related_keeps x)
        (λ rs. related_keeps (replaced_trio rs x))

    settled_under_keeps : (low : List SymValue) → Keeps P (settled_under kinds terms L low)
    settled_under_keeps low =
        under_keep kinds P stays (settled_made kinds terms L low) (λ rs. settled_made kinds terms L (replaced_all rs low)) (settled_keeps low)
        (λ rs. settled_keeps (replaced_all rs low))

    -- what comes after the inputs
    tests_keep : (number : ℕ) (nodes : List Node) → P (fresh_trio kinds terms L number nodes).nodes → P (starting kinds terms L number nodes).nodes
    tests_keep number nodes p =
        let x = fresh_trio kinds terms L number nodes in
        let r = related_under kinds terms L x.value x.nodes in
        settled_under_keeps x.value.low r.nodes (related_under_keeps x.value x.nodes p)

module _ (kinds : List RuleKind) (defs : List Def) (G : Below) (L : ClosedLayer) where
  abbrev terms : SymFunctions
  terms = terms_of kinds defs

  abbrev at_memory : ℕ → ℕ
  at_memory number = number + words_in L.layer.state

  abbrev at_low : ℕ → ℕ
  at_low number = number + words_in L.layer.state + words_in L.layer.memory

  related_adds : (x : Trio) → AddsNoInputs (related_made kinds terms L x)
  related_adds x = adds kinds (related_made kinds terms L x) (λ P s. related_keeps kinds P s terms (defs_keep kinds defs P s) L x)

  settled_adds : (low : List SymValue) → AddsNoInputs (settled_made kinds terms L low)
  settled_adds low = adds kinds (settled_made kinds terms L low) (λ P s. settled_keeps kinds P s terms (defs_keep kinds defs P s) L low)

  related_grows : (x : Trio) → Grows (related_made kinds terms L x)
  related_grows x = let a = related_adds x in a.grows

  settled_grows : (low : List SymValue) → Grows (settled_made kinds terms L low)
  settled_grows low = let a = settled_adds low in a.grows

  trio_grows : (number : ℕ) → Grows (fresh_trio kinds terms L number)
  trio_grows number nodes =
      let a = fresh_all kinds number L.layer.state nodes in
      let b = fresh_all kinds (at_memory number) L.layer.memory a.nodes in
      let c = fresh_all kinds (at_low number) L.low b.nodes in
      extends_both nodes a.nodes c.nodes (all_grows kinds number L.layer.state nodes)
      (extends_both a.nodes b.nodes c.nodes (all_grows kinds (at_memory number) L.layer.memory a.nodes) (all_grows kinds (at_low number) L.low b.nodes))

  trio_stands : (number : ℕ) (nodes : List Node) → StatesStand number L (fresh_trio kinds terms L number nodes).nodes
  trio_stands number nodes =
      let a = fresh_all kinds number L.layer.state nodes in
      let b = fresh_all kinds (at_memory number) L.layer.memory a.nodes in
      let c = fresh_all kinds (at_low number) L.low b.nodes in
      let gb = all_grows kinds (at_memory number) L.layer.memory a.nodes in
      let gc = all_grows kinds (at_low number) L.low b.nodes in
      record {
        vars = stand_wider number L.layer.state a.nodes c.nodes (extends_both a.nodes b.nodes c.nodes gb gc) (all_stand kinds number L.layer.state nodes);
        memory = stand_wider (at_memory number) L.layer.memory b.nodes c.nodes gc (all_stand kinds (at_memory number) L.layer.memory a.nodes);
        low = all_stand kinds (at_low number) L.low b.nodes;
      }

  trio_below : (number : ℕ) (nodes : List Node) → InputsBelow number nodes →
      InputsBelow (number + state_words L) (fresh_trio kinds terms L number nodes).nodes
  trio_below number nodes h =
      let a = fresh_all kinds number L.layer.state nodes in
      let b = fresh_all kinds (at_memory number) L.layer.memory a.nodes in
      let c = fresh_all kinds (at_low number) L.low b.nodes in
      let e : at_low number + words_in L.low ≡ number + state_words L = omega arith in
      subst (λ z. InputsBelow z c.nodes) e
      (all_below kinds (at_low number) L.low b.nodes (all_below kinds (at_memory number) L.layer.memory a.nodes (all_below kinds number L.layer.state nodes h)))

  related_under_grows : (x : Trio) → Grows (related_under kinds terms L x)
  related_under_grows x =
      let a = adds kinds (related_under kinds terms L x) (λ P s. related_under_keeps kinds P s terms (defs_keep kinds defs P s) L x) in a.grows

  settled_under_grows : (low : List SymValue) → Grows (settled_under kinds terms L low)
  settled_under_grows low =
      let a = adds kinds (settled_under kinds terms L low) (λ P s. settled_under_keeps kinds P s terms (defs_keep kinds defs P s) L low) in a.grows

  -- what comes after the test that is made first
  related_after : (x : Trio) (nodes : List Node) → Extends (related_made kinds terms L x nodes).nodes (related_under kinds terms L x nodes).nodes
  related_after x =
      under_after kinds (related_made kinds terms L x) (λ rs. related_made kinds terms L (replaced_trio rs x)) (λ rs. related_grows (replaced_trio rs x))

  settled_after : (low : List SymValue) (nodes : List Node) →
      Extends (settled_made kinds terms L low nodes).nodes (settled_under kinds terms L low nodes).nodes
  settled_after low =
      under_after kinds (settled_made kinds terms L low) (λ rs. settled_made kinds terms L (replaced_all rs low)) (λ rs. settled_grows (replaced_all rs low))

  tests_grow : (number : ℕ) (nodes : List Node) → Extends (fresh_trio kinds terms L number nodes).nodes (starting kinds terms L number nodes).nodes
  tests_grow number nodes =
      let x = fresh_trio kinds terms L number nodes in
      let r = related_under kinds terms L x.value x.nodes in
      let s = settled_under kinds terms L x.value.low r.nodes in
      extends_both x.nodes r.nodes s.nodes (related_under_grows x.value x.nodes) (settled_under_grows x.value.low r.nodes)

  starts_grow : (number : ℕ) → Grows (starting kinds terms L number)
  starts_grow number nodes =
      extends_both nodes (fresh_trio kinds terms L number nodes).nodes (starting kinds terms L number nodes).nodes (trio_grows number nodes)
      (tests_grow number nodes)

  states_stand : (number : ℕ) (nodes : List Node) → StatesStand number L (starting kinds terms L number nodes).nodes
  states_stand number nodes =
      let x = fresh_trio kinds terms L number nodes in
      let o = starting kinds terms L number nodes in
      let g = tests_grow number nodes in
      let s = trio_stands number nodes in
      record {
        vars = stand_wider number L.layer.state x.nodes o.nodes g s.vars;
        memory = stand_wider (at_memory number) L.layer.memory x.nodes o.nodes g s.memory;
        low = stand_wider (at_low number) L.low x.nodes o.nodes g s.low;
      }

  module _ (inputs : Inputs) (v : Values) (typed : LayerTyped defs G L) where
    -- fresh variables, memory and state below, which the inputs give
    record TrioIs (number : ℕ) (nodes : List Node) (x : Trio) : Type 0 where
      shaped : TrioShaped L nodes x
      is : trio_worth v L x ≡ given_stand inputs number L
      vars_fit : env_fits L.layer.state (given_env inputs number L.layer.state) ≡ true
      memory_fit : env_fits L.layer.memory (given_env inputs (at_memory number) L.layer.memory) ≡ true
      low_fit : env_fits L.low (given_env inputs (at_low number) L.low) ≡ true

    trio_gives : (number : ℕ) (nodes : List Node) → InputsBelow number nodes → Gives inputs v (fresh_trio kinds terms L number) nodes (TrioIs number)
    trio_gives number nodes b h =
        let state = L.layer.state in
        let memory = L.layer.memory in
        let low = L.low in
        let x = fresh_all kinds number state nodes in
        let y = fresh_all kinds (at_memory number) memory x.nodes in
        let z = fresh_all kinds (at_low number) low y.nodes in
        let gy = all_grows kinds (at_memory number) memory x.nodes in
        let gz = all_grows kinds (at_low number) low y.nodes in
        let hy = fits_fewer inputs v y.nodes z.nodes gz h in
        let hx = fits_fewer inputs v x.nodes y.nodes gy hy in
        let bx = all_below kinds number state nodes b in
        let by = all_below kinds (at_memory number) memory x.nodes bx in
        let p = all_gives inputs v kinds number state nodes typed.state_shapes b hx in
        let q = all_gives inputs v kinds (at_memory number) memory x.nodes typed.memory_shapes bx hy in
        let r = all_gives inputs v kinds (at_low number) low y.nodes typed.low_shapes by h in
        record {
          shaped = record {
            vars = low_wider x.nodes z.nodes state x.value (extends_both x.nodes y.nodes z.nodes gy gz) p.shaped;
            memory = low_wider y.nodes z.nodes memory y.value gz q.shaped;
            low = r.shaped;
          };
          is = ap (λ e. let s : Stand = record { vars = e; memory = low_worth v memory y.value; low = low_worth v low z.value } in s) p.is
              ∙ ap (λ e. let s : Stand = record { vars = given_env inputs number state; memory = e; low = low_worth v low z.value } in s) q.is
              ∙ ap (λ e. let s : Stand = record {
                vars = given_env inputs number state;
                memory = given_env inputs (at_memory number) memory;
                low = e;
              } in s) r.is;
          vars_fit = given_fits inputs v kinds number state nodes typed.state_shapes b hx;
          memory_fit = given_fits inputs v kinds (at_memory number) memory x.nodes typed.memory_shapes bx hy;
          low_fit = given_fits inputs v kinds (at_low number) low y.nodes typed.low_shapes by h;
        }

    -- what a trio with terms in the stead of inputs is worth, where the inputs are as the terms say
    trio_same : (rs : List Replacement) (x : Trio) → AreTrue v rs → trio_worth v L (replaced_trio rs x) ≡ trio_worth v L x
    trio_same rs x a =
        ap (λ z. let s : Stand = record {
          vars = z;
          memory = low_worth v L.layer.memory (replaced_all rs x.memory);
          low = low_worth v L.low (replaced_all rs x.low);
        } in s) (low_same v rs L.layer.state x.vars a)
        ∙ ap (λ z. let s : Stand = record {
          vars = low_worth v L.layer.state x.vars;
          memory = z;
          low = low_worth v L.low (replaced_all rs x.low);
        } in s) (low_same v rs L.layer.memory x.memory a)
        ∙ ap (λ z. let s : Stand = record { vars = low_worth v L.layer.state x.vars; memory = low_worth v L.layer.memory x.memory; low = z } in s)
        (low_same v rs L.low x.low a)

    -- the relation over a trio, as it is made anew
    related_so : (x : Trio) (nodes : List Node) → TrioShaped L nodes x →
        Gives inputs v (related_under kinds terms L x) nodes (UnderSo inputs v kinds (related_made kinds terms L x nodes).value)
    related_so x nodes shaped =
        under_gives inputs v kinds (related_made kinds terms L x) (λ rs. related_made kinds terms L (replaced_trio rs x)) nodes (related_grows x)
        (λ rs. related_grows (replaced_trio rs x)) (λ h. let r = related_gives inputs v kinds defs G L typed x nodes shaped h in r.wide)
        (λ rs new fit g first h.
        let wide = trio_wider L nodes new x (extends_both nodes (related_made kinds terms L x nodes).nodes new (related_grows x nodes) g) shaped in
        let a = related_gives inputs v kinds defs G L typed (replaced_trio rs x) new (trio_shaped L new rs x fit wide) h in
        let b = related_gives inputs v kinds defs G L typed x nodes shaped first in
        record {
          wide = a.wide;
          same = λ e. a.relates ∙ ap (λ (s : Stand). all_true (relates L s.vars s.memory s.low)) (trio_same rs x e) ∙ sym b.relates;
        })

    settled_so : (low : List SymValue) (nodes : List Node) → LowShaped nodes L.low low →
        Gives inputs v (settled_under kinds terms L low) nodes (UnderSo inputs v kinds (settled_made kinds terms L low nodes).value)
    settled_so low nodes shaped =
        under_gives inputs v kinds (settled_made kinds terms L low) (λ rs. settled_made kinds terms L (replaced_all rs low)) nodes (settled_grows low)
        (λ rs. settled_grows (replaced_all rs low)) (λ h. let r = settled_gives inputs v kinds defs G L typed low nodes shaped h in r.wide)
        (λ rs new fit g first h.
        let wide = low_wider nodes new L.low low (extends_both nodes (settled_made kinds terms L low nodes).nodes new (settled_grows low nodes) g) shaped in
        let a = settled_gives inputs v kinds defs G L typed (replaced_all rs low) new (all_shaped new rs L.low low fit wide) h in
        let b = settled_gives inputs v kinds defs G L typed low nodes shaped first in
        record { wide = a.wide; same = λ e. a.settles ∙ ap (λ z. all_true (settles L z)) (low_same v rs L.low low e) ∙ sym b.settles })

    starts_give : (number : ℕ) (nodes : List Node) → InputsBelow number nodes →
        Gives inputs v (starting kinds terms L number) nodes (StartsSo v L (given_stand inputs number L))
    starts_give number nodes b h =
        let x = fresh_trio kinds terms L number nodes in
        let r = related_under kinds terms L x.value x.nodes in
        let s = settled_under kinds terms L x.value.low r.nodes in
        let given = given_stand inputs number L in
        let gr = related_under_grows x.value x.nodes in
        let gs = settled_under_grows x.value.low r.nodes in
        let hr = fits_fewer inputs v r.nodes s.nodes gs h in
        let hx = fits_fewer inputs v x.nodes r.nodes gr hr in
        let t = trio_gives number nodes b hx in
        let all = extends_both x.nodes r.nodes s.nodes gr gs in
        let low_shaped = let z = t.shaped in low_wider x.nodes r.nodes L.low x.value.low gr z.low in
        let low_is : low_worth v L.low x.value.low ≡ given.low = ap (λ (z : Stand). z.low) t.is in
        let first = related_made kinds terms L x.value x.nodes in
        let second = settled_made kinds terms L x.value.low r.nodes in
        let hf = fits_fewer inputs v first.nodes r.nodes (related_after x.value x.nodes) hr in
        let hg = fits_fewer inputs v second.nodes s.nodes (settled_after x.value.low r.nodes) h in
        let p = subst (λ z. RelatedIs v L z first.nodes first.value) t.is (related_gives inputs v kinds defs G L typed x.value x.nodes t.shaped hf) in
        let q = subst (λ e. SettledIs v L e second.nodes second.value) low_is
        (settled_gives inputs v kinds defs G L typed x.value.low r.nodes low_shaped hg) in
        let f = related_so x.value x.nodes t.shaped hr in
        let k = settled_so x.value.low r.nodes low_shaped h in
        let wide = trio_wider L x.nodes s.nodes x.value all t.shaped in
        record {
          related = record { wide = wider r.nodes s.nodes r.value.test 1 gs f.wide; relates = f.same ∙ p.relates; related = f.same ∙ p.related };
          from_shaped = trio_shaped L s.nodes r.value.facts x.value (facts_wider r.nodes s.nodes r.value.facts gs f.fit) wide;
          from = λ e. trio_same r.value.facts x.value (f.true_under e) ∙ t.is;
          settled = record { wide = k.wide; settles = k.same ∙ q.settles; settled = k.same ∙ q.settled };
          low_shaped = all_shaped s.nodes s.value.facts L.low x.value.low k.fit wide.low;
          low = λ e. low_same v s.value.facts L.low x.value.low (k.true_under e) ∙ low_is;
          fits =
              both_of (env_fits L.layer.state given.vars && env_fits L.layer.memory given.memory) (env_fits L.low given.low)
              (both_of (env_fits L.layer.state given.vars) (env_fits L.layer.memory given.memory) t.vars_fit t.memory_fit) t.low_fit;
        }

pub states_mean : StatesMeanSo
states_mean kinds defs G L typed = record {
  truths = λ inputs v own low es scope nodes t s f g h. truths_give inputs v kinds defs G L typed own low es scope nodes t s f g h;
  truths_add = λ es scope. adds kinds _ (λ P s. truths_keep kinds P s (terms_of kinds defs) (defs_keep kinds defs P s) es scope);
  related = λ inputs v x nodes s h. related_gives inputs v kinds defs G L typed x nodes s h;
  related_add = λ x. related_adds kinds defs G L x;
  settled = λ inputs v low nodes s h. settled_gives inputs v kinds defs G L typed low nodes s h;
  settled_add = λ low. settled_adds kinds defs G L low;
  starts = λ inputs v number nodes b h. starts_give kinds defs G L inputs v typed number nodes b h;
  stand = λ number nodes. states_stand kinds defs G L number nodes;
  starting_grows = λ number nodes. starts_grow kinds defs G L number nodes;
  starting_below = λ number nodes b.
      let P = InputsBelow (number + state_words L) in
      let stays = inputs_stay kinds (number + state_words L) in
      tests_keep kinds P stays (terms_of kinds defs) (defs_keep kinds defs P stays) L number nodes (trio_below kinds defs G L number nodes b);
}
