-- Fresh inputs for declared names.
use Rattle.std.proofs.Common.{
  ◌≡◌,
  ◌<◌,
  ◌≤◌,
  ◌+◌,
  ◌-◌,
  ◌*◌,
  inl,
  inr,
  ℕ,
  Bool,
  if◌then◌else◌,
  slice_get,
  Some,
  zero,
  suc,
  true,
  List,
  [],
  ◌∷◌,
  replicate,
  refl,
  sym,
  ap,
  ◌∙◌,
  subst,
  arith,
}
use Rattle.std.proofs.lemmas.Bool.{cases_lt, lt-ltb, le-ltb}
use Rattle.std.proofs.lemmas.List.Elements.{All-head, All-tail}
use Rattle.ygg_value.specs.Shapes.{IsShape}
use Rattle.ygg_value.specs.declared.shape.Shape.{Shape}
use Rattle.ygg_value.specs.declared.shape.Shape.TheVariants as shape
use Rattle.ygg_syntax.specs.declared.tree.Declared.{Declared}
use Rattle.ygg_sym_laws.specs.ygg_meaning.Shapes.{shape_in, env_fits}
use Rattle.ygg_sym_laws.specs.ygg_rules.declared.rule.RuleKind.{RuleKind}
use Rattle.ygg_sym_laws.specs.ygg_bank_proofs_Made.{made_grows, added_there}
use Rattle.ygg_sym_laws.specs.ygg_bank_proofs_Meaning.{fits_fewer}
use Rattle.ygg_sym_laws.proofs.of_ygg_bank.Places.{in_front}
use Rattle.ygg_sym_laws.specs.ygg_bank_proofs_Widths.{extends_self, extends_both}
use Rattle.ygg_sym_laws.specs.ygg_bank.Inputs.{InputsBelow}
use Rattle.ygg_sym_laws.specs.ygg_bank.Making.{made}
use Rattle.ygg_sym_laws.specs.ygg_bank.Nodes.{Extends}
use Rattle.ygg_sym_laws.specs.ygg_bank.Values.{Inputs, Values}
use Rattle.ygg_sym_laws.specs.ygg_bank.declared.node.Node.{Node}
use Rattle.ygg_sym_laws.specs.ygg_bank.declared.node.Node.TheVariants.{Input}
use Rattle.ygg_sym_laws.specs.ygg_shape_cells_proofs_Wider.{shaped_wider}
use Rattle.ygg_sym_laws.proofs.of_ygg_shape.Freshness.{row_on, rows_on, fresh_grows, fresh_below, fresh_gives, below_as}
use Rattle.ygg_sym_laws.specs.ygg_shape_cells_proofs_Keeps.{each_from_keeps}
use Rattle.ygg_sym_laws.specs.ygg_shape.Fresh.{fresh_row, fresh_made, words_of, given_value}
use Rattle.ygg_sym_laws.specs.ygg_sym_runs.ExpressionMeaning.{Grows, Gives}
use Rattle.ygg_sym_laws.proofs.Lows.{low_fits}
use Rattle.ygg_sym_laws.specs.Lows.{low_worth}
use Rattle.ygg_oblige_laws.specs.LayerTerms.{ShapesKept}
use Rattle.ygg_oblige_laws.specs.TermStates.{words_in, fresh_all}
use Rattle.ygg_oblige_laws.proofs.PieceDigits.{env_digits}
use Rattle.ygg_oblige_laws.specs.Inputs.{given_env, width_of, word_width, InputAt, InputsStand, FreshMeans}
use Rattle.ygg_oblige_laws.specs.Worth.{LowIs}

pub at_wider : (old new : List Node) (number w : ℕ) → Extends old new → InputAt old number w → InputAt new number w
at_wider old new number w g a = record {
  place = a.place;
  stands = subst (λ ns. slice_get ns a.place ≡ Some (Input number w)) (sym g.is) (in_front old g.more a.place (Input number w) a.stands);
}

pub stand_wider : (number : ℕ) (ds : List Declared) (old new : List Node) → Extends old new → InputsStand number ds old → InputsStand number ds new
stand_wider number ds old new g h i l = at_wider old new (number + i) (word_width ds i) g (h i l)

module _ (kinds : List RuleKind) where
  one_at : (number w : ℕ) (nodes : List Node) → InputAt (made kinds (Input number w) nodes).nodes number w
  one_at number w nodes = let o = made kinds (Input number w) nodes in record { place = o.value.0; stands = added_there (Input number w) nodes }

  row_grows : (number w i k : ℕ) (nodes : List Node) → Extends nodes (row_on kinds number w i k nodes).nodes
  row_grows number w i k nodes =
      each_from_keeps (Extends nodes) (λ i (x : ℕ). made kinds (Input (number + i) w))
      (λ i x now g. extends_both nodes now (made kinds (Input (number + i) w) now).nodes g (made_grows kinds (Input (number + i) w) now))
      i (replicate k 0) nodes (extends_self nodes)

  rows_grow : (number n w i k : ℕ) (nodes : List Node) → Extends nodes (rows_on kinds number n w i k nodes).nodes
  rows_grow number n w i k nodes =
      each_from_keeps (Extends nodes) (λ i (x : ℕ). fresh_row kinds (number + i * n) n w)
      (λ i x now g. extends_both nodes now (fresh_row kinds (number + i * n) n w now).nodes g (row_grows (number + i * n) w 0 n now))
      i (replicate k 0) nodes (extends_self nodes)

  row_stands : (number w i k j : ℕ) (nodes : List Node) → i ≤ j → j < i + k → InputAt (row_on kinds number w i k nodes).nodes (number + j) w
  row_stands number w i zero j nodes l m = absurd (omega arith)
  row_stands number w i (suc k) j nodes l m =
      let o = made kinds (Input (number + i) w) nodes in
      let rest = row_on kinds number w (i + 1) k o.nodes in
      elim (cases_lt i j) [
        | inl r ↦ row_stands number w (i + 1) k j o.nodes (omega arith) (omega arith)
        | inr r ↦
            let e : i ≡ j = omega arith in
            at_wider o.nodes rest.nodes (number + j) w (row_grows number w (i + 1) k o.nodes)
            (subst (λ z. InputAt o.nodes (number + z) w) e (one_at (number + i) w nodes))
      ]

  rows_stand : (number n w i k j : ℕ) (nodes : List Node) → i * n ≤ j → j < (i + k) * n →
      InputAt (rows_on kinds number n w i k nodes).nodes (number + j) w
  rows_stand number n w i zero j nodes l m = absurd (omega arith)
  rows_stand number n w i (suc k) j nodes l m =
      let o = fresh_row kinds (number + i * n) n w nodes in
      let rest = rows_on kinds number n w (i + 1) k o.nodes in
      elim (cases_lt j (i * n + n)) [
        | inl r ↦
            let e : number + i * n + (j - i * n) ≡ number + j = omega arith in
            at_wider o.nodes rest.nodes (number + j) w (rows_grow number n w (i + 1) k o.nodes)
            (subst (λ z. InputAt o.nodes z w) e (row_stands (number + i * n) w 0 n (j - i * n) nodes (omega arith) (omega arith)))
        | inr r ↦ rows_stand number n w (i + 1) k j o.nodes (omega arith) (omega arith)
      ]

  fresh_stands : (number : ℕ) (s : Shape) (nodes : List Node) (i : ℕ) → i < words_of s →
      InputAt (fresh_made kinds number s nodes).nodes (number + i) (width_of s)
  fresh_stands number (shape.Word w) nodes i l =
      let e : number ≡ number + i = omega arith in
      subst (λ z. InputAt (made kinds (Input number w) nodes).nodes z w) e (one_at number w nodes)
  fresh_stands number (shape.Row n w) nodes i l = row_stands number w 0 n i nodes (omega arith) (omega arith)
  fresh_stands number (shape.Table m n w) nodes i l =
      let e : m ≡ 0 + m = omega arith in rows_stand number n w 0 m i nodes (omega arith) (subst (λ z. i < z * n) e l)

  pub all_grows : (number : ℕ) (ds : List Declared) → Grows (fresh_all kinds number ds)
  all_grows number [] nodes = extends_self nodes
  all_grows number (d ∷ ds) nodes =
      let s = shape_in d.shape in
      let o = fresh_made kinds number s nodes in
      extends_both nodes o.nodes (fresh_all kinds (number + words_of s) ds o.nodes).nodes (fresh_grows kinds number s nodes)
      (all_grows (number + words_of s) ds o.nodes)

  pub all_stand : (number : ℕ) (ds : List Declared) (nodes : List Node) → InputsStand number ds (fresh_all kinds number ds nodes).nodes
  all_stand number [] nodes i l = absurd (omega arith)
  all_stand number (d ∷ ds) nodes i l =
      let s = shape_in d.shape in
      let n = words_of s in
      let o = fresh_made kinds number s nodes in
      let rest = fresh_all kinds (number + n) ds o.nodes in
      let wide : Bool → ℕ = λ t. if t then width_of s else word_width ds (i - n) in
      elim (cases_lt i n) [
        | inl k ↦
            subst (λ z. InputAt rest.nodes (number + i) z) (sym (ap wide (lt-ltb i n k)))
            (at_wider o.nodes rest.nodes (number + i) (width_of s) (all_grows (number + n) ds o.nodes) (fresh_stands number s nodes i k))
        | inr k ↦
            let e : number + n + (i - n) ≡ number + i = omega arith in
            subst (λ z. InputAt rest.nodes (number + i) z) (sym (ap wide (le-ltb i n k)))
            (subst (λ z. InputAt rest.nodes z (word_width ds (i - n))) e (all_stand (number + n) ds o.nodes (i - n) (omega arith)))
      ]

  pub all_below : (number : ℕ) (ds : List Declared) (nodes : List Node) → InputsBelow number nodes →
      InputsBelow (number + words_in ds) (fresh_all kinds number ds nodes).nodes
  all_below number [] nodes h = below_as number (number + 0) nodes (omega arith) h
  all_below number (d ∷ ds) nodes h =
      let s = shape_in d.shape in
      let o = fresh_made kinds number s nodes in
      below_as (number + words_of s + words_in ds) (number + words_in (d ∷ ds)) (fresh_all kinds (number + words_of s) ds o.nodes).nodes (omega arith)
      (all_below (number + words_of s) ds o.nodes (fresh_below kinds number s nodes h))

module _ (inputs : Inputs) (v : Values) (kinds : List RuleKind) where
  pub all_gives : (number : ℕ) (ds : List Declared) (nodes : List Node) → ShapesKept ds → InputsBelow number nodes →
      Gives inputs v (fresh_all kinds number ds) nodes (LowIs v ds (given_env inputs number ds))
  all_gives number [] nodes l b h = record { shaped = tt; is = refl }
  all_gives number (d ∷ ds) nodes l b h =
      let s = shape_in d.shape in
      let n = words_of s in
      let o = fresh_made kinds number s nodes in
      let rest = fresh_all kinds (number + n) ds o.nodes in
      let g = all_grows kinds (number + n) ds o.nodes in
      let m = fresh_gives inputs v kinds number s nodes (All-head (λ (d : Declared). IsShape (shape_in d.shape)) d ds l) b
      (fits_fewer inputs v o.nodes rest.nodes g h) in
      let r = all_gives (number + n) ds o.nodes (All-tail (λ (d : Declared). IsShape (shape_in d.shape)) d ds l) (fresh_below kinds number s nodes b) h in
      record {
        shaped = (shaped_wider o.nodes rest.nodes s o.value g m.shaped, r.shaped);
        is = ap (λ x. (d.name.text, x) ∷ low_worth v ds rest.value) m.is ∙ ap (λ e. (d.name.text, given_value inputs number s) ∷ e) r.is;
      }

  pub given_fits : (number : ℕ) (ds : List Declared) (nodes : List Node) → ShapesKept ds → InputsBelow number nodes →
      Gives inputs v (fresh_all kinds number ds) nodes (λ new xs. env_fits ds (given_env inputs number ds) ≡ true)
  given_fits number ds nodes l b h =
      let o = fresh_all kinds number ds nodes in
      let g = all_gives number ds nodes l b h in
      subst (λ e. env_fits ds e ≡ true) g.is (low_fits inputs v o.nodes ds o.value h g.shaped)

pub fresh_means : FreshMeans
fresh_means = record {
  gives = λ inputs v kinds number ds nodes l b h. all_gives inputs v kinds number ds nodes l b h;
  fits = λ inputs v kinds number ds nodes l b h. given_fits inputs v kinds number ds nodes l b h;
  stand = λ kinds number ds nodes. all_stand kinds number ds nodes;
  stay = stand_wider;
  back = env_digits;
  grows = λ kinds number ds. all_grows kinds number ds;
  inputs_below = λ kinds number ds nodes h. all_below kinds number ds nodes h;
}
