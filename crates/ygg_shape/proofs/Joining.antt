-- What conjuncts that are picks say of inputs holds where they are 1.
use Rattle.std.proofs.Common.{
  ◌≡◌,
  ◌==◌,
  ◌<◌,
  ◌+◌,
  ◌⊎◌,
  inl,
  inr,
  ℕ,
  zero,
  suc,
  Bool,
  true,
  false,
  if◌then◌else◌,
  Option,
  Some,
  None,
  List,
  [],
  ◌∷◌,
  All,
  length,
  get_or,
  replicate,
  slice_get,
  slice_set,
  refl,
  sym,
  ap,
  ◌∙◌,
  subst,
}
use Rattle.std.specs.List.{cons_option, flat_map}
use Rattle.std.proofs.lemmas.List.Elements.{All-nil, All-cons, All-head, All-tail, All-weaker, All-get_or}
use Rattle.ygg_value.specs.Number.{Number}
use Rattle.ygg_value.specs.Words.{word}
use Rattle.ygg_shape_cells.specs.ygg_rules.declared.rule.RuleKind.{RuleKind}
use Rattle.ygg_shape_cells.proofs.of_ygg_bank.Meaning.{fits_fewer}
use Rattle.ygg_shape_cells.proofs.of_ygg_bank.Widths.{wider, width_is, extends_self, extends_both}
use Rattle.ygg_shape_cells.specs.ygg_bank.Making.{id}
use Rattle.ygg_shape_cells.specs.ygg_bank.Nodes.{HasWidth, InOrder, Extends, CanPick}
use Rattle.ygg_shape_cells.specs.ygg_bank.Values.{Inputs, Values, Fits}
use Rattle.ygg_shape_cells.specs.ygg_bank.declared.node.Id.{Id}
use Rattle.ygg_shape_cells.specs.ygg_bank.declared.node.Node.{Node}
use Rattle.ygg_shape_cells.specs.ygg_bank.declared.node.Node.TheVariants.{Input, Pick}
use Rattle.ygg_shape_cells.specs.declared.pairs.Pair.{Pair}
use Rattle.ygg_shape_cells.proofs.of_ygg_shape_words.Children.{pick_children}
use Rattle.ygg_shape_cells.proofs.of_ygg_shape_words.Fit.{alike_wider, can_pick}
use Rattle.ygg_shape_cells.proofs.of_ygg_shape_words.Grows.{picked_grows}
use Rattle.ygg_shape_cells.proofs.of_ygg_shape_words.Keeps.{Stays, grows_stays, picked_keeps}
use Rattle.ygg_shape_cells.proofs.of_ygg_shape_words.Picks.{picked_is}
use Rattle.ygg_shape_cells.specs.ygg_shape_words.Forms.{WordsAlike}
use Rattle.ygg_shape_cells.specs.ygg_shape_words.Picking.{picked}
use Rattle.ygg_shape.specs.Comparing.{IsDigit}
use Rattle.ygg_shape.specs.Conjuncts.{conjuncts_of}
use Rattle.ygg_shape.specs.Equations.{equations_of}
use Rattle.ygg_shape.specs.Joins.{noted, all_noted, partners_of, join_of, join_at, pair_joins, pick_joins, joins_at, joins, JoinFits, joins_made}
use Rattle.ygg_shape.specs.Replacing.{AreFit}
use Rattle.ygg_shape.specs.declared.joins.Join.{Join}
use Rattle.ygg_shape.specs.declared.replacing.Replacement.{Replacement}
use Rattle.ygg_shape.proofs.Holding.{option_all, flat_all, alike_back, conjuncts_digits, equations_fit, IsOne, Equals, conjuncts_true, equations_true}

-- a term that is noted at a place after one was noted
set_entry : (partners : List (Option Id)) (j k : ℕ) (c b : Id) → slice_get (slice_set partners j (Some c)) k ≡ Some (Some b) →
    ((k ≡ j) × (c ≡ b)) ⊎ (slice_get partners k ≡ Some (Some b))
set_entry [] j k c b e = inr e
set_entry (m ∷ ms) zero zero c b e = let f : c ≡ b = cc in inl (refl, f)
set_entry (m ∷ ms) zero (suc k) c b e = inr e
set_entry (m ∷ ms) (suc j) zero c b e = inr e
set_entry (m ∷ ms) (suc j) (suc k) c b e = elim (set_entry ms j k c b e) [ inl p ↦ inl (ap (λ z. suc z) p.0, p.1) | inr p ↦ inr p ]

no_entry : (n k : ℕ) (b : Id) → slice_get (replicate n None) k ≡ Some (Some b) → ⊥
no_entry zero k b e = absurd (cc)
no_entry (suc n) zero b e = absurd (cc)
no_entry (suc n) (suc k) b e = no_entry n k b e

-- what holds of places and the terms that are noted there
abbrev Entries : (Id → Id → Type 0) → List (Option Id) → Type 0
Entries Q partners = (a b : Id) → slice_get partners a.0 ≡ Some (Some b) → Q a b

module _ (Q : Id → Id → Type 0) (turn : (a b : Id) → Q a b → Q b a) where
  abbrev OfPair : Pair → Type 0
  OfPair p = Q p.one p.two

  set_entries : (partners : List (Option Id)) (j c : Id) → Entries Q partners → Q j c → Entries Q (slice_set partners j.0 (Some c))
  set_entries partners j c h q a b e =
      elim (set_entry partners j.0 a.0 c b e) [ inl p ↦ subst (λ z. Q (id z) b) (sym p.0) (subst (Q j) p.1 q) | inr p ↦ h a b p ]

  all_entries : (partners : List (Option Id)) (ps : List Pair) → Entries Q partners → All OfPair ps → Entries Q (all_noted partners ps)
  all_entries partners [] h q = h
  all_entries partners (p ∷ ps) h q =
      let here = All-head OfPair p ps q in
      all_entries (noted partners p) ps
      (set_entries (slice_set partners p.one.0 (Some p.two)) p.two p.one (set_entries partners p.one p.two h here) (turn p.one p.two here))
      (All-tail OfPair p ps q)

  partners_all : (nodes : List Node) (one none a : Id) → All OfPair (equations_of nodes one none a) → Entries Q (partners_of nodes one none a)
  partners_all nodes one none a q =
      all_entries (replicate (a.0 + 1) None) (equations_of nodes one none a) (λ c b e. absurd (no_entry (a.0 + 1) c.0 b e)) q

-- what holds of the terms that are equal on either side of a pick, and so of what is joined
module _ (nodes : List Node) (t : Id) (Y Z : Id → Id → Type 0) (turn : (a b : Id) → Y a b → Y b a) (J : Join → Type 0)
    (join : (x a b : Id) → Y x a → Z x b → J (record { test = t; input = x; yes = a; no = b })) where
  join_case : (x a : Id) (n : Option Node) (o : Option (Option Id)) (j : Join) → join_of t x a n o ≡ Some j → Y x a →
      ((b : Id) → o ≡ Some (Some b) → Z x b) → J j
  join_case x a (Some (Input m w)) (Some (Some b)) j e y z =
      let f : record { test = t; input = x; yes = a; no = b } ≡ j = cc in subst J f (join x a b y (z b refl))
  join_case x a n o j e y z = absurd (cc)

  joins_all : (partners : List (Option Id)) → Entries Z partners → (ps : List Pair) → All (λ (p : Pair). Y p.one p.two) ps →
      All J (flat_map (pair_joins nodes t partners) ps)
  joins_all partners h =
      flat_all (pair_joins nodes t partners) (λ (p : Pair). Y p.one p.two) J
      (λ p y. option_all J (join_at nodes t partners p.one p.two) (cons_option (join_at nodes t partners p.two p.one) [])
      (λ j e. join_case p.one p.two (slice_get nodes p.one.0) (slice_get partners p.one.0) j e y (λ b g. h p.one b g))
      (option_all J (join_at nodes t partners p.two p.one) []
      (λ j e. join_case p.two p.one (slice_get nodes p.two.0) (slice_get partners p.two.0) j e (turn p.one p.two y) (λ b g. h p.two b g))
      (All-nil J)))

-- widths
module _ (nodes : List Node) (one none : Id) (o : InOrder [] nodes) (p : HasWidth nodes one 1) (q : HasWidth nodes none 1) where
  pub side_fit : (a : Id) → HasWidth nodes a 1 → All (λ (p : Pair). WordsAlike nodes p.one p.two) (equations_of nodes one none a)
  side_fit a d = equations_fit nodes one none o p q (conjuncts_of nodes a) (conjuncts_digits nodes a o d)

  pick_fit : (c : Id) (n : Option Node) → slice_get nodes c.0 ≡ n → HasWidth nodes c 1 → All (JoinFits nodes) (pick_joins nodes one none n)
  pick_fit c (Some (Pick t y z)) e d =
      let k = pick_children nodes c t y z 1 o e d in
      joins_all nodes t (WordsAlike nodes) (WordsAlike nodes) (alike_back nodes) (JoinFits nodes)
      (λ x a b f g. record { digit = k.test; yes_fits = f; no_fits = g }) (partners_of nodes one none z)
      (partners_all (WordsAlike nodes) (alike_back nodes) nodes one none z (side_fit z k.second)) (equations_of nodes one none y) (side_fit y k.first)
  pick_fit c n e d = All-nil (JoinFits nodes)

  pub joins_fit : (cs : List Id) → All (IsDigit nodes) cs → All (JoinFits nodes) (joins nodes one none cs)
  joins_fit = flat_all (joins_at nodes one none) (IsDigit nodes) (JoinFits nodes) (λ c d. pick_fit c (slice_get nodes c.0) refl d)

join_wider : (old new : List Node) (j : Join) → Extends old new → JoinFits old j → JoinFits new j
join_wider old new j g h = record {
  digit = wider old new j.test 1 g h.digit;
  yes_fits = alike_wider old new j.input j.yes g h.yes_fits;
  no_fits = alike_wider old new j.input j.no g h.no_fits;
}

no_wide : (nodes : List Node) (j : Join) (h : JoinFits nodes j) → HasWidth nodes j.no h.yes_fits.width
no_wide nodes j h =
    let a = h.yes_fits in
    let b = h.no_fits in
    subst (HasWidth nodes j.no) (sym (width_is nodes j.input b.width b.one_has) ∙ width_is nodes j.input a.width a.one_has) b.two_has

join_can : (nodes : List Node) (j : Join) → JoinFits nodes j → CanPick nodes j.test j.yes j.no
join_can nodes j h = can_pick nodes j.test j.yes j.no h.yes_fits.width h.digit h.yes_fits.two_has (no_wide nodes j h)

pub joins_can : (old new : List Node) (js : List Join) (i : ℕ) (d : Join) → Extends old new → All (JoinFits old) js → i < length js →
    CanPick new (get_or js i d).test (get_or js i d).yes (get_or js i d).no
joins_can old new js i d g h l =
    let j = get_or js i d in join_can new j (join_wider old new j g (All-get_or (JoinFits old) js i d l h))

-- values
abbrev Holds : Values → Id → Bool
Holds v t = (v t.0).bits == 1

module _ (inputs : Inputs) (v : Values) (C : Type 0) where
  -- under the condition the input is the pick
  abbrev pub IsJoined : Join → Type 0
  IsJoined j = C → v j.input.0 ≡ (if Holds v j.test then v j.yes.0 else v j.no.0)

  joined_by : (t x a b : Id) → (C × (Holds v t ≡ true) → v x.0 ≡ v a.0) → (C × (Holds v t ≡ false) → v x.0 ≡ v b.0) →
      IsJoined (record { test = t; input = x; yes = a; no = b })
  joined_by t x a b y z k = decide (Holds v t) refl where
    decide : (s : Bool) → Holds v t ≡ s → v x.0 ≡ (if s then v a.0 else v b.0)
    decide true e = y (k, e)
    decide false e = z (k, e)

  module _ (nodes : List Node) (f : Fits inputs v nodes) (one none : Id) (p : v one.0 ≡ word 1 1) (q : v none.0 ≡ word 1 0) where
    side_true : (D : Type 0) (a : Id) → IsOne inputs v nodes f D a.0 → All (λ (p : Pair). Equals inputs v nodes f D p.one p.two) (equations_of nodes one none a)
    side_true D a h = equations_true inputs v nodes f D one none p q (conjuncts_of nodes a) (conjuncts_true inputs v nodes f D a h)

    pick_true : (c : Id) (n : Option Node) → slice_get nodes c.0 ≡ n → IsOne inputs v nodes f C c.0 → All IsJoined (pick_joins nodes one none n)
    pick_true c (Some (Pick t y z)) e h =
        let k = pick_children nodes c t y z 1 f.ordered e h.0 in
        let one_is : (s : Bool) → Holds v t ≡ s → C → (if s then v y.0 else v z.0).bits ≡ 1 =
        λ s g x. ap (λ u. (if u then v y.0 else v z.0).bits) (sym g) ∙ ap (λ (u : Number). u.bits) (sym (f.values c.0 (Pick t y z) e)) ∙ h.1 x in
        let Yes = C × (Holds v t ≡ true) in
        let No = C × (Holds v t ≡ false) in
        let Z = Equals inputs v nodes f No in
        joins_all nodes t (Equals inputs v nodes f Yes) Z (λ a b g x. sym (g x)) IsJoined (joined_by t) (partners_of nodes one none z)
        (partners_all Z (λ a b g x. sym (g x)) nodes one none z (side_true No z (k.second, λ x. one_is false x.1 x.0)))
        (equations_of nodes one none y) (side_true Yes y (k.first, λ x. one_is true x.1 x.0))
    pick_true c n e h = All-nil IsJoined

    pub joins_true : (cs : List Id) → All (λ (c : Id). IsOne inputs v nodes f C c.0) cs → All IsJoined (joins nodes one none cs)
    joins_true = flat_all (joins_at nodes one none) (λ (c : Id). IsOne inputs v nodes f C c.0) IsJoined (λ c h. pick_true c (slice_get nodes c.0) refl h)

-- the picks that are made
module _ (kinds : List RuleKind) (P : List Node → Type 0) (stays : Stays kinds P) where
  pub joins_made_keeps : (js : List Join) (nodes : List Node) → P nodes → P (joins_made kinds js nodes).nodes
  joins_made_keeps [] nodes p = p
  joins_made_keeps (j ∷ js) nodes p =
      let o = picked kinds j.test j.yes j.no nodes in joins_made_keeps js o.nodes (picked_keeps kinds P stays j.test j.yes j.no nodes p)

pub joins_made_grows : (kinds : List RuleKind) (js : List Join) (nodes : List Node) → Extends nodes (joins_made kinds js nodes).nodes
joins_made_grows kinds js nodes = joins_made_keeps kinds (Extends nodes) (grows_stays kinds nodes) js nodes (extends_self nodes)

-- terms that have their inputs' widths, and under a condition their values
pub record AreSo (v : Values) (C : Type 0) (nodes : List Node) (rs : List Replacement) : Type 0 where
  pub fit : AreFit nodes rs
  pub are : All (λ (r : Replacement). C → v r.input.0 ≡ v r.term.0) rs

module _ (inputs : Inputs) (v : Values) (C : Type 0) (kinds : List RuleKind) where
  pub joins_made_are : (js : List Join) (nodes : List Node) → All (JoinFits nodes) js → All (IsJoined inputs v C) js →
      Fits inputs v (joins_made kinds js nodes).nodes → AreSo v C (joins_made kinds js nodes).nodes (joins_made kinds js nodes).value
  joins_made_are [] nodes p q h = record {
    fit = All-nil (λ (r : Replacement). WordsAlike nodes r.input r.term);
    are = All-nil (λ (r : Replacement). C → v r.input.0 ≡ v r.term.0);
  }
  joins_made_are (j ∷ js) nodes p q h =
      let o = picked kinds j.test j.yes j.no nodes in
      let go = picked_grows kinds j.test j.yes j.no nodes in
      let rest = joins_made kinds js o.nodes in
      let gr = joins_made_grows kinds js o.nodes in
      let here = All-head (JoinFits nodes) j js p in
      let w = here.yes_fits.width in
      let is = All-head (IsJoined inputs v C) j js q in
      let m = picked_is inputs v kinds w j.test j.yes j.no nodes here.digit here.yes_fits.two_has (no_wide nodes j here)
      (fits_fewer inputs v o.nodes rest.nodes gr h) in
      let more = joins_made_are js o.nodes
      (All-weaker (JoinFits nodes) (JoinFits o.nodes) (λ k f. join_wider nodes o.nodes k go f) js (All-tail (JoinFits nodes) j js p))
      (All-tail (IsJoined inputs v C) j js q) h in
      let r : Replacement = record { input = j.input; term = o.value } in
      record {
        fit = All-cons (λ (r : Replacement). WordsAlike rest.nodes r.input r.term) r rest.value
            (record {
              width = w;
              one_has = wider nodes rest.nodes j.input w (extends_both nodes o.nodes rest.nodes go gr) here.yes_fits.one_has;
              two_has = wider o.nodes rest.nodes o.value w gr m.wide;
            }) more.fit;
        are = All-cons (λ (r : Replacement). C → v r.input.0 ≡ v r.term.0) r rest.value (λ x. is x ∙ sym m.is) more.are;
      }
