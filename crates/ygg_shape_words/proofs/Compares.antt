-- What a comparison is worth.
use Rattle.std.proofs.Common.{
  ◌≡◌,
  ◌==◌,
  ◌&&◌,
  ◌||◌,
  ℕ,
  zero,
  suc,
  Bool,
  true,
  false,
  if◌then◌else◌,
  Option,
  Some,
  None,
  List,
  [],
  ◌∷◌,
  All,
  slice_get,
  refl,
  sym,
  ap,
  ◌∙◌,
  arith,
}
use Rattle.std.specs.Prelude.{nat_lt}
use Rattle.std.proofs.lemmas.Bool.Decides.{Decides-eqb}
use Rattle.std.proofs.lemmas.List.Elements.{All-head, All-tail, All-push, All-nil}
use Rattle.ygg_value.specs.Number.{Number}
use Rattle.ygg_value.specs.Words.{word, apply_to, bit_of}
use Rattle.ygg_value.specs.declared.operation.Op.TheVariants.{Eq, Or}
use Rattle.ygg_rules.specs.declared.rule.RuleKind.{RuleKind}
use Rattle.ygg_bank.proofs.Fitting.{constant_there}
use Rattle.ygg_bank.specs.Making.{known_in}
use Rattle.ygg_bank.proofs.Made.{made_grows}
use Rattle.ygg_bank.proofs.Meaning.{fits_fewer}
use Rattle.ygg_bank.proofs.Widths.{wider, width_is, constant_word}
use Rattle.ygg_bank.specs.Makes.{Out}
use Rattle.ygg_bank.specs.Making.{made}
use Rattle.ygg_bank.specs.Nodes.{HasWidth}
use Rattle.ygg_bank.specs.Values.{Inputs, Values, Fits}
use Rattle.ygg_bank.specs.declared.node.Id.{Id}
use Rattle.ygg_bank.specs.declared.node.Node.{Node}
use Rattle.ygg_bank.specs.declared.node.Node.TheVariants.{Const, Bin, Pick}
use Rattle.ygg_shape_words.proofs.Children.{PickHas, pick_children}
use Rattle.ygg_shape_words.proofs.Fit.{can_or, can_equal, constant_wide, known_wider, known_more, alike_wider, form_fits}
use Rattle.ygg_shape_words.proofs.Undone.{IsAgainst, against_is}
use Rattle.ygg_shape_words.specs.Forms.{WordsAlike, FormFits, against, against_known, form_of}
use Rattle.ygg_shape_words.proofs.Keeps.{Step}
use Rattle.ygg_shape_words.proofs.Grows.{OnlyGrows, picked_grows, same_within_grows}
use Rattle.ygg_shape_words.proofs.Picks.{picked_is}
use Rattle.ygg_shape_words.proofs.Terms.{TermIs, number_if, holds, equal, made_is, term_digit, or_digits, pick_digits}
use Rattle.ygg_shape_words.specs.Picking.{picked}
use Rattle.ygg_shape_words.specs.Same.{SoFar, Answer, KnownFit, spent, learned, form_at, form_unless, known_for, compared_as, same_within, same_words}
use Rattle.ygg_shape_words.specs.declared.comparing.TheConstants.{SPLIT_LIMIT}
use Rattle.ygg_shape_words.specs.declared.comparing.Compared.{Compared}
use Rattle.ygg_shape_words.specs.declared.forms.Form.{Form}
use Rattle.ygg_shape_words.specs.declared.forms.Form.TheVariants as form

-- equalities of picks, over numbers alone
split_both : (c : Bool) (x y p q : ℕ) → ((if c then x else y) == (if c then p else q)) ≡ (if c then x == p else y == q)
split_both true x y p q = refl
split_both false x y p q = refl

split_one : (c : Bool) (x y b : ℕ) → ((if c then x else y) == b) ≡ (if c then x == b else y == b)
split_one true x y b = refl
split_one false x y b = refl

split_other : (c : Bool) (a p q : ℕ) → (a == (if c then p else q)) ≡ (if c then a == p else a == q)
split_other true a p q = refl
split_other false a p q = refl

self_equal : (x : ℕ) → (x == x) ≡ true
self_equal x = (Decides-eqb x x).1 refl

turned : (x y : ℕ) → (x == y) ≡ (y == x)
turned x y = turned_case x y (x == y) refl where
  turned_case : (x y : ℕ) (c : Bool) → (x == y) ≡ c → (x == y) ≡ (y == x)
  turned_case x y true e = e ∙ sym ((Decides-eqb y x).1 (sym ((Decides-eqb x y).0 e)))
  turned_case x y false e = other x y (y == x) e refl where
    other : (x y : ℕ) (d : Bool) → (x == y) ≡ false → (y == x) ≡ d → (x == y) ≡ (y == x)
    other x y true e f = let g : (x == y) ≡ true = (Decides-eqb x y).1 (sym ((Decides-eqb y x).0 f)) in absurd (cc)
    other x y false e f = e ∙ sym f

-- of single digits c and d: picks of the same two words are equal where the digits are, or else where the words are
either_equal : (c d : Bool) (x y : ℕ) → ((if c then x else y) == (if d then x else y)) ≡ ((bit_of c == bit_of d) || (x == y))
either_equal true true x y = self_equal x
either_equal true false x y = refl
either_equal false true x y = turned y x
either_equal false false x y = self_equal y

module _ (inputs : Inputs) (v : Values) where
  -- what is known of pairs holds
  abbrev pub KnownIs : List Compared → Type 0
  KnownIs = All (λ (k : Compared). v k.answer.0 ≡ word 1 (bit_of (equal inputs v k.one k.two)))

  -- the equality of two words is what the form says
  abbrev FormIs : Id → Id → Form → Type 0
  FormIs a b form.One = equal inputs v a b ≡ true
  FormIs a b form.Never = equal inputs v a b ≡ false
  FormIs a b (form.Known answer) = v answer.0 ≡ word 1 (bit_of (equal inputs v a b))
  FormIs a b form.Plain = Unit {0}
  FormIs a b (form.Split t x y p q) = equal inputs v a b ≡ (if holds inputs v t then equal inputs v x y else equal inputs v p q)
  FormIs a b (form.Either x y p q) = equal inputs v a b ≡ (equal inputs v x y || equal inputs v p q)
  FormIs a b (form.Against x k) = equal inputs v a b ≡ ((v x.0).bits == k.bits)

  -- the number of a pick
  pick_bits : (nodes : List Node) (a t x y : Id) → slice_get nodes a.0 ≡ Some (Pick t x y) → Fits inputs v nodes →
      (v a.0).bits ≡ (if holds inputs v t then (v x.0).bits else (v y.0).bits)
  pick_bits nodes a t x y e h = ap (λ (z : Number). z.bits) (h.values a.0 (Pick t x y) e) ∙ number_if (holds inputs v t) (v x.0) (v y.0)

  both_true : (a b : Bool) → (a && b) ≡ true → (a ≡ true) × (b ≡ true)
  both_true true b h = (refl, h)
  both_true false b h = absurd (cc)

  picks_case : (nodes : List Node) (a b t x y u p q : Id) (w : ℕ) (c d e : Bool) → (t.0 == u.0) ≡ c → (x.0 == p.0 && y.0 == q.0) ≡ d →
      PickHas nodes t x y w → PickHas nodes u p q w →
      slice_get nodes a.0 ≡ Some (Pick t x y) → slice_get nodes b.0 ≡ Some (Pick u p q) → Fits inputs v nodes →
      FormIs a b (if c then form.Split t x p y q else if d then form.Either t u x y else if e then form.Split u a p a q else form.Split t x b y b)
  picks_case nodes a b t x y u p q w true d e f g m n k l h =
      let same : (if holds inputs v u then (v p.0).bits else (v q.0).bits) ≡ (if holds inputs v t then (v p.0).bits else (v q.0).bits) =
      ap (λ z. if (v z).bits == 1 then (v p.0).bits else (v q.0).bits) (sym ((Decides-eqb t.0 u.0).0 f)) in
      ap (λ z. z == (v b.0).bits) (pick_bits nodes a t x y k h)
      ∙ ap (λ z. (if holds inputs v t then (v x.0).bits else (v y.0).bits) == z) (pick_bits nodes b u p q l h ∙ same)
      ∙ split_both (holds inputs v t) (v x.0).bits (v y.0).bits (v p.0).bits (v q.0).bits
  picks_case nodes a b t x y u p q w false true e f g m n k l h =
      let r = both_true (x.0 == p.0) (y.0 == q.0) g in
      let xp : p.0 ≡ x.0 = sym ((Decides-eqb x.0 p.0).0 r.0) in
      let yq : q.0 ≡ y.0 = sym ((Decides-eqb y.0 q.0).0 r.1) in
      let c = holds inputs v t in let d = holds inputs v u in
      ap (λ z. z == (v b.0).bits) (pick_bits nodes a t x y k h)
      ∙ ap (λ z. (if c then (v x.0).bits else (v y.0).bits) == z)
      (pick_bits nodes b u p q l h ∙ ap (λ z. if d then (v z).bits else (v q.0).bits) xp ∙ ap (λ z. if d then (v x.0).bits else (v z).bits) yq)
      ∙ either_equal c d (v x.0).bits (v y.0).bits
      ∙ ap (λ (z : Number). (z.bits == bit_of d) || ((v x.0).bits == (v y.0).bits)) (sym (term_digit inputs v nodes t h m.test))
      ∙ ap (λ (z : Number). ((v t.0).bits == z.bits) || ((v x.0).bits == (v y.0).bits)) (sym (term_digit inputs v nodes u h n.test))
  picks_case nodes a b t x y u p q w false false true f g m n k l h =
      ap (λ z. (v a.0).bits == z) (pick_bits nodes b u p q l h) ∙ split_other (holds inputs v u) (v a.0).bits (v p.0).bits (v q.0).bits
  picks_case nodes a b t x y u p q w false false false f g m n k l h =
      ap (λ z. z == (v b.0).bits) (pick_bits nodes a t x y k h) ∙ split_one (holds inputs v t) (v x.0).bits (v y.0).bits (v b.0).bits

  -- where one of the words is a constant
  constant_case : (nodes : List Node) (h : Fits inputs v nodes) (a b : Id) (k : Number) (f : Form) → v b.0 ≡ k → IsAgainst inputs v nodes h a k f → FormIs a b f
  constant_case nodes h a b k form.One e d = ap (λ (z : Number). (v a.0).bits == z.bits) e ∙ d
  constant_case nodes h a b k form.Never e d = ap (λ (z : Number). (v a.0).bits == z.bits) e ∙ d
  constant_case nodes h a b k (form.Known c) e d = absurd d
  constant_case nodes h a b k form.Plain e d = tt
  constant_case nodes h a b k (form.Split t x y p q) e d = absurd d
  constant_case nodes h a b k (form.Either x y p q) e d = absurd d
  constant_case nodes h a b k (form.Against x m) e d = ap (λ (z : Number). (v a.0).bits == z.bits) e ∙ d.2

  other_case : (nodes : List Node) (h : Fits inputs v nodes) (a b : Id) (k : Number) (f : Form) → v a.0 ≡ k → IsAgainst inputs v nodes h b k f → FormIs a b f
  other_case nodes h a b k form.One e d = turned (v a.0).bits (v b.0).bits ∙ constant_case nodes h b a k form.One e d
  other_case nodes h a b k form.Never e d = turned (v a.0).bits (v b.0).bits ∙ constant_case nodes h b a k form.Never e d
  other_case nodes h a b k (form.Known c) e d = absurd d
  other_case nodes h a b k form.Plain e d = tt
  other_case nodes h a b k (form.Split t x y p q) e d = absurd d
  other_case nodes h a b k (form.Either x y p q) e d = absurd d
  other_case nodes h a b k (form.Against x m) e d = turned (v a.0).bits (v b.0).bits ∙ constant_case nodes h b a k (form.Against x m) e d

  known_case : (nodes : List Node) (a b : Id) (w : ℕ) (m n : Option Number) → known_in (slice_get nodes a.0) ≡ m → known_in (slice_get nodes b.0) ≡ n →
      HasWidth nodes a w → HasWidth nodes b w → Fits inputs v nodes → FormIs a b (against_known nodes a b m n)
  known_case nodes a b w m (Some k) e f i j h =
      let g = constant_there nodes b k f in
      constant_case nodes h a b k (against nodes a k) (h.values b.0 (Const k) g)
      (against_is inputs v nodes h a k (constant_wide nodes a b w k h.ordered g i j) (constant_word nodes b.0 k h.ordered g))
  known_case nodes a b w (Some k) None e f i j h =
      let g = constant_there nodes a k e in
      other_case nodes h a b k (against nodes b k) (h.values a.0 (Const k) g)
      (against_is inputs v nodes h b k (constant_wide nodes b a w k h.ordered g j i) (constant_word nodes a.0 k h.ordered g))
  known_case nodes a b w None None e f i j h = tt

  nodes_case : (nodes : List Node) (a b : Id) (w : ℕ) (m n : Option Node) → slice_get nodes a.0 ≡ m → slice_get nodes b.0 ≡ n → HasWidth nodes a w →
      HasWidth nodes b w → Fits inputs v nodes →
      FormIs a b (form_of nodes a b m n)
  nodes_case nodes a b w (Some (Pick t x y)) (Some (Pick u p q)) e f i j h =
      picks_case nodes a b t x y u p q w (t.0 == u.0) (x.0 == p.0 && y.0 == q.0) (nat_lt t.0 u.0) refl refl
      (pick_children nodes a t x y w h.ordered e i) (pick_children nodes b u p q w h.ordered f j) e f h
  nodes_case nodes a b w (Some (Pick t x y)) n e f i j h =
      ap (λ z. z == (v b.0).bits) (pick_bits nodes a t x y e h) ∙ split_one (holds inputs v t) (v x.0).bits (v y.0).bits (v b.0).bits
  nodes_case nodes a b w m (Some (Pick u p q)) e f i j h =
      ap (λ z. (v a.0).bits == z) (pick_bits nodes b u p q f h) ∙ split_other (holds inputs v u) (v a.0).bits (v p.0).bits (v q.0).bits
  nodes_case nodes a b w m n e f i j h = known_case nodes a b w (known_in m) (known_in n) (ap known_in e) (ap known_in f) i j h

  known_here : (k : Compared) (ks : List Compared) (a b c : Id) (t : Bool) → (k.one.0 == a.0 && k.two.0 == b.0) ≡ t → KnownIs (k ∷ ks) →
      (if t then Some k.answer else known_for ks a b) ≡ Some c →
      (known_for ks a b ≡ Some c → v c.0 ≡ word 1 (bit_of (equal inputs v a b))) → v c.0 ≡ word 1 (bit_of (equal inputs v a b))
  known_here k ks a b c true f h e r =
      let g : k.answer ≡ c = cc in
      let s = both_true (k.one.0 == a.0) (k.two.0 == b.0) f in
      ap (λ (z : Id). v z.0) (sym g) ∙ All-head (λ (k : Compared). v k.answer.0 ≡ word 1 (bit_of (equal inputs v k.one k.two))) k ks h
      ∙ ap (λ z. word 1 (bit_of ((v z).bits == (v k.two.0).bits))) ((Decides-eqb k.one.0 a.0).0 s.0)
      ∙ ap (λ z. word 1 (bit_of ((v a.0).bits == (v z).bits))) ((Decides-eqb k.two.0 b.0).0 s.1)
  known_here k ks a b c false f h e r = r e

  known_there : (ks : List Compared) (a b c : Id) → KnownIs ks → known_for ks a b ≡ Some c → v c.0 ≡ word 1 (bit_of (equal inputs v a b))
  known_there [] a b c h e = absurd (cc)
  known_there (k ∷ ks) a b c h e =
      known_here k ks a b c (k.one.0 == a.0 && k.two.0 == b.0) refl h e
      (known_there ks a b c (All-tail (λ (k : Compared). v k.answer.0 ≡ word 1 (bit_of (equal inputs v k.one k.two))) k ks h))

  unless_case : (a b : Id) (c : Option Id) (fuel : ℕ) (f : Form) → ((x : Id) → c ≡ Some x → v x.0 ≡ word 1 (bit_of (equal inputs v a b))) →
      FormIs a b f → FormIs a b (form_unless c fuel f)
  unless_case a b (Some x) fuel f h k = h x refl
  unless_case a b None fuel f h k = fuel_case (fuel == 0) where
    fuel_case : (t : Bool) → FormIs a b (if t then form.Plain else f)
    fuel_case true = tt
    fuel_case false = k

  one_case : (a b : Id) (t : Bool) (f : Form) → (a.0 == b.0) ≡ t → FormIs a b f → FormIs a b (if t then form.One else f)
  one_case a b true f e h = ap (λ z. (v a.0).bits == (v z).bits) (sym ((Decides-eqb a.0 b.0).0 e)) ∙ self_equal (v a.0).bits
  one_case a b false f e h = h

  form_is : (s : SoFar) (nodes : List Node) (a b : Id) → WordsAlike nodes a b → KnownIs s.known → Fits inputs v nodes → FormIs a b (form_at s nodes a b)
  form_is s nodes a b w k h =
      one_case a b (a.0 == b.0) (form_unless (known_for s.known a b) s.fuel (form_of nodes a b (slice_get nodes a.0) (slice_get nodes b.0))) refl
      (unless_case a b (known_for s.known a b) s.fuel (form_of nodes a b (slice_get nodes a.0) (slice_get nodes b.0)) (λ c. known_there s.known a b c k)
      (nodes_case nodes a b w.width (slice_get nodes a.0) (slice_get nodes b.0) refl refl w.one_has w.two_has h))

  -- what a comparison gives
  pub record ComparedIs (a b : Id) (o : Out Answer) : Type 0 where
    pub term : TermIs inputs v o.nodes 1 (word 1 (bit_of (equal inputs v a b))) o.value.term
    pub fit : KnownFit o.nodes o.value.so_far.known
    pub known : KnownIs o.value.so_far.known

  abbrev IsGood : Step → Type 0
  IsGood next = (s : SoFar) (a b : Id) (nodes : List Node) → WordsAlike nodes a b → KnownFit nodes s.known → KnownIs s.known →
      Fits inputs v (next s a b nodes).nodes → ComparedIs a b (next s a b nodes)

  learned_is : (a b r : Id) (s : SoFar) (nodes : List Node) → KnownFit nodes s.known → KnownIs s.known →
      TermIs inputs v nodes 1 (word 1 (bit_of (equal inputs v a b))) r →
      ComparedIs a b (record { value = learned a b s r; nodes = nodes })
  learned_is a b r s nodes f k m =
      let new : Compared = record { one = a; two = b; answer = r } in
      record {
        term = m;
        fit = known_more nodes s.known new f m.wide;
        known =
            All-push (λ (k : Compared). v k.answer.0 ≡ word 1 (bit_of (equal inputs v k.one k.two))) s.known new k m.is;
      }

  module _ (kinds : List RuleKind) where
    plain_is : (s : SoFar) (a b : Id) (nodes : List Node) → WordsAlike nodes a b → KnownFit nodes s.known → KnownIs s.known →
        Fits inputs v (made kinds (Bin Eq a b) nodes).nodes →
        ComparedIs a b (record { value = record { term = (made kinds (Bin Eq a b) nodes).value; so_far = s }; nodes = (made kinds (Bin Eq a b) nodes).nodes })
    plain_is s a b nodes w f k h =
        let m = made_is inputs v kinds (Bin Eq a b) nodes (can_equal nodes a b w.width w.one_has w.two_has) h in
        record {
          term = record { wide = m.wide; is = m.is };
          fit =
              known_wider nodes (made kinds (Bin Eq a b) nodes).nodes s.known (made_grows kinds (Bin Eq a b) nodes) f;
          known = k;
        }

    compared_as_is : (next : Step) (s : SoFar) (a b : Id) (f : Form) (nodes : List Node) → IsGood next → OnlyGrows next → WordsAlike nodes a b →
        KnownFit nodes s.known → KnownIs s.known →
        FormFits nodes f → (Fits inputs v nodes → FormIs a b f) → Fits inputs v (compared_as kinds next s a b f nodes).nodes →
        ComparedIs a b (compared_as kinds next s a b f nodes)
    compared_as_is next s a b form.One nodes good grow w f k d e h =
        let o = made kinds (Const (word 1 1)) nodes in
        let g = made_grows kinds (Const (word 1 1)) nodes in
        let m = made_is inputs v kinds (Const (word 1 1)) nodes (record { least = omega arith; most = omega arith; fits = omega arith }) h in
        record {
          term = record { wide = m.wide; is = m.is ∙ ap (λ z. word 1 (bit_of z)) (sym (e (fits_fewer inputs v nodes o.nodes g h))) };
          fit = known_wider nodes o.nodes s.known g f;
          known = k;
        }
    compared_as_is next s a b form.Never nodes good grow w f k d e h =
        let o = made kinds (Const (word 1 0)) nodes in
        let g = made_grows kinds (Const (word 1 0)) nodes in
        let m = made_is inputs v kinds (Const (word 1 0)) nodes (record { least = omega arith; most = omega arith; fits = omega arith }) h in
        record {
          term = record { wide = m.wide; is = m.is ∙ ap (λ z. word 1 (bit_of z)) (sym (e (fits_fewer inputs v nodes o.nodes g h))) };
          fit = known_wider nodes o.nodes s.known g f;
          known = k;
        }
    compared_as_is next s a b (form.Known answer) nodes good grow w f k d e h = record { term = record { wide = d; is = e h }; fit = f; known = k }
    compared_as_is next s a b form.Plain nodes good grow w f k d e h = plain_is s a b nodes w f k h
    compared_as_is next s a b (form.Split t x y p q) nodes good grow w f k d e h =
        let o = next (spent s) x y nodes in
        let c = o.value in
        let m = next c.so_far p q o.nodes in
        let l = m.value in
        let r = picked kinds t c.term l.term m.nodes in
        let og = grow (spent s) x y nodes in
        let mg = grow c.so_far p q o.nodes in
        let rg = picked_grows kinds t c.term l.term m.nodes in
        let mh = fits_fewer inputs v m.nodes r.nodes rg h in
        let oh = fits_fewer inputs v o.nodes m.nodes mg mh in
        let one = good (spent s) x y nodes d.1 f k oh in
        let two = good c.so_far p q o.nodes (alike_wider nodes o.nodes p q og d.2) one.fit one.known mh in
        let ot = one.term in let tt2 = two.term in
        let z = picked_is inputs v kinds 1 t c.term l.term m.nodes (wider o.nodes m.nodes t 1 mg (wider nodes o.nodes t 1 og d.0))
        (wider o.nodes m.nodes c.term 1 mg ot.wide) tt2.wide h in
        let test = holds inputs v t in
        learned_is a b r.value l.so_far r.nodes (known_wider m.nodes r.nodes l.so_far.known rg two.fit) two.known
        (record {
          wide = z.wide;
          is = z.is ∙ ap (λ n. if test then n else v l.term.0) ot.is ∙ ap (λ n. if test then word 1 (bit_of (equal inputs v x y)) else n) tt2.is
              ∙ pick_digits test (equal inputs v x y) (equal inputs v p q) ∙ ap (λ n. word 1 (bit_of n)) (sym (e (fits_fewer inputs v nodes o.nodes og oh)));
        })
    compared_as_is next s a b (form.Either x y p q) nodes good grow w f k d e h =
        let o = next (spent s) x y nodes in
        let c = o.value in
        let m = next c.so_far p q o.nodes in
        let l = m.value in
        let r = made kinds (Bin Or c.term l.term) m.nodes in
        let og = grow (spent s) x y nodes in
        let mg = grow c.so_far p q o.nodes in
        let rg = made_grows kinds (Bin Or c.term l.term) m.nodes in
        let mh = fits_fewer inputs v m.nodes r.nodes rg h in
        let oh = fits_fewer inputs v o.nodes m.nodes mg mh in
        let one = good (spent s) x y nodes d.0 f k oh in
        let two = good c.so_far p q o.nodes (alike_wider nodes o.nodes p q og d.1) one.fit one.known mh in
        let ot = one.term in let tt2 = two.term in
        let cw = wider o.nodes m.nodes c.term 1 mg ot.wide in
        let z = made_is inputs v kinds (Bin Or c.term l.term) m.nodes (can_or m.nodes c.term l.term 1 cw tt2.wide) h in
        learned_is a b r.value l.so_far r.nodes (known_wider m.nodes r.nodes l.so_far.known rg two.fit) two.known
        (record {
          wide = z.wide ∙ ap (λ n. Some n) (width_is m.nodes c.term 1 cw);
          is = z.is ∙ ap (λ n. apply_to Or n (v l.term.0)) ot.is ∙ ap (apply_to Or (word 1 (bit_of (equal inputs v x y)))) tt2.is
              ∙ or_digits (equal inputs v x y) (equal inputs v p q) ∙ ap (λ n. word 1 (bit_of n)) (sym (e (fits_fewer inputs v nodes o.nodes og oh)));
        })
    compared_as_is next s a b (form.Against x m) nodes good grow w f k d e h =
        let o = made kinds (Const m) nodes in
        let og = made_grows kinds (Const m) nodes in
        let r = next (spent s) x o.value o.nodes in
        let l = r.value in
        let oh = fits_fewer inputs v o.nodes r.nodes (grow (spent s) x o.value o.nodes) h in
        let c = made_is inputs v kinds (Const m) nodes d.1 oh in
        let one = good (spent s) x o.value o.nodes (record { width = m.width; one_has = wider nodes o.nodes x m.width og d.0; two_has = c.wide })
        (known_wider nodes o.nodes s.known og f) k h in
        let t = one.term in
        learned_is a b l.term l.so_far r.nodes one.fit one.known (record {
          wide = t.wide;
          is = t.is ∙ ap (λ (z : Number). word 1 (bit_of ((v x.0).bits == z.bits))) c.is
              ∙ ap (λ n. word 1 (bit_of n)) (sym (e (fits_fewer inputs v nodes o.nodes og oh)));
        })

    pub same_within_is : (depth : ℕ) → IsGood (same_within kinds depth)
    unfolding same_within
    same_within_is zero s a b nodes w f k h = plain_is s a b nodes w f k h
    same_within_is (suc depth) s a b nodes w f k h =
        let n = fits_fewer inputs v nodes (same_within kinds (suc depth) s a b nodes).nodes (same_within_grows kinds (suc depth) s a b nodes) h in
        compared_as_is (same_within kinds depth) s a b (form_at s nodes a b) nodes (same_within_is depth) (same_within_grows kinds depth) w f k
        (form_fits s nodes a b n.ordered w f)
        (form_is s nodes a b w k) h

    -- the equality of two words is what it says
    pub same_words_is : (a b : Id) (nodes : List Node) → WordsAlike nodes a b → Fits inputs v (same_words kinds a b nodes).nodes →
        TermIs inputs v (same_words kinds a b nodes).nodes 1 (word 1 (bit_of (equal inputs v a b))) (same_words kinds a b nodes).value
    same_words_is a b nodes w h =
        let r = same_within_is SPLIT_LIMIT (record { fuel = SPLIT_LIMIT; known = [] }) a b nodes w (All-nil (λ (k : Compared). HasWidth nodes k.answer 1))
        (All-nil (λ (k : Compared). v k.answer.0 ≡ word 1 (bit_of (equal inputs v k.one k.two)))) h in
        r.term
