-- What sums are worth, modulo 2 to their width.
use Rattle.std.proofs.Common.{◌≡◌, ◌<◌, ◌≤◌, ◌==◌, ◌+◌, ◌-◌, ◌*◌, ◌%◌, ◌^◌, ℕ, zero, suc, Bool, true, false}
use Rattle.std.proofs.Common.{if◌then◌else◌, Option, Some, None, List, [], ◌∷◌, ◌++◌, All, slice_get, refl, sym, ap, ◌∙◌, subst, arith}
use Rattle.std.specs.Prelude.{nat_lt}
use Rattle.std.proofs.Math.Nat.{add-mul, mul-add, mul_comm, mul_assoc}
use Rattle.std.proofs.lemmas.Bool.Decides.{Decides-eqb}
use Rattle.std.proofs.lemmas.List.Elements.{All-head, All-tail}
use Rattle.ygg_value.specs.Number.{Number}
use Rattle.ygg_value.specs.Words.{apply_bits}
use Rattle.ygg_value.specs.declared.operation.Op.{Op}
use Rattle.ygg_value.specs.declared.operation.Op.TheVariants.{Add, Sub, Mul, Eq}
use Rattle.ygg_shape_words.specs.ygg_bank_proofs_Fitting.{constant_there}
use Rattle.ygg_shape_words.specs.ygg_bank.Making.{known_in}
use Rattle.ygg_shape_words.specs.ygg_bank.Nodes.{HasWidth}
use Rattle.ygg_shape_words.specs.ygg_bank.Values.{Inputs, Values, Fits}
use Rattle.ygg_shape_words.specs.ygg_bank.declared.node.Id.{Id}
use Rattle.ygg_shape_words.specs.ygg_bank.declared.node.Node.{Node}
use Rattle.ygg_shape_words.specs.ygg_bank.declared.node.Node.TheVariants.{Const, Bin, Not, Pick}
use Rattle.ygg_shape_words.proofs.Children.{not_wide}
use Rattle.ygg_shape_words.proofs.Terms.{holds, number_if, bit_is}
use Rattle.ygg_shape_sums.proofs.Fit.{operands, listed_fit}
use Rattle.ygg_shape_sums.proofs.Modulo.{Like, like, like_back, like_both, like_add, like_times, like_many, like_own, like_cut, like_sub, like_not}
use Rattle.ygg_shape_sums.specs.Parts.{Sum, PartsFit, part, empty, merged, with_part, with_number}
use Rattle.ygg_shape_sums.specs.Readings.{read, read_bin, read_pick, decided, said, first_of, excluded, differ}
use Rattle.ygg_shape_sums.specs.Gathers.{parts_of, counted, with_all, gathered, gathered_sum}
use Rattle.ygg_shape_sums.specs.declared.gathering.TheConstants.{READ_LIMIT}
use Rattle.ygg_shape_sums.specs.declared.parts.Summand.{Summand}
use Rattle.ygg_shape_sums.specs.declared.reading.Fact.{Fact}
use Rattle.ygg_shape_sums.specs.declared.reading.Decomposition.{Decomposition}
use Rattle.ygg_shape_sums.specs.declared.reading.Decomposition.TheVariants as reading
use Rattle.ygg_shape_sums.specs.declared.reading.TheConstants.{LESS_ONE}

swapped : (a b c : ℕ) → a + (b + c) ≡ b + (a + c)
swapped a b c = omega arith

one_time : (x : ℕ) → 1 * x ≡ x
one_time x = omega arith

nothing_more : (x : ℕ) → x + 0 ≡ x
nothing_more x = omega arith

added_twice : (a b x c : ℕ) → (a + b) * x + c ≡ b * x + (a * x + c)
added_twice a b x c = ap (λ z. z + c) (add-mul a b x) ∙ regroup (a * x) (b * x) c where
  regroup : (p q r : ℕ) → p + q + r ≡ q + (p + r)
  regroup p q r = omega arith

joined : (a b c : ℕ) → a + (b + c) ≡ a + b + c
joined a b c = omega arith

turned : (p q r : ℕ) → p + (q + r) ≡ q + p + r
turned p q r = omega arith

module _ (inputs : Inputs) (v : Values) where
  -- the number of a term
  abbrev pub bits : Id → ℕ
  bits a = (v a.0).bits

  -- what parts are worth, and sums
  abbrev pub amount : List Summand → ℕ
  amount [] = 0
  amount (p ∷ ps) = p.times * bits p.term + amount ps

  abbrev pub worth : Sum → ℕ
  worth s = s.number + amount s.parts

  -- the tests have the digits that are taken for granted
  abbrev pub FactsHold : List Fact → Type 0
  FactsHold = All (λ (f : Fact). holds inputs v f.test ≡ f.yes)

  pub amount-append : (ps qs : List Summand) → amount (ps ++ qs) ≡ amount ps + amount qs
  amount-append [] qs = none_before (amount qs) where
    none_before : (x : ℕ) → x ≡ 0 + x
    none_before x = omega arith
  amount-append (p ∷ ps) qs =
      ap (λ z. p.times * bits p.term + z) (amount-append ps qs) ∙ three (p.times * bits p.term) (amount ps) (amount qs) where
        three : (a b c : ℕ) → a + (b + c) ≡ a + b + c
        three a b c = omega arith

  -- facts say what tests are
  differ_is : (x y : Id) (k m : Option Number) (b : Bool) → ((n : Number) → k ≡ Some n → bits x ≡ n.bits) → ((n : Number) → m ≡ Some n → bits y ≡ n.bits) →
      (z : ℕ) → z ≡ bits x → differ k m ≡ Some b → (z == bits y) ≡ b
  differ_is x y (Some k) (Some m) b e f z g d = known_case (k.bits == m.bits) refl d where
    known_case : (c : Bool) → (k.bits == m.bits) ≡ c → (if c then None else Some false) ≡ Some b → (z == bits y) ≡ b
    known_case true h d = absurd (cc)
    known_case false h d =
        let r : false ≡ b = cc in
        ap (λ u. u == bits y) (g ∙ e k refl) ∙ ap (λ u. k.bits == u) (f m refl) ∙ h ∙ r
  differ_is x y (Some k) None b e f z g d = absurd (cc)
  differ_is x y None m b e f z g d = absurd (cc)

  module _ (nodes : List Node) (f : Fits inputs v nodes) where
    constant_is : (a : Id) (n : Number) → known_in (slice_get nodes a.0) ≡ Some n → bits a ≡ n.bits
    constant_is a n e = ap (λ (z : Number). z.bits) (f.values a.0 (Const n) (constant_there nodes a n e))

    equal_holds : (p x k : Id) → slice_get nodes p.0 ≡ Some (Bin Eq x k) → holds inputs v p ≡ (bits x == bits k)
    equal_holds p x k e = ap (λ (z : Number). z.bits == 1) (f.values p.0 (Bin Eq x k) e) ∙ bit_is (bits x == bits k)

    term_case : (p q x k y m : Id) (b c : Bool) → slice_get nodes p.0 ≡ Some (Bin Eq x k) → slice_get nodes q.0 ≡ Some (Bin Eq y m) → holds inputs v p ≡ true →
        (x.0 == y.0) ≡ c → (if c then differ (known_in (slice_get nodes k.0)) (known_in (slice_get nodes m.0)) else None) ≡ Some b → holds inputs v q ≡ b
    term_case p q x k y m b true e g h t d =
        let s : bits x ≡ bits k = (Decides-eqb (bits x) (bits k)).0 (sym (equal_holds p x k e) ∙ h) in
        let i : bits y ≡ bits x = ap (λ z. (v z).bits) (sym ((Decides-eqb x.0 y.0).0 t)) in
        equal_holds q y m g
        ∙ differ_is k m (known_in (slice_get nodes k.0)) (known_in (slice_get nodes m.0)) b (constant_is k) (constant_is m) (bits y) (i ∙ s) d
    term_case p q x k y m b false e g h t d = absurd (cc)

    excluded_is : (p q : Id) (n m : Option Node) (b : Bool) → slice_get nodes p.0 ≡ n → slice_get nodes q.0 ≡ m → holds inputs v p ≡ true →
        excluded nodes n m ≡ Some b → holds inputs v q ≡ b
    excluded_is p q (Some (Bin Eq x k)) (Some (Bin Eq y m)) b e g h d = term_case p q x k y m b (x.0 == y.0) e g h refl d
    excluded_is p q n m b e g h d = absurd (cc)

    said_is : (p q : Id) (own b c : Bool) → holds inputs v p ≡ own → (p.0 == q.0) ≡ c →
        (if c then Some own else if own then excluded nodes (slice_get nodes p.0) (slice_get nodes q.0) else None) ≡ Some b → holds inputs v q ≡ b
    said_is p q own b true h t d = let e : own ≡ b = cc in ap (λ z. (v z).bits == 1) (sym ((Decides-eqb p.0 q.0).0 t)) ∙ h ∙ e
    said_is p q true b false h t d = excluded_is p q (slice_get nodes p.0) (slice_get nodes q.0) b refl refl h d
    said_is p q false b false h t d = absurd (cc)

    first_case : (q : Id) (b : Bool) (m n : Option Bool) → (m ≡ Some b → holds inputs v q ≡ b) → (n ≡ Some b → holds inputs v q ≡ b) →
        first_of m n ≡ Some b → holds inputs v q ≡ b
    first_case q b (Some c) n h i d = h d
    first_case q b None n h i d = i d

    decided_is : (fs : List Fact) (q : Id) (b : Bool) → FactsHold fs → decided nodes fs q ≡ Some b → holds inputs v q ≡ b
    decided_is [] q b h d = absurd (cc)
    decided_is (g ∷ fs) q b h d =
        let P = λ (f : Fact). holds inputs v f.test ≡ f.yes in
        first_case q b (said nodes g q) (decided nodes fs q) (said_is g.test q g.yes b (g.test.0 == q.0) (All-head P g fs h) refl)
        (decided_is fs q b (All-tail P g fs h)) d

  -- what a term is read as, where it is worth x as it is
  abbrev pub reading_worth : Decomposition → ℕ → ℕ
  reading_worth reading.Whole x = x
  reading_worth (reading.Number n) x = n
  reading_worth (reading.Times m y n) x = m * bits y + n
  reading_worth (reading.Both y m z) x = bits y + m * bits z

  module _ (w : ℕ) (most : w ≤ 64) where
    merged_case : (p q : Summand) (qs rest : List Summand) (c d : Bool) → (q.term.0 == p.term.0) ≡ c →
        Like (2 ^ w) (amount rest) (p.times * bits p.term + amount qs) →
        Like (2 ^ w) (amount (if c then part ((q.times + p.times) % 2 ^ 64) q.term ∷ qs else if d then p ∷ q ∷ qs else q ∷ rest))
        (p.times * bits p.term + amount (q ∷ qs))
    merged_case p q qs rest true d e h =
        let m = 2 ^ w in
        let x = bits q.term in
        let i : bits p.term ≡ x = ap (λ z. (v z).bits) (sym ((Decides-eqb q.term.0 p.term.0).0 e)) in
        let k = q.times + p.times in
        like_both m (k % 2 ^ 64 * x + amount qs) (k * x + amount qs) (p.times * bits p.term + amount (q ∷ qs))
        (like_add m (k % 2 ^ 64 * x) (k * x) (amount qs) (amount qs) (like_many m x (k % 2 ^ 64) k (like_cut w k most)) (like m (amount qs) (amount qs) refl))
        (like m (k * x + amount qs) (p.times * bits p.term + amount (q ∷ qs))
        (added_twice q.times p.times x (amount qs) ∙ ap (λ z. p.times * z + (q.times * x + amount qs)) (sym i)))
    merged_case p q qs rest false true e h =
        like (2 ^ w) (p.times * bits p.term + amount (q ∷ qs)) (p.times * bits p.term + amount (q ∷ qs)) refl
    merged_case p q qs rest false false e h =
        let m = 2 ^ w in
        let x = q.times * bits q.term in
        let y = p.times * bits p.term in
        like_both m (x + amount rest) (x + (y + amount qs)) (y + (x + amount qs)) (like_add m x x (amount rest) (y + amount qs) (like m x x refl) h)
        (like m (x + (y + amount qs)) (y + (x + amount qs)) (swapped x y (amount qs)))

    merged_is : (p : Summand) (ps : List Summand) → Like (2 ^ w) (amount (merged p ps)) (p.times * bits p.term + amount ps)
    merged_is p [] = like (2 ^ w) (p.times * bits p.term + 0) (p.times * bits p.term + 0) refl
    merged_is p (q ∷ qs) = merged_case p q qs (merged p qs) (q.term.0 == p.term.0) (nat_lt p.term.0 q.term.0) refl (merged_is p qs)

    pub with_part_is : (p : Summand) (s : Sum) → Like (2 ^ w) (worth (with_part p s)) (p.times * bits p.term + worth s)
    with_part_is p s =
        let m = 2 ^ w in
        let y = p.times * bits p.term in
        like_both m (s.number + amount (merged p s.parts)) (s.number + (y + amount s.parts)) (y + worth s)
        (like_add m s.number s.number (amount (merged p s.parts)) (y + amount s.parts) (like m s.number s.number refl) (merged_is p s.parts))
        (like m (s.number + (y + amount s.parts)) (y + (s.number + amount s.parts)) (swapped s.number y (amount s.parts)))

    with_number_is : (n k : ℕ) (s : Sum) → Like (2 ^ w) (worth (with_number (k * n % 2 ^ 64) s)) (k * n + worth s)
    with_number_is n k s =
        let m = 2 ^ w in
        let a = amount s.parts in
        let c = (s.number + k * n % 2 ^ 64) % 2 ^ 64 in
        like_both m (c + a) (s.number + k * n + a) (k * n + worth s)
        (like_add m c (s.number + k * n) a a (like_both m c (s.number + k * n % 2 ^ 64) (s.number + k * n) (like_cut w (s.number + k * n % 2 ^ 64) most)
        (like_add m s.number s.number (k * n % 2 ^ 64) (k * n) (like m s.number s.number refl) (like_cut w (k * n) most))) (like m a a refl))
        (like m (s.number + k * n + a) (k * n + (s.number + a)) (sym (turned (k * n) s.number a)))

    with_all_is : (ps : List Summand) (s : Sum) → Like (2 ^ w) (worth (with_all ps s)) (amount ps + worth s)
    with_all_is [] s = like (2 ^ w) (worth s) (0 + worth s) (sym (ap (λ z. z) (front_zero (worth s)))) where
      front_zero : (x : ℕ) → 0 + x ≡ x
      front_zero x = omega arith
    with_all_is (p ∷ ps) s =
        let m = 2 ^ w in
        let y = p.times * bits p.term in
        like_both m (worth (with_all ps (with_part p s))) (amount ps + worth (with_part p s)) (amount (p ∷ ps) + worth s) (with_all_is ps (with_part p s))
        (like_both m (amount ps + worth (with_part p s)) (amount ps + (y + worth s)) (amount (p ∷ ps) + worth s)
        (like_add m (amount ps) (amount ps) (worth (with_part p s)) (y + worth s) (like m (amount ps) (amount ps) refl) (with_part_is p s))
        (like m (amount ps + (y + worth s)) (y + amount ps + worth s) (turned (amount ps) y (worth s))))

    module _ (nodes : List Node) (f : Fits inputs v nodes) where
      small : (a : Id) → HasWidth nodes a w → bits a < 2 ^ w
      small a h = let p = f.words a.0 in subst (λ u. bits a < 2 ^ u) (f.widths a.0 w h) p.fits

      -- what an operation is worth
      pub bin_bits : (a x y : Id) (op : Op) → slice_get nodes a.0 ≡ Some (Bin op x y) → HasWidth nodes x w → bits a ≡ apply_bits op w (bits x) (bits y)
      bin_bits a x y op e h =
          ap (λ (z : Number). z.bits) (f.values a.0 (Bin op x y) e) ∙ ap (λ u. apply_bits op u (bits x) (bits y)) (f.widths x.0 w h)

      known_bits : (a : Id) (n : Number) → known_in (slice_get nodes a.0) ≡ Some n → bits a ≡ n.bits
      known_bits a n e = ap (λ (z : Number). z.bits) (f.values a.0 (Const n) (constant_there nodes a n e))

      bin_is : (a x y : Id) (op : Op) (k m : Option Number) → known_in (slice_get nodes x.0) ≡ k → known_in (slice_get nodes y.0) ≡ m →
          slice_get nodes a.0 ≡ Some (Bin op x y) → HasWidth nodes a w → Like (2 ^ w) (bits a) (reading_worth (read_bin op x y k m) (bits a))
      bin_is a x y Add k m d e g h =
          let p = operands nodes a x y Add w f.ordered g h (λ x y d. d) (λ w. refl) in
          let r = bits x + bits y in
          like_both (2 ^ w) (bits a) r (bits x + 1 * bits y)
          (like_both (2 ^ w) (bits a) (r % 2 ^ w) r (like (2 ^ w) (bits a) (r % 2 ^ w) (bin_bits a x y Add g p.0)) (like_own (2 ^ w) r))
          (like (2 ^ w) r (bits x + 1 * bits y) (ap (λ z. bits x + z) (sym (one_time (bits y)))))
      bin_is a x y Sub k m d e g h =
          let p = operands nodes a x y Sub w f.ordered g h (λ x y d. d) (λ w. refl) in
          let r = (bits x + 2 ^ w - bits y) % 2 ^ w in
          like_both (2 ^ w) (bits a) r (bits x + LESS_ONE * bits y) (like (2 ^ w) (bits a) r (bin_bits a x y Sub g p.0))
          (like_sub w (bits x) (bits y) most (small y p.1))
      bin_is a x y Mul k (Some n) d e g h =
          let p = operands nodes a x y Mul w f.ordered g h (λ x y d. d) (λ w. refl) in
          let r = bits x * bits y in
          like_both (2 ^ w) (bits a) r (n.bits * bits x + 0)
          (like_both (2 ^ w) (bits a) (r % 2 ^ w) r (like (2 ^ w) (bits a) (r % 2 ^ w) (bin_bits a x y Mul g p.0)) (like_own (2 ^ w) r))
          (like (2 ^ w) r (n.bits * bits x + 0)
          (ap (λ z. bits x * z) (known_bits y n e) ∙ mul_comm (bits x) n.bits ∙ sym (nothing_more (n.bits * bits x))))
      bin_is a x y Mul (Some n) None d e g h =
          let p = operands nodes a x y Mul w f.ordered g h (λ x y d. d) (λ w. refl) in
          let r = bits x * bits y in
          like_both (2 ^ w) (bits a) r (n.bits * bits y + 0)
          (like_both (2 ^ w) (bits a) (r % 2 ^ w) r (like (2 ^ w) (bits a) (r % 2 ^ w) (bin_bits a x y Mul g p.0)) (like_own (2 ^ w) r))
          (like (2 ^ w) r (n.bits * bits y + 0) (ap (λ z. z * bits y) (known_bits x n d) ∙ sym (nothing_more (n.bits * bits y))))
      bin_is a x y Mul None None d e g h = like (2 ^ w) (bits a) (bits a) refl
      bin_is a x y op k m d e g h = like (2 ^ w) (bits a) (bits a) refl

      pick_is : (a x y t : Id) (d : Option Bool) → bits a ≡ (if holds inputs v t then bits x else bits y) → ((b : Bool) → d ≡ Some b → holds inputs v t ≡ b) →
          Like (2 ^ w) (bits a) (reading_worth (read_pick x y d) (bits a))
      pick_is a x y t (Some true) e h =
          like (2 ^ w) (bits a) (1 * bits x + 0)
          (e ∙ ap (λ c. if c then bits x else bits y) (h true refl) ∙ sym (one_time (bits x)) ∙ sym (nothing_more (1 * bits x)))
      pick_is a x y t (Some false) e h =
          like (2 ^ w) (bits a) (1 * bits y + 0)
          (e ∙ ap (λ c. if c then bits x else bits y) (h false refl) ∙ sym (one_time (bits y)) ∙ sym (nothing_more (1 * bits y)))
      pick_is a x y t None e h = like (2 ^ w) (bits a) (bits a) refl

      pub reading_is : (facts : List Fact) (a : Id) (n : Option Node) → FactsHold facts → slice_get nodes a.0 ≡ n → HasWidth nodes a w →
          Like (2 ^ w) (bits a) (reading_worth (read nodes facts n) (bits a))
      reading_is facts a (Some (Const k)) c e h = like (2 ^ w) (bits a) k.bits (ap (λ (z : Number). z.bits) (f.values a.0 (Const k) e))
      reading_is facts a (Some (Bin op x y)) c e h =
          bin_is a x y op (known_in (slice_get nodes x.0)) (known_in (slice_get nodes y.0)) refl refl e h
      reading_is facts a (Some (Not x)) c e h =
          let p = not_wide nodes a.0 w x f.ordered e h in
          let r = 2 ^ w - 1 - bits x in
          like_both (2 ^ w) (bits a) r (LESS_ONE * bits x + LESS_ONE)
          (like (2 ^ w) (bits a) r (ap (λ (z : Number). z.bits) (f.values a.0 (Not x) e) ∙ ap (λ u. 2 ^ u - 1 - bits x) (f.widths x.0 w p)))
          (like_not w (bits x) most (small x p))
      reading_is facts a (Some (Pick t x y)) c e h =
          pick_is a x y t (decided nodes facts t)
          (ap (λ (z : Number). z.bits) (f.values a.0 (Pick t x y) e) ∙ number_if (holds inputs v t) (v x.0) (v y.0))
          (λ b. decided_is nodes f facts t b c)
      reading_is facts a n c e h = like (2 ^ w) (bits a) (bits a) refl

      -- what a part is made of is worth as much
      spread : (p : Summand) (r : Decomposition) (s : Sum) → Like (2 ^ w) (bits p.term) (reading_worth r (bits p.term)) →
          Like (2 ^ w) (amount (parts_of p r) + worth (counted p r s)) (p.times * bits p.term + worth s)
      spread p reading.Whole s h =
          let m = 2 ^ w in
          let a = worth (with_part p s) in
          like_both m (0 + a) a (p.times * bits p.term + worth s) (like m (0 + a) a (omega arith)) (with_part_is p s)
      spread p (reading.Number n) s h =
          let m = 2 ^ w in
          let a = worth (with_number (p.times * n % 2 ^ 64) s) in
          like_both m (0 + a) a (p.times * bits p.term + worth s) (like m (0 + a) a (omega arith))
          (like_both m a (p.times * n + worth s) (p.times * bits p.term + worth s) (with_number_is n p.times s)
          (like_add m (p.times * n) (p.times * bits p.term) (worth s) (worth s)
          (like_back m (p.times * bits p.term) (p.times * n) (like_times m p.times (bits p.term) n h)) (like m (worth s) (worth s) refl)))
      spread p (reading.Times k x n) s h =
          let m = 2 ^ w in
          let a = worth (with_number (p.times * n % 2 ^ 64) s) in
          let b = p.times * k % 2 ^ 64 * bits x + 0 in
          let i : Like m b (p.times * (k * bits x)) =
          like_both m b (p.times * k * bits x) (p.times * (k * bits x))
          (like_both m b (p.times * k % 2 ^ 64 * bits x) (p.times * k * bits x)
          (like m b (p.times * k % 2 ^ 64 * bits x) (nothing_more (p.times * k % 2 ^ 64 * bits x)))
          (like_many m (bits x) (p.times * k % 2 ^ 64) (p.times * k) (like_cut w (p.times * k) most)))
          (like m (p.times * k * bits x) (p.times * (k * bits x)) (mul_assoc p.times k (bits x))) in
          like_both m (b + a) (p.times * (k * bits x) + (p.times * n + worth s)) (p.times * bits p.term + worth s)
          (like_add m b (p.times * (k * bits x)) a (p.times * n + worth s) i (with_number_is n p.times s))
          (like_both m (p.times * (k * bits x) + (p.times * n + worth s)) (p.times * (k * bits x + n) + worth s) (p.times * bits p.term + worth s)
          (like m (p.times * (k * bits x) + (p.times * n + worth s)) (p.times * (k * bits x + n) + worth s)
          (joined (p.times * (k * bits x)) (p.times * n) (worth s) ∙ ap (λ z. z + worth s) (sym (mul-add p.times (k * bits x) n))))
          (like_add m (p.times * (k * bits x + n)) (p.times * bits p.term) (worth s) (worth s)
          (like_back m (p.times * bits p.term) (p.times * (k * bits x + n)) (like_times m p.times (bits p.term) (k * bits x + n) h))
          (like m (worth s) (worth s) refl)))
      spread p (reading.Both x k y) s h =
          let m = 2 ^ w in
          let c = p.times * k % 2 ^ 64 * bits y in
          let i : Like m c (p.times * (k * bits y)) =
          like_both m c (p.times * k * bits y) (p.times * (k * bits y))
          (like_many m (bits y) (p.times * k % 2 ^ 64) (p.times * k) (like_cut w (p.times * k) most))
          (like m (p.times * k * bits y) (p.times * (k * bits y)) (mul_assoc p.times k (bits y))) in
          let a = p.times * bits x in
          like_both m (a + (c + 0) + worth s) (p.times * (bits x + k * bits y) + worth s) (p.times * bits p.term + worth s)
          (like_add m (a + (c + 0)) (p.times * (bits x + k * bits y)) (worth s) (worth s)
          (like_both m (a + (c + 0)) (a + p.times * (k * bits y)) (p.times * (bits x + k * bits y))
          (like_both m (a + (c + 0)) (a + c) (a + p.times * (k * bits y)) (like m (a + (c + 0)) (a + c) (ap (λ z. a + z) (nothing_more c)))
          (like_add m a a c (p.times * (k * bits y)) (like m a a refl) i))
          (like m (a + p.times * (k * bits y)) (p.times * (bits x + k * bits y)) (sym (mul-add p.times (bits x) (k * bits y)))))
          (like m (worth s) (worth s) refl))
          (like_add m (p.times * (bits x + k * bits y)) (p.times * bits p.term) (worth s) (worth s)
          (like_back m (p.times * bits p.term) (p.times * (bits x + k * bits y)) (like_times m p.times (bits p.term) (bits x + k * bits y) h))
          (like m (worth s) (worth s) refl))

      gathered_is : (fuel : ℕ) (facts : List Fact) (ps : List Summand) (s : Sum) → FactsHold facts → PartsFit nodes w ps →
          Like (2 ^ w) (worth (gathered fuel nodes facts ps s)) (amount ps + worth s)
      unfolding gathered
      gathered_is zero facts ps s c h = with_all_is ps s
      gathered_is (suc fuel) facts [] s c h = like (2 ^ w) (worth s) (0 + worth s) (omega arith)
      gathered_is (suc fuel) facts (p ∷ ps) s c h =
          let m = 2 ^ w in
          let r = read nodes facts (slice_get nodes p.term.0) in
          let t = counted p r s in
          let qs = parts_of p r in
          let y = p.times * bits p.term in
          like_both m (worth (gathered fuel nodes facts (ps ++ qs) t)) (amount (ps ++ qs) + worth t) (y + amount ps + worth s)
          (gathered_is fuel facts (ps ++ qs) t c (listed_fit nodes w facts p ps f.ordered h))
          (like_both m (amount (ps ++ qs) + worth t) (amount ps + (amount qs + worth t)) (y + amount ps + worth s)
          (like m (amount (ps ++ qs) + worth t) (amount ps + (amount qs + worth t))
          (ap (λ z. z + worth t) (amount-append ps qs) ∙ sym (joined (amount ps) (amount qs) (worth t))))
          (like_both m (amount ps + (amount qs + worth t)) (amount ps + (y + worth s)) (y + amount ps + worth s)
          (like_add m (amount ps) (amount ps) (amount qs + worth t) (y + worth s) (like m (amount ps) (amount ps) refl)
          (spread p r s (reading_is facts p.term (slice_get nodes p.term.0) c refl (All-head (λ (p : Summand). HasWidth nodes p.term w) p ps h))))
          (like m (amount ps + (y + worth s)) (y + amount ps + worth s) (turned (amount ps) y (worth s)))))

      -- a sum that was read is worth what it was
      pub gathered_sum_is : (facts : List Fact) (s : Sum) → FactsHold facts → PartsFit nodes w s.parts →
          Like (2 ^ w) (worth (gathered_sum nodes facts s)) (worth s)
      gathered_sum_is facts s c h =
          like_both (2 ^ w) (worth (gathered_sum nodes facts s)) (amount s.parts + (s.number + 0)) (worth s)
          (gathered_is READ_LIMIT facts s.parts (empty s.number) c h)
          (like (2 ^ w) (amount s.parts + (s.number + 0)) (worth s) (last (amount s.parts) s.number)) where
            last : (a b : ℕ) → a + (b + 0) ≡ b + a
            last a b = omega arith
