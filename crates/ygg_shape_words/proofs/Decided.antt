-- What a test is where another one has a value, under one valuation of the nodes.
use Rattle.std.proofs.Common.{◌≡◌, ◌==◌, ◌%◌, ◌^◌, ℕ, Bool, true, false, if◌then◌else◌, Option, Some, None, List, [], slice_get, refl, sym, ap, ◌∙◌}
use Rattle.std.proofs.lemmas.Bool.Decides.{Decides-eqb}
use Rattle.ygg_value.specs.Number.{Number}
use Rattle.ygg_value.specs.Words.{resized}
use Rattle.ygg_value.specs.declared.operation.Op.TheVariants.{Eq}
use Rattle.ygg_bank.proofs.Fitting.{constant_there}
use Rattle.ygg_bank.proofs.Widths.{stored_can}
use Rattle.ygg_bank.specs.Making.{known_in}
use Rattle.ygg_bank.specs.Nodes.{InOrder}
use Rattle.ygg_bank.specs.Values.{Inputs, Values, Fits}
use Rattle.ygg_bank.specs.declared.node.Id.{Id}
use Rattle.ygg_bank.specs.declared.node.Node.{Node}
use Rattle.ygg_bank.specs.declared.node.Node.TheVariants.{Const, Bin, Resize}
use Rattle.ygg_rules.specs.Views.{IsWidth}
use Rattle.ygg_shape_words.proofs.Terms.{holds, bit_is}
use Rattle.ygg_shape_words.specs.Deciding.{of_digits, by_digits, by_number, by_numbers, by_nodes, decided}

-- a node at a width has a width
pub resize_wide : (nodes : List Node) (k w : ℕ) (a : Id) → InOrder [] nodes → slice_get nodes k ≡ Some (Resize a w) → IsWidth w
resize_wide nodes k w a o e = let c = stored_can nodes k (Resize a w) o e in c.1

-- what a test of equal numbers says
equal_is : (a b : ℕ) (c : Bool) → (a == b) ≡ c → c ≡ true → a ≡ b
equal_is a b c e t = (Decides-eqb a b).0 (e ∙ t)

-- a value that is decided is the test's
abbrev pub DecidesIs : Bool → Option Bool → Type 0
DecidesIs real None = Unit {0}
DecidesIs real (Some c) = real ≡ c

module _ (inputs : Inputs) (v : Values) (nodes : List Node) (f : Fits inputs v nodes) where
  constant_is : (a : Id) (n : Number) → known_in (slice_get nodes a.0) ≡ Some n → (v a.0).bits ≡ n.bits
  constant_is a n e = ap (λ (z : Number). z.bits) (f.values a.0 (Const n) (constant_there nodes a n e))

  equal_holds : (p x k : Id) → slice_get nodes p.0 ≡ Some (Bin Eq x k) → holds inputs v p ≡ ((v x.0).bits == (v k.0).bits)
  equal_holds p x k e = ap (λ (z : Number). z.bits == 1) (f.values p.0 (Bin Eq x k) e) ∙ bit_is ((v x.0).bits == (v k.0).bits)

  -- digits of equal numbers
  digits_is : (a : Id) (n : Number) (w : ℕ) → (v a.0).bits ≡ n.bits → (resized (v a.0) w).bits ≡ (resized n w).bits
  digits_is a n w e = ap (λ z. z % 2 ^ w) e

  resize_is : (x a : Id) (w : ℕ) → slice_get nodes x.0 ≡ Some (Resize a w) → (v x.0).bits ≡ (resized (v a.0) w).bits
  resize_is x a w e = ap (λ (z : Number). z.bits) (f.values x.0 (Resize a w) e)

  of_digits_is : (x y : Id) (k m : Number) (n : Option Node) → slice_get nodes x.0 ≡ n → (v x.0).bits ≡ k.bits →
      DecidesIs ((v y.0).bits == m.bits) (of_digits k y m n)
  of_digits_is x y k m (Some (Resize a w)) e h = here (a.0 == y.0) refl where
    there : a.0 ≡ y.0 → (c d : Bool) → ((resized m w).bits == k.bits) ≡ c → ((v y.0).bits == m.bits) ≡ d → DecidesIs ((v y.0).bits == m.bits) (if c then None else Some false)
    there s true d g i = tt
    there s false false g i = i
    there s false true g i =
        let u : (resized m w).bits ≡ k.bits =
        sym (digits_is y m w ((Decides-eqb (v y.0).bits m.bits).0 i)) ∙ ap (λ z. (resized (v z) w).bits) (sym s) ∙ sym (resize_is x a w e) ∙ h in
        let t : ((resized m w).bits == k.bits) ≡ true = (Decides-eqb (resized m w).bits k.bits).1 u in
        absurd (cc)

    here : (c : Bool) → (a.0 == y.0) ≡ c → DecidesIs ((v y.0).bits == m.bits) (if c then (if (resized m w).bits == k.bits then None else Some false) else None)
    here true s = there ((Decides-eqb a.0 y.0).0 s) ((resized m w).bits == k.bits) ((v y.0).bits == m.bits) refl refl
    here false s = tt
  of_digits_is x y k m n e h = tt

  by_digits_is : (x y : Id) (k m : Number) (one two : Option Node) → slice_get nodes x.0 ≡ one → slice_get nodes y.0 ≡ two → (v x.0).bits ≡ k.bits →
      DecidesIs ((v y.0).bits == m.bits) (by_digits x k y m one two)
  by_digits_is x y k m one (Some (Resize a w)) e g h = here (a.0 == x.0) refl where
    there : a.0 ≡ x.0 → (c : Bool) → ((resized k w).bits == m.bits) ≡ c → DecidesIs ((v y.0).bits == m.bits) (if c then Some true else Some false)
    there s c i =
        let u : (v y.0).bits ≡ (resized k w).bits = resize_is y a w g ∙ ap (λ z. (resized (v z) w).bits) s ∙ digits_is x k w h in
        sides c (ap (λ z. z == m.bits) u ∙ i) where
          sides : (c : Bool) → ((v y.0).bits == m.bits) ≡ c → DecidesIs ((v y.0).bits == m.bits) (if c then Some true else Some false)
          sides true i = i
          sides false i = i

    here : (c : Bool) → (a.0 == x.0) ≡ c →
        DecidesIs ((v y.0).bits == m.bits) (if c then (if (resized k w).bits == m.bits then Some true else Some false) else of_digits k y m one)
    here true s = there ((Decides-eqb a.0 x.0).0 s) ((resized k w).bits == m.bits) refl
    here false s = of_digits_is x y k m one e h
  by_digits_is x y k m one two e g h = of_digits_is x y k m one e h

  by_number_is : (x y : Id) (k m : Number) → (v x.0).bits ≡ k.bits → DecidesIs ((v y.0).bits == m.bits) (by_number nodes x k y m)
  by_number_is x y k m h = here (x.0 == y.0) refl where
    there : x.0 ≡ y.0 → (c : Bool) → (k.bits == m.bits) ≡ c → DecidesIs ((v y.0).bits == m.bits) (if c then Some true else Some false)
    there s true i = ap (λ z. z == m.bits) (ap (λ z. (v z).bits) (sym s) ∙ h) ∙ i
    there s false i = ap (λ z. z == m.bits) (ap (λ z. (v z).bits) (sym s) ∙ h) ∙ i

    here : (c : Bool) → (x.0 == y.0) ≡ c → DecidesIs ((v y.0).bits == m.bits)
        (if c then (if k.bits == m.bits then Some true else Some false) else by_digits x k y m (slice_get nodes x.0) (slice_get nodes y.0))
    here true s = there ((Decides-eqb x.0 y.0).0 s) (k.bits == m.bits) refl
    here false s = by_digits_is x y k m (slice_get nodes x.0) (slice_get nodes y.0) refl refl h

  by_numbers_is : (x y a b : Id) (k m : Option Number) → known_in (slice_get nodes a.0) ≡ k → known_in (slice_get nodes b.0) ≡ m →
      (v x.0).bits ≡ (v a.0).bits → DecidesIs ((v y.0).bits == (v b.0).bits) (by_numbers nodes x y k m)
  by_numbers_is x y a b (Some k) (Some m) e g h =
      moved (by_number nodes x k y m) (ap (λ z. (v y.0).bits == z) (constant_is b m g)) (by_number_is x y k m (h ∙ constant_is a k e)) where
        moved : (d : Option Bool) → ((v y.0).bits == (v b.0).bits) ≡ ((v y.0).bits == m.bits) → DecidesIs ((v y.0).bits == m.bits) d →
            DecidesIs ((v y.0).bits == (v b.0).bits) d
        moved (Some c) i r = i ∙ r
        moved None i r = tt
  by_numbers_is x y a b (Some k) None e g h = tt
  by_numbers_is x y a b None m e g h = tt

  by_nodes_is : (t u : Id) (n m : Option Node) → slice_get nodes t.0 ≡ n → slice_get nodes u.0 ≡ m → holds inputs v t ≡ true →
      DecidesIs (holds inputs v u) (by_nodes nodes n m)
  by_nodes_is t u (Some (Bin Eq x a)) (Some (Bin Eq y b)) e g h =
      moved (by_numbers nodes x y (known_in (slice_get nodes a.0)) (known_in (slice_get nodes b.0))) (equal_holds u y b g)
      (by_numbers_is x y a b (known_in (slice_get nodes a.0)) (known_in (slice_get nodes b.0)) refl refl
      ((Decides-eqb (v x.0).bits (v a.0).bits).0 (sym (equal_holds t x a e) ∙ h))) where
        moved : (d : Option Bool) → holds inputs v u ≡ ((v y.0).bits == (v b.0).bits) → DecidesIs ((v y.0).bits == (v b.0).bits) d →
            DecidesIs (holds inputs v u) d
        moved (Some c) i r = i ∙ r
        moved None i r = tt
  by_nodes_is t u n m e g h = tt

  -- a value that is decided is the test's, where the other test has its value
  pub decided_is : (t u : Id) (on : Bool) → holds inputs v t ≡ on → DecidesIs (holds inputs v u) (decided nodes t on u)
  decided_is t u on h = here (u.0 == t.0) refl where
    there : (c : Bool) → c ≡ on → DecidesIs (holds inputs v u) (if c then by_nodes nodes (slice_get nodes t.0) (slice_get nodes u.0) else None)
    there true e = by_nodes_is t u (slice_get nodes t.0) (slice_get nodes u.0) refl refl (h ∙ sym e)
    there false e = tt

    here : (c : Bool) → (u.0 == t.0) ≡ c →
        DecidesIs (holds inputs v u) (if c then Some on else if on then by_nodes nodes (slice_get nodes t.0) (slice_get nodes u.0) else None)
    here true e = ap (λ z. (v z).bits == 1) ((Decides-eqb u.0 t.0).0 e) ∙ h
    here false e = there on refl
