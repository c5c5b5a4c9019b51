-- Lists of disk calls, of which power may cut the last.
use Rattle.std.proofs.Common.{◌≡◌, ◌⊎◌, ◌≤◌, ◌<◌, ℕ, suc, Bool, true, false, List, [], ◌∷◌, ◌++◌, length, inl, inr, refl, sym, ap, ◌∙◌, subst, arith}
use Rattle.std.specs.Prelude.{MatchBool, All}
use Rattle.std.proofs.lemmas.List.{append-nil}
use Rattle.std.proofs.lemmas.List.Elements.{All-head, All-tail}
use Rattle.ygg_script.specs.ygg_disk.declared.power.Fuse.{Fuse}
use Rattle.ygg_script.specs.ygg_meaning.Noted.{Note}
use Rattle.ygg_run_play.specs.Named.{EndsAt}

-- all are whole
abbrev pub AllWhole : List Note → Type 0
AllWhole [] = Unit {0}
AllWhole (n ∷ ns) = (n.cut ≡ false) × AllWhole ns

-- they end when so many are whole, or within the next
abbrev pub Ended : Bool → ℕ → List Note → Type 0
Ended within k [] = (within ≡ false) × (k ≡ 0)
Ended within k (n ∷ ns) = ((n.cut ≡ true) × (ns ≡ []) × (within ≡ true) × (k ≡ 0)) ⊎ ((n.cut ≡ false) × (j : ℕ) × (k ≡ suc j) × Ended within j ns)

-- what power cut is a front of what is whole, but for its last disk call, which may be cut
abbrev pub Before : List Note → List Note → Type 0
Before [] whole = Unit {0}
Before (n ∷ ns) [] = ⊥
Before (n ∷ ns) (w ∷ ws) = ((n.cut ≡ true) × (ns ≡ [])) ⊎ ((n ≡ w) × Before ns ws)

never : {A : Type 0} (b : Bool) → b ≡ true → b ≡ false → A
never b h g = let k : true ≡ false = sym h ∙ g in absurd (cc)

nonzero : {A : Type 0} (k j : ℕ) → k ≡ 0 → k ≡ suc j → A
nonzero k j h g = absurd (omega (arith, h, g))

one_less : (k i j : ℕ) → k ≡ suc i → k ≡ suc j → i ≡ j
one_less k i j h g = omega (arith, h, g)

-- ---- where they end

ended_whole : (within : Bool) (k : ℕ) (whole : List Note) → All (λ (n : Note). n.cut ≡ false) whole → length whole ≡ k → (rest notes : List Note) →
    notes ≡ whole ++ rest → Ended within 0 rest → Ended within k notes
ended_whole within k [] h e rest notes is end = subst (λ ns. Ended within k ns) (sym is) (subst (λ m. Ended within m rest) e end)
ended_whole within k (w ∷ ws) h e rest notes is end =
    let P : Note → Type 0 = λ n. n.cut ≡ false in
    subst (λ ns. Ended within k ns) (sym is) (inr (
      All-head P w ws h,
      length ws,
      sym e,
      ended_whole within (length ws) ws (All-tail P w ws h) refl rest (ws ++ rest) refl end,
    ))

pub ended_at : (stop : Fuse) (notes : List Note) → EndsAt stop notes → Ended stop.within stop.call notes
ended_at stop notes h = by_within stop.within h.end
  where
    by_within : (within : Bool) → MatchBool within ((last : Note) × (last.cut ≡ true) × (notes ≡ h.whole ++ last ∷ [])) (notes ≡ h.whole) →
        Ended within stop.call notes
    by_within true (last, cut, is) = ended_whole true stop.call h.whole h.are_whole h.count (last ∷ []) notes is (inl (cut, refl, refl, refl))
    by_within false is =
        ended_whole false stop.call h.whole h.are_whole h.count [] notes (is ∙ sym (append-nil h.whole)) (refl, refl)

-- before the first disk call there is none
nothing : (within : Bool) (k : ℕ) (ns : List Note) → within ≡ false → k ≡ 0 → Ended within k ns → ns ≡ []
nothing within k [] w z h = refl
nothing within k (n ∷ ns) w z (inl h) = never within h.2 w
nothing within k (n ∷ ns) w z (inr h) = nonzero k h.1 z h.2

-- one that power cut, and what is whole with more after it, end at one point
pub one_end : (within : Bool) (k : ℕ) (n a m : List Note) → AllWhole a → Before n a → Ended within k n → Ended within k (a ++ m) → n ≡ a ++ m
one_end within k [] a m whole b h g = sym (nothing within k (a ++ m) h.0 h.1 g)
one_end within k (x ∷ xs) [] m whole b h g = absurd b
one_end within k (x ∷ xs) (y ∷ ys) m whole b h (inl g) = never y.cut g.0 whole.0
one_end within k (x ∷ xs) (y ∷ ys) m whole (inl b) (inl h) (inr g) = nonzero k g.1 h.3 g.2
one_end within k (x ∷ xs) (y ∷ ys) m whole (inl b) (inr h) (inr g) = never x.cut b.0 h.0
one_end within k (x ∷ xs) (y ∷ ys) m whole (inr b) (inl h) (inr g) = nonzero k g.1 h.3 g.2
one_end within k (x ∷ xs) (y ∷ ys) m whole (inr b) (inr h) (inr g) =
    let same = one_end within h.1 xs ys m whole.1 b.1 h.3 (subst (λ j. Ended within j (ys ++ m)) (one_less k g.1 h.1 g.2 h.2) g.3) in
    ap (λ z. z ∷ xs) b.0 ∙ ap (λ zs. y ∷ zs) same

fewer : (within : Bool) (a k j : ℕ) → k ≡ suc j → MatchBool within (suc a ≤ k) (suc a < k) → MatchBool within (a ≤ j) (a < j)
fewer true a k j e h = omega (arith, e, h)
fewer false a k j e h = omega (arith, e, h)

none_fewer : {A : Type 0} (within : Bool) (k a : ℕ) → within ≡ true → k ≡ 0 → MatchBool within (suc a ≤ k) (suc a < k) → A
none_fewer true k a w z h = absurd (omega (arith, z, h))
none_fewer false k a w z h = never false w refl

-- one that power cut ends where what is whole has got to
pub reached : (within : Bool) (k : ℕ) (n a : List Note) → Before n a → Ended within k n → MatchBool within (length a ≤ k) (length a < k) → ⊥
reached true k [] a b h g = never true refl h.0
reached false k [] a b h g = absurd (omega (arith, h.1, g))
reached within k (x ∷ xs) [] b h g = b
reached within k (x ∷ xs) (y ∷ ys) b (inl h) g = none_fewer within k (length ys) h.2 h.3 g
reached within k (x ∷ xs) (y ∷ ys) (inl b) (inr h) g = never x.cut b.0 h.0
reached within k (x ∷ xs) (y ∷ ys) (inr b) (inr h) g = reached within h.1 xs ys b.1 h.3 (fewer within (length ys) k h.1 h.2 g)

-- ---- more before and after

pub before_more : (n a m : List Note) → Before n a → Before n (a ++ m)
before_more [] a m h = tt
before_more (x ∷ xs) [] m h = absurd h
before_more (x ∷ xs) (y ∷ ys) m (inl h) = inl h
before_more (x ∷ xs) (y ∷ ys) m (inr h) = inr (h.0, before_more xs ys m h.1)

pub before_after : (a n m : List Note) → Before n m → Before (a ++ n) (a ++ m)
before_after [] n m h = h
before_after (x ∷ xs) n m h = inr (refl, before_after xs n m h)

-- two that end at one point are one
abbrev pub OneEnd : List Note → List Note → Type 0
OneEnd n m = (within : Bool) (k : ℕ) → Ended within k n → Ended within k m → n ≡ m

pub like_none : (n m : List Note) → m ≡ [] → OneEnd n m
like_none n m none within k e d = let o = subst (λ z. Ended within k z) none d in nothing within k n o.0 o.1 e ∙ sym none

pub end_after : (a n m : List Note) → AllWhole a → OneEnd n m → OneEnd (a ++ n) (a ++ m)
end_after [] n m whole h within k e g = h within k e g
end_after (x ∷ xs) n m whole h within k (inl e) g = never x.cut e.0 whole.0
end_after (x ∷ xs) n m whole h within k (inr e) (inl g) = never x.cut g.0 whole.0
end_after (x ∷ xs) n m whole h within k (inr e) (inr g) =
    ap (λ zs. x ∷ zs) (end_after xs n m whole.1 h within e.1 e.3 (subst (λ j. Ended within j (xs ++ m)) (one_less k g.1 e.1 g.2 e.2) g.3))

pub whole_append : (a b : List Note) → AllWhole a → AllWhole b → AllWhole (a ++ b)
whole_append [] b h g = g
whole_append (x ∷ xs) b h g = (h.0, whole_append xs b h.1 g)
