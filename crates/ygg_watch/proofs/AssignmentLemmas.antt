-- What is kept beside the assigned literals lasts.
use Rattle.std.proofs.Common.{
  ◌≡◌,
  ◌≢◌,
  ℕ,
  zero,
  suc,
  ◌<◌,
  ◌≤◌,
  ◌+◌,
  ◌*◌,
  Bool,
  true,
  false,
  not,
  cond,
  List,
  [],
  ◌∷◌,
  ◌++◌,
  length,
  take,
  drop,
  ◌⊎◌,
  inl,
  inr,
  ⊎_elim,
  sym,
  subst,
  ap,
  ◌∙◌,
  arith,
  refl,
  Option,
  Some,
  None,
  slice_get,
  get_or,
  set,
  leb,
  length-append,
  length-take,
  length-set,
  append_assoc,
  get_or-set_same,
  get_or-set_other,
}
use Rattle.std.proofs.Math.Seq.{get_or-append_seam}
use Rattle.std.proofs.lemmas.Bool.{cases_Bool, cases_lt, leb-true, false≢true, eq-eqb, ne_eqb}
use Rattle.std.proofs.lemmas.List.{take-append-le, get_or-take, get_or_append_left, get_or_past, get_or-replicate, take_all}
use Rattle.std.proofs.lemmas.Option.{same_Some, slice_get-get_or}
use Rattle.std.specs.Prelude.{option_map, replicate}
use Rattle.ygg_cnf_set.specs.LiteralSet.{InSet, IsSetOf, Fits, code_of}
use Rattle.ygg_cnf.specs.Literals.{complement}
use Rattle.ygg_cnf.specs.declared.lit.Lit.{Lit}
use Rattle.ygg_watch.proofs.CountLemmas.{failing_one}
use Rattle.ygg_watch.proofs.TrailLemmas.{one_entry, entry_within, at_push, at_front, fresh_place, not_assigned}
use Rattle.ygg_watch.specs.Assignments.{IsTrail, IsLevelled, IsKept}
use Rattle.ygg_watch.specs.Trail.{IsAt, IsAssigned, keep_level, IsOnTrail}
use Rattle.ygg_watch.proofs.CountLemmas.{failing, is_assigned}
use Rattle.ygg_watch.specs.declared.entry.Entry.{Entry}

pub at_last : (trail : List Entry) (e : Entry) → IsAt (trail ++ e ∷ []) (length trail) e
at_last [] e = refl
at_last (d ∷ trail) e = at_last trail e

pub trail_push : (trail : List Entry) (e : Entry) (variable_count : ℕ) → IsTrail trail variable_count → (IsAssigned trail e.lit.var → ⊥) →
    e.lit.var < variable_count →
    IsTrail (trail ++ e ∷ []) variable_count
trail_push trail e variable_count t fresh l = record {
  distinct = λ i j c d h k v. ⊎_elim
      (λ a. ⊎_elim (λ b. t.distinct i j c d a b v)
      (λ b. absurd (fresh (fresh_place trail i c e.lit.var a (v ∙ ap (λ (z : Entry). z.lit.var) (sym b.1))))) (at_push trail e d j k))
      (λ a. ⊎_elim (λ b. absurd (fresh (fresh_place trail j d e.lit.var b (sym v ∙ ap (λ (z : Entry). z.lit.var) (sym a.1)))))
      (λ b. a.0 ∙ sym b.0) (at_push trail e d j k))
      (at_push trail e c i h);
  within = λ q d h. ⊎_elim (λ a. t.within q d a) (λ a. subst (λ (z : Entry). z.lit.var < variable_count) a.1 l) (at_push trail e d q h);
}

pub levelled_push : (trail : List Entry) (starts : List ℕ) (e : Entry) → IsLevelled trail starts → e.level ≡ length starts → IsLevelled (trail ++ e ∷ []) starts
levelled_push trail starts e t same = record {
  rising = t.rising;
  count = t.count;
  within = λ j l. let w = t.within j l in omega (arith, w, length-append {A = Entry});
  below = λ j q d l h b. ⊎_elim (λ a. t.below j q d l a b) (λ a. let w = t.within j l in let k = a.0 in absurd (omega (arith, w, k, b)))
      (at_push trail e d q h);
  from = λ j q d l h b. ⊎_elim (λ a. t.from j q d l a b) (λ a. let k = ap (λ (z : Entry). z.level) a.1 in omega (arith, k, same, l)) (at_push trail e d q h);
  low = λ q d h. ⊎_elim (λ a. t.low q d a) (λ a. let k = ap (λ (z : Entry). z.level) a.1 in omega (arith, k, same)) (at_push trail e d q h);
}

start_cases : (starts : List ℕ) (n j : ℕ) → j < length (starts ++ n ∷ [])
    → ((j < length starts) × (get_or (starts ++ n ∷ []) j 0 ≡ get_or starts j 0)) ⊎ ((j ≡ length starts) × (get_or (starts ++ n ∷ []) j 0 ≡ n))
start_cases starts n j l =
    ⊎_elim (λ k. inl (k, get_or_append_left starts (n ∷ []) 0 j k))
    (λ g. let m = simp length-append at l in let e : j ≡ length starts = omega arith in
    inr (e, rw e (get_or-append_seam starts n [] 0)))
    (cases_lt j (length starts))

-- the levels are at most as many as the entries
pub levels_within : (trail : List Entry) (starts : List ℕ) → IsLevelled trail starts → length starts ≤ length trail
levels_within trail [] t = omega arith
levels_within trail (s ∷ starts) t =
    let c : length starts ≤ get_or (s ∷ starts) (length starts) 0 = t.count (length starts) (omega arith) in
    let w : get_or (s ∷ starts) (length starts) 0 < length trail = t.within (length starts) (omega arith) in omega (arith, c, w)

pub levelled_decide : (trail : List Entry) (starts : List ℕ) (e : Entry) → IsLevelled trail starts → e.level ≡ length starts + 1
    → IsLevelled (trail ++ e ∷ []) (starts ++ length trail ∷ [])
levelled_decide trail starts e t same =
    let n : ℕ = length trail in
    let le : length starts ≤ n = levels_within trail starts t in
    let more : length (starts ++ n ∷ []) ≡ length starts + 1 = simp length-append (omega arith) in
    let longer : length (trail ++ e ∷ []) ≡ n + 1 = simp length-append (omega arith) in
    record {
      rising = λ i j l k. ⊎_elim
          (λ b. let below : i < length (starts ++ n ∷ []) = omega (arith, l, k) in
          ⊎_elim (λ a. let r = t.rising i j l b.0 in rw (a.1, b.1) r) (λ a. absurd (omega (arith, a.0, b.0, l))) (start_cases starts n i below))
          (λ b. let below : i < length (starts ++ n ∷ []) = omega (arith, l, k) in
          ⊎_elim (λ a. let w = t.within i a.0 in rw (a.1, b.1) w) (λ a. absurd (omega (arith, a.0, b.0, l))) (start_cases starts n i below))
          (start_cases starts n j k);
      count = λ j l. ⊎_elim (λ a. rw a.1 (t.count j a.0)) (λ a. rw a.1 (omega (arith, a.0, le))) (start_cases starts n j l);
      within = λ j l. ⊎_elim (λ a. let w = t.within j a.0 in rw a.1 (omega (arith, w, longer))) (λ a. rw a.1 (omega (arith, longer)))
          (start_cases starts n j l);
      below = λ j q d l h b. ⊎_elim
          (λ s. let b1 : q < get_or starts j 0 = rw s.1 at b in
          ⊎_elim (λ a. t.below j q d s.0 a b1) (λ a. let w = t.within j s.0 in absurd (omega (arith, w, a.0, b1))) (at_push trail e d q h))
          (λ s. let b1 : q < n = rw s.1 at b in
          ⊎_elim (λ a. let low = t.low q d a in omega (arith, low, s.0)) (λ a. absurd (omega (arith, a.0, b1))) (at_push trail e d q h))
          (start_cases starts n j l);
      from = λ j q d l h b. ⊎_elim
          (λ s. let b1 : get_or starts j 0 ≤ q = rw s.1 at b in
          ⊎_elim (λ a. t.from j q d s.0 a b1) (λ a. let k = ap (λ (z : Entry). z.level) a.1 in omega (arith, k, same, s.0)) (at_push trail e d q h))
          (λ s. let b1 : n ≤ q = rw s.1 at b in
          ⊎_elim (λ a. let w = entry_within trail q d a in absurd (omega (arith, w, b1)))
          (λ a. let k = ap (λ (z : Entry). z.level) a.1 in omega (arith, k, same, s.0)) (at_push trail e d q h))
          (start_cases starts n j l);
      low = λ q d h. ⊎_elim (λ a. let low = t.low q d a in omega (arith, low, more))
          (λ a. let k = ap (λ (z : Entry). z.level) a.1 in omega (arith, k, same, more)) (at_push trail e d q h);
    }

-- an entry of the first ones
pub at_take : (trail : List Entry) (n q : ℕ) (e : Entry) → IsAt (take n trail) q e → (q < n) × IsAt trail q e
at_take [] zero q e h = cc
at_take [] (suc n) q e h = cc
at_take (d ∷ trail) zero q e h = cc
at_take (d ∷ trail) (suc n) zero e h = (omega arith, h)
at_take (d ∷ trail) (suc n) (suc q) e h = let r = at_take trail n q e h in (omega (arith, r.0), r.1)

pub take_at : (trail : List Entry) (n q : ℕ) (e : Entry) → q < n → IsAt trail q e → IsAt (take n trail) q e
take_at [] n q e l h = cc
take_at (d ∷ trail) zero q e l h = absurd (omega arith)
take_at (d ∷ trail) (suc n) zero e l h = h
take_at (d ∷ trail) (suc n) (suc q) e l h = take_at trail n q e (omega arith) h

pub trail_take : (trail : List Entry) (n variable_count : ℕ) → IsTrail trail variable_count → IsTrail (take n trail) variable_count
trail_take trail n variable_count t = record {
  distinct = λ p q d e h k v. t.distinct p q d e (at_take trail n p d h).1 (at_take trail n q e k).1 v;
  within = λ q e h. t.within q e (at_take trail n q e h).1;
}

pub levelled_take : (trail : List Entry) (starts : List ℕ) (level : ℕ) → IsLevelled trail starts → level < length starts
    → IsLevelled (take (get_or starts level 0) trail) (take level starts)
levelled_take trail starts level t l =
    let n : ℕ = get_or starts level 0 in
    let w : n < length trail = t.within level l in
    let size : length (take level starts) ≡ level = simp length-take (omega arith) in
    let count : length (take n trail) ≡ n = simp length-take (omega arith) in
    record {
      rising = λ i j k m. let j1 : j < level = omega (arith, m, size) in let i1 : i < level = omega (arith, k, j1) in
          rw (get_or-take level starts i 0 i1, get_or-take level starts j 0 j1) (t.rising i j k (omega (arith, j1, l)));
      count = λ j m. let j1 : j < level = omega (arith, m, size) in rw (get_or-take level starts j 0 j1) (t.count j (omega (arith, j1, l)));
      within = λ j m. let j1 : j < level = omega (arith, m, size) in let r = t.rising j level j1 l in
          rw (get_or-take level starts j 0 j1) (omega (arith, r, count));
      below = λ j q e m h b. let j1 : j < level = omega (arith, m, size) in
          t.below j q e (omega (arith, j1, l)) (at_take trail n q e h).1 (rw (get_or-take level starts j 0 j1) at b);
      from = λ j q e m h b. let j1 : j < level = omega (arith, m, size) in
          t.from j q e (omega (arith, j1, l)) (at_take trail n q e h).1 (rw (get_or-take level starts j 0 j1) at b);
      low = λ q e h. let a = at_take trail n q e h in let b = t.below level q e l a.1 a.0 in omega (arith, b, size);
    }

not_leb : (m n : ℕ) → m < n → leb n m ≡ false
not_leb m n l = ⊎_elim (λ t. absurd (let k = leb-true n m t in omega (arith, k, l))) (λ f. f) (cases_Bool (leb n m))

is_leb : (m n : ℕ) → m ≤ n → leb m n ≡ true
is_leb m n l = grind arith

-- the entries up to a level are those before a place
pub keep_take : (level : ℕ) (trail : List Entry) (n : ℕ) → n ≤ length trail
    → ((q : ℕ) (e : Entry) → IsAt trail q e → q < n → e.level ≤ level)
    → ((e : Entry) → IsAt trail n e → level < e.level)
    → keep_level level trail ≡ take n trail
keep_take level [] zero w below over = refl
keep_take level [] (suc n) w below over = absurd (omega arith)
keep_take level (e ∷ trail) zero w below over = rw (not_leb level e.level (over e refl)) refl
keep_take level (e ∷ trail) (suc n) w below over =
    rw (is_leb e.level level (below 0 e refl (omega arith)))
    (ap (λ t. e ∷ t) (keep_take level trail n (omega arith) (λ q d h l. below (suc q) d h (omega arith)) over))

pub keep_all : (level : ℕ) (trail : List Entry) → ((q : ℕ) (e : Entry) → IsAt trail q e → e.level ≤ level) → keep_level level trail ≡ trail
keep_all level [] low = refl
keep_all level (e ∷ trail) low = rw (is_leb e.level level (low 0 e refl)) (ap (λ t. e ∷ t) (keep_all level trail (λ q d h. low (suc q) d h)))

pub at_start : (trail : List Entry) (starts : List ℕ) (level : ℕ) → IsLevelled trail starts → level < length starts
    → keep_level level trail ≡ take (get_or starts level 0) trail
at_start trail starts level t l =
    let w = t.within level l in
    keep_take level trail (get_or starts level 0) (omega (arith, w)) (λ q e h k. t.below level q e l h k)
    (λ e h. t.from level (get_or starts level 0) e l h (omega arith))

fresh_tail : (e : Entry) (trail : List Entry) (variable_count : ℕ) → IsTrail (e ∷ trail) variable_count → IsAssigned trail e.lit.var → ⊥
fresh_tail e trail variable_count t (k, x, l, at, v) =
    let p : 0 ≡ suc k = t.distinct 0 (suc k) e (get_or trail k x) refl (slice_get-get_or trail k x l)
    (sym v ∙ ap (λ (z : Entry). z.lit.var) (sym at)) in omega (arith, p)

tail_trail : (e : Entry) (trail : List Entry) (variable_count : ℕ) → IsTrail (e ∷ trail) variable_count → IsTrail trail variable_count
tail_trail e trail variable_count t = record {
  distinct = λ p q c d h k v. let s = t.distinct (suc p) (suc q) c d h k v in omega (arith, s);
  within = λ q d h. t.within (suc q) d h;
}

none_failing : (variable_count : ℕ) → failing (is_assigned []) variable_count ≡ variable_count
none_failing zero = refl
none_failing (suc n) = let r = none_failing n in omega (arith, r)

-- each variable below the variable count is assigned or is not
pub filled : (trail : List Entry) (variable_count : ℕ) → IsTrail trail variable_count →
    length trail + failing (is_assigned trail) variable_count ≡ variable_count
filled [] variable_count t = let r = none_failing variable_count in omega (arith, r)
filled (e ∷ trail) variable_count t =
    let r : length trail + failing (is_assigned trail) variable_count ≡ variable_count = filled trail variable_count (tail_trail e trail variable_count t) in
    let one : suc (failing (is_assigned (e ∷ trail)) variable_count) ≡ failing (is_assigned trail) variable_count
    = failing_one (is_assigned trail) (is_assigned (e ∷ trail)) variable_count e.lit.var (t.within 0 e refl)
    (not_assigned trail e.lit.var (fresh_tail e trail variable_count t)) (rw (eq-eqb e.lit.var e.lit.var refl) refl)
    (λ w n. let d : e.lit.var ≢ w = λ q. n (sym q) in rw (ne_eqb e.lit.var w d) refl) in
    omega (arith, r, one)

-- there is room for one more entry
pub has_place : (trail : List Entry) (e : Entry) (variable_count : ℕ) → IsTrail trail variable_count → (IsAssigned trail e.lit.var → ⊥) →
    e.lit.var < variable_count → length trail < variable_count
has_place trail e variable_count t fresh l =
    let f = filled (trail ++ e ∷ []) variable_count (trail_push trail e variable_count t fresh l) in
    let longer : length (trail ++ e ∷ []) ≡ length trail + 1 = simp length-append (omega arith) in omega (arith, f, longer)

pub fits_below : (x : Lit) (variable_count size : ℕ) → x.var < variable_count → size ≡ 2 * variable_count → code_of x < size
fits_below x variable_count size l s = elim x.negated as (λ b. 2 * x.var + cond b 1 0 < size) [ true ↦ omega arith | false ↦ omega arith ]

-- the truths as a set
pub seen_push : (trail : List Entry) (truth after : List Bool) (e : Entry) → IsSetOf truth (IsOnTrail trail)
    → IsSetOf after (λ y. InSet truth y ⊎ (y ≡ e.lit)) → IsSetOf after (IsOnTrail (trail ++ e ∷ []))
seen_push trail truth after e was now y = (
  (λ m. ⊎_elim (λ a. let (q, (d, (h, s))) = (was y).0 a in (q, (d, (at_front trail (e ∷ []) d q h, s))))
      (λ s. (length trail, (e, (at_last trail e, sym s)))) ((now y).0 m)),
  (λ (q, (d, (h, s))). (now y).1 (⊎_elim (λ a. inl ((was y).1 (q, (d, (a, s))))) (λ a. inr (sym s ∙ ap (λ (z : Entry). z.lit) (sym a.1)))
      (at_push trail e d q h))),
)

pub seen_pop : (trail : List Entry) (truth after : List Bool) (e : Entry)
    → ((p q : ℕ) (c d : Entry) → IsAt (trail ++ e ∷ []) p c → IsAt (trail ++ e ∷ []) q d → c.lit.var ≡ d.lit.var → p ≡ q)
    → IsSetOf truth (IsOnTrail (trail ++ e ∷ []))
    → IsSetOf after (λ y. InSet truth y × (y ≢ e.lit)) → IsSetOf after (IsOnTrail trail)
seen_pop trail truth after e distinct was now y = (
  (λ m. let p = (now y).0 m in let (q, (d, (h, s))) = (was y).0 p.0 in
      ⊎_elim (λ a. (q, (d, (a, s)))) (λ a. absurd (p.1 (sym s ∙ ap (λ (z : Entry). z.lit) (sym a.1)))) (at_push trail e d q h)),
  (λ (q, (d, (h, s))). (now y).1 (
    (was y).1 (q, (d, (at_front trail (e ∷ []) d q h, s))),
    λ t. let w = entry_within trail q d h in
        let p : q ≡ length trail = distinct q (length trail) d e (at_front trail (e ∷ []) d q h) (at_last trail e) (ap (λ (z : Lit). z.var) (s ∙ t))
        in omega (arith, w, p),
  )),
)

pub placed_push : (trail : List Entry) (places : List ℕ) (e : Entry) → (IsAssigned trail e.lit.var → ⊥) → e.lit.var < length places
    → ((q : ℕ) (d : Entry) → IsAt trail q d → get_or places d.lit.var 0 ≡ q)
    → (q : ℕ) (d : Entry) → IsAt (trail ++ e ∷ []) q d → get_or (set places e.lit.var (length trail)) d.lit.var 0 ≡ q
placed_push trail places e fresh l was q d h =
    ⊎_elim
    (λ a. get_or-set_other places e.lit.var d.lit.var (length trail) 0 (λ s. fresh (fresh_place trail q d e.lit.var a s)) ∙ was q d a)
    (λ a. let v = ap (λ (z : Entry). z.lit.var) a.1 in subst (λ w. get_or (set places e.lit.var (length trail)) w 0 ≡ q) v
    (get_or-set_same places e.lit.var (length trail) 0 l ∙ sym a.0))
    (at_push trail e d q h)

mapped : (o : Option Entry) (y : Lit) → option_map (λ (e : Entry). e.lit) o ≡ Some y → (e : Entry) × ((o ≡ Some e) × (e.lit ≡ y))
mapped None y h = cc
mapped (Some e) y h = (e, (refl, same_Some e.lit y h))

-- a true literal has its entry at its variable's place
pub place_is : (trail : List Entry) (truth : List Bool) (places : List ℕ) (variable_count : ℕ) (y : Lit) → IsKept trail truth places variable_count →
    InSet truth y
    → (e : Entry) × (IsAt trail (get_or places y.var 0) e × (e.lit ≡ y))
place_is trail truth places variable_count y k m = mapped (slice_get trail (get_or places y.var 0)) y (k.there y m)

pub seen_of : (trail : List Entry) (truth : List Bool) (places : List ℕ) (variable_count : ℕ) → IsKept trail truth places variable_count →
    IsSetOf truth (IsOnTrail trail)
seen_of trail truth places variable_count k y = (
  (λ m. let (e, (h, s)) = place_is trail truth places variable_count y k m in (get_or places y.var 0, (e, (h, s)))),
  (λ (q, (e, (h, s))). subst (InSet truth) s (k.here q e h)),
)

pub kept_of : (trail : List Entry) (truth : List Bool) (places : List ℕ) (variable_count : ℕ) → IsSetOf truth (IsOnTrail trail) →
    length truth ≡ 2 * variable_count →
    length places ≡ variable_count
    → ((q : ℕ) (e : Entry) → IsAt trail q e → get_or places e.lit.var 0 ≡ q) → IsKept trail truth places variable_count
kept_of trail truth places variable_count m size places_size placed = record {
  here = λ q e h. (m e.lit).1 (q, (e, (h, refl)));
  there = λ y h. let (q, (e, (k, s))) = (m y).0 h in
      let p : get_or places y.var 0 ≡ q = subst (λ (z : Lit). get_or places z.var 0 ≡ q) s (placed q e k) in
      subst (λ n. option_map (λ (d : Entry). d.lit) (slice_get trail n) ≡ Some y) (sym p)
      (subst (λ (o : Option Entry). option_map (λ (d : Entry). d.lit) o ≡ Some y) (sym k) (ap Some s));
  size = size;
  places_size = places_size;
  placed = placed;
}

-- one more entry
pub kept_push : (trail : List Entry) (truth after : List Bool) (places : List ℕ) (variable_count : ℕ) (e : Entry) → IsKept trail truth places variable_count
    → (IsAssigned trail e.lit.var → ⊥) → e.lit.var < variable_count → length after ≡ length truth
    → IsSetOf after (λ y. InSet truth y ⊎ (y ≡ e.lit))
    → IsKept (trail ++ e ∷ []) after (set places e.lit.var (length trail)) variable_count
kept_push trail truth after places variable_count e k fresh l same now =
    kept_of (trail ++ e ∷ []) after (set places e.lit.var (length trail)) variable_count
    (seen_push trail truth after e (seen_of trail truth places variable_count k) now)
    (same ∙ k.size) (simp length-set k.places_size)
    (placed_push trail places e fresh (let s = k.places_size in omega (arith, s, l)) k.placed)

pub kept_take : (trail : List Entry) (truth after : List Bool) (places : List ℕ) (variable_count n : ℕ) → IsKept trail truth places variable_count
    → length after ≡ length truth → IsSetOf after (IsOnTrail (take n trail)) → IsKept (take n trail) after places variable_count
kept_take trail truth after places variable_count n k same now =
    kept_of (take n trail) after places variable_count now (same ∙ k.size) k.places_size (λ q e h. k.placed q e (at_take trail n q e h).1)

-- the literal fits
pub fits_at : (trail : List Entry) (variable_count size : ℕ) → IsTrail trail variable_count → size ≡ 2 * variable_count → (q : ℕ) (e : Entry) →
    IsAt trail q e → Fits size e.lit
fits_at trail variable_count size t s q e h = let w = t.within q e h in omega (arith, w, s)

pub kept_none : (truth : List Bool) (places : List ℕ) (variable_count : ℕ) → ((k : ℕ) → get_or truth k false ≡ false) → length truth ≡ 2 * variable_count →
    length places ≡ variable_count → IsKept [] truth places variable_count
kept_none truth places variable_count none size places_size =
    kept_of [] truth places variable_count (λ y. ((λ m. absurd (false≢true (sym (none (code_of y)) ∙ m))), (λ (q, (e, (h, s))). cc))) size places_size
    (λ q e h. cc)

pub kept_made : (truth : List Bool) (places : List ℕ) (variable_count : ℕ) → truth ≡ replicate (2 * variable_count) false →
    length truth ≡ 2 * variable_count → length places ≡ variable_count → IsKept [] truth places variable_count
kept_made truth places variable_count is size places_size =
    kept_none truth places variable_count (λ k. ⊎_elim (λ l. rw is (get_or-replicate (2 * variable_count) k false false (omega (arith, size, l))))
    (λ l. get_or_past truth k false l) (cases_lt k (length truth))) size places_size

pub trail_none : (variable_count : ℕ) → IsTrail [] variable_count
trail_none variable_count = record { distinct = λ p q d e h k v. cc; within = λ q e h. cc }

pub levelled_none : IsLevelled [] []
levelled_none = record {
  rising = λ i j l m. omega arith;
  count = λ j l. omega arith;
  within = λ j l. omega arith;
  below = λ j q e l h k. omega arith;
  from = λ j q e l h k. omega arith;
  low = λ q e h. cc;
}

-- what a slice writes back is the slice
pub written : (n : ℕ) (seen before : List Bool) → length seen ≡ length before → n ≡ length before → take n (seen ++ drop (length seen) before) ≡ seen
written n seen before e l = take-append-le n seen (drop (length seen) before) (omega arith) ∙ take_all n seen (omega arith)

-- the same, as a write through a slice leaves it
pub kept_pushed : (trail now : List Entry) (n : ℕ) (truth after : List Bool) (places : List ℕ) (variable_count place : ℕ) (e : Entry) →
    IsKept trail truth places variable_count
    → (IsAssigned trail e.lit.var → ⊥) → e.lit.var < variable_count → length after ≡ length truth → n ≡ length truth
    → IsSetOf after (λ y. InSet truth y ⊎ (y ≡ e.lit)) → now ≡ trail ++ e ∷ [] → place ≡ length trail
    → IsKept now (take n (after ++ drop (length after) truth)) (set places e.lit.var place) variable_count
kept_pushed trail now n truth after places variable_count place e k fresh l same size seen is at =
    rw (is, at, written n after truth same size) (kept_push trail truth after places variable_count e k fresh l same seen)

pub kept_cut : (trail now : List Entry) (n : ℕ) (truth after : List Bool) (places : List ℕ) (variable_count m : ℕ) → IsKept trail truth places variable_count
    → length after ≡ length truth → n ≡ length truth → IsSetOf after (IsOnTrail now) → now ≡ take m trail
    → IsKept now (take n (after ++ drop (length after) truth)) places variable_count
kept_cut trail now n truth after places variable_count m k same size seen is =
    rw (written n after truth same size, is) (kept_take trail truth after places variable_count m k same
    (subst (λ (t : List Entry). IsSetOf after (IsOnTrail t)) is seen))

pub front_take : (xs rest old : List Entry) (n : ℕ) → xs ++ rest ≡ old → n ≡ length xs → xs ≡ take n old
front_take xs rest old n s e = sym (ap (λ (t : List Entry). take n t) (sym s)
    ∙ (take-append-le n xs rest (omega (arith, e)) ∙ take_all n xs (omega (arith, e))))

-- an entry goes from the end
pub cut_step : (now next old : List Entry) (e : Entry) → now ≡ next ++ e ∷ [] → (rest : List Entry) × (now ++ rest ≡ old) → (rest : List Entry)
    × (next ++ rest ≡ old)
cut_step now next old e is (rest, s) =
    (e ∷ rest, sym (append_assoc next (e ∷ []) rest) ∙ (ap (λ (t : List Entry). t ++ rest) (sym is) ∙ s))

pub distinct_front : (xs old : List Entry) → (rest : List Entry) × (xs ++ rest ≡ old)
    → ((p q : ℕ) (d e : Entry) → IsAt old p d → IsAt old q e → d.lit.var ≡ e.lit.var → p ≡ q)
    → (p q : ℕ) (d e : Entry) → IsAt xs p d → IsAt xs q e → d.lit.var ≡ e.lit.var → p ≡ q
distinct_front xs old (rest, s) distinct p q d e h k v =
    distinct p q d e (subst (λ (t : List Entry). IsAt t p d) s (at_front xs rest d p h)) (subst (λ (t : List Entry). IsAt t q e) s (at_front xs rest e q k)) v

pub fits_front : (xs old : List Entry) (size : ℕ) → (rest : List Entry) × (xs ++ rest ≡ old)
    → ((q : ℕ) (e : Entry) → IsAt old q e → Fits size e.lit) → (q : ℕ) (e : Entry) → IsAt xs q e → Fits size e.lit
fits_front xs old size (rest, s) fits q e h = fits q e (subst (λ (t : List Entry). IsAt t q e) s (at_front xs rest e q h))

pub read_is : (xs : List ℕ) (i n : ℕ) → i < length xs → n ≡ get_or xs i n → n ≡ get_or xs i 0
read_is [] i n l e = absurd (omega arith)
read_is (x ∷ xs) zero n l e = e
read_is (x ∷ xs) (suc i) n l e = read_is xs i n (omega arith) e

-- a variable from the count on is not assigned
pub none_from : (trail : List Entry) (variable_count v : ℕ) → IsTrail trail variable_count → variable_count ≤ v → IsAssigned trail v → ⊥
none_from trail variable_count v t le (k, e, l, at, is) =
    let w = t.within k (get_or trail k e) (slice_get-get_or trail k e l) in
    let same : (get_or trail k e).lit.var ≡ v = ap (λ (z : Entry). z.lit.var) at ∙ is in
    omega (arith, w, same, le)

-- a variable one of whose two literals is true has its entry at its place
pub entry_at : (trail : List Entry) (truth : List Bool) (places : List ℕ) (variable_count var place : ℕ) (p n : Bool) → IsKept trail truth places variable_count
    → (p ≡ true → IsOnTrail trail (record { var = var; negated = false })) → (n ≡ true → IsOnTrail trail (record { var = var; negated = true }))
    → ((p ≡ false) × (n ≡ true)) ⊎ (p ≡ true) → var < length places → place ≡ get_or places var place
    → (e : Entry) × (IsAt trail place e × (e.lit.var ≡ var))
entry_at trail truth places variable_count var place p n k positive negative either l is =
    let by : (b : Bool) → IsOnTrail trail (record { var = var; negated = b }) → (e : Entry) × (IsAt trail place e × (e.lit.var ≡ var))
    = λ b (q, (e, (h, s))). let v : e.lit.var ≡ var = ap (λ (z : Lit). z.var) s in
    let same : place ≡ q = read_is places var place l is ∙ (ap (λ w. get_or places w 0) (sym v) ∙ k.placed q e h) in
    (e, (subst (λ i. IsAt trail i e) (sym same) h, v)) in
    ⊎_elim (λ m. by true (negative m.1)) (λ m. by false (positive m)) either

-- no literal is assigned together with its complement
not_own : (b : Bool) → not b ≡ b → ⊥
not_own true e = false≢true e
not_own false e = false≢true (sym e)

pub not_both_on : (trail : List Entry) (variable_count : ℕ) (x : Lit) → IsTrail trail variable_count → IsOnTrail trail x → IsOnTrail trail (complement x) → ⊥
not_both_on trail variable_count x t (p, (d, (h, s))) (q, (e, (k, r))) =
    let pq : p ≡ q = t.distinct p q d e h k (ap (λ (z : Lit). z.var) s ∙ sym (ap (λ (z : Lit). z.var) r)) in
    let de : d ≡ e = one_entry trail q d e (subst (λ i. IsAt trail i d) pq h) k in
    let c : complement x ≡ x = sym r ∙ (ap (λ (z : Entry). z.lit) (sym de) ∙ s) in
    not_own x.negated (ap (λ (z : Lit). z.negated) c)
