-- A schedule that meets all hypotheses violates its obligation, or some first list of picks passes.
use Rattle.std.proofs.Common.{◌≡◌, ℕ, zero, suc, Bool, true, false, List, [], ◌∷◌, ◌++◌, map, length, ◌⊎◌, inl, inr, refl, ap, arith}
use Rattle.std.specs.List.{All}
use Rattle.std.proofs.lemmas.List.Elements.{All-nil, All-cons, All-head, All-tail}
use Rattle.ygg_meaning.specs.Machine.{Picks, Machine}
use Rattle.ygg_meaning.specs.Environments.{Env}
use Rattle.ygg_meaning.specs.Layer.{ClosedLayer}
use Rattle.ygg_meaning.specs.Obligations.{Obligation, Schedule}
use Rattle.ygg_meaning.specs.Violates.{End, Meets, most, spec_after, passes}
use Rattle.ygg_meaning.specs.Replayed.{Replayed, Shows, Passes, pick_lists, Replays}

module _ (test : Picks → Bool) where
  abbrev Fails : Picks → Type 0
  Fails p = test p ≡ false

  pub record First (lists : List Picks) : Type 0 where
    pub picks : Picks
    pub before : List Picks
    pub after : List Picks
    pub is : lists ≡ before ++ picks ∷ after
    pub earlier : All Fails before
    pub yes : test picks ≡ true

  first_or_none : (lists : List Picks) → First lists ⊎ All Fails lists
  first_or_none [] = inr (All-nil Fails)
  first_or_none (p ∷ lists) = by_test (test p) refl (first_or_none lists)
    where
      by_test : (b : Bool) → test p ≡ b → First lists ⊎ All Fails lists → First (p ∷ lists) ⊎ All Fails (p ∷ lists)
      by_test true e rest = inl (record { picks = p; before = []; after = lists; is = refl; earlier = All-nil Fails; yes = e })
      by_test false e (inl x) = inl (record {
        picks = x.picks;
        before = p ∷ x.before;
        after = x.after;
        is = ap (λ l. p ∷ l) x.is;
        earlier =
            All-cons Fails p x.before e x.earlier;
        yes = x.yes;
      })
      by_test false e (inr none) = inr (All-cons Fails p lists e none)

module _ {X : Type 0} (P : X → Type 0) where
  front : (xs ys : List X) → All P (xs ++ ys) → All P xs
  front [] ys h = All-nil P
  front (x ∷ xs) ys h = All-cons P x xs (All-head P x (xs ++ ys) h) (front xs ys (All-tail P x (xs ++ ys) h))

  back : (xs ys : List X) → All P (xs ++ ys) → All P ys
  back [] ys h = h
  back (x ∷ xs) ys h = back xs ys (All-tail P x (xs ++ ys) h)

unmapped : (P : Picks → Type 0) (b : Bool) (lists : List Picks) → All P (map (λ picks. b ∷ picks) lists) → All (λ p. P (b ∷ p)) lists
unmapped P b [] h = All-nil (λ p. P (b ∷ p))
unmapped P b (p ∷ lists) h =
    All-cons (λ p. P (b ∷ p)) p lists (All-head P (b ∷ p) (map (λ picks. b ∷ picks) lists) h)
    (unmapped P b lists (All-tail P (b ∷ p) (map (λ picks. b ∷ picks) lists) h))

-- what holds of all listed lists of picks holds of each of that length
each_listed : (P : Picks → Type 0) (n : ℕ) → All P (pick_lists n) → (picks : Picks) → length picks ≡ n → P picks
each_listed P zero h [] e = All-head P [] [] h
each_listed P zero h (p ∷ picks) e = absurd (omega (arith, e))
each_listed P (suc n) h [] e = absurd (omega (arith, e))
each_listed P (suc n) h (false ∷ picks) e =
    each_listed (λ p. P (false ∷ p)) n (unmapped P false (pick_lists n)
    (front P (map (λ picks. false ∷ picks) (pick_lists n)) (map (λ picks. true ∷ picks) (pick_lists n)) h)) picks (omega (arith, e))
each_listed P (suc n) h (true ∷ picks) e =
    each_listed (λ p. P (true ∷ p)) n (unmapped P true (pick_lists n)
    (back P (map (λ picks. false ∷ picks) (pick_lists n)) (map (λ picks. true ∷ picks) (pick_lists n)) h)) picks (omega (arith, e))

pub replay_ends : (L : ClosedLayer) (M : Machine Env Bool) (o : Obligation) (x : Schedule) (end : End) → Meets L M o x end →
    (r : Replayed) × Replays L M o x r
replay_ends L M o x end meets = by_first (first_or_none test (pick_lists (most L o)))
  where
    test : Picks → Bool
    test picks = passes L o end (spec_after L o x picks)

    by_first : First test (pick_lists (most L o)) ⊎ All (Fails test) (pick_lists (most L o)) → (r : Replayed) × Replays L M o x r
    by_first (inl p) = (Passes p.picks, (end, meets, (p.before, p.after, p.is, p.earlier, p.yes)))
    by_first (inr none) = (Shows, record { end = end; meets = meets; fails = each_listed (Fails test) (most L o) none })
