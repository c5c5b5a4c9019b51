-- A schedule cannot be replayed in two ways.
use Rattle.std.proofs.Common.{◌≡◌, ℕ, zero, suc, Bool, true, false, List, [], ◌∷◌, ◌++◌, map, length, inl, inr, refl, sym, ap, ◌∙◌, subst}
use Rattle.std.specs.List.{All}
use Rattle.std.proofs.lemmas.List.Elements.{All-nil, All-cons, All-head, All-tail}
use Rattle.ygg_meaning_laws.specs.Environments.{Env}
use Rattle.ygg_meaning_laws.specs.Machine.{Picks, Machine}
use Rattle.ygg_meaning_laws.specs.Layer.{ClosedLayer}
use Rattle.ygg_meaning_laws.specs.Related.{all_true}
use Rattle.ygg_meaning_laws.specs.Obligations.{Obligation, Init, CallOf, CutOf, TickOf, CutTickOf, Idle, Again, Schedule}
use Rattle.ygg_meaning_laws.specs.Refines.{Below, machine_below}
use Rattle.ygg_meaning_laws.specs.Violates.{End, most, spec_after, passes, Reached, FallsSo, Meets, Violates}
use Rattle.ygg_meaning_laws.specs.Replayed.{Replayed, Shows, Hypothesis, Passes, Replays, pick_lists, IsFirstFalse, has_stop}
use Rattle.ygg_meaning_laws.specs.Replaying.{OneReplay}
use Rattle.ygg_meaning_laws.proofs.OneEnd.{one_conclusion}

no_false : {A : Type 0} (before after : List Bool) → all_true (before ++ false ∷ after) ≡ true → A
no_false [] after h = absurd (cc)
no_false (true ∷ before) after h = no_false before after h
no_false (false ∷ before) after h = absurd (cc)

tails : {A : Type 0} {x y : A} {xs ys : List A} → x ∷ xs ≡ y ∷ ys → xs ≡ ys
tails h = cc

heads : {A : Type 0} {x y : A} {xs ys : List A} → x ∷ xs ≡ y ∷ ys → x ≡ y
heads h = cc

-- the first false one
first_false : (a b c d : List Bool) → a ++ false ∷ b ≡ c ++ false ∷ d → all_true a ≡ true → all_true c ≡ true → length a ≡ length c
first_false [] b [] d e h g = refl
first_false [] b (true ∷ c) d e h g = absurd (let k : false ≡ true = heads e in cc)
first_false [] b (false ∷ c) d e h g = absurd (cc)
first_false (true ∷ a) b [] d e h g = absurd (let k : true ≡ false = heads e in cc)
first_false (false ∷ a) b [] d e h g = absurd (cc)
first_false (true ∷ a) b (true ∷ c) d e h g = ap suc (first_false a b c d (tails e) h g)
first_false (true ∷ a) b (false ∷ c) d e h g = absurd (cc)
first_false (false ∷ a) b (x ∷ c) d e h g = absurd (cc)

-- the first that passes
first_passing : (s t : Picks → Bool) → ((p : Picks) → s p ≡ t p) → (a b c d : List Picks) (p q : Picks) → a ++ p ∷ b ≡ c ++ q ∷ d →
    All (λ p. s p ≡ false) a → s p ≡ true → All (λ p. t p ≡ false) c → t q ≡ true → p ≡ q
first_passing s t same [] b [] d p q e h y g z = heads e
first_passing s t same [] b (x ∷ c) d p q e h y g z =
    let k : t x ≡ false = All-head (λ p. t p ≡ false) x c g in let l : p ≡ x = heads e in let m : t x ≡ true = sym (same x) ∙ ap s (sym l) ∙ y in absurd (cc)
first_passing s t same (x ∷ a) b [] d p q e h y g z =
    let k : s x ≡ false = All-head (λ p. s p ≡ false) x a h in let l : x ≡ q = heads e in let m : s x ≡ true = ap s l ∙ same q ∙ z in absurd (cc)
first_passing s t same (x ∷ a) b (w ∷ c) d p q e h y g z =
    first_passing s t same a b c d p q (tails e) (All-tail (λ p. s p ≡ false) x a h) y (All-tail (λ p. t p ≡ false) w c g) z

-- all lists are so long
all_long : (n : ℕ) → All (λ p. length p ≡ n) (pick_lists n)
all_long zero = All-cons (λ p. length p ≡ 0) [] [] refl (All-nil (λ p. length p ≡ 0))
all_long (suc n) = both (pick_lists n) (pick_lists n) (all_long n) (all_long n)
  where
    second : (bs : List Picks) → All (λ p. length p ≡ n) bs → All (λ p. length p ≡ suc n) (map (λ p. true ∷ p) bs)
    second [] h = All-nil (λ p. length p ≡ suc n)
    second (p ∷ bs) h =
        All-cons (λ p. length p ≡ suc n) (true ∷ p) (map (λ p. true ∷ p) bs) (ap suc (All-head (λ p. length p ≡ n) p bs h))
        (second bs (All-tail (λ p. length p ≡ n) p bs h))

    both : (xs bs : List Picks) → All (λ p. length p ≡ n) xs → All (λ p. length p ≡ n) bs →
        All (λ p. length p ≡ suc n) (map (λ p. false ∷ p) xs ++ map (λ p. true ∷ p) bs)
    both [] bs h g = second bs g
    both (p ∷ xs) bs h g =
        All-cons (λ p. length p ≡ suc n) (false ∷ p) (map (λ p. false ∷ p) xs ++ map (λ p. true ∷ p) bs)
        (ap suc (All-head (λ p. length p ≡ n) p xs h)) (both xs bs (All-tail (λ p. length p ≡ n) p xs h) g)

one_of : (P : Picks → Type 0) (before after : List Picks) (p : Picks) → All P (before ++ p ∷ after) → P p
one_of P [] after p h = All-head P p after h
one_of P (x ∷ before) after p h = one_of P before after p (All-tail P x (before ++ p ∷ after) h)

never : {A : Type 0} (b : Bool) → b ≡ true → b ≡ false → A
never true e f = absurd (cc)
never false e f = absurd (cc)

module _ (below : Below) (L : ClosedLayer) (o : Obligation) (x : Schedule) where
  abbrev M : Machine Env Bool
  M = machine_below below

  -- the stop is reached where the runs have ended
  reaches_stop : (o : Obligation) (e : End) → Reached L M o x e → has_stop o ≡ true → (fallen : Env) × FallsSo L M o x fallen
  reaches_stop Init e r h = absurd (cc)
  reaches_stop (CallOf p) e r h = absurd (cc)
  reaches_stop (CutOf p) e r h = (r.fallen, r.falls)
  reaches_stop (TickOf t) e r h = absurd (cc)
  reaches_stop (CutTickOf t) e r h = (r.fallen, r.falls)
  reaches_stop Idle e r h = absurd (cc)
  reaches_stop Again e r h = (r.fallen, r.falls)

  -- hypotheses are not both met and not
  not_met : {A : Type 0} (e : End) (n : ℕ) → Meets L M o x e → IsFirstFalse L M o x n → A
  not_met e n m (inl (before, after, is, ok, count)) = no_false before after (ap all_true (sym is) ∙ m.hypotheses)
  not_met e n m (inr (all, stop, none, count)) = let f = reaches_stop o e m.reached stop in absurd (none f.0 f.1)

  -- a list of picks passes, or none does
  not_passing : {A : Type 0} (picks : Picks) → Violates L M o x → Replays L M o x (Passes picks) → A
  not_passing picks v (e, m, (before, after, is, earlier, passed)) =
      never (passes L o e (spec_after L o x picks)) passed
      (one_conclusion below L o x e v.end m.reached v.meets.reached (spec_after L o x picks)
      ∙ v.fails picks (one_of (λ p. length p ≡ most L o) before after picks (subst (All (λ p. length p ≡ most L o)) is (all_long (most L o)))))

  one_number : (n m : ℕ) → IsFirstFalse L M o x n → IsFirstFalse L M o x m → n ≡ m
  one_number n m (inl (a, b, is, ok, n_is)) (inl (c, d, is', ok', m_is)) = n_is ∙ first_false a b c d (sym is ∙ is') ok ok' ∙ sym m_is
  one_number n m (inl (a, b, is, ok, n_is)) (inr (all, stop, none, m_is)) = no_false a b (ap all_true (sym is) ∙ all)
  one_number n m (inr (all, stop, none, n_is)) (inl (c, d, is', ok', m_is)) = no_false c d (ap all_true (sym is') ∙ all)
  one_number n m (inr (all, stop, none, n_is)) (inr (all', stop', none', m_is)) = n_is ∙ sym m_is

  one_replay_here : (r s : Replayed) → Replays L M o x r → Replays L M o x s → r ≡ s
  one_replay_here Shows Shows h g = refl
  one_replay_here Shows (Hypothesis n) h g = not_met h.end n h.meets g
  one_replay_here Shows (Passes p) h g = not_passing p h g
  one_replay_here (Hypothesis n) Shows h g = not_met g.end n g.meets h
  one_replay_here (Hypothesis n) (Hypothesis m) h g = ap Hypothesis (one_number n m h g)
  one_replay_here (Hypothesis n) (Passes p) h (e, m, first) = not_met e n m h
  one_replay_here (Passes p) Shows h g = not_passing p g h
  one_replay_here (Passes p) (Hypothesis n) (e, m, first) g = not_met e n m g
  one_replay_here (Passes p) (Passes q) (e, m, (a, b, is, earlier, passed)) (f, k, (c, d, is', earlier', passed')) =
      ap Passes (first_passing (λ p. passes L o e (spec_after L o x p)) (λ p. passes L o f (spec_after L o x p))
      (λ p. one_conclusion below L o x e f m.reached k.reached (spec_after L o x p)) a b c d p q (sym is ∙ is') earlier passed earlier' passed')

pub one_replay : OneReplay
one_replay below L o x r s h g = one_replay_here below L o x r s h g
