-- What the search keeps of a propagation lasts.
use Rattle.std.proofs.Common.{
  ◌≡◌,
  ◌≢◌,
  ℕ,
  zero,
  suc,
  ◌<◌,
  ◌≤◌,
  ◌+◌,
  ◌*◌,
  List,
  [],
  ◌∷◌,
  ◌++◌,
  length,
  ◌⊎◌,
  inl,
  inr,
  ⊎_elim,
  sym,
  subst,
  ap,
  ◌∙◌,
  arith,
  refl,
  Option,
  Some,
  None,
  slice_get,
  All,
  append_assoc,
  Contains,
  map,
  leb,
  IsSome,
}
use Rattle.std.proofs.lemmas.Bool.{cases_Bool, cases_lt, leb-true}
use Rattle.std.proofs.lemmas.List.{take-append-le}
use Rattle.std.proofs.lemmas.List.Elements.{All-push}
use Rattle.std.proofs.lemmas.Option.{same_Some}
use Rattle.ygg_cnf.specs.Derivations.{HasClause}
use Rattle.ygg_cnf.specs.Literals.{complement}
use Rattle.ygg_cnf.specs.Logs.{IsOpen}
use Rattle.ygg_cnf.specs.declared.lit.Lit.{Lit}
use Rattle.ygg_cnf_set.specs.LiteralSet.{Fits}
use Rattle.ygg_solver.proofs.LearnLemmas.{none_is_some}
use Rattle.ygg_solver.specs.Learning.{IsSound, IsLastDecision, IsJump}
use Rattle.ygg_watch.specs.Propagation.{Propagation, decided, Implies, Spreads, with_clause, back_to}
use Rattle.ygg_solver.specs.Kept.{IsReady}
use Rattle.ygg_watch.proofs.TrailLemmas.{entry_within, assigned_at, at_push, at_front, fresh_place, at_in}
use Rattle.ygg_watch.specs.Trail.{IsAt, IsFalseBefore, IsReason, IsQuietBefore, assigned_before, IsAssigned, keep_level}
use Rattle.ygg_watch.specs.declared.entry.Entry.{Entry}

pub false_front : (xs ys : List Entry) (n : ℕ) (y : Lit) → IsFalseBefore xs n y → IsFalseBefore (xs ++ ys) n y
false_front xs ys n y (q, (e, (l, (h, s)))) = (q, (e, (l, (at_front xs ys e q h, s))))

pub reason_front : (clauses : List (List Lit)) (xs ys : List Entry) (n id : ℕ) (x : Lit) (clause : List Lit)
    → IsReason clauses xs n id x clause → IsReason clauses (xs ++ ys) n id x clause
reason_front clauses xs ys n id x clause r = record {
  numbered = r.numbered;
  here = r.here;
  others = λ y c d. false_front xs ys n y (r.others y c d);
}

quiet_front : (clauses : List (List Lit)) (xs ys : List Entry) (n : ℕ) → n ≤ length xs → IsQuietBefore clauses xs n → IsQuietBefore clauses (xs ++ ys) n
quiet_front clauses xs ys n l h =
    subst (λ (t : List Entry). All (IsOpen (map (λ (e : Entry). e.lit) t)) clauses) (sym (take-append-le n xs ys l)) h

-- one more entry keeps what is kept, where its variable is fresh, its reason is one, and its level no lower
ready_push : (p : Propagation) (e : Entry) (level : ℕ) → IsReady p → (IsAssigned p.trail e.lit.var → ⊥)
    → ((id : ℕ) → e.reason ≡ Some id → (clause : List Lit) × IsReason p.clauses p.trail (length p.trail) id e.lit clause)
    → (e.reason ≡ None → IsQuietBefore p.clauses p.trail (length p.trail))
    → (e.reason ≡ None → p.level < e.level)
    → p.level ≤ level → e.level ≤ level → e.lit.var < p.variable_count
    → IsReady (record p { trail = p.trail ++ e ∷ []; level = level })
ready_push p e level r fresh reason quiet above up within variable_count = record {
  sound = record {
    distinct = λ i j c d h k v. ⊎_elim
        (λ a. ⊎_elim (λ b. r.sound.distinct i j c d a b v)
        (λ b. absurd (fresh (fresh_place p.trail i c e.lit.var a (v ∙ ap (λ (z : Entry). z.lit.var) (sym b.1))))) (at_push p.trail e d j k))
        (λ a. ⊎_elim (λ b. absurd (fresh (fresh_place p.trail j d e.lit.var b (sym v ∙ ap (λ (z : Entry). z.lit.var) (sym a.1)))))
        (λ b. a.0 ∙ sym b.0) (at_push p.trail e d j k))
        (at_push p.trail e c i h);
    reasons = λ q d id h s. ⊎_elim
        (λ a. let (clause, is) = r.sound.reasons q d id a s in (clause, reason_front p.clauses p.trail (e ∷ []) q id d.lit clause is))
        (λ a. let (clause, is) = reason id (ap (λ (z : Entry). z.reason) a.1 ∙ s) in (
          clause,
          subst (λ (z : Entry). IsReason p.clauses (p.trail ++ e ∷ []) q id z.lit clause) a.1
              (subst (λ n. IsReason p.clauses (p.trail ++ e ∷ []) n id e.lit clause) (sym a.0)
              (reason_front p.clauses p.trail (e ∷ []) (length p.trail) id e.lit clause is)),
        ))
        (at_push p.trail e d q h);
  };
  quiet = λ q d h n. ⊎_elim
      (λ a. let l = entry_within p.trail q d a in quiet_front p.clauses p.trail (e ∷ []) q (omega (arith, l)) (r.quiet q d a n))
      (λ a. subst (λ m. IsQuietBefore p.clauses (p.trail ++ e ∷ []) m) (sym a.0)
      (quiet_front p.clauses p.trail (e ∷ []) (length p.trail) (omega arith) (quiet (ap (λ (z : Entry). z.reason) a.1 ∙ n))))
      (at_push p.trail e d q h);
  rises = λ q s c d h k l n. ⊎_elim
      (λ b. ⊎_elim (λ a. r.rises q s c d a b l n) (λ a. let w = entry_within p.trail s d b in absurd (omega (arith, a.0, w))) (at_push p.trail e c q h))
      (λ b. ⊎_elim
      (λ a. let low = r.low q c a in let over = above (ap (λ (z : Entry). z.reason) b.1 ∙ n) in let same = ap (λ (z : Entry). z.level) b.1 in
      omega (arith, low, over, same))
      (λ a. absurd (omega (arith, a.0, b.0))) (at_push p.trail e c q h))
      (at_push p.trail e d s k);
  low = λ q d h. ⊎_elim (λ a. let low = r.low q d a in omega (arith, low)) (λ a. subst (λ (z : Entry). z.level ≤ level) a.1 within) (at_push p.trail e d q h);
  above = λ q d h n. ⊎_elim (λ a. r.above q d a n)
      (λ a. let over = above (ap (λ (z : Entry). z.reason) a.1 ∙ n) in let same = ap (λ (z : Entry). z.level) a.1 in omega (arith, over, same))
      (at_push p.trail e d q h);
  within = λ q d h. ⊎_elim (λ a. r.within q d a) (λ a. subst (λ (z : Entry). z.lit.var < p.variable_count) a.1 variable_count) (at_push p.trail e d q h);
}

-- after a decision
pub ready_decided : (p : Propagation) (x : Lit) → x.var < p.variable_count → IsReady p → (IsAssigned p.trail x.var → ⊥) →
    IsQuietBefore p.clauses p.trail (length p.trail) → IsReady (decided p x)
ready_decided p x variable_count r fresh quiet =
    ready_push p (record { lit = x; level = p.level + 1; reason = None }) (p.level + 1) r fresh (λ id e. cc) (λ _. quiet) (λ _. omega arith)
    (omega arith) (omega arith) variable_count

pub append-nil : (xs : List Entry) → xs ++ [] ≡ xs
append-nil [] = refl
append-nil (x ∷ xs) = ap (λ l. x ∷ l) (append-nil xs)

reason_not_none : (o : Option ℕ) (id : ℕ) → o ≡ Some id → o ≡ None → ⊥
reason_not_none o id e f = cc

-- after what is implied
pub ready_implied : (p : Propagation) (added : List Entry) → IsReady p → Implies p added → IsReady (record p { trail = p.trail ++ added })
ready_implied p [] r i = subst (λ (t : List Entry). IsReady (record p { trail = t })) (sym (append-nil p.trail)) r
ready_implied p (e ∷ es) r (is, i) =
    let (id, (clause, (has, reason))) = is.reason in
    let p1 : Propagation = record p { trail = p.trail ++ e ∷ [] } in
    let one : IsReady p1 = ready_push p e p.level r is.fresh
    (λ k h. (clause, subst (λ n. IsReason p.clauses p.trail (length p.trail) n e.lit clause) (same_Some id k (sym has ∙ h)) reason))
    (λ n. absurd (reason_not_none e.reason id has n)) (λ n. absurd (reason_not_none e.reason id has n)) (omega arith)
    (let same = is.level in omega (arith, same)) is.within in
    subst (λ (t : List Entry). IsReady (record p { trail = t })) (append_assoc p.trail (e ∷ []) es) (ready_implied p1 es one i)

pub ready_spreads : (old new : Propagation) → IsReady old → Spreads old new → IsReady new
ready_spreads old new r (added, (i, e)) = subst IsReady (sym e) (ready_implied old added r i)

pub got_front : (clauses more : List (List Lit)) (i : ℕ) (clause : List Lit) → slice_get clauses i ≡ Some clause → slice_get (clauses ++ more) i ≡ Some clause
got_front [] more i clause h = cc
got_front (c ∷ cs) more zero clause h = h
got_front (c ∷ cs) more (suc i) clause h = got_front cs more i clause h

pub has_front : (clauses more : List (List Lit)) (id : ℕ) (clause : List Lit) → HasClause clauses id clause → HasClause (clauses ++ more) id clause
has_front clauses more zero clause h = h
has_front clauses more (suc i) clause h = got_front clauses more i clause h

-- after a clause that is open before each decision
pub ready_with : (p : Propagation) (clause : List Lit) → IsReady p
    → ((q : ℕ) (e : Entry) → IsAt p.trail q e → e.reason ≡ None → IsOpen (assigned_before p.trail q) clause)
    → IsReady (with_clause p clause)
ready_with p clause r o = record {
  sound = record {
    distinct = r.sound.distinct;
    reasons = λ q e id h s. let (c, is) = r.sound.reasons q e id h s in
        (c, record { numbered = has_front p.clauses (clause ∷ []) id c is.numbered; here = is.here; others = is.others });
  };
  quiet = λ q e h n. All-push (IsOpen (assigned_before p.trail q)) p.clauses clause (r.quiet q e h n) (o q e h n);
  rises = r.rises;
  low = r.low;
  above = r.above;
  within = r.within;
}

-- a clause with a literal that is not false before a place, and another that is not false below a level, is open before the decisions up to that level
pub learned_open : (p : Propagation) (at first : ℕ) (entry other : Entry) (clause : List Lit) (x y : Lit) → IsReady p
    → IsAt p.trail at entry → entry.lit ≡ complement x → IsAt p.trail first other → other.lit ≡ complement y
    → Contains clause x → Contains clause y → x ≢ y
    → (q : ℕ) (e : Entry) → IsAt p.trail q e → e.reason ≡ None → q ≤ at → e.level ≤ other.level
    → IsOpen (assigned_before p.trail q) clause
learned_open p at first entry other clause x y r h s k t cx cy d q e a n below low =
    inr (
      x,
      (
        y,
        (
          cx,
          cy,
          d,
          (λ c. let (i, (z, (l, (b, v)))) = assigned_at p.trail q (complement x) c in
              let same : i ≡ at = r.sound.distinct i at z entry b h (ap (λ (w : Lit). w.var) (v ∙ sym s)) in omega arith),
          (λ c. let (i, (z, (l, (b, v)))) = assigned_at p.trail q (complement y) c in
              let same : i ≡ first = r.sound.distinct i first z other b k (ap (λ (w : Lit). w.var) (v ∙ sym t)) in
              let up = r.rises first q other e k a (omega arith) n in omega (arith, up)),
        ),
      ),
    )

first_or : (level : ℕ) (e : Entry) (es : List Entry) (q : ℕ) (d : Entry) → e.level ≤ level
    → ((r : ℕ) (c : Entry) → IsAt es r c → c.level ≤ level) → IsAt (e ∷ es) q d → d.level ≤ level
first_or level e es zero d h l k = subst (λ (z : Entry). z.level ≤ level) (same_Some e d k) h
first_or level e es (suc q) d h l k = l q d k

-- the kept literals are the first ones, and none of them is above the level
pub keep_split : (level : ℕ) (trail : List Entry) → (rest : List Entry)
    × ((keep_level level trail ++ rest ≡ trail) × ((q : ℕ) (e : Entry) → IsAt (keep_level level trail) q e → e.level ≤ level))
keep_split level [] = ([], (refl, λ q e h. cc))
keep_split level (e ∷ es) =
    ⊎_elim
    (λ t. let (rest, (s, l)) = keep_split level es in
    rw t (rest, (ap (λ r. e ∷ r) s, λ q d h. first_or level e (keep_level level es) q d (leb-true e.level level t) l h)))
    (λ f. rw f (e ∷ es, (refl, λ q d h. cc)))
    (cases_Bool (leb e.level level))

pub false_in : (xs ys : List Entry) (n : ℕ) (y : Lit) → n ≤ length xs → IsFalseBefore (xs ++ ys) n y → IsFalseBefore xs n y
false_in xs ys n y le (q, (e, (l, (h, s)))) = (q, (e, (l, (at_in xs ys q e h (omega arith), s))))

quiet_in : (clauses : List (List Lit)) (xs ys : List Entry) (n : ℕ) → n ≤ length xs → IsQuietBefore clauses (xs ++ ys) n → IsQuietBefore clauses xs n
quiet_in clauses xs ys n l h =
    subst (λ (t : List Entry). All (IsOpen (map (λ (e : Entry). e.lit) t)) clauses) (take-append-le n xs ys l) h

ready_first : (p : Propagation) (xs ys : List Entry) (level : ℕ) → xs ++ ys ≡ p.trail → ((q : ℕ) (e : Entry) → IsAt xs q e → e.level ≤ level)
    → IsReady p → IsReady (record p { trail = xs; level = level })
ready_first p xs ys level s l r =
    let at : (q : ℕ) (e : Entry) → IsAt xs q e → IsAt p.trail q e = λ q e h. subst (λ (t : List Entry). IsAt t q e) s (at_front xs ys e q h) in
    record {
      sound = record {
        distinct = λ i j c d h k v. r.sound.distinct i j c d (at i c h) (at j d k) v;
        reasons = λ q e id h n. let (clause, is) = r.sound.reasons q e id (at q e h) n in
            let w = entry_within xs q e h in (
              clause,
              record {
                numbered = is.numbered;
                here = is.here;
                others = λ y c d. false_in xs ys q y (omega (arith, w)) (subst (λ (t : List Entry). IsFalseBefore t q y) (sym s) (is.others y c d));
              },
            );
      };
      quiet = λ q e h n. let w = entry_within xs q e h in
          quiet_in p.clauses xs ys q (omega (arith, w)) (subst (λ (t : List Entry). IsQuietBefore p.clauses t q) (sym s) (r.quiet q e (at q e h) n));
      rises = λ q j d e h k o n. r.rises q j d e (at q d h) (at j e k) o n;
      low = l;
      above = λ q e h n. r.above q e (at q e h) n;
      within = λ q e h. r.within q e (at q e h);
    }

pub ready_back : (p : Propagation) (level : ℕ) → IsReady p → IsReady (back_to p level)
ready_back p level r =
    let (rest, (s, l)) = keep_split level p.trail in ready_first p (keep_level level p.trail) rest level s l r

-- a false clause, in other words for the clauses and the trail
pub conflict_in : (p : Propagation) (clauses : List (List Lit)) (trail : List Entry) (id : ℕ) → p.clauses ≡ clauses → p.trail ≡ trail
    → (clause : List Lit) × (HasClause p.clauses id clause × ((y : Lit) → Contains clause y → IsFalseBefore p.trail (length p.trail) y))
    → (clause : List Lit) × (HasClause clauses id clause × ((y : Lit) → Contains clause y → IsFalseBefore trail (length trail) y))
conflict_in p clauses trail id e f (clause, (h, k)) =
    (clause, (subst (λ (l : List (List Lit)). HasClause l id clause) e h, λ y d. subst (λ (t : List Entry). IsFalseBefore t (length t) y) f (k y d)))

pub quiet_at : (p : Propagation) (clauses : List (List Lit)) (trail : List Entry) (start : ℕ) → p.clauses ≡ clauses → p.trail ≡ trail → IsReady p
    → IsLastDecision trail start → IsQuietBefore clauses trail start
quiet_at p clauses trail start e f r d =
    let (entry, (h, n)) = d.decision in
    subst (λ (l : List (List Lit)). IsQuietBefore l trail start) e
    (subst (λ (t : List Entry). IsQuietBefore p.clauses t start) f (r.quiet start entry (subst (λ (t : List Entry). IsAt t start entry) (sym f) h) n))

pub false_within : (p : Propagation) (trail : List Entry) (n : ℕ) (y : Lit) → p.trail ≡ trail → IsReady p → IsFalseBefore trail n y → y.var < p.variable_count
false_within p trail n y f r (q, (e, (l, (h, s)))) =
    let w = r.within q e (subst (λ (t : List Entry). IsAt t q e) (sym f) h) in
    let v : e.lit.var ≡ y.var = ap (λ (z : Lit). z.var) s in omega (arith, w, v)

-- after the restart no decision is left, so the clause may be any
pub ready_restart : (p : Propagation) (clause : List Lit) → IsReady p → IsReady (with_clause (back_to p 0) clause)
ready_restart p clause r =
    let b : IsReady (back_to p 0) = ready_back p 0 r in
    ready_with (back_to p 0) clause b (λ q e h n. let low = b.low q e h in let above = b.above q e h n in absurd (omega (arith, low, above)))

none_some : (o : Option ℕ) → o ≡ None → IsSome o → ⊥
none_some o e h = none_is_some o e h

-- after going back to where the clause leaves one literal
pub ready_jump : (p : Propagation) (clause : List Lit) (start level : ℕ) → IsReady p → IsLastDecision p.trail start → IsJump p.trail clause start level
    → IsReady (with_clause (back_to p level) clause)
ready_jump p clause start level r d j =
    ⊎_elim
    (λ z. subst (λ n. IsReady (with_clause (back_to p n) clause)) (sym z) (ready_restart p clause r))
    (λ a. let (rest, (s, l)) = keep_split level p.trail in
    let kept : List Entry = keep_level level p.trail in
    ready_with (back_to p level) clause (ready_back p level r) (λ q e h n.
    let at : IsAt p.trail q e = subst (λ (t : List Entry). IsAt t q e) s (at_front kept rest e q h) in
    let w : q < length kept = entry_within kept q e h in
    let up : q ≤ start = ⊎_elim (λ o. absurd (none_some e.reason n (d.implied q e o at))) (λ o. o) (cases_lt start q) in
    let low : e.level ≤ level = l q e h in
    let same : a.other.level ≡ level = a.same in
    let after : start ≤ a.at = a.after in
    let open_before : IsOpen (assigned_before p.trail q) clause
    = learned_open p a.at a.first a.entry a.other clause a.one a.two r a.at_is a.one_is a.first_is a.two_is a.here a.there a.differ q e at n
    (omega (arith, up, after)) (omega (arith, low, same)) in
    subst (λ (t : List Entry). IsOpen (map (λ (x : Entry). x.lit) t) clause) (take-append-le q kept rest (omega (arith, w)))
    (subst (λ (t : List Entry). IsOpen (assigned_before t q) clause) (sym s) open_before)))
    j

pub jump_low : (p : Propagation) (clause : List Lit) (start level : ℕ) → IsReady p → IsJump p.trail clause start level → level ≤ p.level
jump_low p clause start level r j =
    ⊎_elim (λ z. omega (arith, z)) (λ a. let low = r.low a.first a.other a.first_is in let same : a.other.level ≡ level = a.same in omega (arith, low, same)) j

pub decision_within : (trail : List Entry) (start : ℕ) → IsLastDecision trail start → start ≤ length trail
decision_within trail start d = let w = entry_within trail start d.decision.0 d.decision.1.0 in omega (arith, w)

pub fits_within : (n variable_count : ℕ) (y : Lit) → y.var < variable_count → 2 * variable_count ≤ n → Fits n y
fits_within n variable_count y l le = omega (arith, l, le)

pub jump_or : (trail : List Entry) (clause : List Lit) (start level other : ℕ) → (other ≡ 0) ⊎ (other ≡ level) → IsJump trail clause start level →
    IsJump trail clause start other
jump_or trail clause start level other o j = ⊎_elim (λ z. inl z) (λ e. subst (IsJump trail clause start) (sym e) j) o

-- the trail is sound, in other words for the clauses and the trail
pub sound_in : (p : Propagation) (clauses : List (List Lit)) (trail : List Entry) → p.clauses ≡ clauses → p.trail ≡ trail → IsReady p → IsSound clauses trail
sound_in p clauses trail e f r =
    subst (λ (l : List (List Lit)). IsSound l trail) e (subst (λ (t : List Entry). IsSound p.clauses t) f r.sound)

-- where nothing is assigned
none_at : (trail : List Entry) (q : ℕ) (e : Entry) → trail ≡ [] → IsAt trail q e → ⊥
none_at trail q e is h = let k : IsAt [] q e = rw is at h in cc

pub ready_empty : (p : Propagation) → p.trail ≡ [] → IsReady p
ready_empty p is = record {
  sound = record {
    distinct = λ i j d e h k v. absurd (none_at p.trail i d is h);
    reasons = λ q e id h s. absurd (none_at p.trail q e is h);
  };
  quiet = λ q e h n. absurd (none_at p.trail q e is h);
  rises = λ q s d e h k l n. absurd (none_at p.trail q d is h);
  low = λ q e h. absurd (none_at p.trail q e is h);
  above = λ q e h n. absurd (none_at p.trail q e is h);
  within = λ q e h. absurd (none_at p.trail q e is h);
}
