-- What holds of the watches lasts.
use Rattle.std.proofs.Common.{
  ◌≡◌,
  ◌≢◌,
  ℕ,
  suc,
  ◌<◌,
  ◌≤◌,
  ◌+◌,
  ◌-◌,
  ◌*◌,
  ◌/◌,
  List,
  [],
  ◌∷◌,
  ◌++◌,
  length,
  get_or,
  set,
  ◌⊎◌,
  inl,
  inr,
  ⊎_elim,
  sym,
  subst,
  ap,
  ◌∙◌,
  arith,
  get_or-set_same,
  get_or-set_other,
  length-set,
  length-append,
  Contains,
  slice_get,
  Some,
  All,
}
use Rattle.std.proofs.lemmas.Bool.{cases_eq, cases_lt}
use Rattle.std.proofs.lemmas.List.Elements.{All-get_or, All-contains}
use Rattle.std.proofs.lemmas.Option.{same_Some, slice_get-get_or, slice_get_within, get_or_from_slice_get}
use Rattle.ygg_cnf_set.proofs.LiteralSetLemmas.{contains_cases, same_code}
use Rattle.ygg_cnf_set.specs.LiteralSet.{code_of}
use Rattle.ygg_cnf.proofs.Lits.{complement_twice}
use Rattle.ygg_cnf.specs.Derivations.{HasClause}
use Rattle.ygg_cnf.specs.Literals.{complement}
use Rattle.ygg_cnf.specs.declared.lit.Lit.{Lit}
use Rattle.ygg_watch.proofs.StatusLemmas.{on_of_false, open_true, open_two}
use Rattle.ygg_watch.specs.Propagation.{IsFalse}
use Rattle.ygg_watch.proofs.AssignmentLemmas.{not_both_on, at_last}
use Rattle.ygg_watch.proofs.TrailLemmas.{entry_within, one_entry, assigned_at, in_before, at_front, at_in}
use Rattle.ygg_watch.specs.Assignments.{IsTrail}
use Rattle.ygg_watch.specs.Trail.{IsAt, IsQuietBefore, assigned_before, IsOnTrail}
use Rattle.ygg_watch.specs.declared.entry.Entry.{Entry}
use Rattle.ygg_watch.proofs.ListLemmas.{
  sibling_first,
  sibling_second,
  sibling_half,
  sibling_twice,
  sibling_within,
  sibling_differs,
  lists_linked,
  lists_moved,
  own_before,
  pending_split,
  pending_first,
  pending_linked,
  pending_moved,
  lists_taken,
  none_pending,
}
use Rattle.ygg_watch.specs.Lists.{sibling, no_lit, lit_of, IsLinked, IsOwn, Among, IsLists, IsMember, IsPending, IsPath, IsList}
use Rattle.ygg_watch.specs.State.{IsLive}
use Rattle.ygg_watch.specs.Watching.{frame_of, IsHeldTrue, IsHalf, IsFramed, IsWatchedAt, IsWatching, IsDone}
use Rattle.ygg_watch.specs.declared.frame.Checkpoint.{Checkpoint}

pub false_cases : (trail : List Entry) (x : Lit) → IsFalse trail x ⊎ (IsFalse trail x → ⊥)
false_cases trail x =
    ⊎_elim (λ c. inl (assigned_at trail (length trail) (complement x) c)) (λ n. inr (λ f. n (in_before trail (length trail) x f)))
    (contains_cases (assigned_before trail (length trail)) (complement x))

-- a literal that is on the trail, where no frame meets the guard
pub held_now : (trail : List Entry) (frames : List Checkpoint) (guard : Checkpoint → Type 0) (x : Lit) → IsOnTrail trail x
    → ((j : ℕ) → j < length frames → guard (frame_of frames j) → ⊥) → IsHeldTrue trail frames guard x
held_now trail frames guard x (q, (e, (h, s))) none = record { at = q; entry = e; is = h; same = s; stays = λ j l g. absurd (none j l g) }

-- one more entry
held_push : (trail : List Entry) (frames : List Checkpoint) (guard : Checkpoint → Type 0) (x : Lit) (e : Entry) → IsHeldTrue trail frames guard x →
    IsHeldTrue (trail ++ e ∷ []) frames guard x
held_push trail frames guard x e h = record { at = h.at; entry = h.entry; is = at_front trail (e ∷ []) h.entry h.at h.is; same = h.same; stays = h.stays }

half_push : (trail : List Entry) (frames : List Checkpoint) (head k : ℕ) (a b : Lit) (e : Entry) → head ≤ length trail → IsHalf trail frames head k a b →
    IsHalf (trail ++ e ∷ []) frames head k a b
half_push trail frames head k a b e w h q d l at s =
    held_push trail frames (λ f. (q < f.head) × (k < f.seen)) b e (h q d l (at_in trail (e ∷ []) q d at (omega arith)) s)

pub watching_push : (clauses : List (List Lit)) (watched : List Lit) (trail : List Entry) (frames : List Checkpoint) (head seen : ℕ) (e : Entry) →
    head ≤ length trail
    → IsWatching clauses watched trail frames head seen → IsWatching clauses watched (trail ++ e ∷ []) frames head seen
watching_push clauses watched trail frames head seen e w h k clause l is =
    ⊎_elim
    (λ p. inl (p.0, (half_push trail frames head k _ _ e w p.1.0, half_push trail frames head k _ _ e w p.1.1)))
    (λ s. inr (s.0, (s.1.0, held_push trail frames (λ f. k < f.seen) s.0 e s.1.1)))
    (h k clause l is)

pub framed_push : (trail : List Entry) (frames : List Checkpoint) (head seen : ℕ) (e : Entry) → IsFramed trail frames head seen →
    IsFramed (trail ++ e ∷ []) frames head seen
framed_push trail frames head seen e f = record {
  head_within = let w = f.head_within in omega (arith, w, length-append {A = Entry});
  heads = f.heads;
  seens = f.seens;
  heads_rise = f.heads_rise;
  seens_rise = f.seens_rise;
  low = λ j q d l h b. let w = f.head_within in let r = f.heads j l in f.low j q d l (at_in trail (e ∷ []) q d h (omega (arith, w, r, b))) b;
}

pub live_push : (clauses : List (List Lit)) (watched : List Lit) (next firsts pending : List ℕ) (trail after : List Entry) (variable_count : ℕ)
    (frames : List Checkpoint) (head seen : ℕ) (e : Entry)
    → IsLive clauses watched next firsts pending trail variable_count frames head seen → after ≡ trail ++ e ∷ [] →
    IsLive clauses watched next firsts pending after variable_count frames head seen
live_push clauses watched next firsts pending trail after variable_count frames head seen e v is =
    subst (λ (t : List Entry). IsLive clauses watched next firsts pending t variable_count frames head seen) (sym is) (record {
      variables = v.variables;
      watched_size = v.watched_size;
      next_size = v.next_size;
      firsts_size = v.firsts_size;
      lists = v.lists;
      member = v.member;
      framed = framed_push trail frames head seen e v.framed;
      watching = watching_push clauses watched trail frames head seen e v.framed.head_within v.watching;
    })

pub live_linked : (clauses : List (List Lit)) (watched : List Lit) (next firsts rest : List ℕ) (trail : List Entry) (variable_count : ℕ)
    (frames : List Checkpoint)
    (head seen node c : ℕ)
    → IsLive clauses watched next firsts (node ∷ rest) trail variable_count frames head seen → IsOwn watched c node → c < length firsts → (Among rest node → ⊥)
    → IsLive clauses watched (set next node (get_or firsts c 0)) (set firsts c (node + 1)) rest trail variable_count frames head seen
live_linked clauses watched next firsts rest trail variable_count frames head seen node c v own within out = record {
  variables = v.variables;
  watched_size = v.watched_size;
  next_size = length-set next node (get_or firsts c 0) ∙ v.next_size;
  firsts_size = length-set firsts c (node + 1) ∙ v.firsts_size;
  lists = lists_linked next watched firsts rest node c v.lists own within
      (let a = v.watched_size in let b = v.next_size in let o = own.0 in omega (arith, a, b, o)) out;
  member = v.member;
  framed = v.framed;
  watching = v.watching;
}

-- another literal at a node whose literal is false
lit_moved : (watched : List Lit) (node n : ℕ) (y : Lit) → n ≢ node → lit_of (set watched node y) n ≡ lit_of watched n
lit_moved watched node n y d = get_or-set_other watched node n y no_lit d

lit_now : (watched : List Lit) (node : ℕ) (y : Lit) → node < length watched → lit_of (set watched node y) node ≡ y
lit_now watched node y l = get_or-set_same watched node y no_lit l

-- the watches of one clause after the move of its first, and of its second
pair_moved : (trail : List Entry) (variable_count : ℕ) (frames : List Checkpoint) (head k : ℕ) (a b y : Lit) → IsTrail trail variable_count → IsFalse trail a →
    (IsFalse trail y → ⊥)
    → IsHalf trail frames head k b a → (IsHalf trail frames head k y b) × (IsHalf trail frames head k b y)
pair_moved trail variable_count frames head k a b y t fa fy hb = (
  (λ q e l h s. absurd (fy (q, (e, (entry_within trail q e h, (h, s)))))),
  (λ q e l h s. let r = hb q e l h s in absurd (not_both_on trail variable_count a t (r.at, (r.entry, (r.is, r.same))) (on_of_false trail a fa))),
)

pub watching_moved : (clauses : List (List Lit)) (watched : List Lit) (trail : List Entry) (variable_count : ℕ) (frames : List Checkpoint) (head seen node : ℕ)
    (y : Lit) → IsTrail trail variable_count
    → node < length watched → IsFalse trail (lit_of watched node) → (IsFalse trail y → ⊥) → y ≢ lit_of watched (sibling node)
    → IsWatching clauses watched trail frames head seen → IsWatching clauses (set watched node y) trail frames head seen
watching_moved clauses watched trail variable_count frames head seen node y t l fa fy differs h k clause w is =
    let after : List Lit = set watched node y in
    let half : Lit → Lit → Type 0 = IsHalf trail frames head k in
    ⊎_elim
    (λ p. ⊎_elim
    (λ e. let here : lit_of after (2 * k) ≡ y = ap (lit_of after) e ∙ lit_now watched node y l in
    let there : lit_of after (2 * k + 1) ≡ lit_of watched (2 * k + 1) =
    lit_moved watched node (2 * k + 1) y (λ s. let z : 2 * k ≡ 2 * k + 1 = e ∙ sym s in omega (arith, z)) in
    let b : lit_of watched (sibling node) ≡ lit_of watched (2 * k + 1) = ap (lit_of watched) (ap sibling (sym e) ∙ sibling_first k) in
    let m = pair_moved trail variable_count frames head k (lit_of watched (2 * k)) (lit_of watched (2 * k + 1)) y t
    (subst (λ n. IsFalse trail (lit_of watched n)) (sym e) fa) fy p.1.1 in
    inl (
      (λ q. differs (sym here ∙ (q ∙ (ap (lit_of after) (sibling_first k) ∙ (there ∙ sym b))))),
      (
        subst (λ (z : Lit). half z (lit_of after (2 * k + 1))) (sym here) (subst (λ (z : Lit). half y z) (sym there) m.0),
        subst (λ (z : Lit). half (lit_of after (2 * k + 1)) z) (sym here) (subst (λ (z : Lit). half z y) (sym there) m.1),
      ),
    ))
    (λ n. ⊎_elim
    (λ e. let here : lit_of after (2 * k + 1) ≡ y = ap (lit_of after) e ∙ lit_now watched node y l in
    let there : lit_of after (2 * k) ≡ lit_of watched (2 * k) = lit_moved watched node (2 * k) y n in
    let b : lit_of watched (sibling node) ≡ lit_of watched (2 * k) = ap (lit_of watched) (ap sibling (sym e) ∙ sibling_second k) in
    let m = pair_moved trail variable_count frames head k (lit_of watched (2 * k + 1)) (lit_of watched (2 * k)) y t
    (subst (λ n. IsFalse trail (lit_of watched n)) (sym e) fa) fy p.1.0 in
    inl (
      (λ q. differs (sym here ∙ (sym (ap (lit_of after) (sibling_first k)) ∙ (sym q ∙ (there ∙ sym b))))),
      (
        subst (λ (z : Lit). half (lit_of after (2 * k)) z) (sym here) (subst (λ (z : Lit). half z y) (sym there) m.1),
        subst (λ (z : Lit). half z (lit_of after (2 * k))) (sym here) (subst (λ (z : Lit). half y z) (sym there) m.0),
      ),
    ))
    (λ d. let first : lit_of after (2 * k) ≡ lit_of watched (2 * k) = lit_moved watched node (2 * k) y n in
    let second : lit_of after (2 * k + 1) ≡ lit_of watched (2 * k + 1) = lit_moved watched node (2 * k + 1) y d in
    inl (
      (λ q. p.0 (sym first ∙ (q ∙ (ap (lit_of after) (sibling_first k) ∙ (second ∙ sym (ap (lit_of watched) (sibling_first k))))))),
      (
        subst (λ (z : Lit). half z (lit_of after (2 * k + 1))) (sym first) (subst (λ (z : Lit). half (lit_of watched (2 * k)) z) (sym second) p.1.0),
        subst (λ (z : Lit). half (lit_of after (2 * k + 1)) z) (sym first) (subst (λ (z : Lit). half z (lit_of watched (2 * k))) (sym second) p.1.1),
      ),
    ))
    (cases_eq (2 * k + 1) node))
    (cases_eq (2 * k) node))
    (λ s. inr s)
    (h k clause w is)

pub member_moved : (clauses : List (List Lit)) (watched : List Lit) (node : ℕ) (y : Lit) (clause : List Lit) → IsMember clauses watched →
    node < length watched → IsLinked watched node
    → slice_get clauses (node / 2) ≡ Some clause → Contains clause y → IsMember clauses (set watched node y)
member_moved clauses watched node y clause m l linked is c n other w k has =
    ⊎_elim
    (λ e. let same : clause ≡ other = same_Some clause other (sym is ∙ (ap (λ i. slice_get clauses (i / 2)) (sym e) ∙ has)) in
    subst (λ (z : Lit). Contains other z) (sym (ap (lit_of (set watched node y)) e ∙ lit_now watched node y l)) (subst (λ (z : List Lit). Contains z y) same c))
    (λ d. let here : lit_of (set watched node y) n ≡ lit_of watched n = lit_moved watched node n y d in
    subst (λ (z : Lit). Contains other z) (sym here)
    (m n other (simp length-set at w) (⊎_elim
    (λ s. let q : n ≡ sibling node = sym (sibling_twice n) ∙ ap sibling s in λ e. linked (ap (lit_of watched) (sym s) ∙ (sym e ∙ ap (lit_of watched) q)))
    (λ s e. k (here ∙ (e ∙ sym (lit_moved watched node (sibling n) y s))))
    (cases_eq (sibling n) node)) has))
    (cases_eq n node)

pub live_moved : (clauses : List (List Lit)) (watched : List Lit) (next firsts rest : List ℕ) (trail : List Entry) (variable_count : ℕ)
    (frames : List Checkpoint)
    (head seen node : ℕ) (y : Lit) (clause : List Lit)
    → IsTrail trail variable_count → IsLive clauses watched next firsts (node ∷ rest) trail variable_count frames head seen
    → node < length watched → IsLinked watched node → IsFalse trail (lit_of watched node) → (IsFalse trail y → ⊥) → y ≢ lit_of watched (sibling node)
    → slice_get clauses (node / 2) ≡ Some clause → Contains clause y
    → IsLive clauses (set watched node y) next firsts (node ∷ rest) trail variable_count frames head seen
live_moved clauses watched next firsts rest trail variable_count frames head seen node y clause t v l linked fa fy differs is c = record {
  variables = v.variables;
  watched_size = length-set watched node y ∙ v.watched_size;
  next_size = v.next_size;
  firsts_size = v.firsts_size;
  lists = lists_moved next watched firsts rest node y v.lists l linked differs;
  member = member_moved clauses watched node y clause v.member l linked is c;
  framed = v.framed;
  watching = watching_moved clauses watched trail variable_count frames head seen node y t l fa fy differs v.watching;
}

-- one more entry was looked at
pub watching_head : (clauses : List (List Lit)) (watched : List Lit) (trail : List Entry) (frames : List Checkpoint) (head seen : ℕ) (e : Entry) (x : Lit)
    → length watched ≡ 2 * length clauses → IsFramed trail frames head seen → IsAt trail head e → e.lit ≡ complement x → IsDone watched trail (code_of x) []
    → IsWatching clauses watched trail frames head seen → IsWatching clauses watched trail frames (head + 1) seen
watching_head clauses watched trail frames head seen e x size f at is done h k clause l has =
    let within : k < length clauses = slice_get_within clauses k clause has in
    let same : (a : Lit) (d : Entry) → IsAt trail head d → d.lit ≡ complement a → code_of a ≡ code_of x = λ a d g s.
    let de : d ≡ e = one_entry trail head d e g at in
    ap code_of (sym (complement_twice a) ∙ (ap complement (sym s ∙ (ap (λ (z : Entry). z.lit) de ∙ is)) ∙ complement_twice x)) in
    let now : (n : ℕ) (d : Entry) → n < length watched → IsLinked watched n → IsAt trail head d → d.lit ≡ complement (lit_of watched n) →
    IsHeldTrue trail frames (λ g. (head < g.head) × (k < g.seen)) (lit_of watched (sibling n))
    = λ n d w linked g s. held_now trail frames (λ z. (head < z.head) × (k < z.seen)) (lit_of watched (sibling n))
    (done n (w, (linked, same (lit_of watched n) d g s)) (λ z. z))
    (λ j w2 g2. let r = f.heads j w2 in let r2 = g2.0 in omega (arith, r, r2)) in
    ⊎_elim
    (λ p. inl (
      p.0,
      (
        (λ q d b g s. ⊎_elim (λ c. p.1.0 q d c g s)
            (λ c. let qe : q ≡ head = omega arith in
            subst (λ m. IsHeldTrue trail frames (λ z. (m < z.head) × (k < z.seen)) (lit_of watched (2 * k + 1))) (sym qe)
            (subst (λ m. IsHeldTrue trail frames (λ z. (head < z.head) × (k < z.seen)) (lit_of watched m)) (sibling_first k)
            (now (2 * k) d (omega (arith, size, within)) p.0 (subst (λ m. IsAt trail m d) qe g) s))) (cases_lt q head)),
        (λ q d b g s. ⊎_elim (λ c. p.1.1 q d c g s)
            (λ c. let qe : q ≡ head = omega arith in
            subst (λ m. IsHeldTrue trail frames (λ z. (m < z.head) × (k < z.seen)) (lit_of watched (2 * k))) (sym qe)
            (subst (λ m. IsHeldTrue trail frames (λ z. (head < z.head) × (k < z.seen)) (lit_of watched m)) (sibling_second k)
            (now (2 * k + 1) d (omega (arith, size, within))
            (λ q2. p.0 (sym (ap (lit_of watched) (sibling_second k)) ∙ (sym q2 ∙ ap (lit_of watched) (sym (sibling_first k)))))
            (subst (λ m. IsAt trail m d) qe g) s))) (cases_lt q head)),
      ),
    ))
    (λ s. inr s)
    (h k clause l has)

pub framed_head : (trail : List Entry) (frames : List Checkpoint) (head seen : ℕ) → IsFramed trail frames head seen → head < length trail →
    IsFramed trail frames (head + 1) seen
framed_head trail frames head seen f l = record {
  head_within = omega arith;
  heads = λ j w. let r = f.heads j w in omega (arith, r);
  seens = f.seens;
  heads_rise = f.heads_rise;
  seens_rise = f.seens_rise;
  low = f.low;
}

-- one more clause was looked at
pub framed_seen : (trail : List Entry) (frames : List Checkpoint) (head seen : ℕ) → IsFramed trail frames head seen → IsFramed trail frames head (seen + 1)
framed_seen trail frames head seen f = record {
  head_within = f.head_within;
  heads = f.heads;
  seens = λ j w. let r = f.seens j w in omega (arith, r);
  heads_rise = f.heads_rise;
  seens_rise = f.seens_rise;
  low = f.low;
}

pub watching_seen : (clauses : List (List Lit)) (watched : List Lit) (trail : List Entry) (frames : List Checkpoint) (head seen : ℕ)
    → IsWatching clauses watched trail frames head seen →
    ((clause : List Lit) → slice_get clauses seen ≡ Some clause → IsWatchedAt watched trail frames head seen clause)
    → IsWatching clauses watched trail frames head (seen + 1)
watching_seen clauses watched trail frames head seen h here k clause l is =
    ⊎_elim (λ b. h k clause b is)
    (λ g. let e : k ≡ seen = omega arith in
    subst (λ m. IsWatchedAt watched trail frames head m clause) (sym e) (here clause (subst (λ m. slice_get clauses m ≡ Some clause) e is)))
    (cases_lt k seen)

-- where no clause is left to be looked at, and no entry, each clause is open
pub quiet_of : (clauses : List (List Lit)) (watched : List Lit) (trail : List Entry) (frames : List Checkpoint) (head seen : ℕ)
    → length watched ≡ 2 * length clauses → IsMember clauses watched → length trail ≤ head → length clauses ≤ seen
    → IsWatching clauses watched trail frames head seen → IsQuietBefore clauses trail (length trail)
quiet_of clauses watched trail frames head seen size member all every h k d l =
    let clause : List Lit = get_or clauses k d in
    let is : slice_get clauses k ≡ Some clause = slice_get-get_or clauses k d l in
    let a : Lit = lit_of watched (2 * k) in
    let b : Lit = lit_of watched (2 * k + 1) in
    let held : (x y : Lit) → IsHalf trail frames head k x y → IsFalse trail x → IsOnTrail trail y
    = λ x y half (q, (e, (w, (g, s)))). let r = half q e (omega arith) g s in (r.at, (r.entry, (r.is, r.same))) in
    ⊎_elim
    (λ p. let other : IsLinked watched (2 * k + 1) = λ q. p.0
    (sym (ap (lit_of watched) (sibling_second k)) ∙ (sym q ∙ ap (lit_of watched) (sym (sibling_first k)))) in
    let ca : Contains clause a = member (2 * k) clause (omega (arith, size, l)) p.0 (subst (λ m. slice_get clauses m ≡ Some clause) (omega arith) is) in
    let cb : Contains clause b = member (2 * k + 1) clause (omega (arith, size, l)) other (subst (λ m. slice_get clauses m ≡ Some clause) (omega arith) is) in
    ⊎_elim
    (λ f. open_true clause trail b cb (held a b p.1.0 f))
    (λ n. ⊎_elim (λ f. open_true clause trail a ca (held b a p.1.1 f))
    (λ m. open_two clause trail a b ca cb (λ q. p.0 (q ∙ ap (lit_of watched) (sym (sibling_first k)))) n m)
    (false_cases trail b))
    (false_cases trail a))
    (λ s. open_true clause trail s.0 s.1.0 (s.1.1.at, (s.1.1.entry, (s.1.1.is, s.1.1.same))))
    (h k clause (omega (arith, l, every)) is)

-- how a clause comes to be watched
pub watched_loose : (watched : List Lit) (trail : List Entry) (frames : List Checkpoint) (head k : ℕ) (clause : List Lit) → IsLinked watched (2 * k)
    → (IsFalse trail (lit_of watched (2 * k)) → ⊥) → (IsFalse trail (lit_of watched (2 * k + 1)) → ⊥) → IsWatchedAt watched trail frames head k clause
watched_loose watched trail frames head k clause linked na nb =
    inl (
      linked,
      (
        (λ q e l h s. absurd (na (q, (e, (entry_within trail q e h, (h, s)))))),
        (λ q e l h s. absurd (nb (q, (e, (entry_within trail q e h, (h, s)))))),
      ),
    )

pub not_seen : (trail : List Entry) (frames : List Checkpoint) (head seen : ℕ) → IsFramed trail frames head seen → (j : ℕ) → j < length frames →
    seen < (frame_of frames j).seen → ⊥
not_seen trail frames head seen f j l k = let r = f.seens j l in omega (arith, r, k)

pub watched_satisfied : (watched : List Lit) (trail : List Entry) (frames : List Checkpoint) (head seen : ℕ) (clause : List Lit) (x : Lit) →
    IsFramed trail frames head seen
    → Contains clause x → IsOnTrail trail x → IsWatchedAt watched trail frames head seen clause
watched_satisfied watched trail frames head seen clause x f c on =
    inr (x, (c, held_now trail frames (λ z. seen < z.seen) x on (not_seen trail frames head seen f)))

-- a pending node and what is known of it
pub record IsNode (clauses : List (List Lit)) (watched : List Lit) (next firsts : List ℕ) (trail : List Entry) (variable_count : ℕ) (frames : List Checkpoint)
    (head seen c at : ℕ) (count : ℕ) : Type 0 where
  pub rest : List ℕ
  pub counted : count ≡ suc (length rest)
  pub own : IsOwn watched c (at - 1)
  pub out : Among rest (at - 1) → ⊥
  pub pending : IsPending next watched (get_or next (at - 1) 0) c rest
  pub live : IsLive clauses watched next firsts ((at - 1) ∷ rest) trail variable_count frames head seen
  pub done : IsDone watched trail c ((at - 1) ∷ rest)

pub node_of : (clauses : List (List Lit)) (watched : List Lit) (next firsts : List ℕ) (trail : List Entry) (variable_count : ℕ) (frames : List Checkpoint)
    (head seen c at : ℕ) (rest : List ℕ)
    → IsPending next watched at c rest → IsLive clauses watched next firsts rest trail variable_count frames head seen → IsDone watched trail c rest → at ≢ 0
    → IsNode clauses watched next firsts trail variable_count frames head seen c at (length rest)
node_of clauses watched next firsts trail variable_count frames head seen c at rest p v done d =
    let (xs, e) = pending_split next watched at c rest p d in
    let f = pending_first next watched at c (at - 1) xs (subst (IsPending next watched at c) e p) in
    record {
      rest = xs;
      counted = ap (λ (z : List ℕ). length z) e;
      own = f.1.0;
      out = f.1.1.0;
      pending = f.1.1.1;
      live = subst (λ (z : List ℕ). IsLive clauses watched next firsts z trail variable_count frames head seen) e v;
      done = subst (λ (z : List ℕ). IsDone watched trail c z) e done;
    }

-- the node's clause has its other watch
pub other_here : (clauses : List (List Lit)) (watched : List Lit) (node c : ℕ) (clause : List Lit) → length watched ≡ 2 * length clauses →
    IsMember clauses watched → IsOwn watched c node
    → slice_get clauses (node / 2) ≡ Some clause → Contains clause (lit_of watched (sibling node))
other_here clauses watched node c clause size m own is =
    let w : sibling node < length watched = let k = sibling_within node (length clauses) (let o = own.0 in omega (arith, o, size)) in omega (arith, k, size) in
    m (sibling node) clause w (λ e. own.1.0 (sym (e ∙ ap (lit_of watched) (sibling_twice node))))
    (subst (λ i. slice_get clauses i ≡ Some clause) (sym (sibling_half node)) is)

pub done_kept : (watched : List Lit) (trail : List Entry) (c node : ℕ) (rest : List ℕ) → IsDone watched trail c (node ∷ rest) →
    IsOnTrail trail (lit_of watched (sibling node)) → IsDone watched trail c rest
done_kept watched trail c node rest done on n own none =
    ⊎_elim (λ e. subst (λ m. IsOnTrail trail (lit_of watched (sibling m))) e on) (λ d. done n own (λ a. ⊎_elim d none a)) (cases_eq node n)

on_push : (trail : List Entry) (e : Entry) (x : Lit) → IsOnTrail trail x → IsOnTrail (trail ++ e ∷ []) x
on_push trail e x (q, (d, (h, s))) = (q, (d, (at_front trail (e ∷ []) d q h, s)))

pub done_push : (watched : List Lit) (trail : List Entry) (c node : ℕ) (rest : List ℕ) (e : Entry) → IsDone watched trail c (node ∷ rest) →
    e.lit ≡ lit_of watched (sibling node) → IsDone watched (trail ++ e ∷ []) c rest
done_push watched trail c node rest e done is =
    done_kept watched (trail ++ e ∷ []) c node rest (λ n own none. on_push trail e _ (done n own none)) (length trail, (e, (at_last trail e, is)))

pub done_moved : (watched : List Lit) (trail : List Entry) (variable_count c node : ℕ) (rest : List ℕ) (y : Lit) → IsTrail trail variable_count →
    node < length watched →
    IsOwn watched c node → IsFalse trail (lit_of watched node)
    → (IsFalse trail y → ⊥) → IsDone watched trail c (node ∷ rest) → IsDone (set watched node y) trail c rest
done_moved watched trail variable_count c node rest y t l here fa fy done n own none =
    ⊎_elim
    (λ e. let code : code_of y ≡ c = ap code_of (sym (lit_now watched node y l)) ∙ (ap (λ m. code_of (lit_of (set watched node y) m)) (sym e) ∙ own.1.1) in
    absurd (fy (subst (IsFalse trail) (same_code (lit_of watched node) y (here.1.1 ∙ sym code)) fa)))
    (λ d. let before : IsOwn watched c n = own_before watched node n c y l d here.1.0 own in
    let on : IsOnTrail trail (lit_of watched (sibling n)) = done n before (λ a. ⊎_elim (λ q. d (sym q)) none a) in
    ⊎_elim
    (λ s. absurd (not_both_on trail variable_count (lit_of watched node) t (subst (λ m. IsOnTrail trail (lit_of watched m)) s on)
    (on_of_false trail (lit_of watched node) fa)))
    (λ s. subst (IsOnTrail trail) (sym (lit_moved watched node (sibling n) y s)) on)
    (cases_eq (sibling n) node))
    (cases_eq n node)

pub false_at : (watched : List Lit) (trail : List Entry) (c node : ℕ) (x : Lit) (head : ℕ) → c ≡ code_of x → IsOwn watched c node → (e : Entry)
    × (IsAt trail head e × (e.lit ≡ complement x)) → IsFalse trail (lit_of watched node)
false_at watched trail c node x head ce own (e, (h, s)) =
    subst (IsFalse trail) (sym (same_code (lit_of watched node) x (own.1.1 ∙ ce))) (head, (e, (entry_within trail head e h, (h, s))))

-- a step on a node: what is pending after it
pub record IsAfter (clauses : List (List Lit)) (watched : List Lit) (next firsts : List ℕ) (trail : List Entry) (variable_count : ℕ) (frames : List Checkpoint)
    (head seen c at count : ℕ) : Type 0 where
  pub rest : List ℕ
  pub counted : count ≡ suc (length rest)
  pub pending : IsPending next watched at c rest
  pub live : IsLive clauses watched next firsts rest trail variable_count frames head seen
  pub done : IsDone watched trail c rest

pub after_keep : (clauses : List (List Lit)) (watched : List Lit) (next firsts : List ℕ) (trail : List Entry) (variable_count : ℕ) (frames : List Checkpoint)
    (head seen c at count : ℕ)
    → (n : IsNode clauses watched next firsts trail variable_count frames head seen c at count) → c < length firsts →
    IsOnTrail trail (lit_of watched (sibling (at - 1)))
    → IsAfter clauses watched (set next (at - 1) (get_or firsts c 0)) (set firsts c (at - 1 + 1)) trail variable_count frames head seen c
    (get_or next (at - 1) 0) count
after_keep clauses watched next firsts trail variable_count frames head seen c at count n within on = record {
  rest = n.rest;
  counted = n.counted;
  pending = pending_linked next watched (get_or next (at - 1) 0) c (at - 1) (get_or firsts c 0) n.rest n.pending n.out;
  live = live_linked clauses watched next firsts n.rest trail variable_count frames head seen (at - 1) c n.live n.own within n.out;
  done = done_kept watched trail c (at - 1) n.rest n.done on;
}

pub after_move : (clauses : List (List Lit)) (watched : List Lit) (next firsts : List ℕ) (trail : List Entry) (variable_count : ℕ) (frames : List Checkpoint)
    (head seen c at count : ℕ) (y : Lit) (clause : List Lit)
    → (n : IsNode clauses watched next firsts trail variable_count frames head seen c at count) → IsTrail trail variable_count → code_of y < length firsts →
    IsFalse trail (lit_of watched (at - 1))
    → (IsFalse trail y → ⊥) → y ≢ lit_of watched (sibling (at - 1)) → slice_get clauses ((at - 1) / 2) ≡ Some clause → Contains clause y
    → IsAfter clauses (set watched (at - 1) y) (set next (at - 1) (get_or firsts (code_of y) 0))
    (set firsts (code_of y) (at - 1 + 1)) trail variable_count frames head seen c (get_or next (at - 1) 0) count
after_move clauses watched next firsts trail variable_count frames head seen c at count y clause n t within fa fy differs is has =
    let node : ℕ = at - 1 in
    let w : List Lit = set watched node y in
    let l : node < length watched = n.own.0 in
    let moved : IsLive clauses w next firsts (node ∷ n.rest) trail variable_count frames head seen
    = live_moved clauses watched next firsts n.rest trail variable_count frames head seen node y clause t n.live l n.own.1.0 fa fy differs is has in
    let own : IsOwn w (code_of y) node = (
      rw length-set l,
      (
        (λ e. differs (sym (lit_now watched node y l) ∙ (e ∙ lit_moved watched node (sibling node) y (sibling_differs node)))),
        ap code_of (lit_now watched node y l),
      ),
    ) in
    record {
      rest = n.rest;
      counted = n.counted;
      pending = pending_linked next w (get_or next node 0) c node (get_or firsts (code_of y) 0) n.rest
          (pending_moved next watched (get_or next node 0) c node y n.rest n.pending n.out l differs) n.out;
      live = live_linked clauses w next firsts n.rest trail variable_count frames head seen node (code_of y) moved own within n.out;
      done = done_moved watched trail variable_count c node n.rest y t l n.own fa fy n.done;
    }

pub after_imply : (clauses : List (List Lit)) (watched : List Lit) (next firsts : List ℕ) (trail after : List Entry) (variable_count : ℕ)
    (frames : List Checkpoint)
    (head seen c at count : ℕ) (e : Entry)
    → (n : IsNode clauses watched next firsts trail variable_count frames head seen c at count) → c < length firsts → after ≡ trail ++ e ∷ [] →
    e.lit ≡ lit_of watched (sibling (at - 1))
    → IsAfter clauses watched (set next (at - 1) (get_or firsts c 0)) (set firsts c (at - 1 + 1)) after variable_count frames head seen c
    (get_or next (at - 1) 0) count
after_imply clauses watched next firsts trail after variable_count frames head seen c at count e n within is lit = record {
  rest = n.rest;
  counted = n.counted;
  pending = pending_linked next watched (get_or next (at - 1) 0) c (at - 1) (get_or firsts c 0) n.rest n.pending n.out;
  live = live_push clauses watched _ _ n.rest trail after variable_count frames head seen e
      (live_linked clauses watched next firsts n.rest trail variable_count frames head seen (at - 1) c n.live n.own within n.out) is;
  done = subst (λ (t : List Entry). IsDone watched t c n.rest) (sym is) (done_push watched trail c (at - 1) n.rest e n.done lit);
}

-- a held clause is of variables below variable_count
pub clause_within : (clauses : List (List Lit)) (variable_count i : ℕ) (clause : List Lit) → All (λ w. All (λ (y : Lit). y.var < variable_count) w) clauses →
    slice_get clauses i ≡ Some clause
    → All (λ (y : Lit). y.var < variable_count) clause
clause_within clauses variable_count i clause a h =
    subst (λ (w : List Lit). All (λ (y : Lit). y.var < variable_count) w) (get_or_from_slice_get clauses i clause clause h)
    (All-get_or (λ w. All (λ (y : Lit). y.var < variable_count) w) clauses i clause (slice_get_within clauses i clause h) a)

pub lit_within : (clauses : List (List Lit)) (variable_count i : ℕ) (clause : List Lit) (x : Lit) →
    All (λ w. All (λ (y : Lit). y.var < variable_count) w) clauses →
    slice_get clauses i ≡ Some clause
    → Contains clause x → x.var < variable_count
lit_within clauses variable_count i clause x a h c =
    All-contains (λ (y : Lit). y.var < variable_count) clause x (clause_within clauses variable_count i clause a h) c

has_suc : (clauses : List (List Lit)) (i : ℕ) (clause : List Lit) → slice_get clauses i ≡ Some clause → HasClause clauses (suc i) clause
has_suc clauses i clause h = h

pub has_clause : (clauses : List (List Lit)) (i : ℕ) (clause : List Lit) → slice_get clauses i ≡ Some clause → HasClause clauses (i + 1) clause
has_clause clauses i clause h = let e : suc i ≡ i + 1 = omega arith in subst (λ n. HasClause clauses n clause) e (has_suc clauses i clause h)

path_none : (next : List ℕ) (first : ℕ) (nodes : List ℕ) (n : ℕ) → IsPath next first nodes → first ≡ 0 → Among nodes n → ⊥
path_none next first [] n p z a = a
path_none next first (x ∷ xs) n p z a = let e = p.0 in omega (arith, e, z)

drained : (next : List ℕ) (watched : List Lit) (pending : List ℕ) (first c n : ℕ) → IsList next watched pending first c → first ≡ 0 →
    IsOwn watched c n → (Among pending n → ⊥) → ⊥
drained next watched pending first c n l z own none = path_none next first l.nodes n l.path z (l.whole n own none)

-- the watches of a literal begin to be looked at
pub visit_begins : (clauses : List (List Lit)) (watched : List Lit) (next firsts now : List ℕ) (trail : List Entry) (variable_count : ℕ)
    (frames : List Checkpoint)
    (head seen c at : ℕ)
    → IsLive clauses watched next firsts [] trail variable_count frames head seen → c < length firsts → at ≡ get_or firsts c 0 → now ≡ set firsts c 0
    → (rest : List ℕ) × (IsPending next watched at c rest
    × (IsLive clauses watched next now rest trail variable_count frames head seen × IsDone watched trail c rest))
visit_begins clauses watched next firsts now trail variable_count frames head seen c at v within is taken =
    let (rest, (p, ls)) = lists_taken next watched firsts c v.lists within in
    let size : length (set firsts c 0) ≡ length firsts = length-set firsts c 0 in (
      rest,
      (
        subst (λ m. IsPending next watched m c rest) (sym is) p,
        (
          subst (λ (f : List ℕ). IsLive clauses watched next f rest trail variable_count frames head seen) (sym taken) (record {
            variables = v.variables;
            watched_size = v.watched_size;
            next_size = v.next_size;
            firsts_size = size ∙ v.firsts_size;
            lists = ls;
            member = v.member;
            framed = v.framed;
            watching = v.watching;
          }),
          λ n own none. absurd (drained next watched rest (get_or (set firsts c 0) c 0) c n (ls c (omega (arith, size, within)))
              (get_or-set_same firsts c 0 0 within) own none),
        ),
      ),
    )

pub visit_ends : (clauses : List (List Lit)) (watched : List Lit) (next firsts : List ℕ) (trail : List Entry) (variable_count : ℕ) (frames : List Checkpoint)
    (head seen c at : ℕ)
    → (rest : List ℕ) × (IsPending next watched at c rest
    × (IsLive clauses watched next firsts rest trail variable_count frames head seen × IsDone watched trail c rest)) → at ≡ 0
    → IsLive clauses watched next firsts [] trail variable_count frames head seen × IsDone watched trail c []
visit_ends clauses watched next firsts trail variable_count frames head seen c at (rest, (p, (v, done))) z =
    let e = none_pending next watched at c rest p z in (
      subst (λ (r : List ℕ). IsLive clauses watched next firsts r trail variable_count frames head seen) e v,
      subst (λ (r : List ℕ). IsDone watched trail c r) e done,
    )

pub after_same : (clauses : List (List Lit)) (watched watched2 : List Lit) (next next2 firsts firsts2 : List ℕ) (trail trail2 : List Entry)
    (variable_count variable_count2 : ℕ) (frames : List Checkpoint) (head seen c at at2 count : ℕ)
    → watched2 ≡ watched → next2 ≡ next → firsts2 ≡ firsts → trail2 ≡ trail → variable_count2 ≡ variable_count → at2 ≡ at
    → IsAfter clauses watched next firsts trail variable_count frames head seen c at count →
    IsAfter clauses watched2 next2 firsts2 trail2 variable_count2 frames head seen c at2 count
after_same clauses watched watched2 next next2 firsts firsts2 trail trail2 variable_count variable_count2 frames head seen c at at2 count e1 e2 e3 e4 e5 e6 a =
    rw (e1, e2, e3, e4, e5, e6) a

-- where the clause is false the pending nodes are put back
pub put_ready : (clauses : List (List Lit)) (watched : List Lit) (next firsts : List ℕ) (trail : List Entry) (variable_count : ℕ) (frames : List Checkpoint)
    (head seen c at at2 count : ℕ) (next2 firsts2 : List ℕ)
    → (n : IsNode clauses watched next firsts trail variable_count frames head seen c at count) → c < length firsts →
    next2 ≡ set next (at - 1) (get_or firsts c 0) → firsts2 ≡ set firsts c (at - 1 + 1)
    → at2 ≡ get_or next (at - 1) 0
    → (rest : List ℕ) × (IsPending next2 watched at2 c rest × IsLists next2 watched firsts2 rest)
put_ready clauses watched next firsts trail variable_count frames head seen c at at2 count next2 firsts2 n within e1 e2 e3 =
    let v = live_linked clauses watched next firsts n.rest trail variable_count frames head seen (at - 1) c n.live n.own within n.out in
    (n.rest, (rw (e1, e3) (pending_linked next watched (get_or next (at - 1) 0) c (at - 1) (get_or firsts c 0) n.rest n.pending n.out), rw (e1, e2) v.lists))

pub live_back : (clauses : List (List Lit)) (watched : List Lit) (next firsts pending : List ℕ) (trail : List Entry) (variable_count : ℕ)
    (frames : List Checkpoint)
    (head seen : ℕ) (next2 firsts2 : List ℕ)
    → IsLive clauses watched next firsts pending trail variable_count frames head seen → length next2 ≡ length next → length firsts2 ≡ length firsts →
    IsLists next2 watched firsts2 []
    → IsLive clauses watched next2 firsts2 [] trail variable_count frames head seen
live_back clauses watched next firsts pending trail variable_count frames head seen next2 firsts2 v e1 e2 ls = record {
  variables = v.variables;
  watched_size = v.watched_size;
  next_size = e1 ∙ v.next_size;
  firsts_size = e2 ∙ v.firsts_size;
  lists = ls;
  member = v.member;
  framed = v.framed;
  watching = v.watching;
}

pub entry_push : (trail after : List Entry) (head : ℕ) (x : Lit) (e : Entry) → after ≡ trail ++ e ∷ [] → (d : Entry)
    × (IsAt trail head d × (d.lit ≡ complement x)) → (d : Entry) × (IsAt after head d × (d.lit ≡ complement x))
entry_push trail after head x e is (d, (h, s)) = (d, (subst (λ (t : List Entry). IsAt t head d) (sym is) (at_front trail (e ∷ []) d head h), s))

-- a clause that was read has its number
pub has_read : (clauses : List (List Lit)) (i : ℕ) (clause : List Lit) → i < length clauses → clause ≡ get_or clauses i clause
    → HasClause clauses (i + 1) clause
has_read clauses i clause l is = has_clause clauses i clause (slice_get-get_or clauses i clause l ∙ ap Some (sym is))
