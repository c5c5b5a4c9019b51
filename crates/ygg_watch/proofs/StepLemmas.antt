-- Clauses come to be watched, levels open and close, and literals are looked at: what is kept of the watches lasts.
use Rattle.std.proofs.Common.{
  ◌≡◌,
  ◌≢◌,
  ℕ,
  zero,
  suc,
  ◌<◌,
  ◌≤◌,
  ◌+◌,
  ◌*◌,
  ◌/◌,
  List,
  [],
  ◌∷◌,
  ◌++◌,
  length,
  take,
  get_or,
  replicate,
  set,
  ◌⊎◌,
  inl,
  inr,
  ⊎_elim,
  sym,
  subst,
  ap,
  ◌∙◌,
  arith,
  refl,
  get_or-set_same,
  get_or-set_other,
  length-set,
  length-append,
  length-take,
  append_assoc,
  Contains,
  slice_get,
  Some,
  None,
  All,
}
use Rattle.std.proofs.Math.Seq.{get_or-append_seam}
use Rattle.std.proofs.lemmas.Bool.{cases_eq, cases_lt}
use Rattle.std.proofs.lemmas.List.{get_or-take, get_or_append_left, length-replicate, get_or-replicate}
use Rattle.std.proofs.lemmas.List.Elements.{All-push}
use Rattle.std.proofs.lemmas.Option.{same_Some, slice_get-get_or, slice_get_within}
use Rattle.ygg_cnf_set.specs.LiteralSet.{code_of}
use Rattle.ygg_cnf.specs.Literals.{complement}
use Rattle.ygg_cnf.specs.declared.lit.Lit.{Lit}
use Rattle.ygg_watch.specs.Propagation.{Propagation, Spreads, Implies}
use Rattle.ygg_watch.proofs.AssignmentLemmas.{fits_below, not_both_on, at_take, take_at, at_start, keep_all}
use Rattle.ygg_watch.proofs.TrailLemmas.{entry_within, at_front, at_in}
use Rattle.ygg_watch.specs.Assignments.{IsTrail, IsLevelled}
use Rattle.ygg_watch.specs.Trail.{IsAt, keep_level, IsOnTrail}
use Rattle.ygg_watch.specs.declared.entry.Entry.{Entry}
use Rattle.ygg_watch.specs.declared.examine.Examined.TheVariants.{Fine, False, Stuck}
use Rattle.ygg_watch.proofs.ListLemmas.{sibling_first, sibling_second, sibling_twice, sibling_within, lists_linked, lists_attached}
use Rattle.ygg_watch.specs.Lists.{sibling, no_lit, lit_of, IsLinked, IsOwn, Among, IsLists, IsMember, IsPath, IsList}
use Rattle.ygg_watch.specs.State.{IsLive, IsState}
use Rattle.ygg_watch.specs.Watching.{frame_of, IsHeldTrue, IsHalf, IsFramed, IsWatchedAt, IsWatching, IsDone, IsStanding}
use Rattle.ygg_watch.specs.declared.frame.Checkpoint.{Checkpoint}
use Rattle.ygg_watch.proofs.PropagationLemmas.{append-nil}
use Rattle.ygg_watch.proofs.WatchLemmas.{framed_head, framed_seen, held_now, lit_within, live_push, not_seen, watched_loose, watching_head, watching_seen}

pub watched_standing : (watched : List Lit) (trail : List Entry) (variable_count : ℕ) (frames : List Checkpoint) (head seen : ℕ) (clause : List Lit) →
    IsTrail trail variable_count → IsFramed trail frames head seen
    → IsStanding watched trail seen → IsWatchedAt watched trail frames head seen clause
watched_standing watched trail variable_count frames head seen clause t f (linked, s) =
    let a : Lit = lit_of watched (2 * seen) in let b : Lit = lit_of watched (2 * seen + 1) in
    let one : (x y : Lit) → IsOnTrail trail x → IsHalf trail frames head seen x y × IsHalf trail frames head seen y x = λ x y on. (
      (λ q e l h r. absurd (not_both_on trail variable_count x t on (q, (e, (h, r))))),
      (λ q e l h r. held_now trail frames (λ z. (q < z.head) × (seen < z.seen)) x on (λ j w g. not_seen trail frames head seen f j w g.1)),
    ) in
    ⊎_elim (λ p. watched_loose watched trail frames head seen clause linked p.0 p.1)
    (λ p. ⊎_elim (λ on. inl (linked, one a b on)) (λ on. let r = one b a on in inl (linked, (r.1, r.0))) p) s

pub linked_from : (watched : List Lit) (k : ℕ) → lit_of watched (2 * k) ≢ lit_of watched (2 * k + 1) → IsLinked watched (2 * k)
linked_from watched k d e = d (e ∙ ap (lit_of watched) (sibling_first k))

pub linked_second : (watched : List Lit) (k : ℕ) → lit_of watched (2 * k) ≢ lit_of watched (2 * k + 1) → IsLinked watched (2 * k + 1)
linked_second watched k d e = d (sym (e ∙ ap (lit_of watched) (sibling_second k)))

-- a watched literal is of a variable below variable_count
pub watch_within : (clauses : List (List Lit)) (watched : List Lit) (variable_count n : ℕ) → All (λ w. All (λ (y : Lit). y.var < variable_count) w) clauses →
    IsMember clauses watched → length watched ≡ 2 * length clauses
    → n < length watched → IsLinked watched n → (lit_of watched n).var < variable_count
watch_within clauses watched variable_count n a m size l linked =
    let i : n / 2 < length clauses = omega (arith, l, size) in
    let clause : List Lit = get_or clauses (n / 2) [] in
    let is : slice_get clauses (n / 2) ≡ Some clause = slice_get-get_or clauses (n / 2) [] i in
    lit_within clauses variable_count (n / 2) clause (lit_of watched n) a is (m n clause l linked is)

-- the watches of other clauses stay
other_lits : (watched : List Lit) (k n : ℕ) (x y : Lit) → n ≢ 2 * k → n ≢ 2 * k + 1 → lit_of (set (set watched (2 * k) x) (2 * k + 1) y) n ≡ lit_of watched n
other_lits watched k n x y d0 d1 = get_or-set_other (set watched (2 * k) x) (2 * k + 1) n y no_lit d1 ∙ get_or-set_other watched (2 * k) n x no_lit d0

pub first_lit : (watched : List Lit) (k : ℕ) (x y : Lit) → 2 * k + 1 < length watched → lit_of (set (set watched (2 * k) x) (2 * k + 1) y) (2 * k) ≡ x
first_lit watched k x y l = let d : 2 * k ≢ 2 * k + 1 = omega arith in get_or-set_other (set watched (2 * k) x) (2 * k + 1) (2 * k) y no_lit d
    ∙ get_or-set_same watched (2 * k) x no_lit (omega arith)

pub second_lit : (watched : List Lit) (k : ℕ) (x y : Lit) → 2 * k + 1 < length watched → lit_of (set (set watched (2 * k) x) (2 * k + 1) y) (2 * k + 1) ≡ y
second_lit watched k x y l = get_or-set_same (set watched (2 * k) x) (2 * k + 1) y no_lit (let s = length-set watched (2 * k) x in omega (arith, s, l))

pub attached_linked : (watched : List Lit) (k : ℕ) (x y : Lit) → 2 * k + 1 < length watched → x ≢ y →
    IsLinked (set (set watched (2 * k) x) (2 * k + 1) y) (2 * k)
attached_linked watched k x y l d = linked_from (set (set watched (2 * k) x) (2 * k + 1) y) k
    (λ e. d (sym (first_lit watched k x y l) ∙ (e ∙ second_lit watched k x y l)))

member_attached : (clauses : List (List Lit)) (watched : List Lit) (k : ℕ) (x y : Lit) (clause : List Lit) → IsMember clauses watched →
    2 * k + 1 < length watched
    → slice_get clauses k ≡ Some clause → Contains clause x → Contains clause y → IsMember clauses (set (set watched (2 * k) x) (2 * k + 1) y)
member_attached clauses watched k x y clause m l is cx cy n other w linked has =
    let after : List Lit = set (set watched (2 * k) x) (2 * k + 1) y in
    let size : length after ≡ length watched = length-set (set watched (2 * k) x) (2 * k + 1) y ∙ length-set watched (2 * k) x in
    ⊎_elim
    (λ e. let i : n / 2 ≡ k = omega (arith, e) in
    let same : clause ≡ other = same_Some clause other (sym is ∙ (ap (slice_get clauses) (sym i) ∙ has)) in
    subst (λ (z : Lit). Contains other z) (sym (ap (lit_of after) e ∙ first_lit watched k x y l)) (subst (λ (z : List Lit). Contains z x) same cx))
    (λ d0. ⊎_elim
    (λ e. let i : n / 2 ≡ k = omega (arith, e) in
    let same : clause ≡ other = same_Some clause other (sym is ∙ (ap (slice_get clauses) (sym i) ∙ has)) in
    subst (λ (z : Lit). Contains other z) (sym (ap (lit_of after) e ∙ second_lit watched k x y l)) (subst (λ (z : List Lit). Contains z y) same cy))
    (λ d1. let here : lit_of after n ≡ lit_of watched n = other_lits watched k n x y d0 d1 in
    let there : lit_of after (sibling n) ≡ lit_of watched (sibling n) = other_lits watched k (sibling n) x y
    (λ q. d1 (sym (sibling_twice n) ∙ (ap sibling q ∙ sibling_first k))) (λ q. d0 (sym (sibling_twice n) ∙ (ap sibling q ∙ sibling_second k))) in
    subst (λ (z : Lit). Contains other z) (sym here) (m n other (omega (arith, size, w)) (λ e. linked (here ∙ (e ∙ sym there))) has))
    (cases_eq n (2 * k + 1)))
    (cases_eq n (2 * k))

watching_attached : (clauses : List (List Lit)) (watched : List Lit) (trail : List Entry) (frames : List Checkpoint) (head k : ℕ) (x y : Lit) →
    IsWatching clauses watched trail frames head k
    → IsWatching clauses (set (set watched (2 * k) x) (2 * k + 1) y) trail frames head k
watching_attached clauses watched trail frames head k x y h i clause l is =
    let after : List Lit = set (set watched (2 * k) x) (2 * k + 1) y in
    let half : Lit → Lit → Type 0 = IsHalf trail frames head i in
    let d0 : 2 * i ≢ 2 * k = omega (arith, l) in let d1 : 2 * i ≢ 2 * k + 1 = omega (arith, l) in
    let d2 : 2 * i + 1 ≢ 2 * k = omega (arith, l) in let d3 : 2 * i + 1 ≢ 2 * k + 1 = omega (arith, l) in
    let a : lit_of after (2 * i) ≡ lit_of watched (2 * i) = other_lits watched k (2 * i) x y d0 d1 in
    let b : lit_of after (2 * i + 1) ≡ lit_of watched (2 * i + 1) = other_lits watched k (2 * i + 1) x y d2 d3 in
    ⊎_elim
    (λ p. inl (
      linked_from after i (λ q. p.0 (sym a ∙ (q ∙ (b ∙ ap (lit_of watched) (sym (sibling_first i)))))),
      (
        subst (λ (z : Lit). half z (lit_of after (2 * i + 1))) (sym a) (subst (λ (z : Lit). half (lit_of watched (2 * i)) z) (sym b) p.1.0),
        subst (λ (z : Lit). half (lit_of after (2 * i + 1)) z) (sym a) (subst (λ (z : Lit). half z (lit_of watched (2 * i))) (sym b) p.1.1),
      ),
    ))
    (λ s. inr s)
    (h i clause l is)

-- a held clause has two watches, and its literals have lists
module _ {clauses : List (List Lit)} {watched : List Lit} {next firsts pending : List ℕ} {trail : List Entry} {variable_count : ℕ} {frames : List Checkpoint}
    {head seen : ℕ} (k : ℕ) (clause : List Lit) (live : IsLive clauses watched next firsts pending trail variable_count frames head seen)
    (is : slice_get clauses k ≡ Some clause) where
  pub is_held : k < length clauses
  is_held = slice_get_within clauses k clause is

  pub has_watches : 2 * k + 1 < length watched
  has_watches = let l = is_held in let size = live.watched_size in omega (arith, l, size)

  pub has_nodes : 2 * k + 1 < length next
  has_nodes = let l = is_held in let size = live.next_size in omega (arith, l, size)

  pub has_variable : (x : Lit) → Contains clause x → x.var < variable_count
  has_variable x = lit_within clauses variable_count k clause x live.variables is

  pub has_list : (x : Lit) → Contains clause x → code_of x < length firsts
  has_list x c = fits_below x variable_count (length firsts) (has_variable x c) live.firsts_size

pub live_attached : (clauses : List (List Lit)) (watched : List Lit) (next firsts : List ℕ) (trail : List Entry) (variable_count : ℕ) (frames : List Checkpoint)
    (head k : ℕ) (x y : Lit) (clause : List Lit)
    → IsLive clauses watched next firsts [] trail variable_count frames head k → lit_of watched (2 * k) ≡ lit_of watched (2 * k + 1) →
    slice_get clauses k ≡ Some clause
    → Contains clause x → Contains clause y → x ≢ y → code_of x < length firsts → code_of y < length firsts
    → (next2 firsts2 : List ℕ) → next2 ≡ set (set next (2 * k) (get_or firsts (code_of x) 0)) (2 * k + 1)
    (get_or (set firsts (code_of x) (2 * k + 1)) (code_of y) 0)
    → firsts2 ≡ set (set firsts (code_of x) (2 * k + 1)) (code_of y) (2 * k + 1 + 1)
    → IsLive clauses (set (set watched (2 * k) x) (2 * k + 1) y) next2 firsts2 [] trail variable_count frames head k
live_attached clauses watched next firsts trail variable_count frames head k x y clause v same is cx cy d fx fy next2 firsts2 en ef =
    let after : List Lit = set (set watched (2 * k) x) (2 * k + 1) y in
    let size : length after ≡ length watched = length-set (set watched (2 * k) x) (2 * k + 1) y ∙ length-set watched (2 * k) x in
    let within : k < length clauses = slice_get_within clauses k clause is in
    let ws : length watched ≡ 2 * length clauses = v.watched_size in
    let ns : length next ≡ 2 * length clauses = v.next_size in
    let fs : length firsts ≡ 2 * variable_count = v.firsts_size in
    let l : 2 * k + 1 < length watched = omega (arith, within, ws) in
    let differ : lit_of after (2 * k) ≢ lit_of after (2 * k + 1) = λ e. d (sym (first_lit watched k x y l) ∙ (e ∙ second_lit watched k x y l)) in
    let own0 : IsOwn after (code_of x) (2 * k) = (omega (arith, size, l), (linked_from after k differ, ap code_of (first_lit watched k x y l))) in
    let own1 : IsOwn after (code_of y) (2 * k + 1) = (omega (arith, size, l), (linked_second after k differ, ap code_of (second_lit watched k x y l))) in
    let next1 : List ℕ = set next (2 * k) (get_or firsts (code_of x) 0) in
    let firsts1 : List ℕ = set firsts (code_of x) (2 * k + 1) in
    let apart : Among ((2 * k + 1) ∷ []) (2 * k) → ⊥ = λ a. ⊎_elim (λ e. omega (arith, e)) (λ z. z) a in
    let ls0 : IsLists next after firsts ((2 * k) ∷ (2 * k + 1) ∷ []) = lists_attached next watched firsts k x y v.lists l same in
    let ls1 : IsLists next1 after firsts1 ((2 * k + 1) ∷ []) =
    lists_linked next after firsts ((2 * k + 1) ∷ []) (2 * k) (code_of x) ls0 own0 fx (omega (arith, ns, within)) apart in
    let n1 : length next1 ≡ length next = length-set next (2 * k) (get_or firsts (code_of x) 0) in
    let f1 : length firsts1 ≡ length firsts = length-set firsts (code_of x) (2 * k + 1) in
    let ls2 : IsLists (set next1 (2 * k + 1) (get_or firsts1 (code_of y) 0)) after (set firsts1 (code_of y) (2 * k + 1 + 1)) []
    = lists_linked next1 after firsts1 [] (2 * k + 1) (code_of y) ls1 own1 (omega (arith, f1, fy)) (omega (arith, n1, ns, within)) (λ z. z) in
    record {
      variables = v.variables;
      watched_size = size ∙ ws;
      next_size = ap (λ (z : List ℕ). length z) en ∙ (length-set next1 (2 * k + 1) (get_or firsts1 (code_of y) 0) ∙ (n1 ∙ ns));
      firsts_size = ap (λ (z : List ℕ). length z) ef ∙ (length-set firsts1 (code_of y) (2 * k + 1 + 1) ∙ (f1 ∙ fs));
      lists = rw (en, ef) ls2;
      member = member_attached clauses watched k x y clause v.member l is cx cy;
      framed = v.framed;
      watching = watching_attached clauses watched trail frames head k x y v.watching;
    }

-- one more level
frame_cases : (frames : List Checkpoint) (f : Checkpoint) (j : ℕ) → j < length (frames ++ f ∷ [])
    → ((j < length frames) × (frame_of (frames ++ f ∷ []) j ≡ frame_of frames j)) ⊎ ((j ≡ length frames) × (frame_of (frames ++ f ∷ []) j ≡ f))
frame_cases frames f j l =
    ⊎_elim (λ k. inl (k, get_or_append_left frames (f ∷ []) (record { head = 0; seen = 0 }) j k))
    (λ g. let m = simp length-append at l in let e : j ≡ length frames = omega arith in
    inr (e, rw e (get_or-append_seam frames f [] (record { head = 0; seen = 0 }))))
    (cases_lt j (length frames))

held_decided : (trail : List Entry) (frames : List Checkpoint) (guard : Checkpoint → Type 0) (x : Lit) (e : Entry) (f : Checkpoint)
    → ((q : ℕ) (d : Entry) → IsAt trail q d → d.level ≤ length frames) → IsHeldTrue trail frames guard x →
    IsHeldTrue (trail ++ e ∷ []) (frames ++ f ∷ []) guard x
held_decided trail frames guard x e f low h = record {
  at = h.at;
  entry = h.entry;
  is = at_front trail (e ∷ []) h.entry h.at h.is;
  same = h.same;
  stays = λ j l g. ⊎_elim (λ a. h.stays j a.0 (subst guard a.1 g)) (λ a. let r = low h.at h.entry h.is in omega (arith, r, a.0)) (frame_cases frames f j l);
}

framed_decided : (trail : List Entry) (frames : List Checkpoint) (head seen : ℕ) (e : Entry) → ((q : ℕ) (d : Entry) → IsAt trail q d → d.level ≤ length frames)
    → IsFramed trail frames head seen → IsFramed (trail ++ e ∷ []) (frames ++ record { head = head; seen = seen } ∷ []) head seen
framed_decided trail frames head seen e low f =
    let new : Checkpoint = record { head = head; seen = seen } in
    let within : head ≤ length trail = f.head_within in
    let below : (i j : ℕ) → i < j → j < length (frames ++ new ∷ []) → i < length (frames ++ new ∷ []) = λ i j l k. omega (arith, l, k) in
    record {
      head_within = omega (arith, within, length-append {A = Entry});
      heads = λ j l. ⊎_elim (λ a. rw a.1 (f.heads j a.0)) (λ a. rw a.1 (omega arith)) (frame_cases frames new j l);
      seens = λ j l. ⊎_elim (λ a. rw a.1 (f.seens j a.0)) (λ a. rw a.1 (omega arith)) (frame_cases frames new j l);
      heads_rise = λ i j l k. ⊎_elim
          (λ a. ⊎_elim (λ b. rw (a.1, b.1) (f.heads_rise i j l a.0)) (λ b. absurd (omega (arith, a.0, b.0, l))) (frame_cases frames new i (below i j l k)))
          (λ a. ⊎_elim (λ b. rw (a.1, b.1) (f.heads i b.0)) (λ b. absurd (omega (arith, a.0, b.0, l))) (frame_cases frames new i (below i j l k)))
          (frame_cases frames new j k);
      seens_rise = λ i j l k. ⊎_elim
          (λ a. ⊎_elim (λ b. rw (a.1, b.1) (f.seens_rise i j l a.0)) (λ b. absurd (omega (arith, a.0, b.0, l))) (frame_cases frames new i (below i j l k)))
          (λ a. ⊎_elim (λ b. rw (a.1, b.1) (f.seens i b.0)) (λ b. absurd (omega (arith, a.0, b.0, l))) (frame_cases frames new i (below i j l k)))
          (frame_cases frames new j k);
      low = λ j q d l h b. ⊎_elim
          (λ a. let b1 : q < (frame_of frames j).head = subst (λ (z : Checkpoint). q < z.head) a.1 b in let r = f.heads j a.0 in
          f.low j q d a.0 (at_in trail (e ∷ []) q d h (omega (arith, b1, r, within))) b1)
          (λ a. let b1 : q < head = subst (λ (z : Checkpoint). q < z.head) a.1 b in
          let r = low q d (at_in trail (e ∷ []) q d h (omega (arith, b1, within))) in omega (arith, r, a.0))
          (frame_cases frames new j l);
    }

pub live_decided : (clauses : List (List Lit)) (watched : List Lit) (next firsts : List ℕ) (trail after : List Entry) (variable_count : ℕ)
    (frames frames2 : List Checkpoint) (head seen : ℕ) (e : Entry)
    → IsLive clauses watched next firsts [] trail variable_count frames head seen → ((q : ℕ) (d : Entry) → IsAt trail q d → d.level ≤ length frames)
    → after ≡ trail ++ e ∷ [] → frames2 ≡ frames ++ record { head = head; seen = seen } ∷ []
    → IsLive clauses watched next firsts [] after variable_count frames2 head seen
live_decided clauses watched next firsts trail after variable_count frames frames2 head seen e v low is fs =
    let new : Checkpoint = record { head = head; seen = seen } in
    let more : (k : ℕ) (a b : Lit) → IsHalf trail frames head k a b → IsHalf (trail ++ e ∷ []) (frames ++ new ∷ []) head k a b = λ k a b half q d l h s.
    let w = v.framed.head_within in
    held_decided trail frames (λ z. (q < z.head) × (k < z.seen)) b e new low (half q d l (at_in trail (e ∷ []) q d h (omega (arith, w, l))) s) in
    rw (is, fs) (record {
      variables = v.variables;
      watched_size = v.watched_size;
      next_size = v.next_size;
      firsts_size = v.firsts_size;
      lists = v.lists;
      member = v.member;
      framed = framed_decided trail frames head seen e low v.framed;
      watching = λ k clause l has. ⊎_elim
          (λ p. inl (
            p.0,
            (
              more k (lit_of watched (2 * k)) (lit_of watched (2 * k + 1)) p.1.0,
              more k (lit_of watched (2 * k + 1)) (lit_of watched (2 * k)) p.1.1,
            ),
          ))
          (λ s. inr (s.0, (s.1.0, held_decided trail frames (λ z. k < z.seen) s.0 e new low s.1.1)))
          (v.watching k clause l has);
    })

-- a level is gone back to
pub live_gone_back : (clauses : List (List Lit)) (watched : List Lit) (next firsts : List ℕ) (trail after : List Entry) (starts : List ℕ) (variable_count : ℕ)
    (frames frames2 : List Checkpoint) (head seen level : ℕ)
    → IsLive clauses watched next firsts [] trail variable_count frames head seen → IsLevelled trail starts → length frames ≡ length starts →
    level < length frames
    → after ≡ keep_level level trail → frames2 ≡ take level frames
    → IsLive clauses watched next firsts [] after variable_count frames2 (frame_of frames level).head (frame_of frames level).seen
live_gone_back clauses watched next firsts trail after starts variable_count frames frames2 head seen level v t same l is fs =
    let kept : List Entry = keep_level level trail in
    let n : ℕ = get_or starts level 0 in
    let within : level < length starts = omega (arith, l, same) in
    let cut : kept ≡ take n trail = at_start trail starts level t within in
    let long : n < length trail = t.within level within in
    let frame : Checkpoint = frame_of frames level in
    let before : (q : ℕ) (d : Entry) → IsAt kept q d → IsAt trail q d = λ q d h. (at_take trail n q d (subst (λ (z : List Entry). IsAt z q d) cut h)).1 in
    let stay : (q : ℕ) (d : Entry) → IsAt trail q d → d.level ≤ level → IsAt kept q d = λ q d h w.
    subst (λ (z : List Entry). IsAt z q d) (sym cut) (take_at trail n q d
    (⊎_elim (λ b. b) (λ g. let r = t.from level q d within h g in absurd (omega (arith, r, w))) (cases_lt q n)) h) in
    let count : length (take level frames) ≡ level = simp length-take (omega (arith, l)) in
    let at : (j : ℕ) → j < length (take level frames) → (j < level) × (frame_of (take level frames) j ≡ frame_of frames j) = λ j w.
    let j1 : j < level = omega (arith, w, count) in (j1, get_or-take level frames j (record { head = 0; seen = 0 }) j1) in
    let held : (guard : Checkpoint → Type 0) (x : Lit) → guard frame → IsHeldTrue trail frames guard x → IsHeldTrue kept (take level frames) guard x =
    λ guard x g h. record {
      at = h.at;
      entry = h.entry;
      is = stay h.at h.entry h.is (h.stays level l g);
      same = h.same;
      stays = λ j w g2. let a = at j w in h.stays j (omega (arith, a.0, l)) (subst guard a.1 g2);
    } in
    let half : (k : ℕ) (a b : Lit) → k < frame.seen → IsHalf trail frames head k a b → IsHalf kept (take level frames) frame.head k a b = λ k a b w h q d m g s.
    let r = v.framed.heads level l in held (λ z. (q < z.head) × (k < z.seen)) b (m, w) (h q d (omega (arith, m, r)) (before q d g) s) in
    let size : length kept ≡ n = ap (λ (z : List Entry). length z) cut ∙ simp length-take (omega (arith, long)) in
    rw (is, fs) (record {
      variables = v.variables;
      watched_size = v.watched_size;
      next_size = v.next_size;
      firsts_size = v.firsts_size;
      lists = v.lists;
      member = v.member;
      framed = record {
        head_within = ⊎_elim
            (λ b. let d : Entry = get_or trail n (record { lit = no_lit; level = 0; reason = None }) in
            let h : IsAt trail n d = slice_get-get_or trail n (record { lit = no_lit; level = 0; reason = None }) long in
            let low : d.level ≤ level = v.framed.low level n d l h b in
            let up : level < d.level = t.from level n d within h (omega arith) in absurd (omega (arith, low, up)))
            (λ g. omega (arith, g, size)) (cases_lt n frame.head);
        heads = λ j w. let a = at j w in rw a.1 (v.framed.heads_rise j level a.0 l);
        seens = λ j w. let a = at j w in rw a.1 (v.framed.seens_rise j level a.0 l);
        heads_rise = λ i j m w. let a = at j w in let b = at i (omega (arith, m, w)) in rw (a.1, b.1) (v.framed.heads_rise i j m (omega (arith, a.0, l)));
        seens_rise = λ i j m w. let a = at j w in let b = at i (omega (arith, m, w)) in rw (a.1, b.1) (v.framed.seens_rise i j m (omega (arith, a.0, l)));
        low = λ j q d w h b. let a = at j w in v.framed.low j q d (omega (arith, a.0, l)) (before q d h) (subst (λ (z : Checkpoint). q < z.head) a.1 b);
      };
      watching = λ k clause w has. let r = v.framed.seens level l in ⊎_elim
          (λ p. inl (
            p.0,
            (
              half k (lit_of watched (2 * k)) (lit_of watched (2 * k + 1)) w p.1.0,
              half k (lit_of watched (2 * k + 1)) (lit_of watched (2 * k)) w p.1.1,
            ),
          ))
          (λ s. inr (s.0, (s.1.0, held (λ z. k < z.seen) s.0 w s.1.1)))
          (v.watching k clause (omega (arith, w, r)) has);
    })

implies_append : (p : Propagation) (a b : List Entry) → Implies p a → Implies (record p { trail = p.trail ++ a }) b → Implies p (a ++ b)
implies_append p [] b i j = subst (λ (t : List Entry). Implies (record p { trail = t }) b) (append-nil p.trail) j
implies_append p (e ∷ a) b (first, i) j = (
  first,
  implies_append (record p { trail = p.trail ++ e ∷ [] }) a b i
      (subst (λ (t : List Entry). Implies (record p { trail = t }) b) (sym (append_assoc p.trail (e ∷ []) a)) j),
)

pub spreads_on : (old mid new : Propagation) → Spreads old mid → Spreads mid new → Spreads old new
spreads_on old mid new (a, (i, e)) (b, (j, f)) = (
  a ++ b,
  (
    implies_append old a b i (subst (λ (p : Propagation). Implies p b) e j),
    f ∙ (ap (λ (p : Propagation). let q : Propagation = record p { trail = p.trail ++ b } in q) e
        ∙ ap (λ (t : List Entry). let q : Propagation = record old { trail = t } in q) (append_assoc old.trail a b)),
  ),
)

live_more : (clauses : List (List Lit)) (watched : List Lit) (next firsts pending : List ℕ) (trail added : List Entry) (variable_count : ℕ)
    (frames : List Checkpoint) (head seen : ℕ)
    → IsLive clauses watched next firsts pending trail variable_count frames head seen →
    IsLive clauses watched next firsts pending (trail ++ added) variable_count frames head seen
live_more clauses watched next firsts pending trail [] variable_count frames head seen v =
    subst (λ (t : List Entry). IsLive clauses watched next firsts pending t variable_count frames head seen) (sym (append-nil trail)) v
live_more clauses watched next firsts pending trail (e ∷ added) variable_count frames head seen v =
    subst (λ (t : List Entry). IsLive clauses watched next firsts pending t variable_count frames head seen) (append_assoc trail (e ∷ []) added)
    (live_more clauses watched next firsts pending (trail ++ e ∷ []) added variable_count frames head seen
    (live_push clauses watched next firsts pending trail (trail ++ e ∷ []) variable_count frames head seen e v refl))

pub live_spread : (clauses : List (List Lit)) (watched : List Lit) (next firsts pending : List ℕ) (old new : Propagation) (frames : List Checkpoint)
    (head seen : ℕ)
    → IsLive clauses watched next firsts pending old.trail old.variable_count frames head seen → Spreads old new →
    IsLive clauses watched next firsts pending new.trail new.variable_count frames head seen
live_spread clauses watched next firsts pending old new frames head seen v (added, (i, e)) =
    subst (λ (p : Propagation). IsLive clauses watched next firsts pending p.trail p.variable_count frames head seen) (sym e)
    (live_more clauses watched next firsts pending old.trail added old.variable_count frames head seen v)

pub live_seen : (clauses : List (List Lit)) (watched : List Lit) (next firsts : List ℕ) (trail : List Entry) (variable_count : ℕ) (frames : List Checkpoint)
    (head seen : ℕ)
    → IsLive clauses watched next firsts [] trail variable_count frames head seen →
    ((clause : List Lit) → slice_get clauses seen ≡ Some clause → IsWatchedAt watched trail frames head seen clause)
    → IsLive clauses watched next firsts [] trail variable_count frames head (seen + 1)
live_seen clauses watched next firsts trail variable_count frames head seen v here = record {
  variables = v.variables;
  watched_size = v.watched_size;
  next_size = v.next_size;
  firsts_size = v.firsts_size;
  lists = v.lists;
  member = v.member;
  framed = framed_seen trail frames head seen v.framed;
  watching = watching_seen clauses watched trail frames head seen v.watching here;
}

pub live_head : (clauses : List (List Lit)) (watched : List Lit) (next firsts : List ℕ) (old trail : List Entry) (variable_count : ℕ) (frames : List Checkpoint)
    (head seen : ℕ) (e : Entry) (x : Lit)
    → IsLive clauses watched next firsts [] trail variable_count frames head seen → IsAt trail head e → e.lit ≡ complement x →
    IsDone watched trail (code_of x) []
    → IsLive clauses watched next firsts [] trail variable_count frames (head + 1) seen
live_head clauses watched next firsts old trail variable_count frames head seen e x v h is done = record {
  variables = v.variables;
  watched_size = v.watched_size;
  next_size = v.next_size;
  firsts_size = v.firsts_size;
  lists = v.lists;
  member = v.member;
  framed = framed_head trail frames head seen v.framed (entry_within trail head e h);
  watching = watching_head clauses watched trail frames head seen e x v.watched_size v.framed h is done v.watching;
}

pub at_spread : (old new : Propagation) (q : ℕ) (e : Entry) → Spreads old new → IsAt old.trail q e → IsAt new.trail q e
at_spread old new q e (added, (i, is)) h = subst (λ (p : Propagation). IsAt p.trail q e) (sym is) (at_front old.trail added e q h)

pub frame_is : (frames : List Checkpoint) (i : ℕ) (f : Checkpoint) → i < length frames → f ≡ get_or frames i f → f ≡ frame_of frames i
frame_is [] i f l e = absurd (omega arith)
frame_is (x ∷ xs) zero f l e = e
frame_is (x ∷ xs) (suc i) f l e = frame_is xs i f (omega arith) e

-- a clause is added
clause_in : (clauses more : List (List Lit)) (i : ℕ) → i < length clauses → slice_get (clauses ++ more) i ≡ slice_get clauses i
clause_in [] more i l = absurd (omega arith)
clause_in (c ∷ cs) more zero l = refl
clause_in (c ∷ cs) more (suc i) l = clause_in cs more i (omega arith)

tail_lits : (watched : List Lit) (n : ℕ) → length watched ≤ n → lit_of (watched ++ no_lit ∷ no_lit ∷ []) n ≡ no_lit
tail_lits [] zero l = refl
tail_lits [] (suc zero) l = refl
tail_lits [] (suc (suc n)) l = refl
tail_lits (x ∷ xs) zero l = absurd (omega arith)
tail_lits (x ∷ xs) (suc n) l = tail_lits xs n (omega arith)

path_more : (next more : List ℕ) (at : ℕ) (xs : List ℕ) → ((n : ℕ) → Among xs n → n < length next) → IsPath next at xs → IsPath (next ++ more) at xs
path_more next more at [] w p = p
path_more next more at (x ∷ xs) w (e, p) = (
  e,
  subst (λ n. IsPath (next ++ more) n xs) (sym (get_or_append_left next more 0 x (w x (inl refl))))
      (path_more next more (get_or next x 0) xs (λ n a. w n (inr a)) p),
)

-- nothing is watched at first
pub live_none : (variable_count : ℕ) → IsLive [] [] [] (replicate (2 * variable_count) 0) [] [] variable_count [] 0 0
live_none variable_count = record {
  variables = λ k d l. absurd (omega (arith, l));
  watched_size = refl;
  next_size = refl;
  firsts_size = length-replicate (2 * variable_count) 0;
  lists = λ c l. let inside : c < 2 * variable_count = let size = length-replicate {A = ℕ} (2 * variable_count) 0 in omega (arith, l, size) in record {
    nodes = [];
    path = get_or-replicate (2 * variable_count) c 0 0 inside;
    once = tt;
    own = λ n a. absurd a;
    apart = λ n a. absurd a;
    whole = λ n own out. let l = own.0 in absurd (omega (arith, l));
  };
  member = λ n clause l. absurd (omega (arith, l));
  framed = record {
    head_within = omega arith;
    heads = λ j l. absurd (omega (arith, l));
    seens = λ j l. absurd (omega (arith, l));
    heads_rise = λ i j w l. absurd (omega (arith, l));
    seens_rise = λ i j w l. absurd (omega (arith, l));
    low = λ j q e l. absurd (omega (arith, l));
  };
  watching = λ k clause l. absurd (omega (arith, l));
}

pub live_added : (clauses : List (List Lit)) (watched : List Lit) (next firsts : List ℕ) (trail : List Entry) (variable_count : ℕ) (frames : List Checkpoint)
    (head seen : ℕ) (clause : List Lit)
    → IsLive clauses watched next firsts [] trail variable_count frames head seen → seen ≤ length clauses → All (λ (x : Lit). x.var < variable_count) clause
    → IsLive (clauses ++ clause ∷ []) (watched ++ no_lit ∷ no_lit ∷ []) (next ++ 0 ∷ 0 ∷ []) firsts [] trail variable_count frames head seen
live_added clauses watched next firsts trail variable_count frames head seen clause v le fits =
    let after : List Lit = watched ++ no_lit ∷ no_lit ∷ [] in
    let ws : length watched ≡ 2 * length clauses = v.watched_size in
    let ns : length next ≡ 2 * length clauses = v.next_size in
    let long : length after ≡ length watched + 2 = length-append watched (no_lit ∷ no_lit ∷ []) in
    let inside : (n : ℕ) → n < length watched → lit_of after n ≡ lit_of watched n = λ n l. get_or_append_left watched (no_lit ∷ no_lit ∷ []) no_lit n l in
    let near : (n : ℕ) → n < length watched → sibling n < length watched = λ n l. let k = sibling_within n (length clauses) (omega (arith, l, ws)) in
    omega (arith, k, ws) in
    let below : (n : ℕ) → IsLinked after n → n < length watched = λ n linked. ⊎_elim (λ l. l)
    (λ g. absurd (linked (tail_lits watched n g ∙ sym (tail_lits watched (sibling n)
    (⊎_elim (λ l. let k = near (sibling n) l in let t = sibling_twice n in absurd (omega (arith, k, t, g))) (λ z. z)
    (cases_lt (sibling n) (length watched)))))))
    (cases_lt n (length watched)) in
    let forth : (d n : ℕ) → IsOwn watched d n → IsOwn after d n = λ d n o. (
      let l = o.0 in omega (arith, l, long),
      ((λ e. o.1.0 (sym (inside n o.0) ∙ (e ∙ inside (sibling n) (near n o.0)))), ap code_of (inside n o.0) ∙ o.1.1),
    ) in
    let back : (d n : ℕ) → IsOwn after d n → IsOwn watched d n = λ d n o. let l = below n o.1.0 in
    (l, ((λ e. o.1.0 (inside n l ∙ (e ∙ sym (inside (sibling n) (near n l))))), sym (ap code_of (inside n l)) ∙ o.1.1)) in
    let count : length (clauses ++ clause ∷ []) ≡ length clauses + 1 = length-append clauses (clause ∷ []) in
    let half : Lit → Lit → ℕ → Type 0 = λ a b k. IsHalf trail frames head k a b in
    record {
      variables = All-push (λ w. All (λ (x : Lit). x.var < variable_count) w) clauses clause v.variables fits;
      watched_size = omega (arith, long, ws, count);
      next_size = length-append next (0 ∷ 0 ∷ []) ∙ omega (arith, ns, count);
      firsts_size = v.firsts_size;
      lists = λ d l. let one : IsList next watched [] (get_or firsts d 0) d = v.lists d l in record {
        nodes = one.nodes;
        path = path_more next (0 ∷ 0 ∷ []) (get_or firsts d 0) one.nodes (λ n a. let o = (one.own n a).0 in omega (arith, o, ws, ns)) one.path;
        once = one.once;
        own = λ n a. forth d n (one.own n a);
        apart = one.apart;
        whole = λ n o none. one.whole n (back d n o) none;
      };
      member = λ n other l linked has. let w = below n linked in
          subst (λ (z : Lit). Contains other z) (sym (inside n w))
          (v.member n other w (λ e. linked (inside n w ∙ (e ∙ sym (inside (sibling n) (near n w)))))
          (sym (clause_in clauses (clause ∷ []) (n / 2) (omega (arith, w, ws))) ∙ has));
      framed = v.framed;
      watching = λ k other l has.
          let within : k < length clauses = omega (arith, l, le) in
          let a = inside (2 * k) (omega (arith, within, ws)) in
          let b = inside (2 * k + 1) (omega (arith, within, ws)) in
          ⊎_elim
          (λ p. inl (
            linked_from after k (λ q. p.0 (sym a ∙ (q ∙ (b ∙ ap (lit_of watched) (sym (sibling_first k)))))),
            (
              subst (λ (z : Lit). half z (lit_of after (2 * k + 1)) k) (sym a) (subst (λ (z : Lit). half (lit_of watched (2 * k)) z k) (sym b) p.1.0),
              subst (λ (z : Lit). half (lit_of after (2 * k + 1)) z k) (sym a) (subst (λ (z : Lit). half z (lit_of watched (2 * k)) k) (sym b) p.1.1),
            ),
          ))
          (λ s. inr s)
          (v.watching k other l (sym (clause_in clauses (clause ∷ []) k within) ∙ has));
    }

-- going back to the greatest level
pub back_same : (clauses : List (List Lit)) (trail : List Entry) (starts : List ℕ) (variable_count level : ℕ) → IsLevelled trail starts → level ≡ length starts
    → ◌≡◌ {A = Propagation} (record { clauses = clauses; trail = trail; level = length starts; variable_count = variable_count })
    (record { clauses = clauses; trail = keep_level level trail; level = level; variable_count = variable_count })
back_same clauses trail starts variable_count level t e =
    rw (keep_all level trail (λ q d h. let r = t.low q d h in omega (arith, r, e)), e) refl

pub closed : (clauses given : List (List Lit)) (watched : List Lit) (next firsts : List ℕ) (trail : List Entry) (starts : List ℕ) (variable_count : ℕ)
    (frames frames2 : List Checkpoint) (capacity head seen : ℕ)
    → IsLive given watched next firsts [] trail variable_count frames2 head seen → given ≡ clauses → frames2 ≡ frames → length frames ≡ length starts →
    variable_count ≤ capacity → seen ≤ length given
    → IsState clauses watched next firsts trail starts variable_count frames capacity head seen
closed clauses given watched next firsts trail starts variable_count frames frames2 capacity head seen v e1 e2 l c w =
    record {
      live = subst (λ (z : List (List Lit)). IsLive z watched next firsts [] trail variable_count frames head seen) e1
          (subst (λ (z : List Checkpoint). IsLive given watched next firsts [] trail variable_count z head seen) e2 v);
      levels = l;
      capacity_is = c;
      seen_within = subst (λ (z : List (List Lit)). seen ≤ length z) e1 w;
    }

pub live_as : (c1 c2 : List (List Lit)) (watched : List Lit) (next firsts : List ℕ) (trail : List Entry) (variable_count : ℕ) (r1 r2 : List Checkpoint)
    (head seen : ℕ)
    → IsLive c1 watched next firsts [] trail variable_count r1 head seen → c2 ≡ c1 → r2 ≡ r1 →
    IsLive c2 watched next firsts [] trail variable_count r2 head seen
live_as c1 c2 watched next firsts trail variable_count r1 r2 head seen v e1 e2 = rw (e1, e2) v

-- what a look at a clause ends with is one thing
pub fine_or_false : Fine ≡ False → ⊥
fine_or_false e = cc

pub fine_or_stuck : Fine ≡ Stuck → ⊥
fine_or_stuck e = cc
