-- Picks by place lead where picks from the front lead.
use Rattle.std.proofs.Common.{
  ◌≡◌,
  ◌≤◌,
  ℕ,
  zero,
  suc,
  ◌+◌,
  ◌-◌,
  Bool,
  false,
  List,
  [],
  ◌∷◌,
  ◌++◌,
  map,
  length,
  replicate,
  refl,
  sym,
  ap,
  ◌∙◌,
  subst,
  append_assoc,
  arith,
}
use Rattle.std.proofs.lemmas.List.{append-nil}
use Rattle.ygg_syntax.specs.declared.tree.Block.{Block}
use Rattle.ygg_meaning_laws.specs.Environments.{Name, Env}
use Rattle.ygg_meaning_laws.specs.Progress.{Eval, Question, Answer, Point, Waits, Goes, in_turn, run_of}
use Rattle.ygg_meaning_laws.specs.Machine.{Picks}
use Rattle.ygg_meaning_laws.specs.Direct.{Handled, Event, Reached, told_by, AsksAll, Chained, Within, Alike, seen_run, question_space, direct_run, room_of}
use Rattle.ygg_meaning_laws.specs.Acts.{later, Taken}
use Rattle.ygg_meaning_laws.specs.Places.{Drawn, Draw, Held, left_after, by_place, from_front, IsDraw, Ended, ends_by_place, SamePlaces}
use Rattle.ygg_meaning_laws.proofs.Order.{within_later, block_follows}
use Rattle.ygg_meaning_laws.proofs.Mirror.{block_mirrors}
use Rattle.ygg_meaning_laws.proofs.Rooms.{room_is}

pub taken_self : (past : Bool) (a rest : Picks) → Taken past a (a ++ rest) rest
taken_self past [] rest = refl
taken_self past (t ∷ a) rest = (refl, taken_self past a rest)

after_nothing : (n : ℕ) → left_after n [] ≡ []
after_nothing zero = refl
after_nothing (suc n) = after_nothing n

-- so many, and then so many more
pub after_more : (a b c : ℕ) (picks : Picks) → c ≡ a + b → left_after c picks ≡ left_after b (left_after a picks)
after_more zero b c picks e = let h : c ≡ b = omega (arith, e) in ap (λ n. left_after n picks) h
after_more (suc a) b zero picks e = absurd (omega (arith, e))
after_more (suc a) b (suc c) picks e = after_more a b c (later picks) (omega (arith, e))

pub after_front : (a rest : Picks) (n : ℕ) → n ≡ length a → left_after n (a ++ rest) ≡ rest
after_front [] rest zero e = refl
after_front [] rest (suc n) e = absurd (omega (arith, e))
after_front (t ∷ a) rest zero e = absurd (omega (arith, e))
after_front (t ∷ a) rest (suc n) e = after_front a rest n (omega (arith, e))

pub zeros_long : (n : ℕ) → length (replicate n false) ≡ n
zeros_long zero = refl
zeros_long (suc n) = ap suc (zeros_long n)

pub long_append : (a b : Picks) → length (a ++ b) ≡ length a + length b
long_append [] b = omega arith
long_append (t ∷ a) b = let h = long_append a b in omega (arith, h)

goes_is : (e f : Env) (l m : List Answer) → Goes e l ≡ Goes f m → e ≡ f
goes_is e f l m h = cc

never_goes : {A : Type 0} (p : Point) (q : Question) (env : Env) (left : List Answer) → p ≡ Waits q → p ≡ Goes env left → A
never_goes p q env left h g = let k : Waits q ≡ Goes env left = sym h ∙ g in absurd (cc)

waits_is : (p q : Question) → Waits p ≡ Waits q → p ≡ q
waits_is p q h = cc

module _ {Z : Type 0} (past : Bool) (eval : Eval) (space : Name → ℕ) (D : Draw Z) (is : IsDraw past (question_space space) D) where
  abbrev sized : Question → ℕ
  sized = question_space space

  -- the picks that are taken at the events of a run by place
  abbrev pub used : Picks → List (Event Z) → Picks
  used picks [] = []
  used picks (e ∷ es) = (D e.question e.before (left_after e.place picks)).taken ++ used picks es

  -- a run by place is the run from the front of the picks that it takes
  listed : (t : List Answer → Point) (told : List Answer) (picks more : Picks) (es : List (Event Z)) (z end : Z) (fs : List (Event (Held Z)))
      (last : Held Z) (e f : Env) →
      AsksAll t told es → Chained (by_place D picks) z es end → t (told ++ told_by es) ≡ Goes e [] →
      AsksAll t told fs → Chained (from_front D) (record { at = z; left = used picks es ++ more }) fs last → t (told ++ told_by fs) ≡ Goes f [] →
      (f ≡ e) × (last ≡ record { at = end; left = more })
  listed t told picks more [] z end [] last e f a c g b d h =
      (goes_is f e [] [] (sym h ∙ g), sym d ∙ ap (λ (z : Z). let x : Held Z = record { at = z; left = more } in x) c)
  listed t told picks more [] z end (y ∷ fs) last e f a c g b d h = never_goes (t told) y.question e [] b.0 (ap t (sym (append-nil told)) ∙ g)
  listed t told picks more (x ∷ es) z end [] last e f a c g b d h = never_goes (t told) x.question f [] a.0 (ap t (sym (append-nil told)) ∙ h)
  listed t told picks more (x ∷ es) z end (y ∷ fs) last e f a c g b d h =
      let question : x.question ≡ y.question = waits_is x.question y.question (sym a.0 ∙ b.0) in
      let r = D x.question x.before (left_after x.place picks) in
      let rest = used picks es ++ more in
      let looked = is.looks x.question x.before (left_after x.place picks) (r.taken ++ rest) rest (taken_self past r.taken rest) in
      let here : record { answer = r.answer; to = record { at = r.to; left = rest } } ≡ record { answer = y.answer; to = y.after } =
      ap (λ (w : Drawn Z). let u : Handled (Held Z) = record { answer = w.answer; to = record { at = w.to; left = w.left } } in u) (sym looked)
      ∙ ap (λ l. from_front D y.place x.question (record { at = x.before; left = l })) (sym (append_assoc r.taken (used picks es) more))
      ∙ ap (λ q. from_front D y.place q (record { at = x.before; left = (r.taken ++ used picks es) ++ more })) question
      ∙ ap (λ z. from_front D y.place y.question (record { at = z; left = (r.taken ++ used picks es) ++ more })) c.0 ∙ d.1 in
      let there : record { answer = r.answer; to = r.to } ≡ record { answer = x.answer; to = x.after } =
      ap (λ z. by_place D picks x.place x.question z) c.0 ∙ c.1 in
      let answers : y.answer ≡ x.answer = ap (λ (w : Handled (Held Z)). w.answer) (sym here) ∙ ap (λ (w : Handled Z). w.answer) there in
      let stands : y.after ≡ record { at = x.after; left = rest } =
      ap (λ (w : Handled (Held Z)). w.to) (sym here) ∙ ap (λ (w : Handled Z). let u : Held Z = record { at = w.to; left = rest } in u) there in
      listed t (told ++ x.answer ∷ []) picks more es x.after end fs last e f a.1 c.2
      (ap t (append_assoc told (x.answer ∷ []) (told_by es)) ∙ g)
      (subst (λ a. AsksAll t (told ++ a ∷ []) fs) answers b.1)
      (subst (λ s. Chained (from_front D) s fs last) stands d.2)
      (ap t (append_assoc told (x.answer ∷ []) (told_by fs) ∙ ap (λ a. told ++ a ∷ told_by fs) (sym answers)) ∙ h)

  -- they are no more than there are places
  used_few : (picks : Picks) (es : List (Event Z)) (low high : ℕ) → Within sized low es high → low + length (used picks es) ≤ high
  used_few picks [] low high w = omega (arith, w)
  used_few picks (e ∷ es) low high w =
      let r = (D e.question e.before (left_after e.place picks)).taken in
      let h = used_few picks es (e.place + sized e.question) high w.1 in
      let l = is.few e.question e.before (left_after e.place picks) in
      let n = long_append r (used picks es) in
      let p = w.0 in
      omega (arith, h, l, n, p)

  -- the picks of the events of a run from the front, each put at its place, from a place on and up to another
  abbrev pub placed : ℕ → ℕ → List (Event (Held Z)) → Picks
  placed top i [] = replicate (top - i) false
  placed top i (e ∷ es) =
      let t = (D e.question e.before.at e.before.left).taken in replicate (e.place - i) false ++ (t ++ placed top (e.place + length t) es)

  placed_long : (es : List (Event (Held Z))) (i low top : ℕ) → i ≤ low → Within sized low es top → i + length (placed top i es) ≡ top
  placed_long [] i low top l w = let h = zeros_long (top - i) in omega (arith, l, w, h)
  placed_long (e ∷ es) i low top l w =
      let t = (D e.question e.before.at e.before.left).taken in
      let few = is.few e.question e.before.at e.before.left in
      let h = placed_long es (e.place + length t) (e.place + sized e.question) top (omega (arith, few)) w.1 in
      let a = zeros_long (e.place - i) in
      let b : length (placed top i (e ∷ es)) ≡ length (replicate (e.place - i) false) + length (t ++ placed top (e.place + length t) es) =
      long_append (replicate (e.place - i) false) (t ++ placed top (e.place + length t) es) in
      let c = long_append t (placed top (e.place + length t) es) in
      let p = w.0 in
      omega (arith, h, a, b, c, l, p)

  all_alike : (picks more : Picks) (es : List (Event (Held Z))) (start last : Held Z) (i low top : ℕ) → i ≤ low → Within sized low es top →
      Chained (from_front D) start es last →
      left_after i picks ≡ placed top i es ++ more → Alike (by_place D picks) (λ h. h.at) es
  all_alike picks more [] start last i low top l w c p = tt
  all_alike picks more (e ∷ es) start last i low top l w c p =
      let r = D e.question e.before.at e.before.left in
      let t = r.taken in
      let rest = placed top (e.place + length t) es ++ more in
      let few = is.few e.question e.before.at e.before.left in
      let first = w.0 in
      let there : left_after e.place picks ≡ t ++ rest =
      after_more i (e.place - i) e.place picks (omega (arith, l, first))
      ∙ ap (left_after (e.place - i)) (p ∙ append_assoc (replicate (e.place - i) false) (t ++ placed top (e.place + length t) es) more
      ∙ ap (λ z. replicate (e.place - i) false ++ z) (append_assoc t (placed top (e.place + length t) es) more))
      ∙ after_front (replicate (e.place - i) false) (t ++ rest) (e.place - i) (sym (zeros_long (e.place - i))) in
      let later_on : left_after (e.place + length t) picks ≡ rest =
      after_more e.place (length t) (e.place + length t) picks refl ∙ ap (left_after (length t)) there ∙ after_front t rest (length t) refl in (
        ap (λ l. let w = D e.question e.before.at l in let u : Handled Z = record { answer = w.answer; to = w.to } in u) there
            ∙ ap (λ (w : Drawn Z). let u : Handled Z = record { answer = w.answer; to = w.to } in u)
            (is.looks e.question e.before.at e.before.left (t ++ rest) rest (taken_self past t rest))
            ∙ ap (λ (h : Handled (Held Z)). let u : Handled Z = record { answer = h.answer; to = h.to.at } in u)
            (ap (λ s. from_front D e.place e.question s) c.0 ∙ c.1),
        all_alike picks more es e.after last (e.place + length t) (e.place + sized e.question) top (omega (arith, few)) w.1 c.2 later_on,
      )

  module _ (b : Block) (env : Env) (z : Z) where
    -- picks from the front that lead where some picks by place lead, whatever follows them
    pub record Fronted (picks : Picks) : Type 0 where
      pub taken : Picks
      pub few : length taken ≤ room_of space b
      pub names : (more : Picks) → (direct_run eval space (from_front D) b env (record { at = z; left = taken ++ more })).env ≡
          (direct_run eval space (by_place D picks) b env z).env
      pub ends : (more : Picks) → (direct_run eval space (from_front D) b env (record { at = z; left = taken ++ more })).to
          ≡ record { at = (direct_run eval space (by_place D picks) b env z).to; left = more }

    both : (picks more : Picks) →
        let r = direct_run eval space (by_place D picks) b env z in
        let q = direct_run eval space (from_front D) b env (record { at = z; left = used picks r.events ++ more }) in
        (q.env ≡ r.env) × (q.to ≡ record { at = r.to; left = more })
    both picks more =
        let r = direct_run eval space (by_place D picks) b env z in
        let f = block_follows eval space (by_place D picks) b.statements 0 env z in
        let start : Held Z = record { at = z; left = used picks r.events ++ more } in
        let q = direct_run eval space (from_front D) b env start in
        let g = block_follows eval space (from_front D) b.statements 0 env start in
        listed (in_turn (map (run_of eval) b.statements) env) [] picks more r.events z r.to q.events q.to r.env q.env f.asks f.chained
        (ap (in_turn (map (run_of eval) b.statements) env) (sym (append-nil (told_by r.events))) ∙ f.goes []) g.asks g.chained
        (ap (in_turn (map (run_of eval) b.statements) env) (sym (append-nil (told_by q.events))) ∙ g.goes [])

    pub fronted : (picks : Picks) → Fronted picks
    fronted picks =
        let r = direct_run eval space (by_place D picks) b env z in
        let f = block_follows eval space (by_place D picks) b.statements 0 env z in
        let few = used_few picks r.events 0 (room_of space b) (subst (λ n. Within sized 0 r.events n) (room_is space eval (by_place D picks) b) f.within) in
        record { taken = used picks r.events; few = omega (arith, few); names = λ more. (both picks more).0; ends = λ more. (both picks more).1 }

    -- picks by place that lead where some picks from the front lead, whatever follows them
    pub record Placed (top : ℕ) (picks : Picks) : Type 0 where
      pub put : Picks
      pub long : length put ≡ top
      pub mirrors : (more : Picks) → direct_run eval space (by_place D (put ++ more)) b env z
          ≡ seen_run (by_place D (put ++ more)) (λ (h : Held Z). h.at) (direct_run eval space (from_front D) b env (record { at = z; left = picks }))

    pub all_placed : (top : ℕ) → room_of space b ≤ top → (picks : Picks) → Placed top picks
    all_placed top enough picks =
        let start : Held Z = record { at = z; left = picks } in
        let r = direct_run eval space (from_front D) b env start in
        let f = block_follows eval space (from_front D) b.statements 0 env start in
        let put = placed top 0 r.events in
        let within = within_later sized 0 0 r.events (room_of space b) top (omega arith) enough
        (subst (λ n. Within sized 0 r.events n) (room_is space eval (from_front D) b) f.within) in
        let n = placed_long r.events 0 0 top (omega arith) within in
        record {
          put = put;
          long = omega (arith, n);
          mirrors = λ more. block_mirrors eval space (from_front D) (by_place D (put ++ more)) (λ h. h.at) b.statements 0 env start
              (all_alike (put ++ more) more r.events start r.to 0 0 top (omega arith) within f.chained refl);
        }

    -- where the block has no more places than so many picks
    pub same_places : (most : ℕ) → room_of space b ≤ most → SamePlaces eval space D b env z most
    same_places most enough = record {
      front = λ picks.
          let h = fronted picks in let few = h.few in
          let more = replicate (most - length h.taken) false in
          let n = long_append h.taken more in let m = zeros_long (most - length h.taken) in
          (h.taken ++ more, omega (arith, few, n, m, enough), ends_so _ _ _ _ (h.names more) (ap (λ (x : Held Z). x.at) (h.ends more)));
      place = λ picks.
          let p = all_placed most enough picks in (
            p.put,
            p.long,
            ap (λ l. ends_by_place eval space D b env z l) (sym (append-nil p.put))
                ∙ ap (λ (x : Reached Z). let y : Ended Z = record { env = x.env; at = x.to } in y) (p.mirrors []),
          );
    }
      where
        ends_so : (e f : Env) (y z : Z) → e ≡ f → y ≡ z → record { env = e; at = y } ≡ (let x : Ended Z = record { env = f; at = z } in x)
        ends_so e f y z h g = cc
