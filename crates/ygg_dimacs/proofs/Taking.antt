-- How words change what has been read.
use Rattle.std.proofs.Common.{◌≡◌, ℕ, zero, suc, ◌+◌, ◌<◌, ◌≤◌, Bool, true, false, List, [], ◌∷◌}
use Rattle.std.proofs.Common.{◌++◌, append_assoc, Option, Some, None, Ok, Err, refl, sym, ap, ◌∙◌, arith, add-one}
use Rattle.std.specs.Prelude.{◌==◌, if◌then◌else◌}
use Rattle.std.proofs.lemmas.List.{append-nil}
use Rattle.std.proofs.lemmas.Bool.Decides.{nat_tests}
use Rattle.ygg_base.specs.declared.failure.Refusal.{Refusal}
use Rattle.ygg_cnf.specs.declared.lit.Lit.{Lit}
use Rattle.ygg_cnf.specs.Literals.{with_literal}
use Rattle.ygg_dimacs.specs.declared.reading.State.{State}
use Rattle.ygg_dimacs.specs.declared.flaw.ClausesFlaw.TheVariants.{Number, Count}
use Rattle.ygg_dimacs.specs.Flaws.{refusal_at}
use Rattle.ygg_dimacs.specs.Numbers.{literal_in}
use Rattle.ygg_dimacs.specs.Places.{TextPlace, TextWord}
use Rattle.ygg_dimacs.specs.Reading.{Read, Gives, clauses_in, after_clauses}
use Rattle.ygg_base.specs.declared.failure.Refuse.{Refuse}
use Rattle.ygg_base.specs.declared.failure.Refuse.TheVariants.{At, Memory}
use Rattle.ygg_dimacs.specs.declared.places.TextPlace as code_place
use Rattle.ygg_dimacs.specs.Left.{place_of}
use Rattle.ygg_dimacs.specs.States.{Goes, Stops, TakesAll, read_on}

-- clauses after others
after_twice : (a b : List (List Lit)) (r : Read (List (List Lit))) → after_clauses a (after_clauses b r) ≡ after_clauses (a ++ b) r
after_twice a b (Ok cs) = ap (λ (x : List (List Lit)). Ok x) (sym (append_assoc a b cs))
after_twice a b (Err e) = refl

-- no clause is left
pub too_many : (s : State) (w : TextWord) → s.left ≡ 0 → Stops s (w ∷ []) (refusal_at Count w.line w.column)
too_many s w none end ws = rw none refl

-- what a word gives, by the literal that it is
abbrev pub by_literal : ℕ → TextPlace → ℕ → List Lit → TextWord → List TextWord → Option Lit → Read (List (List Lit))
by_literal variables end left part w ws None = Err (refusal_at Number w.line w.column)
by_literal variables end left part w ws (Some x) =
    if x.var == 0 then after_clauses (part ∷ []) (clauses_in variables end left [] ws) else clauses_in variables end (suc left) (with_literal part x) ws

pub next_word : (variables : ℕ) (end : TextPlace) (left : ℕ) (part : List Lit) (w : TextWord) (ws : List TextWord) →
    clauses_in variables end (suc left) part (w ∷ ws) ≡ by_literal variables end left part w ws (literal_in variables w.bytes)
next_word variables end left part w ws = by_case (literal_in variables w.bytes) refl
  where
    by_case : (found : Option Lit) → literal_in variables w.bytes ≡ found →
        clauses_in variables end (suc left) part (w ∷ ws) ≡ by_literal variables end left part w ws (literal_in variables w.bytes)
    by_case None e = rw (e, clauses_in, by_literal) refl
    by_case (Some x) e = rw (e, clauses_in, by_literal) refl

-- the next word, while a clause is left
step : (s : State) (end : TextPlace) (w : TextWord) (ws : List TextWord) (left : ℕ) (found : Option Lit) → s.left ≡ suc left →
    literal_in s.variables w.bytes ≡ found →
    clauses_in s.variables end s.left s.part (w ∷ ws) ≡ by_literal s.variables end left s.part w ws found
step s end w ws left found some is =
    ap (λ (n : ℕ). clauses_in s.variables end n s.part (w ∷ ws)) some
    ∙ next_word s.variables end left s.part w ws
    ∙ ap (by_literal s.variables end left s.part w ws) is

-- a literal of some variable, and one of none
pub by_some : (variables : ℕ) (end : TextPlace) (left : ℕ) (part : List Lit) (w : TextWord) (ws : List TextWord) (x : Lit) → (x.var == 0) ≡ false →
    by_literal variables end left part w ws (Some x) ≡ clauses_in variables end (suc left) (with_literal part x) ws
by_some variables end left part w ws x test =
    ap
    (λ (b : Bool). if b then after_clauses (part ∷ []) (clauses_in variables end left [] ws) else clauses_in variables end (suc left) (with_literal part x) ws)
    test

pub by_none : (variables : ℕ) (end : TextPlace) (left : ℕ) (part : List Lit) (w : TextWord) (ws : List TextWord) (x : Lit) → (x.var == 0) ≡ true →
    by_literal variables end left part w ws (Some x) ≡ after_clauses (part ∷ []) (clauses_in variables end left [] ws)
by_none variables end left part w ws x test =
    ap
    (λ (b : Bool). if b then after_clauses (part ∷ []) (clauses_in variables end left [] ws) else clauses_in variables end (suc left) (with_literal part x) ws)
    test

pub no_number : (s : State) (w : TextWord) → 0 < s.left → literal_in s.variables w.bytes ≡ None → Stops s (w ∷ []) (refusal_at Number w.line w.column)
no_number s w some is end ws = by_left s.left refl some
  where
    by_left : (left : ℕ) → s.left ≡ left → 0 < left → read_on s end (w ∷ ws) ≡ Err (refusal_at Number w.line w.column)
    by_left zero e h = absurd (omega arith)
    by_left (suc left) e h = ap (after_clauses s.done) (step s end w ws left None e is)

-- a clause ends
pub ends_clause : (before after : State) (w : TextWord) (x : Lit) → literal_in before.variables w.bytes ≡ Some x → x.var ≡ 0 → after.left + 1 ≡ before.left →
    after.part ≡ [] → after.done ≡ before.done ++ before.part ∷ [] → after.variables ≡ before.variables → Goes before (w ∷ []) after
ends_clause before after w x is zero_var left part done variables = record {
  variables = variables;
  on = λ end ws.
      let test : (x.var == 0) ≡ true = grind (arith, nat_tests) in
      let one : before.left ≡ suc after.left = sym left ∙ add-one after.left in
      let there : clauses_in before.variables end before.left before.part (w ∷ ws)
      ≡ after_clauses (before.part ∷ []) (clauses_in before.variables end after.left [] ws) =
      step before end w ws after.left (Some x) one is ∙ by_none before.variables end after.left before.part w ws x test in
      ap (after_clauses before.done) there
      ∙ after_twice before.done (before.part ∷ []) (clauses_in before.variables end after.left [] ws)
      ∙ rw (variables, part, done) refl;
}

-- a clause has one literal more
pub goes_on : (before after : State) (w : TextWord) (x : Lit) → literal_in before.variables w.bytes ≡ Some x → (x.var ≡ 0 → ⊥) → 0 < before.left →
    after.left ≡ before.left → after.part ≡ with_literal before.part x → after.done ≡ before.done → after.variables ≡ before.variables →
    Goes before (w ∷ []) after
goes_on before after w x is some_var some left part done variables = record {
  variables = variables;
  on = λ end ws. by_left end ws before.left refl some;
}
  where
    by_left : (end : TextPlace) (ws : List TextWord) (n : ℕ) → before.left ≡ n → 0 < n → read_on before end (w ∷ ws) ≡ read_on after end ws
    by_left end ws zero e h = absurd (omega arith)
    by_left end ws (suc n) e h =
        let test : (x.var == 0) ≡ false = grind (arith, nat_tests) in
        let there : clauses_in before.variables end before.left before.part (w ∷ ws) ≡ clauses_in before.variables end (suc n) (with_literal before.part x) ws =
        step before end w ws n (Some x) e is ∙ by_some before.variables end n before.part w ws x test in
        ap (after_clauses before.done) there ∙ rw (variables, part, done, left, e) refl

after_none : (r : Read (List (List Lit))) → after_clauses [] r ≡ r
after_none (Ok cs) = refl
after_none (Err e) = refl

-- all words, from the beginning on
pub whole_read : (before after : State) (words : List TextWord) (end : TextPlace) → Goes before words after → before.done ≡ [] →
    clauses_in before.variables end before.left before.part words ≡ read_on after end []
whole_read before after words end g none =
    sym (after_none (clauses_in before.variables end before.left before.part words))
    ∙ ap (λ (d : List (List Lit)). after_clauses d (clauses_in before.variables end before.left before.part words)) (sym none)
    ∙ ap (read_on before end) (sym (append-nil words))
    ∙ g.on end []

pub whole_stop : (before : State) (words : List TextWord) (end : TextPlace) (refusal : Refusal) → Stops before words refusal → before.done ≡ [] →
    clauses_in before.variables end before.left before.part words ≡ Err refusal
whole_stop before words end refusal stops none =
    sym (after_none (clauses_in before.variables end before.left before.part words))
    ∙ ap (λ (d : List (List Lit)). after_clauses d (clauses_in before.variables end before.left before.part words)) (sym none)
    ∙ ap (read_on before end) (sym (append-nil words))
    ∙ stops end []

-- the end, with all clauses and with too few
pub all_ended : (s : State) (end : TextPlace) → s.left ≡ 0 → read_on s end [] ≡ Ok s.done
all_ended s end none =
    ap (λ (n : ℕ). after_clauses s.done (clauses_in s.variables end n s.part [])) none ∙ ap (λ (cs : List (List Lit)). Ok cs) (append-nil s.done)

pub too_few : (s : State) (end : TextPlace) → 0 < s.left → read_on s end [] ≡ Err (refusal_at Count end.line end.column)
too_few s end some = by_left s.left refl some
  where
    by_left : (left : ℕ) → s.left ≡ left → 0 < left → read_on s end [] ≡ Err (refusal_at Count end.line end.column)
    by_left zero e h = absurd (omega arith)
    by_left (suc left) e h = ap (λ (n : ℕ). after_clauses s.done (clauses_in s.variables end n s.part [])) e

-- what taking all words comes to, as clauses
pub clauses_read : (before after : State) (words : List TextWord) (end : TextPlace) → before.done ≡ [] → before.part ≡ [] →
    Goes before words after → after.left ≤ 0 →
    clauses_in before.variables end before.left [] words ≡ Ok after.done
clauses_read before after words end done part goes ended =
    ap (λ (p : List Lit). clauses_in before.variables end before.left p words) (sym part)
    ∙ whole_read before after words end goes done ∙ all_ended after end (omega arith)

pub clauses_few : (before after : State) (words : List TextWord) (p : code_place.TextPlace) (end : TextPlace) (r : Refusal) →
    before.done ≡ [] → before.part ≡ [] →
    Goes before words after → 0 < after.left → place_of p ≡ end → r ≡ refusal_at Count p.line p.column →
    clauses_in before.variables end before.left [] words ≡ Err r
clauses_few before after words p end r done part goes some here is =
    ap (λ (x : List Lit). clauses_in before.variables end before.left x words) (sym part)
    ∙ whole_read before after words end goes done ∙ too_few after end some
    ∙ ap (λ (q : TextPlace). Err (refusal_at Count q.line q.column)) (sym here) ∙ ap (λ (x : Refusal). Err x) (sym is)

pub clauses_stop : (before after : State) (words : List TextWord) (end : TextPlace) (e : Refuse) → before.done ≡ [] → before.part ≡ [] →
    TakesAll before words end after (Err e) → Gives (λ (x : List (List Lit)). x) (Err e) (clauses_in before.variables end before.left [] words)
clauses_stop before after words end (At refusal) done part stops =
    ap (λ (x : List Lit). clauses_in before.variables end before.left x words) (sym part) ∙ whole_stop before words end refusal stops done
clauses_stop before after words end Memory done part stops = tt
