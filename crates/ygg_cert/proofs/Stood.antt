-- Where a reader of certificates stands after a byte.
use Rattle.std.proofs.Common.{◌≡◌, ℕ, zero, suc, ◌+◌, ◌≤◌, List, [], ◌∷◌, ◌++◌, length, drop, Some, None, refl, sym, ap, subst, ◌∙◌, arith}
use Rattle.std.specs.Prelude.{slice_get}
use Rattle.std.proofs.lemmas.List.{drop_more, drop_all}
use Rattle.std.proofs.lemmas.Option.{slice_get_within, get_or_from_slice_get}
use Rattle.ygg_cnf.specs.declared.lit.Lit.{Lit}
use Rattle.ygg_cert.specs.declared.item.Goal.{Goal}
use Rattle.ygg_cert.specs.declared.expected.Expected.{Expected}
use Rattle.ygg_cert.specs.declared.verdict.Heard.{Heard}
use Rattle.ygg_cert.specs.declared.verdict.Heard.TheVariants as heard
use Rattle.ygg_cert.specs.declared.log.LogReading.{LogReading}
use Rattle.ygg_cert.specs.declared.phase.Next.{Next}
use Rattle.ygg_cert.specs.declared.phase.Phase.{Phase}
use Rattle.ygg_cert.specs.declared.phase.Phase.TheVariants as phase
use Rattle.ygg_cert.specs.Texts.{first_line, goal_line, last_line}
use Rattle.ygg_cert.specs.Places.{Place, Start, Between, Within, End, IsBad, Leads, GoesOn}
use Rattle.ygg_cert.specs.Matching.{IsMatching, Begins, Matches}
use Rattle.ygg_cert.specs.Standing.{IsLogAt, Turns, IsNext, IsAt, IsDone, Hears}
use Rattle.ygg_cert.proofs.Matched.{match_none}

-- what is said where the phase is known
at_phase : (P Q : Phase → Type 0) (p q : Phase) → p ≡ q → (P q → Q q) → P p → Q p
at_phase P Q p q is says was = subst Q (sym is) (says (subst P is was))

-- a line that alone may stand at the place
exact_hears : (goals : List Goal) (place to : Place) (line before bytes : List ℕ) (e : Expected) (new : Next) (h : Heard) →
    ((l : List ℕ) → IsMatching l before e → Matches l bytes new.line h) → IsMatching line before e → ((b : List ℕ) → GoesOn place b → Begins line b) →
    Leads place line to → IsDone goals to new → (IsMatching line bytes new.line → IsAt goals place bytes new)
    → Hears goals place bytes new h
exact_hears goals place to line before bytes e new heard.More matches m only leads done at = at (matches line m)
exact_hears goals place to line before bytes e new heard.Added matches m only leads done at = absurd (matches line m)
exact_hears goals place to line before bytes e new heard.Whole matches m only leads done at =
    (to, (subst (λ (x : List ℕ). Leads place x to) (sym (matches line m)) leads, done))
exact_hears goals place to line before bytes e new (heard.Bad number) matches m only leads done at = absurd (matches line m)
exact_hears goals place to line before bytes e new heard.Wrong matches m only leads done at = λ on. matches line m (only bytes on)
exact_hears goals place to line before bytes e new heard.Nothing matches m only leads done at = absurd (matches line m)

-- what goes on from a place of one line begins it
start_only : (goals : List Goal) (b : List ℕ) → GoesOn (Start goals) b → Begins first_line b
start_only goals b on = (on.more, (on.others, on.is ∙ ap (λ (x : List ℕ). x ++ on.others) on.may))

goal_only : (g : Goal) (gs : List Goal) (b : List ℕ) → GoesOn (Between (g ∷ gs)) b → Begins (goal_line g) b
goal_only g gs b on = (on.more, (on.others, on.is ∙ ap (λ (x : List ℕ). x ++ on.others) on.may))

last_only : (b : List ℕ) → GoesOn (Between []) b → Begins last_line b
last_only b on = (on.more, (on.others, on.is ∙ ap (λ (x : List ℕ). x ++ on.others) on.may))

-- the first line
first_here : (goals : List Goal) (place : Place) (before bytes : List ℕ) (e f : Expected) (log : LogReading) (passed : ℕ) (h : Heard) →
    ((l : List ℕ) → IsMatching l before e → Matches l bytes f h) →
    IsAt goals place before (record { phase = phase.First; line = e; log = log; passed = passed })
    → Hears goals place bytes (record { phase = phase.First; line = f; log = log; passed = passed }) h
first_here goals place before bytes e f log passed h matches (here, m, none) =
    exact_hears goals place (Between goals) first_line before bytes e (record { phase = phase.First; line = f; log = log; passed = passed }) h matches m
    (λ b on. start_only goals b (subst (λ (p : Place). GoesOn p b) here on))
    (subst (λ (p : Place). Leads p first_line (Between goals)) (sym here) (refl, refl)) (refl, none) (λ more. (here, more, none))

pub first_hears : (goals : List Goal) (place : Place) (before bytes : List ℕ) (p : Phase) (e f : Expected) (log : LogReading) (passed : ℕ) (h : Heard) →
    p ≡ phase.First → ((l : List ℕ) → IsMatching l before e → Matches l bytes f h) →
    IsAt goals place before (record { phase = p; line = e; log = log; passed = passed })
    → Hears goals place bytes (record { phase = p; line = f; log = log; passed = passed }) h
first_hears goals place before bytes p e f log passed h is matches was =
    at_phase (λ (q : Phase). IsAt goals place before (record { phase = q; line = e; log = log; passed = passed }))
    (λ (q : Phase). Hears goals place bytes (record { phase = q; line = f; log = log; passed = passed }) h) p phase.First is
    (first_here goals place before bytes e f log passed h matches) was

-- the line before the log of a goal
opening_here : (goals : List Goal) (place : Place) (before bytes : List ℕ) (e f : Expected) (log : LogReading) (passed : ℕ) (h : Heard) →
    ((l : List ℕ) → IsMatching l before e → Matches l bytes f h) →
    IsAt goals place before (record { phase = phase.Opening; line = e; log = log; passed = passed })
    → Hears goals place bytes (record { phase = phase.Opening; line = f; log = log; passed = passed }) h
opening_here goals place before bytes e f log passed h matches was =
    exact_hears goals place (Within log.name log.checker (drop (passed + 1) goals)) (goal_line was.goal) before bytes e
    (record { phase = phase.Opening; line = f; log = log; passed = passed }) h matches was.line
    (λ b on. goal_only was.goal (drop (passed + 1) goals) b (subst (λ (p : Place). GoesOn p b) was.here on))
    (subst (λ (p : Place). Leads p (goal_line was.goal) (Within log.name log.checker (drop (passed + 1) goals))) (sym was.here) (refl, to))
    (refl, was.log, was.within)
    (λ more. record {
      goal = was.goal;
      here = was.here;
      line = more;
      name = was.name;
      checker = was.checker;
      log = was.log;
      within = was.within;
    })
  where
    to : Within log.name log.checker (drop (passed + 1) goals) ≡ Within was.goal.name was.goal.clauses (drop (passed + 1) goals)
    to =
        ap (λ (n : List ℕ). Within n log.checker (drop (passed + 1) goals)) was.name
        ∙ ap (λ (x : List (List Lit)). Within was.goal.name x (drop (passed + 1) goals)) was.checker

pub opening_hears : (goals : List Goal) (place : Place) (before bytes : List ℕ) (p : Phase) (e f : Expected) (log : LogReading) (passed : ℕ) (h : Heard) →
    p ≡ phase.Opening → ((l : List ℕ) → IsMatching l before e → Matches l bytes f h) →
    IsAt goals place before (record { phase = p; line = e; log = log; passed = passed })
    → Hears goals place bytes (record { phase = p; line = f; log = log; passed = passed }) h
opening_hears goals place before bytes p e f log passed h is matches was =
    at_phase (λ (q : Phase). IsAt goals place before (record { phase = q; line = e; log = log; passed = passed }))
    (λ (q : Phase). Hears goals place bytes (record { phase = q; line = f; log = log; passed = passed }) h) p phase.Opening is
    (opening_here goals place before bytes e f log passed h matches) was

-- the last line
last_here : (goals : List Goal) (place : Place) (before bytes : List ℕ) (e f : Expected) (log : LogReading) (passed : ℕ) (h : Heard) →
    ((l : List ℕ) → IsMatching l before e → Matches l bytes f h) → IsAt goals place before (record { phase = phase.Last; line = e; log = log; passed = passed })
    → Hears goals place bytes (record { phase = phase.Last; line = f; log = log; passed = passed }) h
last_here goals place before bytes e f log passed h matches (here, m, all) =
    exact_hears goals place End last_line before bytes e (record { phase = phase.Last; line = f; log = log; passed = passed }) h matches m
    (λ b on. last_only b (subst (λ (p : Place). GoesOn p b) here on)) (subst (λ (p : Place). Leads p last_line End) (sym here) (refl, refl)) (refl, all)
    (λ more. (here, more, all))

pub last_hears : (goals : List Goal) (place : Place) (before bytes : List ℕ) (p : Phase) (e f : Expected) (log : LogReading) (passed : ℕ) (h : Heard) →
    p ≡ phase.Last → ((l : List ℕ) → IsMatching l before e → Matches l bytes f h) →
    IsAt goals place before (record { phase = p; line = e; log = log; passed = passed })
    → Hears goals place bytes (record { phase = p; line = f; log = log; passed = passed }) h
last_hears goals place before bytes p e f log passed h is matches was =
    at_phase (λ (q : Phase). IsAt goals place before (record { phase = q; line = e; log = log; passed = passed }))
    (λ (q : Phase). Hears goals place bytes (record { phase = q; line = f; log = log; passed = passed }) h) p phase.Last is
    (last_here goals place before bytes e f log passed h matches) was

-- a line of a log
log_here : (goals : List Goal) (place : Place) (before bytes : List ℕ) (e : Expected) (old new : LogReading) (passed : ℕ) (h : Heard) →
    Turns old bytes new h → IsAt goals place before (record { phase = phase.Log; line = e; log = old; passed = passed })
    → Hears goals place bytes (record { phase = phase.Log; line = e; log = new; passed = passed }) h
log_here goals place before bytes e old new passed heard.More turns (here, at, few) = (
  here ∙ ap (λ (n : List ℕ). Within n old.checker (drop (passed + 1) goals)) (sym turns.1)
      ∙ ap (λ (x : List (List Lit)). Within new.name x (drop (passed + 1) goals)) (sym turns.2),
  turns.0,
  few,
)
log_here goals place before bytes e old new passed heard.Added turns (here, at, few) =
    let t = turns (drop (passed + 1) goals) in (
      Within new.name new.checker (drop (passed + 1) goals),
      (subst (λ (p : Place). Leads p bytes (Within new.name new.checker (drop (passed + 1) goals))) (sym here) t.0, (refl, t.1, few)),
    )
log_here goals place before bytes e old new passed heard.Whole turns (here, at, few) = (
  Between (drop (passed + 1) goals),
  (subst (λ (p : Place). Leads p bytes (Between (drop (passed + 1) goals))) (sym here) (turns (drop (passed + 1) goals)), (refl, few)),
)
log_here goals place before bytes e old new passed (heard.Bad number) turns (here, at, few) =
    subst (λ (n : List ℕ). IsBad place bytes n number) (sym turns.0)
    (subst (λ (p : Place). IsBad p bytes old.name number) (sym here) (turns.1 (drop (passed + 1) goals)))
log_here goals place before bytes e old new passed heard.Wrong turns (here, at, few) =
    λ on. turns (drop (passed + 1) goals) (subst (λ (p : Place). GoesOn p bytes) here on)
log_here goals place before bytes e old new passed heard.Nothing turns (here, at, few) = absurd turns

pub log_hears : (goals : List Goal) (place : Place) (before bytes : List ℕ) (p : Phase) (e : Expected) (old new : LogReading) (passed : ℕ) (h : Heard) →
    p ≡ phase.Log → Turns old bytes new h → IsAt goals place before (record { phase = p; line = e; log = old; passed = passed })
    → Hears goals place bytes (record { phase = p; line = e; log = new; passed = passed }) h
log_hears goals place before bytes p e old new passed h is turns was =
    at_phase (λ (q : Phase). IsAt goals place before (record { phase = q; line = e; log = old; passed = passed }))
    (λ (q : Phase). Hears goals place bytes (record { phase = q; line = e; log = new; passed = passed }) h) p phase.Log is
    (log_here goals place before bytes e old new passed h turns) was

-- the log that is read
pub log_reads : (goals : List Goal) (place : Place) (before : List ℕ) (n : Next) → n.phase ≡ phase.Log → IsAt goals place before n → IsLogAt before n.log
log_reads goals place before n is was = let here = rw is at was in here.1

-- a byte after the last line
pub end_hears : (goals : List Goal) (place : Place) (before : List ℕ) (byte : ℕ) (n : Next) → n.phase ≡ phase.End → IsAt goals place before n
    → GoesOn place (before ++ byte ∷ []) → ⊥
end_hears goals place before byte n is was on =
    let here = rw is at was in
    some before (subst (λ (p : Place). GoesOn p (before ++ byte ∷ [])) here.0 on)
  where
    some : (xs : List ℕ) → xs ++ byte ∷ [] ≡ [] → ⊥
    some [] e = absurd cc
    some (x ∷ xs) e = absurd cc

-- before the log of a goal
pub opening_at : (goals : List Goal) (goal : Goal) (e : Expected) (log : LogReading) (passed : ℕ) → IsNext goals goal passed → e.line ≡ goal_line goal →
    e.matched ≡ 0 → log.name ≡ goal.name → log.checker ≡ goal.clauses → IsLogAt [] log
    → IsAt goals (Between (drop passed goals)) [] (record { phase = phase.Opening; line = e; log = log; passed = passed })
opening_at goals goal e log passed next line_is none named held at = record {
  goal = goal;
  here = ap Between next.is;
  line = match_none (goal_line goal) _ _ e refl line_is none;
  name = named;
  checker = held;
  log = at;
  within = next.within;
}

-- before the last line
pub ending_at : (goals : List Goal) (e : Expected) (log : LogReading) (passed : ℕ) → drop passed goals ≡ [] → passed ≡ length goals → e.line ≡ last_line →
    e.matched ≡ 0
    → IsAt goals (Between (drop passed goals)) [] (record { phase = phase.Last; line = e; log = log; passed = passed })
ending_at goals e log passed here all line_is none = (ap Between here, match_none last_line _ _ e refl line_is none, all)

-- the goals from a place on
goal_here : (goals : List Goal) (passed : ℕ) (g : Goal) → slice_get goals passed ≡ Some g → drop passed goals ≡ g ∷ drop (passed + 1) goals
goal_here goals passed g got =
    drop_more goals passed g (slice_get_within goals passed g got)
    ∙ ap (λ (x : Goal). x ∷ drop (passed + 1) goals) (get_or_from_slice_get goals passed g g got)

pub goal_next : (goals : List Goal) (passed : ℕ) (g : Goal) → slice_get goals passed ≡ Some g → IsNext goals g passed
goal_next goals passed g got = record { is = goal_here goals passed g got; within = slice_get_within goals passed g got }

-- no goal is left
none_left : (goals : List Goal) (passed : ℕ) → slice_get goals passed ≡ None → length goals ≤ passed
none_left [] passed none = omega arith
none_left (g ∷ goals) zero none = absurd cc
none_left (g ∷ goals) (suc passed) none = let rest = none_left goals passed none in omega arith

pub no_goal : (goals : List Goal) (passed : ℕ) → slice_get goals passed ≡ None → drop passed goals ≡ []
no_goal goals passed none = drop_all passed goals (none_left goals passed none)

pub all_behind : (goals : List Goal) (passed : ℕ) → slice_get goals passed ≡ None → passed ≤ length goals → passed ≡ length goals
all_behind goals passed none within = let past = none_left goals passed none in omega arith

-- after the first line
pub first_done : (goals : List Goal) (to : Place) (n : Next) → n.phase ≡ phase.First → IsDone goals to n →
    (to ≡ Between (drop n.passed goals)) × (n.passed ≤ length goals)
first_done goals to n is done =
    let d = rw is at done in
    (d.0 ∙ ap (λ (k : ℕ). Between (drop k goals)) (sym d.1), omega (arith, d.1))

-- after the line before a log
pub opening_done : (goals : List Goal) (to : Place) (line : Expected) (log : LogReading) (p : Phase) (passed : ℕ) → p ≡ phase.Opening →
    IsDone goals to (record { phase = p; line = line; log = log; passed = passed })
    → IsAt goals to [] (record { phase = phase.Log; line = line; log = log; passed = passed })
opening_done goals to line log p passed is done = rw is at done

-- after a log
pub log_done : (goals : List Goal) (to : Place) (n : Next) → n.phase ≡ phase.Log → IsDone goals to n
    → (to ≡ Between (drop (n.passed + 1) goals)) × (n.passed + 1 ≤ length goals)
log_done goals to n is done =
    let d = rw is at done in
    (d.0, omega (arith, d.1))

-- after the last line
pub last_done : (goals : List Goal) (to : Place) (line : Expected) (log : LogReading) (p : Phase) (passed : ℕ) → p ≡ phase.Last →
    IsDone goals to (record { phase = p; line = line; log = log; passed = passed })
    → IsAt goals to [] (record { phase = phase.End; line = line; log = log; passed = passed })
last_done goals to line log p passed is done = let d = rw is at done in (d.0, refl, d.1)
