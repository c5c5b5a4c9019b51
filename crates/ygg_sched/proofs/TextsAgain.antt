-- The text of a schedule is read as this schedule.
use Rattle.std.proofs.Common.{◌≡◌, ℕ, ◌+◌, List, [], ◌++◌, Option, Some, None, Ok, refl, sym, ap, ◌∙◌, append_assoc}
use Rattle.std.specs.Prelude.{codes, IsTrue}
use Rattle.std.specs.List.{list_all}
use Rattle.std.proofs.lemmas.Bool.{and_parts}
use Rattle.std.proofs.lemmas.List.{append-nil}
use Rattle.ygg_syntax.specs.declared.tree.File.{File}
use Rattle.ygg_sched.specs.declared.schedule.Schedule.{Schedule}
use Rattle.ygg_sched.specs.Sites.{Site, site_named, state_lines, memory_lines, low_lines, argument_lines, has_stop, has_wake, has_other}
use Rattle.ygg_sched.specs.Words.{is_word}
use Rattle.ygg_sched.specs.Lines.{fixed_at, obligation_in, obligation_at, nothing_at}
use Rattle.ygg_sched.specs.Reading.{Valued, Runs, values_at, runs_at, body_at, schedule_of}
use Rattle.ygg_sched.specs.Printing.{
  line_of,
  variable_lines,
  stop_lines,
  bits_line,
  bits_lines,
  value_lines,
  run_lines,
  lines_of,
  text_of,
}
use Rattle.ygg_sched.specs.Fitting.{IsAt, IsPlain, is_plain}
use Rattle.ygg_sched.specs.Laws.{PrintedIsRead}
use Rattle.ygg_sched.proofs.Cutting.{after_append}
use Rattle.ygg_sched.proofs.PiecesAgain.{is_other}
use Rattle.ygg_sched.proofs.LinesAgain.{left, line_again, fixed_again, ReadsTo, variables_again}
use Rattle.ygg_sched.proofs.RunsAgain.{stop_lines_again, bits_line_again, bits_lines_again}

-- the values of a schedule
abbrev values_of : Schedule → Valued
values_of x = record { state = x.state; memory = x.memory; low = x.low; args = x.args }

-- how its runs go
abbrev runs_of : Schedule → Runs
runs_of x = record { stop = x.stop; picks = x.picks; wake = x.wake; other = x.other }

values_again : (n : ℕ) (s : Site) (x : Schedule) (rest : List ℕ) → IsAt s x → IsPlain s x.name → ReadsTo (values_at s) (values_of x) n (value_lines s x) rest
unfolding values_at
values_again n s x rest fits plain =
    let args : List ℕ = variable_lines (codes "arg ") (argument_lines s) x.args in
    let low : List ℕ = variable_lines (codes "low ") (low_lines s) x.low in
    let memory : List ℕ = variable_lines (codes "memory ") (memory_lines s) x.memory in
    let state : List ℕ = variable_lines (codes "state ") (state_lines s) x.state in
    let r1 = variables_again n (codes "state ") (state_lines s) x.state (memory ++ (low ++ (args ++ rest))) refl plain.state fits.state in
    let r2 = variables_again r1.next (codes "memory ") (memory_lines s) x.memory (low ++ (args ++ rest)) refl plain.memory fits.memory in
    let r3 = variables_again r2.next (codes "low ") (low_lines s) x.low (args ++ rest) refl plain.low fits.low in
    let r4 = variables_again r3.next (codes "arg ") (argument_lines s) x.args rest refl plain.args fits.args in
    let grouped : value_lines s x ++ rest ≡ state ++ (memory ++ (low ++ (args ++ rest))) =
    append_assoc state (memory ++ (low ++ args)) rest
    ∙ ap (λ (t : List ℕ). state ++ t)
    (append_assoc memory (low ++ args) rest ∙ ap (λ (t : List ℕ). memory ++ t) (append_assoc low args rest)) in
    record { next = r4.next; is = rw (grouped, r1.is, r2.is, r3.is, r4.is) refl }

runs_again : (n : ℕ) (s : Site) (x : Schedule) (rest : List ℕ) → IsAt s x → ReadsTo (runs_at s) (runs_of x) n (run_lines s x) rest
unfolding runs_at
runs_again n s x rest fits =
    let other : List ℕ = bits_lines (has_other s.obligation) (codes "other ") x.other in
    let wake : List ℕ = bits_lines (has_wake s.obligation) (codes "wake ") x.wake in
    let picks : List ℕ = bits_line (codes "picks ") x.picks in
    let stop : List ℕ = stop_lines x.stop in
    let r1 = stop_lines_again n (has_stop s.obligation) x.stop (picks ++ (wake ++ (other ++ rest))) fits.stop in
    let r2 = bits_line_again r1.next (codes "picks ") x.picks (wake ++ (other ++ rest)) refl in
    let r3 = bits_lines_again (r1.next + 1) (has_wake s.obligation) (codes "wake ") x.wake (other ++ rest) refl fits.wake in
    let r4 = bits_lines_again r3.next (has_other s.obligation) (codes "other ") x.other rest refl fits.other in
    let grouped : run_lines s x ++ rest ≡ stop ++ (picks ++ (wake ++ (other ++ rest))) =
    append_assoc stop (picks ++ (wake ++ other)) rest
    ∙ ap (λ (t : List ℕ). stop ++ t)
    (append_assoc picks (wake ++ other) rest ∙ ap (λ (t : List ℕ). picks ++ t) (append_assoc wake other rest)) in
    record { next = r4.next; is = rw (grouped, r1.is, r2, r3.is, r4.is) refl }

body_again : (n : ℕ) (s : Site) (x : Schedule) → IsAt s x → IsPlain s x.name →
    body_at x.name s (left n (value_lines s x ++ (run_lines s x ++ line_of (codes "end")))) ≡ Ok x
unfolding body_at nothing_at
body_again n s x fits plain =
    let end : List ℕ = line_of (codes "end") in
    let r1 = values_again n s x (run_lines s x ++ end) fits plain in
    let r2 = runs_again r1.next s x end fits in
    let r3 : fixed_at (codes "end") (left r2.next end) ≡ Ok (left (r2.next + 1) []) =
    ap (λ (t : List ℕ). fixed_at (codes "end") (left r2.next t)) (sym (append-nil end)) ∙ fixed_again r2.next (codes "end") [] refl in
    rw (r1.is, r2.is, r3) refl

named_again : (n : ℕ) (f : File) (s : Site) (name rest : List ℕ) → site_named f name ≡ Some s → IsTrue (is_plain name) →
    obligation_at f (left n (line_of (codes "obligation " ++ name) ++ rest)) ≡ Ok ((name, s), left (n + 1) rest)
unfolding obligation_at
named_again n f s name rest is plain =
    let p = and_parts (is_word name) (list_all (is_other 10) name) plain in
    let found : obligation_in (codes "obligation " ++ name) ≡ Some name = rw (after_append (codes "obligation ") name, p.0) refl in
    rw (line_again n (codes "obligation " ++ name) rest p.1, found, is) refl

-- the lines of a schedule of an obligation, if there is one
abbrev lines_if : Schedule → Option Site → List ℕ
lines_if x None = []
lines_if x (Some s) = lines_of s x

pub printed_is_read : PrintedIsRead
unfolding schedule_of
printed_is_read f x of plain =
    let s : Site = of.site in
    let after : List ℕ = value_lines s x ++ (run_lines s x ++ line_of (codes "end")) in
    let named : List ℕ = line_of (codes "obligation " ++ x.name) in
    let text : text_of f x ≡ line_of (codes "ygg-schedule 1") ++ (named ++ after) = ap (lines_if x) of.named in
    rw (text, fixed_again 1 (codes "ygg-schedule 1") (named ++ after) refl, named_again 2 f s x.name after of.named plain.own) (body_again 3 s x of.fits plain)
