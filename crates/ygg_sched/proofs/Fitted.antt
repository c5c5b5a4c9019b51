-- What is read is a schedule of the file.
use Rattle.std.proofs.Common.{◌≡◌, ℕ, ◌^◌, ◌<◌, Bool, true, false, List, [], ◌∷◌, Option, Some, None, Ok, Err, refl, sym, ap, subst, ◌∙◌, arith}
use Rattle.std.specs.Prelude.{Result, IfOk, codes, nat_lt, ◌&&◌, not, option_and_then}
use Rattle.std.specs.List.{list_all}
use Rattle.std.specs.Str.{bytes_eq}
use Rattle.std.proofs.lemmas.Bool.{and_parts}
use Rattle.std.proofs.lemmas.Bool.Decides.{nat_tests}
use Rattle.ygg_base.specs.Lexing.{is_digit, value_after, has_leading_zero}
use Rattle.ygg_base.specs.declared.failure.Refuse.{Refuse}
use Rattle.ygg_value.specs.declared.row.Value.{Value}
use Rattle.ygg_syntax.specs.declared.tree.Declared.{Declared}
use Rattle.ygg_syntax.specs.declared.tree.TypeText.{TypeText}
use Rattle.ygg_syntax.specs.declared.tree.File.{File}
use Rattle.ygg_sched.specs.declared.flaw.ScheduleFlaw.{ScheduleFlaw}
use Rattle.ygg_sched.specs.declared.flaw.ScheduleFlaw.TheVariants.{Line, Name, Width}
use Rattle.ygg_sched.specs.declared.schedule.Halt.{Halt}
use Rattle.ygg_sched.specs.declared.schedule.Schedule.{Schedule}
use Rattle.ygg_sched.specs.Sites.{Site, site_named, state_lines, memory_lines, low_lines, argument_lines, has_stop, has_wake, has_other}
use Rattle.ygg_sched.specs.Words.{is_empty, after_front}
use Rattle.ygg_sched.specs.Numbers.{decimal_in, stop_in, halt}
use Rattle.ygg_sched.specs.Values.{value_in}
use Rattle.ygg_sched.specs.Lines.{
  Left,
  Read,
  ◌>>=◌,
  Gives,
  wanted,
  checked,
  line_at,
  fixed_at,
  obligation_in,
  obligation_at,
  variable_in,
  variable_at,
  stop_at,
  bits_at,
  nothing_at,
}
use Rattle.ygg_sched.specs.Reading.{Valued, Runs, variables_at, values_at, runs_at, stop_if, bits_if, body_at, schedule_of, schedule_with}
use Rattle.ygg_sched.specs.Fitting.{IsOfType, AreOfTypes, OnlyIf, StopsOnlyIf, IsAt, IsScheduleOf}
use Rattle.ygg_sched.specs.Laws.{ReadFits}
use Rattle.ygg_sched.proofs.Shaped.{chosen, and_then_is, map_is, value_fits}

-- the first of two steps that are read
pub bind_ok : {A B : Type 0} (r : Read A) (f : A → Read B) (y : B) → (r >>= f) ≡ Ok y → (x : A) × (r ≡ Ok x) × (f x ≡ Ok y)
bind_ok (Ok x) f y e = (x, refl, e)
bind_ok (Err refusal) f y e = absurd cc

-- what is wanted and there
wanted_ok : {A : Type 0} (flaw : ScheduleFlaw) (at : Left) (o : Option A) (x : A) → wanted flaw at o ≡ Ok x → o ≡ Some x
wanted_ok flaw at None x e = absurd cc
wanted_ok flaw at (Some y) x e = cc

read : {A : Type 0} → A → Read A
read x = Ok x

ok_is : {A : Type 0} (x y : A) → read x ≡ read y → x ≡ y
unfolding read
ok_is x y e = cc

-- a line of a variable
variable_fits : (word name : List ℕ) (t : TypeText) (at : Left) (x : Value × Left) → variable_at word name t at ≡ Ok x → IsOfType t x.0
unfolding variable_at read
variable_fits word name t at x e =
    let a = bind_ok (line_at at) _ x e in
    let b = bind_ok (wanted Line at (variable_in word a.0.0)) _ x a.2 in
    let c = bind_ok (checked Name at (bytes_eq b.0.0 name)) _ x b.2 in
    let d = bind_ok (wanted Width at (value_in t b.0.1)) _ x c.2 in
    let is = value_fits t b.0.1 d.0 (wanted_ok Width at (value_in t b.0.1) d.0 d.1) in
    subst (λ (y : Value × Left). IsOfType t y.0) (ok_is (d.0, a.0.1) x d.2) is

-- lines of variables
variables_fit : (word : List ℕ) (ds : List Declared) (at : Left) (x : List Value × Left) → variables_at word ds at ≡ Ok x → AreOfTypes ds x.0
unfolding variables_at read
variables_fit word [] at x e = subst (λ (y : List Value × Left). AreOfTypes [] y.0) (ok_is ([], at) x e) tt
variables_fit word (d ∷ ds) at x e =
    let a = bind_ok (variable_at word d.name.text d.shape at) _ x e in
    let b = bind_ok (variables_at word ds a.0.1) _ x a.2 in
    subst (λ (y : List Value × Left). AreOfTypes (d ∷ ds) y.0) (ok_is (a.0.0 ∷ b.0.0, b.0.1) x b.2)
    (variable_fits word d.name.text d.shape at a.0 a.1, variables_fit word ds a.0.1 b.0 b.1)

-- a number that is read
pub decimal_fits : (bytes : List ℕ) (n : ℕ) → decimal_in bytes ≡ Some n → n < 2 ^ 64
decimal_fits bytes n e = by_test (not (is_empty bytes) && list_all is_digit bytes) refl
  where
    by_test : (test : Bool) → (not (is_empty bytes) && list_all is_digit bytes) ≡ test → n < 2 ^ 64
    by_test false t = let h : None ≡ Some n = rw t at e in absurd cc
    by_test true t =
        let c = chosen (not (has_leading_zero bytes) && nat_lt (value_after 0 bytes) (2 ^ 64)) (value_after 0 bytes) n (rw t at e) in
        let p = and_parts (not (has_leading_zero bytes)) (nat_lt (value_after 0 bytes) (2 ^ 64)) c.0 in
        let below : value_after 0 bytes < 2 ^ 64 = grind (arith, nat_tests, p.1) in
        subst (λ (k : ℕ). k < 2 ^ 64) c.1 below

stop_fits : (line : List ℕ) (h : Halt) → stop_in line ≡ Some h → h.event < 2 ^ 64
stop_fits line h e = by_front (after_front (codes "stop before ") line) refl
  where
    by_front : (o : Option (List ℕ)) → after_front (codes "stop before ") line ≡ o → h.event < 2 ^ 64
    by_front (Some number) f =
        let a = map_is (halt false) (decimal_in number) h (rw f at e) in
        subst (λ (k : Halt). k.event < 2 ^ 64) a.2 (decimal_fits number a.0 a.1)
    by_front None f =
        let a = map_is (halt true) (option_and_then decimal_in (after_front (codes "stop within ") line)) h (rw f at e) in
        let b = and_then_is decimal_in (after_front (codes "stop within ") line) a.0 a.1 in
        subst (λ (k : Halt). k.event < 2 ^ 64) a.2 (decimal_fits b.0 a.0 b.2)

-- the line of a stop, where there is one
stops_fit : (there : Bool) (at : Left) (x : Option Halt × Left) → stop_if there at ≡ Ok x → StopsOnlyIf there x.0
unfolding stop_if stop_at read
stops_fit false at x e = subst (λ (y : Option Halt × Left). StopsOnlyIf false y.0) (ok_is (None, at) x e) (record { there = refl; bounded = tt })
stops_fit true at x e =
    let a = bind_ok (stop_at at) _ x e in
    let b = bind_ok (line_at at) _ a.0 a.1 in
    let c = bind_ok (wanted Line at (stop_in b.0.0)) _ a.0 b.2 in
    let small : c.0.event < 2 ^ 64 = stop_fits b.0.0 c.0 (wanted_ok Line at (stop_in b.0.0) c.0 c.1) in
    let bounded : a.0.0.event < 2 ^ 64 = subst (λ (y : Halt × Left). y.0.event < 2 ^ 64) (ok_is (c.0, b.0.1) a.0 c.2) small in
    subst (λ (y : Option Halt × Left). StopsOnlyIf true y.0) (ok_is (Some a.0.0, a.0.1) x a.2) (record { there = refl; bounded = bounded })

-- a line of picks, where there is one
bits_fit : (there : Bool) (word : List ℕ) (at : Left) (x : List Bool × Left) → bits_if there word at ≡ Ok x → OnlyIf there x.0
unfolding bits_if read
bits_fit true word at x e = λ never. absurd cc
bits_fit false word at x e = λ never. sym (ap (λ (y : List Bool × Left). y.0) (ok_is ([], at) x e))

record ValuesFit (s : Site) (v : Valued) : Type 0 where
  state : AreOfTypes (state_lines s) v.state
  memory : AreOfTypes (memory_lines s) v.memory
  low : AreOfTypes (low_lines s) v.low
  args : AreOfTypes (argument_lines s) v.args

values_fit : (s : Site) (at : Left) (x : Valued × Left) → values_at s at ≡ Ok x → ValuesFit s x.0
unfolding values_at read
values_fit s at x e =
    let a = bind_ok (variables_at (codes "state ") (state_lines s) at) _ x e in
    let b = bind_ok (variables_at (codes "memory ") (memory_lines s) a.0.1) _ x a.2 in
    let c = bind_ok (variables_at (codes "low ") (low_lines s) b.0.1) _ x b.2 in
    let d = bind_ok (variables_at (codes "arg ") (argument_lines s) c.0.1) _ x c.2 in
    let made : Valued × Left = (record { state = a.0.0; memory = b.0.0; low = c.0.0; args = d.0.0 }, d.0.1) in
    subst (λ (y : Valued × Left). ValuesFit s y.0) (ok_is made x d.2)
    (record {
      state = variables_fit (codes "state ") (state_lines s) at a.0 a.1;
      memory = variables_fit (codes "memory ") (memory_lines s) a.0.1 b.0 b.1;
      low = variables_fit (codes "low ") (low_lines s) b.0.1 c.0 c.1;
      args = variables_fit (codes "arg ") (argument_lines s) c.0.1 d.0 d.1;
    })

record RunsFit (s : Site) (r : Runs) : Type 0 where
  stop : StopsOnlyIf (has_stop s.obligation) r.stop
  wake : OnlyIf (has_wake s.obligation) r.wake
  other : OnlyIf (has_other s.obligation) r.other

runs_fit : (s : Site) (at : Left) (x : Runs × Left) → runs_at s at ≡ Ok x → RunsFit s x.0
unfolding runs_at read
runs_fit s at x e =
    let a = bind_ok (stop_if (has_stop s.obligation) at) _ x e in
    let b = bind_ok (bits_at (codes "picks ") a.0.1) _ x a.2 in
    let c = bind_ok (bits_if (has_wake s.obligation) (codes "wake ") b.0.1) _ x b.2 in
    let d = bind_ok (bits_if (has_other s.obligation) (codes "other ") c.0.1) _ x c.2 in
    let made : Runs × Left = (record { stop = a.0.0; picks = b.0.0; wake = c.0.0; other = d.0.0 }, d.0.1) in
    subst (λ (y : Runs × Left). RunsFit s y.0) (ok_is made x d.2)
    (record {
      stop = stops_fit (has_stop s.obligation) at a.0 a.1;
      wake = bits_fit (has_wake s.obligation) (codes "wake ") b.0.1 c.0 c.1;
      other = bits_fit (has_other s.obligation) (codes "other ") c.0.1 d.0 d.1;
    })

-- the lines up to `end`
record BodyFits (name : List ℕ) (s : Site) (x : Schedule) : Type 0 where
  named : x.name ≡ name
  fits : IsAt s x

body_fits : (name : List ℕ) (s : Site) (at : Left) (x : Schedule) → body_at name s at ≡ Ok x → BodyFits name s x
unfolding body_at read
body_fits name s at x e =
    let a = bind_ok (values_at s at) _ x e in
    let b = bind_ok (runs_at s a.0.1) _ x a.2 in
    let c = bind_ok (fixed_at (codes "end") b.0.1) _ x b.2 in
    let d = bind_ok (nothing_at c.0) _ x c.2 in
    let v = values_fit s at a.0 a.1 in
    let r = runs_fit s a.0.1 b.0 b.1 in
    subst (BodyFits name s) (ok_is (schedule_with name a.0.0 b.0.0) x d.2)
    (record {
      named = refl;
      fits = record { state = v.state; memory = v.memory; low = v.low; args = v.args; stop = r.stop; wake = r.wake; other = r.other };
    })

-- the line of the obligation
named_fits : (f : File) (at : Left) (x : (List ℕ × Site) × Left) → obligation_at f at ≡ Ok x → site_named f x.0.0 ≡ Some x.0.1
unfolding obligation_at read
named_fits f at x e =
    let a = bind_ok (line_at at) _ x e in
    let b = bind_ok (wanted Line at (obligation_in a.0.0)) _ x a.2 in
    let c = bind_ok (wanted Name at (site_named f b.0)) _ x b.2 in
    subst (λ (y : (List ℕ × Site) × Left). site_named f y.0.0 ≡ Some y.0.1) (ok_is ((b.0, c.0), a.0.1) x c.2)
    (wanted_ok Name at (site_named f b.0) c.0 c.1)

pub read_fits : ReadFits
unfolding schedule_of
read_fits f text x e =
    let a = bind_ok (fixed_at (codes "ygg-schedule 1") (record { line = 1; bytes = text })) _ x e in
    let b = bind_ok (obligation_at f a.0) _ x a.2 in
    let is = body_fits b.0.0.0 b.0.0.1 b.0.1 x b.2 in
    record { site = b.0.0.1; named = ap (site_named f) is.named ∙ named_fits f a.0 b.0 b.1; fits = is.fits }

-- the same of what code answers
pub is_fitting : (f : File) (text : List ℕ) (result : Result Schedule Refuse) → Gives (λ (x : Schedule). x) result (schedule_of f text) →
    IfOk result (λ x. IsScheduleOf f x)
is_fitting f text (Ok x) gives = read_fits f text x gives
is_fitting f text (Err refuse) gives = tt
