-- Lines of variables read one after the other, as a loop does, and the first lines of a text.
use Rattle.std.proofs.Common.{
  ◌≡◌,
  ℕ,
  ◌+◌,
  ◌≤◌,
  ◌<◌,
  List,
  [],
  ◌∷◌,
  ◌++◌,
  length,
  get_or,
  drop,
  Result,
  Ok,
  Err,
  refl,
  sym,
  ap,
  ◌∙◌,
  append_assoc,
}
use Rattle.std.specs.Prelude.{codes, IsErrAnd}
use Rattle.std.proofs.lemmas.List.{append-nil, drop_more, drop_all}
use Rattle.ygg_base.specs.declared.failure.Refusal.{Refusal}
use Rattle.ygg_base.specs.declared.failure.Refuse.{Refuse}
use Rattle.ygg_base.specs.declared.failure.Refuse.TheVariants.{At, Memory}
use Rattle.ygg_value.specs.declared.row.Value.{Value}
use Rattle.ygg_syntax.specs.declared.tree.Declared.{Declared}
use Rattle.ygg_syntax.specs.declared.tree.File.{File}
use Rattle.ygg_sched.specs.declared.schedule.Schedule.{Schedule}
use Rattle.ygg_sched.specs.Sites.{Site}
use Rattle.ygg_sched.specs.Lines.{Left, Read, ◌>>=◌, Gives, fixed_at, obligation_at, variable_at}
use Rattle.ygg_sched.specs.Reading.{variables_at, body_at, schedule_of}

-- what was read before, and what is still read
abbrev pub with_values : List Value → Read (List Value × Left) → Read (List Value × Left)
with_values front read = read >>= λ x. Ok (front ++ x.0, x.1)

regroup : (front : List Value) (v : Value) (read : Read (List Value × Left)) →
    with_values front (read >>= λ x. Ok (v ∷ x.0, x.1)) ≡ with_values (front ++ v ∷ []) read
regroup front v (Ok x) = ap (λ (vs : List Value). Ok (vs, x.1)) (sym (append_assoc front (v ∷ []) x.0))
regroup front v (Err refusal) = refl

-- all lines
pub is_read : (word : List ℕ) (front : List Value) (ds : List Declared) (i : ℕ) (at : Left) → length ds ≤ i →
    with_values front (variables_at word (drop i ds) at) ≡ Ok (front, at)
unfolding variables_at
is_read word front ds i at past = rw (drop_all i ds past) (ap (λ (vs : List Value). Ok (vs, at)) (append-nil front))

module _ (word : List ℕ) (front : List Value) (ds : List Declared) (i : ℕ) (at : Left) (d : Declared) (name : List ℕ) (within : i < length ds)
    (is : d ≡ get_or ds i d) (named : name ≡ d.name.text) where
  split : drop i ds ≡ d ∷ drop (i + 1) ds
  split = drop_more ds i d within ∙ ap (λ (x : Declared). x ∷ drop (i + 1) ds) (sym is)

  -- a line that is read
  pub reads_on : (v : Value) (after : Left) → variable_at word name d.shape at ≡ Ok (v, after) →
      with_values (front ++ v ∷ []) (variables_at word (drop (i + 1) ds) after) ≡ with_values front (variables_at word (drop i ds) at)
  unfolding variables_at
  reads_on v after read =
      let own : variable_at word d.name.text d.shape at ≡ Ok (v, after) = ap (λ (n : List ℕ). variable_at word n d.shape at) (sym named) ∙ read in
      let others : Read (List Value × Left) = variables_at word (drop (i + 1) ds) after in
      let step : variables_at word (d ∷ drop (i + 1) ds) at ≡ (others >>= λ x. Ok (v ∷ x.0, x.1)) = rw own refl in
      sym (ap (λ (xs : List Declared). with_values front (variables_at word xs at)) split ∙ ap (with_values front) step ∙ regroup front v others)

  -- a line that is refused
  refuses : (refusal : Refusal) → variable_at word name d.shape at ≡ Err refusal → with_values front (variables_at word (drop i ds) at) ≡ Err refusal
  unfolding variables_at
  refuses refusal read =
      let own : variable_at word d.name.text d.shape at ≡ Err refusal = ap (λ (n : List ℕ). variable_at word n d.shape at) (sym named) ∙ read in
      let step : variables_at word (d ∷ drop (i + 1) ds) at ≡ Err refusal = rw own refl in
      ap (λ (xs : List Declared). with_values front (variables_at word xs at)) split ∙ ap (with_values front) step

  fails_so : {X Z : Type 0} (seen : X → Value × Left) (view : Z → List Value × Left) (refuse : Refuse) (total : Read (List Value × Left)) →
      Gives seen (Err refuse) (variable_at word name d.shape at) → with_values front (variables_at word (drop i ds) at) ≡ total → Gives view (Err refuse) total
  fails_so seen view (At refusal) total read so_far = sym so_far ∙ refuses refusal read
  fails_so seen view Memory total read so_far = tt

  -- what the exit of a `?` returns
  pub fails_on : {X Z : Type 0} (seen : X → Value × Left) (view : Z → List Value × Left) (result : Result Z Refuse) (refuse : Refuse)
      (total : Read (List Value × Left))
      → IsErrAnd result (λ r. r ≡ refuse) → Gives seen (Err refuse) (variable_at word name d.shape at)
      → with_values front (variables_at word (drop i ds) at) ≡ total → Gives view result total
  fails_on seen view (Ok x) refuse total same read so_far = absurd same
  fails_on seen view (Err r) refuse total same read so_far = rw same (fails_so seen view refuse total read so_far)

-- after the first two lines the others decide
pub begun : (f : File) (text : List ℕ) (first : Left) (x : (List ℕ × Site) × Left) →
    fixed_at (codes "ygg-schedule 1") (record { line = 1; bytes = text }) ≡ Ok first → obligation_at f first ≡ Ok x
    → schedule_of f text ≡ body_at x.0.0 x.0.1 x.1
unfolding schedule_of
begun f text first x head named = rw (head, named) refl

-- where the first line is at fault, the text is
pub fails_first : {X : Type 0} (f : File) (text : List ℕ) (view : X → Left) (result : Result Schedule Refuse) (refuse : Refuse) →
    IsErrAnd result (λ r. r ≡ refuse) → Gives view (Err refuse) (fixed_at (codes "ygg-schedule 1") (record { line = 1; bytes = text })) →
    Gives (λ (x : Schedule). x) result (schedule_of f text)
unfolding schedule_of
fails_first f text view (Ok x) refuse same read = absurd same
fails_first f text view (Err r) refuse same read = rw same (by refuse read) where
  by : (e : Refuse) → Gives view (Err e) (fixed_at (codes "ygg-schedule 1") (record { line = 1; bytes = text })) →
      Gives (λ (x : Schedule). x) (Err e) (schedule_of f text)
  by (At refusal) head = rw head refl
  by Memory head = tt

-- so it is where the second line is
pub fails_second : {X : Type 0} (f : File) (text : List ℕ) (first : Left) (view : X → (List ℕ × Site) × Left) (result : Result Schedule Refuse)
    (refuse : Refuse) → IsErrAnd result (λ r. r ≡ refuse) → fixed_at (codes "ygg-schedule 1") (record { line = 1; bytes = text }) ≡ Ok first →
    Gives view (Err refuse) (obligation_at f first) → Gives (λ (x : Schedule). x) result (schedule_of f text)
unfolding schedule_of
fails_second f text first view (Ok x) refuse same head read = absurd same
fails_second f text first view (Err r) refuse same head read = rw same (by refuse read) where
  by : (e : Refuse) → Gives view (Err e) (obligation_at f first) → Gives (λ (x : Schedule). x) (Err e) (schedule_of f text)
  by (At refusal) named = rw (head, named) refl
  by Memory named = tt
