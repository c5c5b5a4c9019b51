-- What is read is a script of the file.
use Rattle.std.proofs.Common.{
  ◌≡◌,
  ℕ,
  suc,
  ◌+◌,
  ◌≤◌,
  ◌<◌,
  ◌^◌,
  Bool,
  true,
  false,
  List,
  [],
  ◌∷◌,
  length,
  Option,
  Some,
  None,
  Result,
  Ok,
  Err,
  refl,
  sym,
  ap,
  subst,
  ◌∙◌,
  arith,
}
use Rattle.std.specs.Prelude.{IfOk, codes, slice_get, option_and_then, ◌==◌, if◌then◌else◌}
use Rattle.std.specs.List.{AllByRecursion, slice_split, count_by}
use Rattle.std.specs.Option.{option_map}
use Rattle.std.specs.Str.{bytes_eq}
use Rattle.std.proofs.lemmas.List.Elements.{All-from_recursion}
use Rattle.std.proofs.lemmas.List.Splits.{length-slice_split}
use Rattle.std.proofs.lemmas.List.Sums.{count_by-le-length}
use Rattle.ygg_base.specs.declared.failure.Refuse.{Refuse}
use Rattle.ygg_value.specs.declared.row.Value.{Value}
use Rattle.ygg_syntax.specs.declared.tree.Declared.{Declared}
use Rattle.ygg_syntax.specs.declared.tree.Operation.{Operation}
use Rattle.ygg_syntax.specs.declared.tree.Tick as tree
use Rattle.ygg_syntax.specs.declared.tree.Layer.{Layer}
use Rattle.ygg_syntax.specs.declared.tree.File.{File}
use Rattle.ygg_sched.specs.ygg_type.Typed.{ticks_at, operation_place, tick_place}
use Rattle.ygg_sched.specs.Words.{after_front}
use Rattle.ygg_sched.specs.Numbers.{decimal_in, bits_in}
use Rattle.ygg_sched.specs.Values.{value_in}
use Rattle.ygg_sched.specs.Lines.{Read, Gives}
use Rattle.ygg_sched.specs.Fitting.{AreOfTypes}
use Rattle.ygg_sched.proofs.Shaped.{and_then_is, map_is, value_fits}
use Rattle.ygg_sched.proofs.Fitted.{bind_ok, decimal_fits}
use Rattle.ygg_script.specs.declared.command.Command.{Command}
use Rattle.ygg_script.specs.declared.command.Command.TheVariants.{Call, Tick, Lost, Fail, Keep}
use Rattle.ygg_script.specs.declared.flaw.ScriptFlaw.{ScriptFlaw}
use Rattle.ygg_script.specs.declared.flaw.ScriptFlaw.TheVariants as flaw
use Rattle.ygg_script.specs.Flaws.{refusal_at, wanted}
use Rattle.ygg_script.specs.Names.{call_in, tick_in}
use Rattle.ygg_script.specs.Places.{top_operations, arguments_at, layer_place, values_in}
use Rattle.ygg_script.specs.Lines.{call_at, tick_at, point_in, fail_at, keep_at, lost_at, command_at}
use Rattle.ygg_script.specs.Reading.{is_stoppable, pieces_of, is_last, is_nothing, command_then, commands_at, script_in, script_of}
use Rattle.ygg_script.specs.Fitting.{IsCommandOf, may_stand, are_placed, IsScriptOf}

read : {A : Type 0} → A → Read A
read x = Ok x

ok_is : {A : Type 0} (x y : A) → read x ≡ read y → x ≡ y
unfolding read
ok_is x y e = cc

-- what is wanted and there
wanted_ok : {A : Type 0} (why : ScriptFlaw) (line : ℕ) (o : Option A) (x : A) → wanted why line o ≡ Ok x → o ≡ Some x
wanted_ok why line None x e = absurd cc
wanted_ok why line (Some y) x e = cc

-- what stands at a place that is found
record IsThere {A : Type 0} (xs : List A) (n place : ℕ) : Type 0 where
  after : ℕ
  item : A
  is : place ≡ n + after
  there : slice_get xs after ≡ Some item

-- the place of the first that passes a test, where the first of these has the place n
module _ {A : Type 0} (place_in : ℕ → List A → Option ℕ) (test : A → Bool) (none : (n : ℕ) → place_in n [] ≡ None)
    (step : (n : ℕ) (x : A) (xs : List A) → place_in n (x ∷ xs) ≡ (if test x then Some n else place_in (n + 1) xs)) where
  is_there : (n : ℕ) (xs : List A) (place : ℕ) → place_in n xs ≡ Some place → IsThere xs n place
  is_there n [] place e = let h : None ≡ Some place = sym (none n) ∙ e in absurd cc
  is_there n (x ∷ xs) place e = by_test (test x) (sym (step n x xs) ∙ e) (is_there (n + 1) xs place)
    where
      by_test : (passes : Bool) → (if passes then Some n else place_in (n + 1) xs) ≡ Some place
          → (place_in (n + 1) xs ≡ Some place → IsThere xs (n + 1) place) → IsThere (x ∷ xs) n place
      by_test true h others = let same : n ≡ place = cc in record { after = 0; item = x; is = omega arith; there = refl }
      by_test false h others =
          let o = others h in
          let where_is : place ≡ (n + 1) + o.after = o.is in
          record { after = suc o.after; item = o.item; is = omega arith; there = o.there }

-- the same from the begin
first_there : {A : Type 0} (xs : List A) (place : ℕ) (o : IsThere xs 0 place) → slice_get xs place ≡ Some o.item
first_there xs place o = let same : place ≡ o.after = o.is ∙ omega arith in ap (slice_get xs) same ∙ o.there

operation_there : (os : List Operation) (name : List ℕ) (place : ℕ) → operation_place 0 os name ≡ Some place → IsThere os 0 place
operation_there os name place e =
    is_there (λ n xs. operation_place n xs name) (λ o. bytes_eq o.name.text name) (λ n. refl) (λ n x xs. refl) 0 os place e

tick_there : (ts : List tree.Tick) (name : List ℕ) (place : ℕ) → tick_place 0 ts name ≡ Some place → IsThere ts 0 place
tick_there ts name place e = is_there (λ n xs. tick_place n xs name) (λ t. bytes_eq t.name.text name) (λ n. refl) (λ n x xs. refl) 0 ts place e

layer_there : (ls : List Layer) (name : List ℕ) (place : ℕ) → layer_place 0 ls name ≡ Some place → IsThere ls 0 place
layer_there ls name place e = is_there (λ n xs. layer_place n xs name) (λ l. bytes_eq l.name.text name) (λ n. refl) (λ n x xs. refl) 0 ls place e

arguments_are : (os : List Operation) (place : ℕ) (o : Operation) → slice_get os place ≡ Some o → arguments_at os place ≡ o.arguments
arguments_are os place o there = rw (there, arguments_at) refl

ticks_are : (ls : List Layer) (place : ℕ) (l : Layer) → slice_get ls place ≡ Some l → ticks_at ls place ≡ l.ticks
ticks_are ls place l there = rw (there, ticks_at) refl

-- values that are read
values_fit : (ds : List Declared) (words : List (List ℕ)) (vs : List Value) → values_in ds words ≡ Some vs → AreOfTypes ds vs
values_fit [] [] vs e = let same : [] ≡ vs = cc in subst (AreOfTypes []) same tt
values_fit [] (word ∷ words) vs e = absurd cc
values_fit (d ∷ ds) [] vs e = absurd cc
values_fit (d ∷ ds) (word ∷ words) vs e =
    let a = and_then_is (λ v. option_map (λ vs. v ∷ vs) (values_in ds words)) (value_in d.shape word) vs e in
    let b = map_is (λ vs. a.0 ∷ vs) (values_in ds words) vs a.2 in
    subst (AreOfTypes (d ∷ ds)) b.2 (value_fits d.shape word a.0 a.1, values_fit ds words b.0 b.1)

-- a command of the file that may stand where it does
record IsPlaced (f : File) (stoppable : Bool) (c : Command) : Type 0 where
  of : IsCommandOf f c
  may : may_stand stoppable c ≡ true

call_fits : (f : File) (stoppable : Bool) (line : ℕ) (bytes : List ℕ) (c : Command) → call_at f line bytes ≡ Ok c → IsPlaced f stoppable c
unfolding call_at read
call_fits f stoppable line bytes c e =
    let a = bind_ok (wanted flaw.Line line (call_in bytes)) _ c e in
    let b = bind_ok (wanted flaw.Operation line (operation_place 0 (top_operations f) a.0.0)) _ c a.2 in
    let d = bind_ok (wanted flaw.Argument line (values_in (arguments_at (top_operations f) b.0) a.0.1)) _ c b.2 in
    let found = operation_there (top_operations f) a.0.0 b.0 (wanted_ok flaw.Operation line (operation_place 0 (top_operations f) a.0.0) b.0 b.1) in
    let there : slice_get (top_operations f) b.0 ≡ Some found.item = first_there (top_operations f) b.0 found in
    let arguments = arguments_are (top_operations f) b.0 found.item there in
    let values = values_fit (arguments_at (top_operations f) b.0) a.0.1 d.0
    (wanted_ok flaw.Argument line (values_in (arguments_at (top_operations f) b.0) a.0.1) d.0 d.1) in
    let fits : AreOfTypes found.item.arguments d.0 = subst (λ (ds : List Declared). AreOfTypes ds d.0) arguments values in
    subst (IsPlaced f stoppable) (ok_is (Call b.0 d.0) c d.2) (record { of = record { operation = found.item; there = there; fits = fits }; may = refl })

tick_fits : (f : File) (stoppable : Bool) (line : ℕ) (bytes : List ℕ) (c : Command) → tick_at f line bytes ≡ Ok c → IsPlaced f stoppable c
unfolding tick_at read
tick_fits f stoppable line bytes c e =
    let a = bind_ok (wanted flaw.Line line (tick_in bytes)) _ c e in
    let b = bind_ok (wanted flaw.Operation line (layer_place 0 f.layers a.0.0)) _ c a.2 in
    let d = bind_ok (wanted flaw.Operation line (tick_place 0 (ticks_at f.layers b.0) a.0.1)) _ c b.2 in
    let own = layer_there f.layers a.0.0 b.0 (wanted_ok flaw.Operation line (layer_place 0 f.layers a.0.0) b.0 b.1) in
    let layer : slice_get f.layers b.0 ≡ Some own.item = first_there f.layers b.0 own in
    let ticks = ticks_are f.layers b.0 own.item layer in
    let found = tick_there (ticks_at f.layers b.0) a.0.1 d.0 (wanted_ok flaw.Operation line (tick_place 0 (ticks_at f.layers b.0) a.0.1) d.0 d.1) in
    let there : slice_get own.item.ticks d.0 ≡ Some found.item =
    ap (λ (ts : List tree.Tick). slice_get ts d.0) (sym ticks) ∙ first_there (ticks_at f.layers b.0) d.0 found in
    subst (IsPlaced f stoppable) (ok_is (Tick b.0 d.0) c d.2)
    (record { of = record { own = own.item; tick = found.item; layer_there = layer; tick_there = there }; may = refl })

-- a point that is read
point_fits : (f : File) (bytes : List ℕ) (c : Command) → point_in bytes ≡ Some c → IsPlaced f true c
point_fits f bytes c e = by_front (after_front (codes "before ") bytes) refl
  where
    placed : (within : Bool) (call : ℕ) → call < 2 ^ 64 → IsPlaced f true (Fail within call)
    placed within call small = record { of = small; may = refl }

    by_front : (o : Option (List ℕ)) → after_front (codes "before ") bytes ≡ o → IsPlaced f true c
    by_front (Some number) is =
        let a = map_is (Fail false) (decimal_in number) c (rw is at e) in
        subst (IsPlaced f true) a.2 (placed false a.0 (decimal_fits number a.0 a.1))
    by_front None is =
        let a = map_is (Fail true) (option_and_then decimal_in (after_front (codes "within ") bytes)) c (rw is at e) in
        let b = and_then_is decimal_in (after_front (codes "within ") bytes) a.0 a.1 in
        subst (IsPlaced f true) a.2 (placed true a.0 (decimal_fits b.0 a.0 b.2))

fail_fits : (f : File) (stoppable : Bool) (line : ℕ) (bytes : List ℕ) (c : Command) → fail_at stoppable line bytes ≡ Ok c → IsPlaced f stoppable c
unfolding fail_at
fail_fits f true line bytes c e = point_fits f bytes c (wanted_ok flaw.Line line (point_in bytes) c e)
fail_fits f false line bytes c e = absurd cc

keep_fits : (f : File) (stoppable : Bool) (line : ℕ) (bytes : List ℕ) (c : Command) → keep_at line bytes ≡ Ok c → IsPlaced f stoppable c
unfolding keep_at
keep_fits f stoppable line bytes c e =
    let a = map_is Keep (bits_in bytes) c (wanted_ok flaw.Line line (option_map Keep (bits_in bytes)) c e) in
    subst (IsPlaced f stoppable) a.2 (record { of = tt; may = refl })

lost_fits : (f : File) (stoppable : Bool) (line : ℕ) (text : List ℕ) (c : Command) → lost_at line text ≡ Ok c → IsPlaced f stoppable c
unfolding read
lost_fits f stoppable line text c e = by_test (bytes_eq text (codes "lost")) e
  where
    by_test : (same : Bool) → (if same then Ok Lost else Err (refusal_at flaw.Line line)) ≡ Ok c → IsPlaced f stoppable c
    by_test true h = subst (IsPlaced f stoppable) (ok_is Lost c h) (record { of = tt; may = refl })
    by_test false h = absurd cc

command_fits : (f : File) (stoppable : Bool) (line : ℕ) (text : List ℕ) (c : Command) → command_at f stoppable line text ≡ Ok c → IsPlaced f stoppable c
unfolding command_at
command_fits f stoppable line text c e =
    by_call (after_front (codes "call ") text) (after_front (codes "tick ") text) (after_front (codes "fail ") text) (after_front (codes "keep ") text) e
  where
    by_call : (called ticked failed kept : Option (List ℕ)) →
        ◌≡◌ {A = Read Command} (elim called [
          | Some bytes ↦ call_at f line bytes
          | None ↦
              elim ticked [
                | Some bytes ↦ tick_at f line bytes
                | None ↦
                    elim failed [
                      | Some bytes ↦ fail_at stoppable line bytes
                      | None ↦
                          elim kept [ Some bytes ↦ keep_at line bytes | None ↦ lost_at line text ]
                    ]
              ]
        ]) (Ok c) → IsPlaced f stoppable c
    by_call (Some bytes) ticked failed kept h = call_fits f stoppable line bytes c h
    by_call None (Some bytes) failed kept h = tick_fits f stoppable line bytes c h
    by_call None None (Some bytes) kept h = fail_fits f stoppable line bytes c h
    by_call None None None (Some bytes) h = keep_fits f stoppable line bytes c h
    by_call None None None None h = lost_fits f stoppable line text c h

-- commands of the file, each where it may stand, and fewer than the pieces that they are read from
record ArePlaced (f : File) (stoppable : Bool) (pieces : List (List ℕ)) (cs : List Command) : Type 0 where
  of : AllByRecursion (IsCommandOf f) cs
  may : are_placed stoppable cs ≡ true
  few : length cs + 1 ≤ length pieces

module _ (f : File) (stoppable : Bool) (line : ℕ) (text : List ℕ) (pieces : List (List ℕ)) (cs : List Command)
    (rest : (next : Bool) (more : List Command) → commands_at f next (line + 1) pieces ≡ Ok more → ArePlaced f next pieces more) where
  -- a line of a command, and then others
  goes_on : command_then (command_at f stoppable line text) (λ command. commands_at f (is_stoppable command) (line + 1) pieces) ≡ Ok cs →
      ArePlaced f stoppable (text ∷ pieces) cs
  unfolding read
  goes_on e =
      let a = bind_ok (command_at f stoppable line text) _ cs e in
      let b = bind_ok (commands_at f (is_stoppable a.0) (line + 1) pieces) _ cs a.2 in
      let own = command_fits f stoppable line text a.0 a.1 in
      let more = rest (is_stoppable a.0) b.0 b.1 in
      let fewer : length b.0 + 1 ≤ length pieces = more.few in
      subst (ArePlaced f stoppable (text ∷ pieces)) (ok_is (a.0 ∷ b.0) cs b.2)
      (record { of = (own.of, more.of); may = rw (own.may, more.may) refl; few = omega arith })

  by_tests : (last ends nothing : Bool) → (
      if last then Err (refusal_at flaw.Line line)
      else if ends then (if nothing then Ok [] else Err (refusal_at flaw.Line (line + 1)))
      else command_then (command_at f stoppable line text) (λ command. commands_at f (is_stoppable command) (line + 1) pieces)
      ) ≡ Ok cs → ArePlaced f stoppable (text ∷ pieces) cs
  unfolding read
  by_tests true ends nothing e = absurd cc
  by_tests false true false e = absurd cc
  by_tests false true true e =
      subst (ArePlaced f stoppable (text ∷ pieces)) (ok_is [] cs e) (record { of = tt; may = refl; few = omega arith })
  by_tests false false nothing e = goes_on e

commands_fit : (f : File) (stoppable : Bool) (line : ℕ) (pieces : List (List ℕ)) (cs : List Command) → commands_at f stoppable line pieces ≡ Ok cs →
    ArePlaced f stoppable pieces cs
unfolding commands_at
commands_fit f stoppable line [] cs e = absurd cc
commands_fit f stoppable line (text ∷ pieces) cs e =
    by_tests f stoppable line text pieces cs (λ next more. commands_fit f next (line + 1) pieces more)
    (is_last pieces) (bytes_eq text (codes "end")) (is_nothing pieces) e

-- the same of all lines
record Begun (f : File) (pieces : List (List ℕ)) (cs : List Command) : Type 0 where
  of : AllByRecursion (IsCommandOf f) cs
  may : are_placed false cs ≡ true
  few : length cs + 2 ≤ length pieces

begun : (f : File) (pieces : List (List ℕ)) (cs : List Command) → script_in f pieces ≡ Ok cs → Begun f pieces cs
unfolding script_in
begun f [] cs e = absurd cc
begun f (text ∷ pieces) cs e = by_test (is_last pieces) (bytes_eq text (codes "ygg-script 1")) e
  where
    by_test : (last same : Bool) →
        (if last then Err (refusal_at flaw.Line 1) else if same then commands_at f false 2 pieces else Err (refusal_at flaw.Line 1)) ≡ Ok cs →
        Begun f (text ∷ pieces) cs
    by_test true same h = absurd cc
    by_test false false h = absurd cc
    by_test false true h =
        let placed = commands_fit f false 2 pieces cs h in
        let fewer : length cs + 1 ≤ length pieces = placed.few in
        record { of = placed.of; may = placed.may; few = omega arith }

-- a script of the file, with no more commands than the text has bytes
record Fits (f : File) (text : List ℕ) (cs : List Command) : Type 0 where
  script : IsScriptOf f cs
  small : length cs ≤ length text

script_fits : (f : File) (text : List ℕ) (cs : List Command) → script_of f text ≡ Ok cs → Fits f text cs
script_fits f text cs e =
    let placed = begun f (pieces_of text) cs e in
    let fewer : length cs + 2 ≤ length (slice_split (λ b. b == 10) text) = placed.few in
    let cut : length (slice_split (λ b. b == 10) text) ≡ count_by (λ b. b == 10) text + 1 = length-slice_split (λ b. b == 10) text in
    let short : count_by (λ b. b == 10) text ≤ length text = count_by-le-length (λ b. b == 10) text in
    record { script = record { commands = All-from_recursion (IsCommandOf f) cs placed.of; placed = placed.may }; small = omega arith }

-- the same of what code answers
pub fitting : (f : File) (text : List ℕ) (result : Result (List Command) Refuse) → Gives (λ (x : List Command). x) result (script_of f text) →
    IfOk result (λ x. IsScriptOf f x)
fitting f text (Ok x) gives = (script_fits f text x gives).script
fitting f text (Err refuse) gives = tt

pub few : (f : File) (text : List ℕ) (result : Result (List Command) Refuse) → Gives (λ (x : List Command). x) result (script_of f text) →
    IfOk result (λ x. length x ≤ length text)
few f text (Ok x) gives = (script_fits f text x gives).small
few f text (Err refuse) gives = tt
