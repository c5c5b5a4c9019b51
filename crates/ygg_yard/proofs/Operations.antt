-- What the blocks of a file that is made do, on the disk and on the specification.
use Rattle.std.proofs.Common.{
  ◌≡◌,
  ℕ,
  ◌^◌,
  Bool,
  true,
  false,
  ◌&&◌,
  if◌then◌else◌,
  List,
  [],
  ◌∷◌,
  length,
  take,
  Option,
  Some,
  None,
  codes,
  refl,
  sym,
  ap,
  ◌∙◌,
  subst,
}
use Rattle.std.specs.Prelude.{nat_lt}
use Rattle.std.proofs.lemmas.Bool.{and_from}
use Rattle.ygg_value.specs.Number.{Grid, Digits}
use Rattle.ygg_value.specs.Words.{word}
use Rattle.ygg_value.specs.Values.{word_in, table_write, with_part}
use Rattle.ygg_value.specs.declared.row.Value.{Value}
use Rattle.ygg_value.specs.declared.row.Value.TheVariants.{Word, Row, Table}
use Rattle.ygg_value.specs.declared.shape.Shape.TheVariants as shape
use Rattle.ygg_syntax.specs.declared.tree.Place.{Place}
use Rattle.ygg_syntax.specs.declared.tree.Expr.TheVariants as expr
use Rattle.ygg_syntax.specs.declared.tree.Source.TheVariants as source
use Rattle.ygg_syntax.specs.declared.tree.Block.{Block}
use Rattle.ygg_syntax.specs.declared.tree.Operation.{Operation}
use Rattle.ygg_meaning_laws.specs.ygg_meaning.Environments.{Env, look_up, assign, bind}
use Rattle.ygg_meaning_laws.specs.ygg_meaning.Meaning.{functions_of, row_of}
use Rattle.ygg_meaning_laws.specs.ygg_meaning.Shapes.{words_fit, fits, values_fit}
use Rattle.ygg_meaning_laws.specs.ygg_meaning.Progress.{Eval, Run, Answer, Call, Asks, Ends, ended, in_turn}
use Rattle.ygg_meaning_laws.specs.ygg_meaning.Machine.{State, based, on, memory_in, Machine}
use Rattle.ygg_meaning_laws.specs.ygg_meaning.Runs.{Dialogue, WholeRun, FallenRun}
use Rattle.ygg_meaning_laws.specs.ygg_meaning.Layer.{ClosedLayer, eval_of, dialogue_of, BlockRuns, BlockFalls}
use Rattle.ygg_meaning_laws.specs.ygg_meaning.Spec.{Outcome, outcome_at, call_outcome, crash_outcome}
use Rattle.ygg_meaning_laws.proofs.Tests.{bytes_equal}
use Rattle.ygg_meaning_laws.proofs.ProgressFits.{word_bits}
use Rattle.ygg_yard.specs.Trees.{Places, name_at, number_at, unwritten, row_number, row_given, index_made, operation_made}
use Rattle.ygg_yard.proofs.Dialogues.{quiet_run}
use Rattle.ygg_yard.proofs.Relations.{vars_of, L}
use Rattle.ygg_yard.proofs.Values.{worth_constant, worth_variable, worth_row, run_assign, run_call}

tail_of : List Env → List Env
tail_of [] = []
tail_of (m ∷ ms) = ms

-- the state below
lower_in : State Env → State Env
lower_in s = record { memories = tail_of s.memories; base = s.base }

peeled : (m m' : Env) (l l' : State Env) → on m l ≡ on m' l' → (m ≡ m') × (l ≡ l')
unfolding lower_in tail_of
peeled m m' l l' e = (ap memory_in e, ap lower_in e)

-- runs of a block of a layer that has no memory
module _ (K : ClosedLayer) (M : Machine Env Bool) (b : Block) (args low : Env) where
  pub record Whole (notes : List Bool) (y : Answer) (to : State Env) : Type 0 where
    pub env : Env
    pub lower : State Env
    pub run : WholeRun M (dialogue_of K b [] args) (based low) notes env y lower
    pub to_is : to ≡ on [] lower

  pub whole : (notes : List Bool) (y : Answer) (to : State Env) → BlockRuns K M b args (on [] (based low)) notes y to → Whole notes y to
  whole notes y to r =
      let same = peeled [] r.memory (based low) r.lower r.from_is in
      record {
        env = r.env';
        lower = r.lower';
        run = subst (λ (s : State Env). WholeRun M (dialogue_of K b [] args) s notes r.env' y r.lower') (sym same.1)
            (subst (λ (m : Env). WholeRun M (dialogue_of K b m args) r.lower notes r.env' y r.lower') (sym same.0) r.run);
        to_is = r.to_is ∙ ap (λ (m : Env). on (take (length m) r.env') r.lower') (sym same.0);
      }

  pub fallen_run : (notes : List Bool) (fallen : Env) → BlockFalls K M b args (on [] (based low)) notes fallen →
      FallenRun M (dialogue_of K b [] args) (based low) notes fallen
  fallen_run notes fallen r =
      let same = peeled [] r.memory (based low) r.lower r.from_is in
      subst (λ (s : State Env). FallenRun M (dialogue_of K b [] args) s notes fallen) (sym same.1)
      (subst (λ (m : Env). FallenRun M (dialogue_of K b m args) r.lower notes fallen) (sym same.0) r.run)

module _ (p : Places) (count : ℕ) where
  -- a block that isn't written does nothing
  pub nothing_done : (M : Machine Env Bool) (low : Env) (notes : List Bool) (y : Answer) (to : State Env) →
      BlockRuns (L p count) M unwritten [] (on [] (based low)) notes y to → to ≡ on [] (based low)
  nothing_done M low notes y to r =
      let w = whole (L p count) M unwritten [] low notes y to r in
      w.to_is ∙ ap (on []) (sym (quiet_run M (dialogue_of (L p count) unwritten [] []) [] None refl (based low) w.lower notes w.env y w.run))

  module _ (at : ℕ → Place) (number : ℕ) where
    abbrev pub o : Operation
    o = operation_made at number

    abbrev eval : Eval
    eval = eval_of (L p count)

    -- the arguments of a call
    pub record Given (args : List Value) : Type 0 where
      pub word : Value
      pub is : args ≡ word ∷ []
      pub fit : words_fit 8 1 (row_of (word ∷ [])).words ≡ true

    pub given : (args : List Value) → values_fit o.arguments args ≡ true → Given args
    given [] h = absurd (cc)
    given (w ∷ []) h =
        let fit : fits (shape.Word 8) w ≡ true = both (fits (shape.Word 8) w) true h in
        record { word = w; is = refl; fit = and_from (nat_lt (word_in w).bits (2 ^ 8)) true (word_bits 8 w fit) refl }
      where
        both : (a b : Bool) → (a && b) ≡ true → a ≡ true
        both true b h = refl
        both false b h = absurd (cc)
    given (w ∷ v ∷ vs) h = no (fits (shape.Word 8) w) h
      where
        no : (a : Bool) → (a && false) ≡ true → Given (w ∷ v ∷ vs)
        no true h = absurd (cc)
        no false h = absurd (cc)

    module _ (w : Value) where
      abbrev pub row : Digits
      row = row_of (w ∷ [])

      abbrev pub D : Dialogue
      D = dialogue_of (L p count) o.implementation [] (bind o.arguments (w ∷ []))

      abbrev env : Env
      env = (codes "v", w) ∷ []

      -- what its names are worth at its end
      abbrev pub left_env : Env
      left_env = take (length env) env

      abbrev pub write_args : List Value
      write_args = Word (word 8 number) ∷ Row row ∷ []

      found : look_up (codes "v") env ≡ w
      found = ap (λ b. if b then w else look_up (codes "v") []) (bytes_equal (codes "v"))

      number_is : (e : Env) (a b : ℕ) → eval (row_number at number a b) e ≡ Word (word 8 number)
      number_is e a b = worth_constant (functions_of []) (record { own = e; low = [] }) (number_at number (at a)) (number_at 8 (at b))

      row_is : (e : Env) (a b : ℕ) → look_up (codes "v") e ≡ w → eval (row_given at number a b) e ≡ Row row
      row_is e a b h =
          worth_row (functions_of []) (record { own = e; low = [] }) (at a) (expr.Variable (name_at (codes "v") (at b)))
          ∙ ap (λ (v : Value). Row (row_of (v ∷ []))) (worth_variable (functions_of []) (record { own = e; low = [] }) (name_at (codes "v") (at b)) ∙ h)

      -- the implementation writes the row
      pub asks : D [] ≡ Asks (Call (codes "write") write_args)
      asks =
          ap (λ (r : Run). ended eval None env (in_turn (r ∷ []) env []))
          (run_call eval (name_at (codes "write") (at 26)) (row_number at number 28 30 ∷ row_given at number 32 34 ∷ []))
          ∙ ap (λ (v : Value). Asks (Call (codes "write") (v ∷ eval (row_given at number 32 34) env ∷ []))) (number_is env 28 30)
          ∙ ap (λ (v : Value). Asks (Call (codes "write") (Word (word 8 number) ∷ v ∷ []))) (row_is env 32 34 found)

      -- and ends
      pub ends : (a : Answer) → D (a ∷ []) ≡ Ends left_env None
      ends a =
          ap (λ (r : Run). ended eval None env (in_turn (r ∷ []) env (a ∷ [])))
          (run_call eval (name_at (codes "write") (at 26)) (row_number at number 28 30 ∷ row_given at number 32 34 ∷ []))

      module _ (g : Grid) where
        abbrev all : Env
        all = (codes "t", Table g) ∷ (codes "v", w) ∷ []

        abbrev pub after_put : Grid
        after_put = table_write g number row

        -- the variables after a part of the table got a value
        abbrev done : List Answer → Env → Option Outcome
        done answers e = Some (record { vars = take 1 e; answer = None; left = answers })

        abbrev put : List Answer → Value → Value → Value → Option Outcome
        put answers old index new = done answers (assign all (codes "t") (with_part old ((word_in index).bits ∷ []) new))

        -- the specification puts it into its table
        pub puts : (answers : List Answer) → call_outcome (L p count) o (vars_of g) (w ∷ []) answers
            ≡ Some (record { vars = vars_of after_put; answer = None; left = answers })
        puts answers =
            ap (λ (r : Run). outcome_at eval o.spec (vars_of g) (in_turn (r ∷ []) all answers))
            (run_assign eval (name_at (codes "t") (at 10)) (index_made at number ∷ []) (source.Value (row_given at number 17 19)))
            ∙ ap (λ (v : Value). put answers v (eval (row_number at number 12 14) all) (eval (row_given at number 17 19) all))
            (ap (λ b. if b then Table g else look_up (codes "t") env) (bytes_equal (codes "t")))
            ∙ ap (λ (v : Value). put answers (Table g) v (eval (row_given at number 17 19) all)) (number_is all 12 14)
            ∙ ap (λ (v : Value). put answers (Table g) (Word (word 8 number)) v) (row_is all 17 19 found)
            ∙ ap (λ b. done answers (if b then (codes "t", Table after_put) ∷ env else (codes "t", Table g) ∷ assign env (codes "t") (Table after_put)))
            (bytes_equal (codes "t"))

  -- power loss changes no variable
  pub kept : (g : Grid) (answers : List Answer) → crash_outcome (L p count) (vars_of g) answers
      ≡ Some (record { vars = vars_of g; answer = None; left = answers })
  kept g answers = refl
