-- Calls of a machine below in turn, as steps of the machine that it is.
use Rattle.std.proofs.Common.{
  ◌≡◌,
  ℕ,
  ◌≤◌,
  Bool,
  true,
  false,
  IsTrue,
  List,
  [],
  ◌∷◌,
  ◌++◌,
  Option,
  Some,
  None,
  Result,
  Ok,
  Err,
  inl,
  inr,
  refl,
  sym,
  ap,
  ◌∙◌,
  subst,
  arith,
}
use Rattle.ygg_base.specs.Outside.{Rose}
use Rattle.ygg_list.specs.declared.memory.NoMemory.{NoMemory}
use Rattle.ygg_value.specs.declared.row.Value.{Value}
use Rattle.ygg_syntax.specs.declared.grammar.BlockKind.TheVariants as kind
use Rattle.ygg_syntax.specs.declared.tree.Declared.{Declared}
use Rattle.ygg_syntax.specs.declared.tree.File.{File}
use Rattle.ygg_eval.specs.ygg_disk.declared.power.Power.{Power}
use Rattle.ygg_eval.specs.ygg_meaning.Environments.{Name}
use Rattle.ygg_eval.specs.ygg_meaning.Progress.{Question, Choice, Call, Answer, Progress, Asks, Ends, Stray}
use Rattle.ygg_eval.specs.ygg_meaning.Machine.{State}
use Rattle.ygg_eval.specs.ygg_meaning.Runs.{Dialogue, WholeCall, Reaches, FallsAt, notes_of}
use Rattle.ygg_eval.specs.ygg_meaning.Runs as runs
use Rattle.ygg_eval.specs.declared.body.Stop.{Stop}
use Rattle.ygg_eval.specs.Lower.{
  Standing,
  Meaning,
  Ending,
  Outage,
  Happened,
  Lacking,
  Cause,
  PowerLoss,
  GivenUp,
  Passes,
  FallsOrLoses,
  KeepsInCall,
  StepsDown,
  StepsInPart,
  StepsLost,
  StepsGivenUp,
  GoesOn,
  IsLower,
}
use Rattle.ygg_eval.specs.Lower as ending
use Rattle.ygg_eval.specs.Layers.{signatures_at}
use Rattle.ygg_eval.specs.ygg_meaning_laws.Questions.{question_fits}
use Rattle.ygg_eval.specs.Conversations.{Exchange, Exchanged, Answered, Talks, asked, answers_of}
use Rattle.ygg_eval.specs.Runs.{Came, Finished, EndedIn, StoppedAt, StarvedAt, FinishedEarly, RunEnds}
use Rattle.ygg_eval.specs.Runs as block_runs
use Rattle.ygg_eval.specs.declared.run.Ended.{Ended}
use Rattle.ygg_eval.specs.declared.run.Ended.TheVariants.{Whole, Stopped, Short, Down, Failed}
use Rattle.ygg_eval.specs.Steps.{RunsWhole, RunsDown, RunsInPart, RunSteps, RunsAreSteps}

asks_of : (p : Progress) (q : Question) → asked p ≡ Some q → p ≡ Asks q
asks_of (Asks r) q h = let same : r ≡ q = cc in ap (λ x. Asks x) same
asks_of (Ends env a) q h = absurd (cc)
asks_of Stray q h = absurd (cc)

passes_both : (a b c : Power) → Passes a b → Passes b c → Passes a c
passes_both a b c p q = record {
  fuse = q.fuse ∙ p.fuse;
  later = let x = p.later in let y = q.later in omega arith;
  unreached = λ f is h. q.unreached f (p.fuse ∙ is) (p.unreached f is h);
}

passes_none : (p : Power) → Passes p p
passes_none p = record { fuse = refl; later = omega arith; unreached = λ f is h. h }

rose_later : (a b c : ℕ) → a ≤ b → Rose b c → Rose a c
rose_later a b c h r = omega arith

module _ {S : Type 0} (M : Meaning S) (keeps : IsLower M) (file : File) (number : ℕ) (block : Dialogue) where
  abbrev Base : Type 0
  Base = M.behavior.Base

  abbrev Note : Type 0
  Note = M.behavior.Note

  abbrev at_state : Standing S → State M.behavior.Base
  at_state s = M.behavior.state file s.machine

  -- calls in turn are steps in turn
  record Turns (told : List Answer) (from : Standing S) (answers : List Answer) (to : Standing S) : Type 0 where
    pub number_is : M.number to.machine ≡ number
    pub later : M.faults from.machine ≤ M.faults to.machine
    pub passes : Passes from.power to.power
    pub calls : List (WholeCall M.behavior.Base M.behavior.Note)
    pub answers_are : runs.answers_of calls ≡ answers
    pub path : (cause : Cause) → Reaches (M.behavior.machine cause file number) block told (at_state from) calls (at_state to)
    pub leaves : M.behavior.Leaves None file from (notes_of calls) to

  no_turn : (told : List Answer) (from to : Standing S) → M.number from.machine ≡ number → from ≡ to → Turns told from [] to
  no_turn told from to numbered same = subst (λ (s : Standing S). Turns told from [] s) same (record {
    number_is = numbered;
    later = omega arith;
    passes = passes_none from.power;
    calls = [];
    answers_are = refl;
    path = λ cause. refl;
    leaves = keeps.leaves_none file from;
  })

  one_turn : (told : List Answer) (from next to : Standing S) (name : Name) (args : List Value) (a : Answer) (answers : List Answer) →
      M.number from.machine ≡ number → block told ≡ Asks (Call name args) → KeepsInCall M file from next name args (ending.Whole a) →
      (M.number next.machine ≡ number → Turns (told ++ a ∷ []) next answers to) → Turns told from (a ∷ answers) to
  one_turn told from next to name args a answers numbered asks k rest =
      let more = rest (k.goes_on.number ∙ numbered) in
      let first : WholeCall M.behavior.Base M.behavior.Note =
      record { name = name; args = args; notes = k.steps.notes; answer = a; after = at_state next } in
      record {
        number_is = more.number_is;
        later = let x = k.goes_on.later in let y = more.later in omega arith;
        passes = passes_both from.power next.power to.power k.power more.passes;
        calls = first ∷ more.calls;
        answers_are = ap (λ rest. a ∷ rest) more.answers_are;
        path = λ cause. (
          asks,
          subst (λ (n : ℕ). (M.behavior.machine cause file n).Calls (at_state from) name args k.steps.notes a (at_state next)) numbered (k.steps.step cause),
          more.path cause,
        );
        leaves = keeps.leaves_both None file from next to k.steps.notes (notes_of more.calls) k.steps.leaves more.leaves;
      }

  turns : (told : List Answer) (from : Standing S) (xs : List (Exchange S)) (to : Standing S) → M.number from.machine ≡ number →
      Talks (Exchanged M file kind.Impl number) (λ t. asked (block t)) told from xs to → Turns told from (answers_of xs) to
  turns told from [] to numbered same = no_turn told from to numbered same
  turns told from (x ∷ xs) to numbered (asks, ex, rest) =
      at x.question (asks_of (block told) x.question asks) ex.asks ex.answered (λ n. turns (told ++ x.answer ∷ []) x.after xs to n rest)
    where
      at : (q : Question) → block told ≡ Asks q → IsTrue (question_fits kind.Impl (signatures_at file number) q) →
          Answered M file number from q x.answer x.after
          → (M.number x.after.machine ≡ number → Turns (told ++ x.answer ∷ []) x.after (answers_of xs) to) →
          Turns told from (x.answer ∷ answers_of xs) to
      at Choice asks fits answered more = absurd (cc)
      at (Call name args) asks fits answered more =
          one_turn told from x.after to name args x.answer (answers_of xs) numbered asks
          (keeps.calls file from x.after name args (ending.Whole x.answer) answered.step) more

  came_turns : (from at : Standing S) → M.number from.machine ≡ number → (c : Came M file kind.Impl number block from at) →
      Turns [] from (answers_of c.exchanges) at
  came_turns from at numbered c = turns [] from c.exchanges at numbered c.path

  module _ (variables : List Declared) (values values' : List Value) (from to : Standing S) (numbered : M.number from.machine ≡ number) where
    -- it goes on from a place that was reached
    on_from : (answers : List Answer) (at : Standing S) → Turns [] from answers at → GoesOn M file at to → GoesOn M file from to
    on_from answers at t g = record {
      number = g.number ∙ t.number_is ∙ sym numbered;
      later = let x = t.later in let y = g.later in omega arith;
    }

    whole : (answer : Answer) → Finished M file kind.Impl number block from variables values values' answer to →
        GoesOn M file from to × RunsWhole M file number block variables values values' from to answer
    whole answer f =
        let t = came_turns from to numbered f.came in (
          record { number = t.number_is ∙ sym numbered; later = t.later },
          record {
            notes = notes_of t.calls;
            env = f.env;
            run = λ cause. record {
              calls = t.calls;
              path = t.path cause;
              ends = ap block t.answers_are ∙ f.ends;
              takes = refl;
            };
            leaves = t.leaves;
            passes = t.passes;
            variables_are = f.leaves;
            fit = f.fit;
          },
        )

    -- a fall or a loss of the machine, where the block asks for a call
    falls_there : (cause : Cause) (within : Bool) (told told' : List Answer) (name : Name) (args : List Value) (s : State M.behavior.Base)
        (notes : List M.behavior.Note) (fallen : M.behavior.Base) → told ≡ told' → block told' ≡ Asks (Call name args) →
        FallsOrLoses within (M.behavior.machine cause file number) s name args notes fallen →
        FallsAt within (M.behavior.machine cause file number) block told s notes fallen
    falls_there cause true told told' name args s notes fallen same asks h = record { name = name; args = args; asks = ap block same ∙ asks; falls = h }
    falls_there cause false told told' name args s notes fallen same asks h = h

    -- power fails in a call
    down_in : (answers : List Answer) (at : Standing S) → Turns [] from answers at → (name : Name) (args : List Value) →
        block answers ≡ Asks (Call name args) → StepsDown M file at to name args → RunsDown M file number block variables values values' from to
    down_in answers at t name args asks s = record {
      notes = notes_of t.calls ++ s.notes;
      run = record {
        calls = t.calls;
        at = at_state at;
        path = t.path PowerLoss;
        within = s.within;
        last = s.notes;
        falls = falls_there PowerLoss s.within (runs.answers_of t.calls) answers name args (at_state at) s.notes (at_state to).base t.answers_are asks
            (subst (λ (n : ℕ). FallsOrLoses s.within (M.behavior.machine PowerLoss file n) (at_state at) name args s.notes (at_state to).base) t.number_is
            s.step);
        takes = refl;
      };
      leaves = keeps.leaves_both (Some PowerLoss) file from at to (notes_of t.calls) s.notes t.leaves s.leaves;
    }

    -- a call is given up
    part_in : (answers : List Answer) (at : Standing S) → Turns [] from answers at → (name : Name) (args : List Value) →
        block answers ≡ Asks (Call name args) → StepsInPart M file at to name args → RunsInPart M file number block variables values values' from to
    part_in answers at t name args asks s = record {
      notes = notes_of t.calls ++ s.notes;
      run = record {
        calls = t.calls;
        at = at_state at;
        path = t.path GivenUp;
        within = s.within;
        last = s.notes;
        falls = falls_there GivenUp s.within (runs.answers_of t.calls) answers name args (at_state at) s.notes (at_state to).base t.answers_are asks
            (subst (λ (n : ℕ). FallsOrLoses s.within (M.behavior.machine GivenUp file n) (at_state at) name args s.notes (at_state to).base) t.number_is
            s.step);
        takes = refl;
      };
      leaves = keeps.leaves_both (Some GivenUp) file from at to (notes_of t.calls) s.notes t.leaves s.leaves;
    }

    -- power fails between calls
    down_between : (answers : List Answer) (at : Standing S) → Turns [] from answers at → StepsLost M file at to →
        RunsDown M file number block variables values values' from to
    down_between answers at t s = record {
      notes = notes_of t.calls ++ s.notes;
      run = record {
        calls = t.calls;
        at = at_state at;
        path = t.path PowerLoss;
        within = false;
        last = s.notes;
        falls = subst (λ (n : ℕ). (M.behavior.machine PowerLoss file n).Loses (at_state at) s.notes (at_state to).base) t.number_is s.step;
        takes = refl;
      };
      leaves = keeps.leaves_both (Some PowerLoss) file from at to (notes_of t.calls) s.notes t.leaves s.leaves;
    }

    -- it is given up between calls
    part_between : (answers : List Answer) (at : Standing S) → Turns [] from answers at → StepsGivenUp M file at to →
        RunsInPart M file number block variables values values' from to
    part_between answers at t s = record {
      notes = notes_of t.calls ++ s.notes;
      run = record {
        calls = t.calls;
        at = at_state at;
        path = t.path GivenUp;
        within = false;
        last = s.notes;
        falls = subst (λ (n : ℕ). (M.behavior.machine GivenUp file n).Loses (at_state at) s.notes (at_state to).base) t.number_is s.step;
        takes = refl;
      };
      leaves = keeps.leaves_both (Some GivenUp) file from at to (notes_of t.calls) s.notes t.leaves s.leaves;
    }

    -- nothing was begun after so many whole calls
    part_here : (answers : List Answer) → Turns [] from answers to → RunsInPart M file number block variables values values' from to
    part_here answers t = record {
      notes = notes_of t.calls ++ [];
      run = record {
        calls = t.calls;
        at = at_state to;
        path = t.path GivenUp;
        within = false;
        last = [];
        falls = subst (λ (n : ℕ). (M.behavior.machine GivenUp file n).Loses (at_state to) [] (at_state to).base) t.number_is (keeps.rests file to.machine);
        takes = refl;
      };
      leaves = keeps.leaves_both (Some GivenUp) file from to to (notes_of t.calls) [] t.leaves (keeps.leaves_rest file to);
    }

    abbrev Kept : Result Ended NoMemory → Type 0
    Kept result = GoesOn M file from to × RunSteps M file number block variables values values' from to result

    ended_down : (stop : Option Stop) → EndedIn M file kind.Impl number block from stop ending.Down to → Kept (Ok Down)
    ended_down stop e =
        let t = came_turns from e.at numbered e.came in
        let k = keeps.calls file e.at to e.name e.args ending.Down e.step in
        let (passes, named) = k.power in (
          on_from (answers_of e.came.exchanges) e.at t k.goes_on,
          (
            down_in (answers_of e.came.exchanges) e.at t e.name e.args e.asks k.steps,
            passes_both from.power e.at.power to.power t.passes passes,
            named,
          ),
        )

    ended_failed : (stop : Option Stop) → EndedIn M file kind.Impl number block from stop ending.Failed to → Kept (Ok Failed)
    ended_failed stop e =
        let t = came_turns from e.at numbered e.came in
        let k = keeps.calls file e.at to e.name e.args ending.Failed e.step in
        let (passes, unnamed) = k.power in
        let (part, rose) = k.steps in (
          on_from (answers_of e.came.exchanges) e.at t k.goes_on,
          (
            part_in (answers_of e.came.exchanges) e.at t e.name e.args e.asks part,
            passes_both from.power e.at.power to.power t.passes passes,
            unnamed,
            rose_later (M.faults from.machine) (M.faults e.at.machine) (M.faults to.machine) t.later rose,
          ),
        )

    ended_starved : (stop : Option Stop) (e : NoMemory) → EndedIn M file kind.Impl number block from stop ending.Starved to → Kept (Err e)
    ended_starved stop none e =
        let t = came_turns from e.at numbered e.came in
        let k = keeps.calls file e.at to e.name e.args ending.Starved e.step in
        (on_from (answers_of e.came.exchanges) e.at t k.goes_on, part_in (answers_of e.came.exchanges) e.at t e.name e.args e.asks k.steps)

    stopped : (stop : Option Stop) → StoppedAt M file kind.Impl number block from stop to → Kept (Ok Stopped)
    stopped stop e = at e.within e.falls
      where
        t : Turns [] from (answers_of e.came.exchanges) e.at
        t = came_turns from e.at numbered e.came

        at : (within : Bool) → block_runs.FallsAt M file kind.Impl number block from within Happened (answers_of e.came.exchanges) e.at to → Kept (Ok Stopped)
        at true f =
            let k = keeps.falls file e.at to f.name f.args Happened f.step in
            (on_from (answers_of e.came.exchanges) e.at t k.goes_on, down_in (answers_of e.came.exchanges) e.at t f.name f.args f.asks k.steps)
        at false f =
            let k = keeps.loses file e.at to Happened f in
            (on_from (answers_of e.came.exchanges) e.at t k.goes_on, down_between (answers_of e.came.exchanges) e.at t k.steps)

    starved_there : (stop : Option Stop) (none : NoMemory) → StarvedAt M file kind.Impl number block from stop to → Kept (Err none)
    starved_there stop none e = at e.within e.falls
      where
        t : Turns [] from (answers_of e.came.exchanges) e.at
        t = came_turns from e.at numbered e.came

        at : (within : Bool) → block_runs.FallsAt M file kind.Impl number block from within Lacking (answers_of e.came.exchanges) e.at to → Kept (Err none)
        at true f =
            let k = keeps.falls file e.at to f.name f.args Lacking f.step in
            (on_from (answers_of e.came.exchanges) e.at t k.goes_on, part_in (answers_of e.came.exchanges) e.at t f.name f.args f.asks k.steps)
        at false f =
            let k = keeps.loses file e.at to Lacking f in
            (on_from (answers_of e.came.exchanges) e.at t k.goes_on, part_between (answers_of e.came.exchanges) e.at t k.steps)

    came_starved : (none : NoMemory) → Came M file kind.Impl number block from to → Kept (Err none)
    came_starved none c =
        let t = came_turns from to numbered c in
        (record { number = t.number_is ∙ sym numbered; later = t.later }, part_here (answers_of c.exchanges) t)

    pub run_kept : (stop : Option Stop) (result : Result Ended NoMemory) →
        RunEnds M file kind.Impl number block from variables values stop result values' to → Kept result
    run_kept stop (Ok (Whole answer)) (none_asked, f) = whole answer f
    run_kept stop (Ok Short) e = let (goes_on, runs_whole) = whole e.answer e.done in (goes_on, (e.answer, runs_whole))
    run_kept stop (Ok Stopped) e = stopped stop e
    run_kept stop (Ok Down) e = ended_down stop e
    run_kept stop (Ok Failed) e = ended_failed stop e
    run_kept stop (Err none) (inl e) = ended_starved stop none e
    run_kept stop (Err none) (inr (inl c)) = came_starved none c
    run_kept stop (Err none) (inr (inr e)) = starved_there stop none e

-- however a run of a block that makes no choice ends, it is a run on the machine whose steps the calls are
pub runs_are_steps : {S : Type 0} (M : Meaning S) → IsLower M → RunsAreSteps M
runs_are_steps M keeps file number block variables values values' stop result from to numbered ends =
    run_kept M keeps file number block variables values values' from to numbered stop result ends
