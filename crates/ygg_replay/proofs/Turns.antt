-- Calls that a block of an implementation makes of what its layer is specified over, as steps of that machine.
use Rattle.std.proofs.Common.{◌≡◌, ℕ, suc, ◌+◌, Bool, true, false, IsTrue, Some, List, [], ◌∷◌, ◌++◌, length, refl, sym, ap, ◌∙◌, subst, arith}
use Rattle.ygg_value.specs.declared.row.Value.{Value}
use Rattle.ygg_syntax.specs.declared.grammar.BlockKind.TheVariants as kind
use Rattle.ygg_syntax.specs.declared.tree.File.{File}
use Rattle.ygg_sched.specs.ygg_meaning.Environments.{Name, Env}
use Rattle.ygg_sched.specs.ygg_meaning.Progress.{Question, Choice, Call, Answer, Progress, Asks, Ends, Stray}
use Rattle.ygg_sched.specs.ygg_meaning.Machine.{Picks, State, based}
use Rattle.ygg_sched.specs.ygg_meaning.Runs.{Dialogue, WholeCall, Reaches, FallenRun, notes_of}
use Rattle.ygg_sched.specs.ygg_meaning.Runs as runs
use Rattle.ygg_eval.specs.declared.body.Stop.{Stop}
use Rattle.ygg_eval.specs.Lower.{Standing, Happened}
use Rattle.ygg_eval.specs.Lower as ending
use Rattle.ygg_eval.specs.Layers.{signatures_at, machine_at}
use Rattle.ygg_eval.specs.Conversations.{Exchange, Exchanged, Answered, Talks, asked, answers_of, one_call, calls_in}
use Rattle.ygg_eval.specs.Runs.{Came, StoppedAt}
use Rattle.ygg_eval.specs.Runs as block_runs
use Rattle.ygg_eval.specs.Taken.{TakesOnly}
use Rattle.ygg_eval.specs.Kept.{Kept, spec_meaning, named_in}
use Rattle.ygg_eval.specs.Keeping.{takes_both}
use Rattle.ygg_eval.proofs.Stepping.{no_pick}
use Rattle.ygg_eval.specs.ygg_meaning_laws.Questions.{question_fits}

asks_of : (p : Progress) (q : Question) → asked p ≡ Some q → p ≡ Asks q
asks_of (Asks r) q h = let same : r ≡ q = cc in ap (λ x. Asks x) same
asks_of (Ends env a) q h = absurd (cc)
asks_of Stray q h = absurd (cc)

one_more : (n : ℕ) → suc n ≡ 1 + n
one_more n = omega arith

module _ (file : File) (number : ℕ) (block : Dialogue) where
  -- the state of the machine
  abbrev at_state : Standing Kept → State Env
  at_state s = based (named_in file s.machine)

  -- exchanges in turn are calls in turn, as many of them, which took the next picks
  pub record Turns (told : List Answer) (from : Standing Kept) (xs : List (Exchange Kept)) (to : Standing Kept) : Type 0 where
    pub number_is : to.machine.number ≡ number
    pub calls : List (WholeCall Env Bool)
    pub counted : length calls ≡ calls_in xs
    pub answers_are : runs.answers_of calls ≡ answers_of xs
    pub path : Reaches (machine_at file number) block told (at_state from) calls (at_state to)
    pub takes : TakesOnly (notes_of calls) from.power to.power

  no_turn : (told : List Answer) (from to : Standing Kept) → from.machine.number ≡ number → from ≡ to → Turns told from [] to
  no_turn told from to numbered same = subst (λ (s : Standing Kept). Turns told from [] s) same (record {
    number_is = numbered;
    calls = [];
    counted = refl;
    answers_are = refl;
    path = refl;
    takes = no_pick from.power;
  })

  one_turn : (told : List Answer) (from : Standing Kept) (x : Exchange Kept) (xs : List (Exchange Kept)) (to : Standing Kept) (name : Name)
      (args : List Value) → from.machine.number ≡ number → x.question ≡ Call name args → block told ≡ Asks (Call name args) →
      spec_meaning.Calls file from name args (ending.Whole x.answer) x.after →
      (x.after.machine.number ≡ number → Turns (told ++ x.answer ∷ []) x.after xs to) → Turns told from (x ∷ xs) to
  one_turn told from x xs to name args numbered is asks h rest =
      let more = rest (h.number ∙ numbered) in
      let first : WholeCall Env Bool =
      record { name = name; args = args; notes = h.picks; answer = x.answer; after = at_state x.after } in
      record {
        number_is = more.number_is;
        calls = first ∷ more.calls;
        counted = ap suc more.counted ∙ (one_more (calls_in xs) ∙ sym (ap (λ q. one_call q + calls_in xs) is));
        answers_are = ap (λ rest. x.answer ∷ rest) more.answers_are;
        path = (
          asks,
          subst (λ (n : ℕ). (machine_at file n).Calls (at_state from) name args h.picks x.answer (at_state x.after)) numbered h.step,
          more.path,
        );
        takes = takes_both h.picks (notes_of more.calls) from.power x.after.power to.power h.takes more.takes;
      }

  pub turns : (told : List Answer) (from : Standing Kept) (xs : List (Exchange Kept)) (to : Standing Kept) → from.machine.number ≡ number →
      Talks (Exchanged spec_meaning file kind.Impl number) (λ t. asked (block t)) told from xs to → Turns told from xs to
  turns told from [] to numbered same = no_turn told from to numbered same
  turns told from (x ∷ xs) to numbered (asks, ex, rest) =
      at x.question refl (asks_of (block told) x.question asks) ex.asks ex.answered (λ n. turns (told ++ x.answer ∷ []) x.after xs to n rest)
    where
      at : (q : Question) → x.question ≡ q → block told ≡ Asks q → IsTrue (question_fits kind.Impl (signatures_at file number) q) →
          Answered spec_meaning file number from q x.answer x.after
          → (x.after.machine.number ≡ number → Turns (told ++ x.answer ∷ []) x.after xs to) →
          Turns told from (x ∷ xs) to
      at Choice is asks fits answered more = absurd (cc)
      at (Call name args) is asks fits answered more = one_turn told from x xs to name args numbered is asks answered.step more

  pub came_turns : (from at : Standing Kept) → from.machine.number ≡ number → (c : Came spec_meaning file kind.Impl number block from at) →
      Turns [] from c.exchanges at
  came_turns from at numbered c = turns [] from c.exchanges at numbered c.path

  -- a run that was stopped, as one of the machine in which power fails there
  pub record FellThere (stop : Stop) (from to : Standing Kept) : Type 0 where
    pub taken : Picks
    pub run : FallenRun (machine_at file number) block (at_state from) taken (named_in file to.machine)
    pub within : stop.within ≡ run.within
    pub event : stop.event ≡ length run.calls
    pub takes : TakesOnly taken from.power to.power

  pub stopped : (stop : Stop) (from to : Standing Kept) → from.machine.number ≡ number →
      StoppedAt spec_meaning file kind.Impl number block from (Some stop) to →
      FellThere stop from to
  stopped stop from to numbered e = at e.within e.is e.falls
    where
      t : Turns [] from e.came.exchanges e.at
      t = came_turns from e.at numbered e.came

      at : (within : Bool) → block_runs.IsStop (Some stop) within (calls_in e.came.exchanges) →
          block_runs.FallsAt spec_meaning file kind.Impl number block from within Happened (answers_of e.came.exchanges) e.at to → FellThere stop from to
      at true (is, counts) f =
          let h = f.step in
          record {
            taken = notes_of t.calls ++ h.picks;
            run = record {
              calls = t.calls;
              at = at_state e.at;
              path = t.path;
              within = true;
              last = h.picks;
              falls = record {
                name = f.name;
                args = f.args;
                asks = ap block t.answers_are ∙ f.asks;
                falls = subst (λ (n : ℕ). (machine_at file n).Falls (at_state e.at) f.name f.args h.picks (named_in file to.machine)) t.number_is h.step;
              };
              takes = refl;
            };
            within = is;
            event = counts ∙ sym t.counted;
            takes = takes_both (notes_of t.calls) h.picks from.power e.at.power to.power t.takes h.takes;
          }
      at false (is, counts) h = record {
        taken = notes_of t.calls ++ h.picks;
        run = record {
          calls = t.calls;
          at = at_state e.at;
          path = t.path;
          within = false;
          last = h.picks;
          falls = subst (λ (n : ℕ). (machine_at file n).Loses (at_state e.at) h.picks (named_in file to.machine)) t.number_is h.step;
          takes = refl;
        };
        within = is;
        event = counts ∙ sym t.counted;
        takes = takes_both (notes_of t.calls) h.picks from.power e.at.power to.power t.takes h.takes;
      }
