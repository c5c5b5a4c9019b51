-- From verdicts on a file to what is told of `verify` and of `demo`.
use Rattle.std.proofs.Common.{◌≡◌, ◌<◌, inl, inr, ℕ, Bool, true, false, if◌then◌else◌, List, Option, Some, refl, sym, ap, subst}
use Rattle.ygg_base.specs.declared.lists.Held.{Held}
use Rattle.ygg_base.specs.declared.status.Status.{Status}
use Rattle.ygg_base.specs.declared.status.Status.TheVariants.{Done, Refuted, Refused, Undecided, Fault, NoMemory}
use Rattle.ygg_syntax.specs.declared.tree.File.{File}
use Rattle.ygg_top.specs.ygg_report.Lines.{refused_line}
use Rattle.ygg_top.specs.ygg_report.Putting.{NoFront, Puts}
use Rattle.ygg_oblige_reading.specs.ygg_rules.declared.rule.RuleKind.{RuleKind}
use Rattle.ygg_top.specs.ygg_top_command.declared.stopping.CommandStop.{CommandStop}
use Rattle.ygg_top.specs.ygg_top_command.declared.stopping.CommandStop.TheVariants as stop
use Rattle.ygg_top.specs.ygg_top_command.Fetched.{StandsFile}
use Rattle.ygg_top.specs.ygg_top_command.Refusing.{IsLayerFile}
use Rattle.ygg_top.specs.ygg_top_command.Reports.{MayStop, Told}
use Rattle.ygg_top.specs.ygg_top_command.Standing.{DoesWith, DoesWithin}
use Rattle.ygg_top.specs.ygg_top_command.Words.{IsBudget, IsNumber}
use Rattle.ygg_top.proofs.of_ygg_top_command.Telling.{puts_told, told_to}
use Rattle.ygg_top.specs.Verdict.{Verified, Counted, any_failed, any_spent}
use Rattle.ygg_top.specs.Verifying.{Verifies, Demos, DemosMade, VerifyingIs, IsCutRun, Streams, IsMadeFor, IsNumberless, most_operations}

-- what is so of each status that verdicts may come to is so of the one that they come to
by_verdicts : (P : Status → Type 0) (failed spent : Bool) (status : Status) → status ≡ (if failed then Refuted else if spent then Undecided else Done) →
    P Done → P Refuted → P Undecided → P status
by_verdicts P true spent status e done refuted undecided = subst P (sym e) refuted
by_verdicts P false true status e done refuted undecided = subst P (sym e) undecided
by_verdicts P false false status e done refuted undecided = subst P (sym e) done

-- the verdicts on a layer file are how `verify` ends for its bytes
verdict_verifies : (kinds : List RuleKind) (budget : ℕ) (bytes : List ℕ) (f : File) (status : Status) (text : List ℕ) → IsLayerFile bytes f →
    Verified kinds f budget status text → Verifies kinds budget (Some bytes) status text
verdict_verifies kinds budget bytes f status text is verdict =
    by_verdicts (λ (s : Status). Verified kinds f budget s text → Verifies kinds budget (Some bytes) s text) (any_failed verdict.by.verdicts)
    (any_spent verdict.by.verdicts) status verdict.by.status_is (λ v. (bytes, f, refl, is, v)) (λ v. (bytes, f, refl, is, v)) (λ v. (bytes, f, refl, is, v))
    verdict

-- what is told of a file that is verified
module _ (kinds : List RuleKind) (Does : Status → List ℕ → Type 0) (before now : Option (List ℕ)) (LibraryRose SinkRose : Type 0) where
  stream_told : (f : File) (budget : ℕ) (result : Status) → VerifyingIs kinds f budget Does → Streams kinds f budget before now SinkRose result →
      Told Does (IsCutRun kinds Does) before now LibraryRose SinkRose result
  stream_told f budget Done does is = record { reports = (is.0, does.1 Done is.0 is.1, is.2) }
  stream_told f budget Refuted does is = record { reports = (is.0, does.1 Refuted is.0 is.1, is.2) }
  stream_told f budget Undecided does is = record { reports = (is.0, does.1 Undecided is.0 is.1, is.2) }
  stream_told f budget Refused does is = absurd is
  stream_told f budget Fault does is =
      record { reports = inr (is.0, is.1, inr (record { file = f; budget = budget; does = does; cut = is.2 }), is.3) }
  stream_told f budget NoMemory does (inl same) = record { reports = inl same }
  stream_told f budget NoMemory does (inr is) =
      record { reports = inr (is.0, record { file = f; budget = budget; does = does; cut = is.1 }, is.2) }

-- a front of the text of verdicts, of one command and so of another
cut_run_to : (kinds : List RuleKind) (Does Other : Status → List ℕ → Type 0) (front : List ℕ) →
    ((status : Status) (text : List ℕ) → Does status text → Other status text) → IsCutRun kinds Does front → IsCutRun kinds Other front
cut_run_to kinds Does Other front to cut = record {
  file = cut.file;
  budget = cut.budget;
  does = (cut.does.0, λ status text verdict. to status text (cut.does.1 status text verdict));
  cut = cut.cut;
}

module _ (kinds : List RuleKind) (files : Option (List Held)) (name : List ℕ) (before now : Option (List ℕ)) (LibraryRose SinkRose : Type 0) (result : Status)
  where
    -- what is told of a command that verifies a file
    abbrev pub RunTold : (Status → List ℕ → Type 0) → Type 0
    RunTold Does = Told Does (IsCutRun kinds Does) before now LibraryRose SinkRose result

    -- the file that stands there is verified
    pub file_told : (f : File) (budget : ℕ) → 0 < budget → StandsFile files name f → Streams kinds f budget before now SinkRose result →
        RunTold (DoesWith (Verifies kinds budget) files name)
    file_told f budget positive stands is =
        stream_told kinds (DoesWith (Verifies kinds budget) files name) before now LibraryRose SinkRose f budget result
        (positive, λ status text verdict. (Some stands.0, stands.1, verdict_verifies kinds budget stands.0 f status text stands.2 verdict)) is

    -- it is verified within the budget that a word is
    pub within_told : (word : List ℕ) (budget : ℕ) → IsBudget word budget → RunTold (DoesWith (Verifies kinds budget) files name) →
        RunTold (DoesWithin (Verifies kinds) files name word)
    within_told word budget is told =
        let Does = DoesWith (Verifies kinds budget) files name in
        let Other = DoesWithin (Verifies kinds) files name word in
        let to : (status : Status) (text : List ℕ) → Does status text → Other status text = λ status text does. inl (budget, is, does) in
        told_to Does Other (IsCutRun kinds Does) (IsCutRun kinds Other) before now LibraryRose LibraryRose SinkRose result to
        (λ front cut. cut_run_to kinds Does Other front to cut) (λ rose. rose) told

module _ (kinds : List RuleKind) where
  -- where no memory is left for the file, `demo` may stop
  pub none_made : (number : ℕ) (why : CommandStop) → why ≡ stop.NoMemory → MayStop (DemosMade kinds number) ⊥ why
  none_made number why none = subst (λ (s : CommandStop). MayStop (DemosMade kinds number) ⊥ s) (sym none) tt

  -- where there is no number, it may stop too
  pub no_number : (word : List ℕ) (why : CommandStop) → IsNumberless word why → MayStop (Demos kinds word) ⊥ why
  no_number word (stop.Refused r) none = inr (none.0, (refl, ap refused_line none.1))
  no_number word stop.LibraryFailed none = none
  no_number word stop.NoMemory none = tt

  module _ (before now : Option (List ℕ)) (SinkRose : Type 0) (result : Status) where
    -- the verdicts on the file that is made are counted
    pub made_told : (number : ℕ) (f : File) → IsMadeFor number f → Puts (Counted kinds number f) NoFront before now SinkRose result →
        Told (DemosMade kinds number) NoFront before now ⊥ SinkRose result
    made_told number f is puts =
        puts_told (DemosMade kinds number) NoFront before now ⊥ SinkRose result (Counted kinds number f) NoFront (λ status text verdict. (f, is.file, verdict))
        (λ front none. none) puts

    -- a word that is a number
    pub number_told : (word : List ℕ) (number : ℕ) → IsNumber most_operations word number →
        Told (DemosMade kinds number) NoFront before now ⊥ SinkRose result → Told (Demos kinds word) NoFront before now ⊥ SinkRose result
    number_told word number is told =
        told_to (DemosMade kinds number) (Demos kinds word) NoFront NoFront before now ⊥ ⊥ SinkRose result
        (λ status text does. inl (number, is, does)) (λ front none. none) (λ rose. rose) told
