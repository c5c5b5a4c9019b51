-- From how a play ends to what is put.
use Rattle.std.proofs.Common.{ℕ, List, Option, Err, inr, refl}
use Rattle.ygg_base.specs.declared.failure.Refusal.{Refusal}
use Rattle.ygg_base.specs.declared.status.Status.TheVariants as status
use Rattle.ygg_syntax.specs.declared.tree.File.{File}
use Rattle.ygg_run.specs.ygg_type_rules.Files.{IsTyped}
use Rattle.ygg_run.specs.ygg_report.Putting.{Puts}
use Rattle.ygg_run.specs.ygg_script.declared.command.Command.{Command}
use Rattle.ygg_run.specs.ygg_run_play.Played.{Noted, IsPlay}
use Rattle.ygg_run.proofs.of_ygg_run_play.OneText.{files_have_one_way, one_text}
use Rattle.ygg_run.specs.ygg_run_play.Playing.{IsPlayed}
use Rattle.ygg_run.specs.ygg_run_play.declared.halting.PlayHalted.TheVariants as halted
use Rattle.ygg_run.specs.Playing.{PlaysTo, IsFrontOfPlay}

module _ (f : File) (typed : IsTyped f) (script : List Command) (before now : Option (List ℕ)) (SinkRose : Type 0) (text : List ℕ)
    (plays : IsPlay f script text)
  where
    -- the sink failed within the text
    pub fault_puts : IsPlayed (Noted f) f script before now SinkRose (Err halted.SinkFailed) →
        Puts (PlaysTo f script) (IsFrontOfPlay f script) before now SinkRose status.Fault
    fault_puts (rose, front, cut, adds) =
        (rose, front, (status.Done, text, (refl, plays), cut (files_have_one_way f typed) text plays), adds)

    -- no memory was left within the text
    pub memory_puts : IsPlayed (Noted f) f script before now SinkRose (Err halted.Memory) →
        Puts (PlaysTo f script) (IsFrontOfPlay f script) before now SinkRose status.NoMemory
    memory_puts (front, cut, adds) = inr (front, (text, plays, cut (files_have_one_way f typed) text plays), adds)

    -- a script that has a text misses no stop
    pub not_missed : (r : Refusal) → IsPlayed (Noted f) f script before now SinkRose (Err (halted.Unreached r)) → ⊥
    not_missed r (line, is, missed) = (one_text (Noted f) f (files_have_one_way f typed) script).not_both text line plays missed
