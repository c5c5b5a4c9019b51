-- A command that was done, and its line that was put or wasn't.
use Rattle.std.proofs.Common.{◌≡◌, ℕ, List, Option, Result, Ok, Err, IsErrAnd, inl, inr, refl, sym, ap, subst}
use Rattle.ygg_syntax.specs.declared.tree.File.{File}
use Rattle.ygg_run.specs.ygg_disk.Ground.{Meaning}
use Rattle.ygg_run.specs.ygg_meaning.Progress.{Answer}
use Rattle.ygg_run.specs.ygg_machine.Bottoms.{View}
use Rattle.ygg_run.specs.ygg_report.Lines.{ended}
use Rattle.ygg_run.specs.ygg_script.declared.command.Command.{Command}
use Rattle.ygg_run.specs.ygg_run_play.Lines.{answer_text}
use Rattle.ygg_run_commands.specs.Doing.{IsPut, entry_line, Did, Answered}
use Rattle.ygg_run_commands.specs.declared.halting.RunHalted.{RunHalted}
use Rattle.ygg_run_commands.specs.declared.halting.RunHalted.TheVariants.{DeviceFailed, SinkFailed, Memory}

module _ {S : Type 0} (G : Meaning S) (f : File) (v v' : View S) (c : Command) (before : Option (List ℕ)) (SinkRose : Type 0) where
  undone : (x : RunHalted) → Did G f v v' c (Err x) → Answered G f v v' c before before SinkRose (Err x)
  undone DeviceFailed d = record { so = (d.so.0, d.so.1, refl); later = d.later }
  undone SinkFailed d = absurd d.so
  undone Memory d = record { so = (inl d.so, refl); later = d.later }

  -- it was given up
  pub not_done : (x : RunHalted) (result : Result (Unit {0}) RunHalted) → IsErrAnd result (λ y. y ≡ x) → Did G f v v' c (Err x) →
      Answered G f v v' c before before SinkRose result
  not_done x (Ok done) same d = absurd same
  not_done x (Err y) same d = subst (λ (z : RunHalted). Answered G f v v' c before before SinkRose (Err z)) (sym same) (undone x d)

  -- it was done, and there was no memory for its line
  pub no_line : (answer : Answer) (result : Result (Unit {0}) RunHalted) → IsErrAnd result (λ y. y ≡ Memory) → Did G f v v' c (Ok answer) →
      Answered G f v v' c before before SinkRose result
  no_line answer (Ok done) same d = absurd same
  no_line answer (Err y) same d =
      subst (λ (z : RunHalted). Answered G f v v' c before before SinkRose (Err z)) (sym same)
      (record { so = (inr (d.so.0, d.so.1), refl); later = d.later })

  module _ (now : Option (List ℕ)) (answer : Answer) (d : Did G f v v' c (Ok answer)) where
    line_is : ended (answer_text answer) ≡ entry_line d.so.0
    line_is = ap (λ (a : Answer). ended (answer_text a)) (sym d.so.2)

    put_so : (result : Result (Unit {0}) RunHalted) → IsPut (entry_line d.so.0) before now SinkRose result → Answered G f v v' c before now SinkRose result
    put_so (Ok done) put = record { so = (d.so.0, d.so.1, put); later = d.later }
    put_so (Err DeviceFailed) put = absurd put
    put_so (Err SinkFailed) (rose, front, is, adds) = record { so = (rose, d.so.0, d.so.1, front, is, adds); later = d.later }
    put_so (Err Memory) same = record { so = (inr (d.so.0, d.so.1), same); later = d.later }

    -- its line was put, or not wholly
    pub line_put : (result : Result (Unit {0}) RunHalted) → IsPut (ended (answer_text answer)) before now SinkRose result →
        Answered G f v v' c before now SinkRose result
    line_put result put = put_so result (subst (λ (l : List ℕ). IsPut l before now SinkRose result) line_is put)
