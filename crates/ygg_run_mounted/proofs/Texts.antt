-- What a run that was given up has put is a text of its own.
use Rattle.std.proofs.Common.{◌≡◌, ℕ, List, [], Option, Some, None, Err, inl, inr, refl, sym, ap, ◌∙◌, append-nil}
use Rattle.ygg_syntax.specs.declared.tree.File.{File}
use Rattle.ygg_run_commands.specs.ygg_meaning.Machine.{Machine}
use Rattle.ygg_run_commands.specs.ygg_eval.Lower.{Cause}
use Rattle.ygg_run_commands.specs.ygg_report.Putting.{Adds}
use Rattle.ygg_run_commands.specs.ygg_script.declared.command.Command.{Command}
use Rattle.ygg_run_commands.specs.Ran.{run_lines}
use Rattle.ygg_run_commands.specs.Running.{IsRun}
use Rattle.ygg_run_commands.specs.declared.halting.RunHalted.{RunHalted}
use Rattle.ygg_run_commands.specs.declared.halting.RunHalted.TheVariants.{DeviceFailed, SinkFailed, Memory}

-- nothing is added where nothing was taken
pub adds_none : (before now : Option (List ℕ)) → now ≡ before → Adds before [] now
adds_none None now same = tt
adds_none (Some b) now same = same ∙ ap (λ (l : List ℕ). Some l) (sym (append-nil b))

module _ {B X : Type 0} (M : Cause → Machine B X) (f : File) (script : List Command) (from to : B) (before now : Option (List ℕ))
    (DeviceRose SinkRose : Type 0) where
  -- the text, and that it is what such a run puts
  abbrev pub HasText : RunHalted → Type 0
  HasText why = (text : List ℕ) × Adds before text now × IsRun M f script from to (Some []) (Some text) DeviceRose SinkRose (Err why)

  pub text_of : (why : RunHalted) → IsRun M f script from to before now DeviceRose SinkRose (Err why) → HasText why
  text_of DeviceFailed (rose, inl (x, same)) = ([], adds_none before now same, (rose, inl (x, refl)))
  text_of DeviceFailed (rose, inr (rest, es, x, adds)) = (run_lines es, adds, (rose, inr (rest, es, x, refl)))
  text_of SinkFailed (rose, rest, es, x, front, is, adds) = (front, adds, (rose, rest, es, x, front, is, refl))
  text_of Memory (inl (x, same)) = ([], adds_none before now same, inl (x, refl))
  text_of Memory (inr (rest, es, x, front, is, adds)) = (front, adds, inr (rest, es, x, front, is, refl))
