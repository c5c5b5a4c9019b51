-- What each kind of line of a script says of a file, or its refusal, where the line has this number. Of the three refusals the one that
-- comes first here is tried first.
use Rattle.std.specs.Prelude.{ℕ, Bool, true, false, if◌then◌else◌, List, Option, Some, None, Ok, Err, option_and_then, codes}
use Rattle.std.specs.Option.{option_map}
use Rattle.std.specs.Str.{bytes_eq}
use Rattle.ygg_syntax.specs.declared.tree.File.{File}
use Rattle.ygg_sched.specs.ygg_type.Typed.{ticks_at, operation_place, tick_place}
use Rattle.ygg_sched.specs.Words.{after_front}
use Rattle.ygg_sched.specs.Numbers.{decimal_in, bits_in}
use Rattle.ygg_sched.specs.Lines.{Read, ◌>>=◌}
use Rattle.ygg_script.specs.declared.command.Command.{Command}
use Rattle.ygg_script.specs.declared.command.Command.TheVariants.{Call, Tick, Lost, Fail, Keep}
use Rattle.ygg_script.specs.declared.flaw.ScriptFlaw.TheVariants.{Line, Operation, Argument}
use Rattle.ygg_script.specs.Flaws.{refusal_at, wanted, checked}
use Rattle.ygg_script.specs.Names.{call_in, tick_in}
use Rattle.ygg_script.specs.Places.{top_operations, arguments_at, layer_place, values_in}

-- `call `, and then an operation of the topmost layer with a value for each argument
unfoldable pub call_at : File → ℕ → List ℕ → Read Command
call_at f line bytes = do
  written ← wanted Line line (call_in bytes)
  op ← wanted Operation line (operation_place 0 (top_operations f) written.0)
  args ← wanted Argument line (values_in (arguments_at (top_operations f) op) written.1)
  Ok (Call op args)

-- `tick `, and then a background step
unfoldable pub tick_at : File → ℕ → List ℕ → Read Command
tick_at f line bytes = do
  names ← wanted Line line (tick_in bytes)
  layer ← wanted Operation line (layer_place 0 f.layers names.0)
  number ← wanted Operation line (tick_place 0 (ticks_at f.layers layer) names.1)
  Ok (Tick layer number)

-- the point that is written after `fail `: before so many disk calls are whole, or within the call of this number
abbrev pub point_in : List ℕ → Option Command
point_in bytes = elim (after_front (codes "before ") bytes) [
  | Some number ↦ option_map (Fail false) (decimal_in number)
  | None ↦ option_map (Fail true) (option_and_then decimal_in (after_front (codes "within ") bytes))
]

-- `fail `, and then a point, where a command stands before that can fail so
unfoldable pub fail_at : Bool → ℕ → List ℕ → Read Command
fail_at stoppable line bytes = do
  follows ← checked Line line stoppable
  wanted Line line (point_in bytes)

-- `keep `, and then picks
unfoldable pub keep_at : ℕ → List ℕ → Read Command
keep_at line bytes = wanted Line line (option_map Keep (bits_in bytes))

-- a line of one word, or of no form
abbrev pub lost_at : ℕ → List ℕ → Read Command
lost_at line text = if bytes_eq text (codes "lost") then Ok Lost else Err (refusal_at Line line)

-- a line between the first and the last
unfoldable pub command_at : File → Bool → ℕ → List ℕ → Read Command
command_at f stoppable line text =
    elim (after_front (codes "call ") text) [
      | Some bytes ↦ call_at f line bytes
      | None ↦
          elim (after_front (codes "tick ") text) [
            | Some bytes ↦ tick_at f line bytes
            | None ↦
                elim (after_front (codes "fail ") text) [
                  | Some bytes ↦ fail_at stoppable line bytes
                  | None ↦
                      elim (after_front (codes "keep ") text) [ Some bytes ↦ keep_at line bytes | None ↦ lost_at line text ]
                ]
          ]
    ]
