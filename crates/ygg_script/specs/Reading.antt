-- The commands that a text is for a file, or else the refusal of its first line that is at fault.
use Rattle.std.specs.Prelude.{ℕ, ◌+◌, Bool, true, false, if◌then◌else◌, List, [], ◌∷◌, Ok, Err, codes}
use Rattle.std.specs.Str.{bytes_eq}
use Rattle.ygg_syntax.specs.declared.tree.File.{File}
use Rattle.ygg_sched.specs.Words.{is_empty, parts}
use Rattle.ygg_sched.specs.Lines.{Read, ◌>>=◌}
use Rattle.ygg_script.specs.declared.command.Command.{Command}
use Rattle.ygg_script.specs.declared.command.Command.TheVariants.{Call, Tick, Lost, Fail, Keep}
use Rattle.ygg_script.specs.declared.flaw.ScriptFlaw.TheVariants.{Line}
use Rattle.ygg_script.specs.Flaws.{refusal_at}
use Rattle.ygg_script.specs.Lines.{command_at}

-- whether a line `fail` may follow: it stops this command, or the recovery after this stop
abbrev pub is_stoppable : Command → Bool
is_stoppable (Call op args) = true
is_stoppable (Tick layer number) = true
is_stoppable Lost = true
is_stoppable (Fail within call) = true
is_stoppable (Keep picks) = false

-- A text is cut at its line feeds. The pieces but the last are its lines, each ended by a line feed; the last is what stands after them.
abbrev pub pieces_of : List ℕ → List (List ℕ)
pieces_of text = parts 10 text

-- whether a piece, after which these stand, is the last one, and so no line
abbrev pub is_last : List (List ℕ) → Bool
is_last [] = true
is_last (piece ∷ pieces) = false

-- whether these pieces have no bytes
abbrev pub is_nothing : List (List ℕ) → Bool
is_nothing [] = true
is_nothing (piece ∷ []) = is_empty piece
is_nothing (piece ∷ other ∷ pieces) = false

-- after `end` nothing follows, or else what follows is refused, whose first line has this number
abbrev pub ended_at : ℕ → List (List ℕ) → Read (List Command)
ended_at line pieces = if is_nothing pieces then Ok [] else Err (refusal_at Line line)

-- a command, and then those after it
abbrev pub command_then : Read Command → (Command → Read (List Command)) → Read (List Command)
command_then first others = do
  command ← first
  commands ← others command
  Ok (command ∷ commands)

-- The commands of these pieces up to the line `end`. The first piece has this number, and may be a line `fail` or not. One that is no line is
-- missing, or lacks its line feed.
unfoldable pub commands_at : File → Bool → ℕ → List (List ℕ) → Read (List Command)
commands_at f stoppable line [] = Err (refusal_at Line line)
commands_at f stoppable line (text ∷ pieces) =
    if is_last pieces then Err (refusal_at Line line)
    else if bytes_eq text (codes "end") then ended_at (line + 1) pieces
    else command_then (command_at f stoppable line text) (λ command. commands_at f (is_stoppable command) (line + 1) pieces)

-- the first line is always the same
unfoldable pub script_in : File → List (List ℕ) → Read (List Command)
script_in f [] = Err (refusal_at Line 1)
script_in f (text ∷ pieces) =
    if is_last pieces then Err (refusal_at Line 1)
    else if bytes_eq text (codes "ygg-script 1") then commands_at f false 2 pieces
    else Err (refusal_at Line 1)

-- the whole text
abbrev pub script_of : File → List ℕ → Read (List Command)
script_of f text = script_in f (pieces_of text)
