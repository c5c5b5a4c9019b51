-- Scripts without power failing and without picks, as a run on a device takes them.
use Rattle.std.specs.Prelude.{ℕ, ◌+◌, Bool, true, false, if◌then◌else◌, List, [], ◌∷◌, Option, Some, None}
use Rattle.ygg_base.specs.declared.failure.Refusal.{Refusal}
use Rattle.ygg_script.specs.declared.command.Command.{Command}
use Rattle.ygg_script.specs.declared.command.Command.TheVariants.{Call, Tick, Lost, Fail, Keep}
use Rattle.ygg_script.specs.declared.flaw.ScriptFlaw.TheVariants.{Line}
use Rattle.ygg_script.specs.Flaws.{refusal_at}

-- an operation or a background step
abbrev pub is_plain : Command → Bool
is_plain (Call op args) = true
is_plain (Tick layer number) = true
is_plain Lost = false
is_plain (Fail within call) = false
is_plain (Keep picks) = false

-- the refusal of the first line that is neither, where the first of these commands stands on the line of this number
abbrev pub first_not_plain : ℕ → List Command → Option Refusal
first_not_plain line [] = None
first_not_plain line (c ∷ cs) = if is_plain c then first_not_plain (line + 1) cs else Some (refusal_at Line line)

-- the refusal of a script's first line that is neither; its first command stands on line 2
abbrev pub plain_of : List Command → Option Refusal
plain_of script = first_not_plain 2 script
