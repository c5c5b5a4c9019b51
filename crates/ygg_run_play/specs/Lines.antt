-- What is printed of everything that happens to a machine.
use Rattle.std.specs.Prelude.{ℕ, Bool, true, false, if◌then◌else◌, List, [], ◌∷◌, ◌++◌, map, Option, Some, None, codes}
use Rattle.std.specs.Fmt.{decimal}
use Rattle.std.specs.List.{flat_map, count_by}
use Rattle.ygg_value.specs.Number.{Number}
use Rattle.ygg_value.specs.declared.row.Value.TheVariants.{Row}
use Rattle.ygg_script.specs.ygg_disk.Disk.{Read, Write, Flush}
use Rattle.ygg_script.specs.ygg_disk.Power.{event_of, shown}
use Rattle.ygg_script.specs.ygg_disk.declared.turn.Did.TheVariants as did
use Rattle.ygg_script.specs.ygg_disk.declared.turn.Event.{Event}
use Rattle.ygg_script.specs.ygg_meaning.Progress.{Answer}
use Rattle.ygg_script.specs.ygg_meaning.Trace.{Moment, Calls, Ticks, Fails, WakeFails, Wakes}
use Rattle.ygg_script.specs.ygg_meaning.Noted.{Note}
use Rattle.ygg_script.specs.ygg_report.Lines.{ended}
use Rattle.ygg_script.specs.ygg_sched.Values.{value_text}
use Rattle.ygg_script.specs.declared.command.Command.{Command}
use Rattle.ygg_script.specs.declared.command.Command.TheVariants.{Call, Tick, Lost, Fail, Keep}
use Rattle.ygg_run_play.specs.Named.{notes_in}

-- what follows the words of a disk call that power cut
abbrev pub cut_text : Bool → List ℕ
cut_text cut = if cut then codes " cut" else []

-- whether a write is kept: as its pick says, and always where it takes none
abbrev pub is_kept : List Bool → Bool
is_kept [] = true
is_kept (pick ∷ picks) = pick

-- what follows the words of a write
abbrev pub kept_text : List Bool → List ℕ
kept_text picks = if is_kept picks then codes " kept" else codes " lost"

-- a disk call
abbrev pub call_text : Note → List ℕ
call_text n = elim n.call [
  | Read at ↦ codes "read " ++ (decimal at ++ cut_text n.cut)
  | Write at row ↦ codes "write " ++ (decimal at ++ (codes " " ++ (value_text (Row row) ++ (cut_text n.cut ++ kept_text n.picks))))
  | Flush ↦ codes "flush" ++ cut_text n.cut
]

-- what ends a whole operation
abbrev pub answer_text : Answer → List ℕ
answer_text None = codes "done"
answer_text (Some v) = codes "answer " ++ value_text v

-- what ends a moment, after its disk calls
abbrev pub end_text : Moment Note → List ℕ
end_text (Calls name args answer notes) = answer_text answer
end_text (Ticks name notes) = codes "done"
end_text (Fails how notes) = codes "down"
end_text (WakeFails notes) = codes "down"
end_text (Wakes notes) = codes "up"

-- the lines of disk calls
abbrev pub calls_lines : List Note → List ℕ
calls_lines = flat_map (λ (n : Note). ended (call_text n))

-- the lines of a moment: its disk calls, and its end
abbrev pub moment_lines : Moment Note → List ℕ
moment_lines m = calls_lines (notes_in m) ++ ended (end_text m)

-- the lines of moments
abbrev pub moments_lines : List (Moment Note) → List ℕ
moments_lines = flat_map moment_lines

-- whether a line of a script counts as played
abbrev pub is_played : Command → Bool
is_played (Call op args) = true
is_played (Tick layer number) = true
is_played Lost = true
is_played (Fail within call) = false
is_played (Keep picks) = false

-- the last line: how many lines `call`, `tick` and `lost` the script has
abbrev pub played_line : ℕ → List ℕ
played_line count = ended (codes "played " ++ decimal count)

-- the whole text of a script by which these moments happen
abbrev pub text_of : List Command → List (Moment Note) → List ℕ
text_of script ms = moments_lines ms ++ played_line (count_by is_played script)

-- the event by which `power` shows a disk call
abbrev pub event_of_note : Note → Event
event_of_note n = event_of n.call n.cut (shown n.cut n.call n.picks)

-- the events of disk calls
abbrev pub events_of : List Note → List Event
events_of = map event_of_note

-- the place that an event shows
abbrev pub place_in : Option Number → ℕ
place_in None = 0
place_in (Some at) = at.bits

-- the disk call that an event shows
abbrev pub note_in : Event → Note
note_in e = record {
  call = elim e.did [ did.Read ↦ Read (place_in e.at) | did.Write row ↦ Write (place_in e.at) row | did.Flush ↦ Flush ];
  cut = e.cut;
  picks = e.picks;
}
