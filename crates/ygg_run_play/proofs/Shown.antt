-- The lines of disk calls by the events that show them.
use Rattle.std.proofs.Common.{◌≡◌, ℕ, Bool, true, false, List, [], ◌∷◌, ◌++◌, refl, ap, ◌∙◌}
use Rattle.std.specs.List.{flat_map}
use Rattle.ygg_script.specs.ygg_disk.Disk.{Call, Read, Write, Flush}
use Rattle.ygg_script.specs.ygg_disk.Power.{event_of, shown}
use Rattle.ygg_script.specs.ygg_disk.declared.turn.Event.{Event}
use Rattle.ygg_script.specs.ygg_meaning.Noted.{Note}
use Rattle.ygg_script.specs.ygg_report.Lines.{ended}
use Rattle.ygg_run_play.specs.Lines.{call_text, calls_lines, events_of, note_in}

-- the lines of the disk calls that events show
abbrev pub shown_lines : List Event → List ℕ
shown_lines = flat_map (λ (e : Event). ended (call_text (note_in e)))

shown_text : (call : Call) (cut : Bool) (picks : List Bool) →
    call_text (note_in (event_of call cut (shown cut call picks))) ≡ (let n : Note = record { call = call; cut = cut; picks = picks } in call_text n)
shown_text (Read at) cut picks = refl
shown_text (Write at row) true picks = refl
shown_text (Write at row) false [] = refl
shown_text (Write at row) false (p ∷ picks) = refl
shown_text Flush cut picks = refl

pub lines_shown : (notes : List Note) → shown_lines (events_of notes) ≡ calls_lines notes
lines_shown [] = refl
lines_shown (n ∷ notes) =
    ap (λ t. ended t ++ shown_lines (events_of notes)) (shown_text n.call n.cut n.picks) ∙ ap (λ t. ended (call_text n) ++ t) (lines_shown notes)
