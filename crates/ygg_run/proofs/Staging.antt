-- Layers as a scene, as its field has them.
use Rattle.std.proofs.Common.{◌≡◌, ◌≢◌, suc, List, [], length, Some, None, Ok, refl, sym, subst}
use Rattle.ygg_syntax.specs.declared.tree.File.{File}
use Rattle.ygg_machine.specs.ygg_disk.declared.power.Power.{Power}
use Rattle.ygg_machine.specs.ygg_disk.declared.turn.Turn.{Turn}
use Rattle.ygg_machine.specs.ygg_disk.declared.turn.Turn.TheVariants as turn
use Rattle.ygg_run_play.specs.ygg_meaning.Noted.{Note}
use Rattle.ygg_machine.specs.ygg_eval.Lower.{Ending, Failed, AfterWhole, ending_of}
use Rattle.ygg_machine.specs.Bottoms.{View, ViewStands, ViewRuns, ViewEnds, StillLooks, LosesAll, formats}
use Rattle.ygg_machine.specs.Commands.{Command}
use Rattle.ygg_machine.specs.Floors.{Raised}
use Rattle.ygg_machine.specs.Viewed.{Seen, floor_seen}
use Rattle.ygg_run_play.specs.Played.{Noted}
use Rattle.ygg_run_play.specs.Scene.{Deed, Leave, Ends, After}
use Rattle.ygg_run_play.specs.declared.scene.CommandOutcome.{CommandOutcome}
use Rattle.ygg_run.specs.TowerPlaying.{IsPlayable, state_played, IsOnDisk, IsUnwritten, Plays, MayWake, ending_in}
use Rattle.ygg_run.proofs.Played.{IsDeed, ends_so, after_so, unfailed, lost_so, stands_so, format_starts, format_whole, format_unfailed}

module _ {T : Type 0} (X : Seen T) (playable : IsPlayable X.means) (f : File) where
  abbrev look : Raised T → View X.Ground
  look t = (floor_seen X).look t

  module _ (inside self new : Raised T) (view : inside ≡ self) where
    here_inside : IsOnDisk X.means f ((floor_seen X).look self) → IsOnDisk X.means f ((floor_seen X).look inside)
    here_inside h = subst (λ (s : Raised T). IsOnDisk X.means f ((floor_seen X).look s)) (sym view) h

    -- all layers are there
    pub height_inside : IsOnDisk X.means f ((floor_seen X).look self) → suc (X.look inside.below).height ≡ length f.layers
    height_inside h = (here_inside h).height

    module _ (command : Command X.Ground Note) (deed : Deed)
        (which : (v v' : View X.Ground) (here : IsOnDisk X.means f v) (looks : StillLooks X.means f v v') →
        IsDeed X.means playable f v v' here looks command deed)
        (here : IsOnDisk X.means f ((floor_seen X).look self)) (looks : StillLooks X.means f ((floor_seen X).look inside) ((floor_seen X).look new))
        (p p' : Power) (e : Ending)
        (ends : ViewEnds X.means f command e ((floor_seen X).look inside) p ((floor_seen X).look new) p') where
      pub staged_unfailed : e ≢ Failed
      staged_unfailed = unfailed X.means playable f (look inside) (look new) (here_inside here) looks command p p' e ends

      pub staged_ends : (o : CommandOutcome) → ending_in o ≡ e →
          Ends (Noted f) deed (state_played X.means f ((floor_seen X).look self)) p o (state_played X.means f ((floor_seen X).look new)) p'
      staged_ends o same =
          subst (λ (s : Raised T). Ends (Noted f) deed (state_played X.means f ((floor_seen X).look s)) p o
          (state_played X.means f ((floor_seen X).look new)) p') view
          (ends_so X.means playable f (look inside) (look new) (here_inside here) looks command deed
          (which (look inside) (look new) (here_inside here) looks) p p' o e same ends)

      pub staged_after : (o : CommandOutcome) → ending_in o ≡ e → AfterWhole e (ViewRuns X.means f ((floor_seen X).look new)) →
          After o (Plays X.means f ((floor_seen X).look new)) (MayWake X.means f ((floor_seen X).look new))
      staged_after o same runs =
          after_so X.means playable f (look inside) (look new) (here_inside here) looks command deed
          (which (look inside) (look new) (here_inside here) looks) p p' o e same ends runs

    -- formatting
    module _ (fresh : IsUnwritten X.means f (length f.layers) ((floor_seen X).look self))
        (looks : StillLooks X.means f ((floor_seen X).look inside) ((floor_seen X).look new)) (p p' : Power) (none : p.fuse ≡ None) (t : Turn)
        (ends : ViewEnds X.means f (formats X.means f ((floor_seen X).look inside)) (ending_of (Ok t)) ((floor_seen X).look inside) p
        ((floor_seen X).look new) p') where
      fresh_inside : IsUnwritten X.means f (length f.layers) ((floor_seen X).look inside)
      fresh_inside = subst (λ (s : Raised T). IsUnwritten X.means f (length f.layers) ((floor_seen X).look s)) (sym view) fresh

      abbrev Started : Type 0
      Started =
          ((notes : List Note) × (Noted f).Starts (state_played X.means f ((floor_seen X).look new)) notes × Leave notes p p')
          × IsOnDisk X.means f ((floor_seen X).look new)

      started : Started
      started = at t ends
        where
          at : (t : Turn) → ViewEnds X.means f (formats X.means f (look inside)) (ending_of (Ok t)) (look inside) p (look new) p' → Started
          at turn.Done h = format_starts X.means playable f (look inside) (look new) fresh_inside looks p p' _ None refl h
          at (turn.Answer v) h = format_starts X.means playable f (look inside) (look new) fresh_inside looks p p' _ (Some v) refl h
          at turn.Down h = absurd (format_whole X.means playable f (look inside) (look new) fresh_inside looks p p' _ none h refl)
          at turn.Failed h = absurd (format_unfailed X.means playable f (look inside) (look new) fresh_inside looks p p' _ h refl)

      pub staged_starts : (notes : List Note) × (Noted f).Starts (state_played X.means f ((floor_seen X).look new)) notes × Leave notes p p'
      staged_starts = started.0

      pub staged_runs : AfterWhole (ending_of (Ok t)) (ViewRuns X.means f ((floor_seen X).look new)) → Plays X.means f ((floor_seen X).look new)
      staged_runs runs = record { runs = at t ends runs; on_disk = started.1 }
        where
          at : (t : Turn) → ViewEnds X.means f (formats X.means f (look inside)) (ending_of (Ok t)) (look inside) p (look new) p' →
              AfterWhole (ending_of (Ok t)) (ViewRuns X.means f ((floor_seen X).look new)) → ViewRuns X.means f ((floor_seen X).look new)
          at turn.Done h runs = runs
          at (turn.Answer v) h runs = runs
          at turn.Down h runs = absurd (format_whole X.means playable f (look inside) (look new) fresh_inside looks p p' _ none h refl)
          at turn.Failed h runs = absurd (format_unfailed X.means playable f (look inside) (look new) fresh_inside looks p p' _ h refl)

    -- power loss between commands
    module _ (lost : LosesAll X.means ((floor_seen X).look inside) ((floor_seen X).look new)) (h : Plays X.means f ((floor_seen X).look self)) where
      plays_inside : Plays X.means f ((floor_seen X).look inside)
      plays_inside = subst (λ (s : Raised T). Plays X.means f ((floor_seen X).look s)) (sym view) h

      stands_inside : ViewStands X.means f ((floor_seen X).look inside)
      stands_inside = stands_so X.means playable f (look inside) plays_inside

      loss : (Noted f).Loses (state_played X.means f ((floor_seen X).look inside)) [] (state_played X.means f ((floor_seen X).look new)).base
          × MayWake X.means f ((floor_seen X).look new)
      loss =
          lost_so X.means playable f (look inside) (look new) plays_inside.on_disk (lost.looks f stands_inside) (lost.lost f stands_inside)

      pub staged_loses : (Noted f).Loses (state_played X.means f ((floor_seen X).look self)) [] (state_played X.means f ((floor_seen X).look new)).base
      staged_loses =
          subst (λ (s : Raised T). (Noted f).Loses (state_played X.means f ((floor_seen X).look s)) []
          (state_played X.means f ((floor_seen X).look new)).base) view loss.0

      pub staged_stands : MayWake X.means f ((floor_seen X).look new)
      staged_stands = loss.1
