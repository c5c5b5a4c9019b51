-- From what the lines of a script did to how its play ends.
use Rattle.std.proofs.Common.{◌≡◌, true, ℕ, All, List, [], ◌∷◌, ◌++◌, Option, Result, Ok, Err, IsErrAnd, refl, sym, subst}
use Rattle.std.proofs.lemmas.List.Elements.{All-nil, All-cons}
use Rattle.std.specs.List.{count_by}
use Rattle.ygg_syntax.specs.declared.tree.File.{File}
use Rattle.ygg_run_play.specs.ygg_disk.declared.power.Power.{Power}
use Rattle.ygg_run_play.specs.ygg_meaning.Environments.{Env}
use Rattle.ygg_run_play.specs.ygg_meaning.Machine.{Picks, State, Machine}
use Rattle.ygg_run_play.specs.ygg_meaning.Noted.{Note, picks_in}
use Rattle.ygg_run_play.specs.ygg_meaning.Trace.{Up, Moment}
use Rattle.ygg_run_play.specs.ygg_meaning_laws.Acts.{Taken}
use Rattle.ygg_run_play.specs.ygg_report.Putting.{Adds, IsFront}
use Rattle.ygg_run_play.proofs.of_ygg_report.Fronts.{adds_more, adds_none, front_after, front_first, front_longer}
use Rattle.ygg_run_play.specs.ygg_script.declared.command.Command.{Command}
use Rattle.ygg_run_play.specs.Named.{Names}
use Rattle.ygg_run_play.specs.Lines.{moments_lines, is_played, played_line, text_of}
use Rattle.ygg_run_play.specs.Played.{IsFresh, Plays}
use Rattle.ygg_run_play.proofs.OneText.{one_text}
use Rattle.ygg_run_play.specs.Scene.{Leave}
use Rattle.ygg_run_play.specs.Doing.{left_of, ArePut}
use Rattle.ygg_run_play.specs.Playing.{IsPlayFront, IsPlayed, IsNamedFront, ArePlayed}
use Rattle.ygg_run_play.specs.declared.halting.PlayHalted.{PlayHalted}
use Rattle.ygg_run_play.specs.declared.halting.PlayHalted.TheVariants as halted
use Rattle.ygg_run_play.proofs.Leaving.{leave_taken}

-- where no picks are left each pick that is taken is 1, and none are left
ones : (taken left : Picks) → Taken true taken [] left → All (λ pick. pick ≡ true) taken × (left ≡ [])
ones [] left h = (All-nil (λ pick. pick ≡ true), h)
ones (t ∷ taken) left h = let more = ones taken left h.1 in (All-cons (λ pick. pick ≡ true) t taken h.0 more.0, more.1)

-- a format with power that doesn't fail, with which all writes are kept
pub format_kept : (M : Machine Env Note) (start : State Env) (before after : Power) → before.picks.past ≡ true → left_of before.picks ≡ [] →
    (notes : List Note) × M.Starts start notes × Leave notes before after →
    IsFresh M start × (after.picks.past ≡ true) × (left_of after.picks ≡ [])
format_kept M start before after past none (notes, starts, left) =
    let taken = leave_taken notes before after past left in
    let kept = ones (picks_in notes) (left_of after.picks)
    (subst (λ (from : Picks). Taken true (picks_in notes) from (left_of after.picks)) none taken.0) in
    (record { notes = notes; starts = starts; kept = kept.0 }, taken.1, kept.1)

-- the last line of a script's text
abbrev pub last_line : List Command → List ℕ
last_line script = played_line (count_by is_played script)

module _ (M : Machine Env Note) (f : File) (script : List Command) where
  -- nothing was put
  pub none_played : (before : Option (List ℕ)) (SinkRose : Type 0) (result : Result (Unit {0}) PlayHalted) → IsErrAnd result (λ h. h ≡ halted.Memory) →
      IsPlayed M f script before before SinkRose result
  none_played before SinkRose (Ok done) same = absurd same
  none_played before SinkRose (Err h) same =
      subst (λ (x : PlayHalted). IsPlayed M f script before before SinkRose (Err x)) (sym same)
      ([], (λ one text plays. record { rest = text; is = refl }), adds_none before)

  module _ (start : State Env) (fresh : IsFresh M start) where
    named_front : (front : List ℕ) → IsNamedFront M f script start front → IsPlayFront M f script front
    named_front front named one text p =
        let same = one.fresh p.start start p.fresh fresh in
        let cut = named one p.moments (subst (λ (s : State Env). Names M f script [] (Up s) p.moments) same p.names) in
        subst (λ (t : List ℕ). IsFront front t) (sym p.prints)
        (front_longer front (moments_lines p.moments) (played_line (count_by is_played script)) cut)

    -- a line was given up
    pub lines_halted : (before now : Option (List ℕ)) (SinkRose Rose : Type 0) (h : PlayHalted) (result : Result (Unit {0}) PlayHalted) → (SinkRose → Rose) →
        IsErrAnd result (λ r. r ≡ h) → ArePlayed M f script start before now SinkRose (Err h) → IsPlayed M f script before now Rose result
    lines_halted before now SinkRose Rose h (Ok done) more same played = absurd same
    lines_halted before now SinkRose Rose h (Err r) more same played =
        subst (λ (x : PlayHalted). IsPlayed M f script before now Rose (Err x)) (sym same) (by h played)
      where
        by : (h : PlayHalted) → ArePlayed M f script start before now SinkRose (Err h) → IsPlayed M f script before now Rose (Err h)
        by (halted.Unreached at) (line, is, unreached) = (line, is, record { start = start; fresh = fresh; unreached = unreached })
        by halted.SinkFailed (rose, front, named, adds) = (more rose, front, named_front front named, adds)
        by halted.Memory (front, named, adds) = (front, named_front front named, adds)

    -- all lines were played, and the last was put or not
    pub end_played : (before middle now : Option (List ℕ)) (SinkRose Rose : Type 0) (result : Result (Unit {0}) PlayHalted) → (SinkRose → Rose) →
        (ms : List (Moment Note)) × Names M f script [] (Up start) ms × Adds before (moments_lines ms) middle →
        ArePut (played_line (count_by is_played script)) middle now SinkRose result → IsPlayed M f script before now Rose result
    end_played before middle now SinkRose Rose result more (ms, names, adds) put = by result put
      where
        last : List ℕ
        last = played_line (count_by is_played script)

        plays : Plays M f script (text_of script ms)
        plays = record { start = start; fresh = fresh; moments = ms; names = names; prints = refl }

        front : (some : List ℕ) → IsFront some (text_of script ms) → IsPlayFront M f script some
        front some cut one text p = subst (λ (t : List ℕ). IsFront some t) ((one_text M f one script).text (text_of script ms) text plays p) cut

        by : (result : Result (Unit {0}) PlayHalted) → ArePut last middle now SinkRose result → IsPlayed M f script before now Rose result
        by (Ok done) put = (text_of script ms, plays, adds_more before middle now (moments_lines ms) last adds put)
        by (Err (halted.Unreached r)) put = absurd put
        by (Err halted.SinkFailed) (rose, (some, cut, put)) = (
          more rose,
          moments_lines ms ++ some,
          front (moments_lines ms ++ some) (front_after (moments_lines ms) some last cut),
          adds_more before middle now (moments_lines ms) some adds put,
        )
        by (Err halted.Memory) same = (
          moments_lines ms,
          front (moments_lines ms) (front_first (moments_lines ms) last),
          subst (λ (taken : Option (List ℕ)). Adds before (moments_lines ms) taken) (sym same) adds,
        )
