-- Commands of layers on a disk in memory, as what is done in a scene.
use Rattle.std.proofs.Common.{◌≡◌, ◌≢◌, ℕ, Bool, true, false, MatchBool, IsSomeAnd, IsTrue, List, []}
use Rattle.std.proofs.Common.{◌∷◌, ◌++◌, length, Option, Some, None, refl, sym, ap, ◌∙◌, subst, arith}
use Rattle.std.proofs.lemmas.List.Elements.{All-nil, All-cons}
use Rattle.ygg_base.specs.Outside.{Rose}
use Rattle.ygg_value.specs.declared.row.Value.{Value}
use Rattle.ygg_syntax.specs.declared.tree.File.{File}
use Rattle.ygg_machine.specs.ygg_disk.Ground.{Meaning}
use Rattle.ygg_machine.specs.ygg_disk.Kinds.{Disk}
use Rattle.ygg_machine.specs.ygg_disk.Power.{Begun}
use Rattle.ygg_machine.specs.ygg_disk.declared.power.Fuse.{Fuse}
use Rattle.ygg_machine.specs.ygg_disk.declared.power.Power.{Power}
use Rattle.ygg_machine.specs.ygg_meaning.Environments.{Name, Env}
use Rattle.ygg_machine.specs.ygg_meaning.Progress.{Answer}
use Rattle.ygg_machine.specs.ygg_meaning.Machine.{State, TickName, Machine}
use Rattle.ygg_run_play.specs.ygg_meaning.Mirror.{SameOn, FormattedIf, Mirrors}
use Rattle.ygg_run_play.specs.ygg_meaning.Noted.{Note}
use Rattle.ygg_run_play.specs.ygg_meaning.Grounds.{TellsBase, TellsZeros}
use Rattle.ygg_run_play.specs.ygg_meaning.Trace.{Up, Down, Leads}
use Rattle.ygg_machine.specs.ygg_eval.Lower.{PowerLoss, Ending, Whole, Failed}
use Rattle.ygg_machine.specs.ygg_eval.Lower as ending
use Rattle.ygg_machine.specs.Bottoms.{bottom_on, View, ViewStands, ViewRuns, ViewEnds, ViewLoses, StillLooks, state_seen, formats}
use Rattle.ygg_machine.specs.Commands.{Command}
use Rattle.ygg_machine.specs.Commands as command
use Rattle.ygg_machine.specs.Leaves.{LeaveWhole, LeaveCut}
use Rattle.ygg_machine.specs.Told.{SameNotes}
use Rattle.ygg_machine.proofs.Noting.{stacks_note}
use Rattle.ygg_run_play.specs.Played.{Noted}
use Rattle.ygg_run_play.specs.Scene.{Deed, Gives, calling, ticking, waking, Leave, AreWhole, AreCut, Ends, After}
use Rattle.ygg_run_play.specs.declared.scene.CommandOutcome.{CommandOutcome}
use Rattle.ygg_run_play.specs.declared.scene.CommandOutcome.TheVariants as outcome
use Rattle.ygg_run.specs.TowerPlaying.{IsPlayable, tables_told, state_played, IsOnDisk, IsUnwritten, Plays, MayWake, ending_in}

-- what disk calls leave of power
module _ {S : Type 0} (G : Meaning S) (follows : G.follows ≡ true) where
  begun_so : (n : Note) (cut : Bool) (before after : Power) → n.cut ≡ cut → Begun G.follows cut n.call n.picks before after →
      Begun true n.cut n.call n.picks before after
  begun_so n cut before after is h =
      subst (λ (b : Bool). Begun true b n.call n.picks before after) (sym is)
      (subst (λ (b : Bool). Begun b cut n.call n.picks before after) follows h)

  whole_leave : (notes : List Note) (before after : Power) → LeaveWhole G notes before after → Leave notes before after
  whole_leave [] before after h = h
  whole_leave (n ∷ ns) before after (whole, unnamed, next, begun, rest) =
      (next, begun_so n false before next whole begun, whole_leave ns next after rest)

  -- and one that power cuts after them
  then_cut : (notes : List Note) (last : Note) (before at after : Power) → last.cut ≡ true → LeaveWhole G notes before at →
      Begun G.follows true last.call last.picks at after → Leave (notes ++ last ∷ []) before after
  then_cut [] last before at after cut same begun =
      (after, subst (λ (p : Power). Begun true last.cut last.call last.picks p after) same (begun_so last true at after cut begun), refl)
  then_cut (n ∷ ns) last before at after cut (whole, unnamed, next, one, rest) begun =
      (next, begun_so n false before next whole one, then_cut ns last next at after cut rest begun)

  are_whole : (notes : List Note) (before after : Power) → LeaveWhole G notes before after → AreWhole notes
  are_whole [] before after h = All-nil (λ (n : Note). n.cut ≡ false)
  are_whole (n ∷ ns) before after (whole, unnamed, next, begun, rest) =
      All-cons (λ (n : Note). n.cut ≡ false) n ns whole (are_whole ns next after rest)

  fuse_kept : (notes : List Note) (before after : Power) → LeaveWhole G notes before after → after.fuse ≡ before.fuse
  fuse_kept [] before after same = ap (λ (p : Power). p.fuse) same
  fuse_kept (n ∷ ns) before after (whole, unnamed, next, begun, rest) = fuse_kept ns next after rest ∙ begun.fuse

  -- the calls of a command in which power failed
  record CutSo (notes : List Note) (before after : Power) : Type 0 where
    pub left : Leave notes before after
    pub fuse : Fuse
    pub is : before.fuse ≡ Some fuse
    pub at : AreCut fuse.within notes
    pub named : after.passed ≡ fuse.call

  cut_so : (notes : List Note) (before after : Power) → LeaveCut G notes before after → CutSo notes before after
  cut_so notes before after c = at c.fuse.within refl c.last
    where
      whole : AreWhole c.whole
      whole = are_whole c.whole before c.at c.leaves

      make : Leave notes before after → AreCut c.fuse.within notes → after.passed ≡ c.at.passed → CutSo notes before after
      make left cut passed = record {
        left = left;
        fuse = c.fuse;
        is = sym (fuse_kept c.whole before c.at c.leaves) ∙ c.set;
        at = cut;
        named = passed ∙ sym c.named;
      }

      at : (within : Bool) → c.fuse.within ≡ within → MatchBool within
          ((last : Note) × (last.cut ≡ true) × (notes ≡ c.whole ++ last ∷ []) × Begun G.follows true last.call last.picks c.at after)
          ((notes ≡ c.whole) × (after ≡ c.at)) → CutSo notes before after
      at true is (last, cut, ends, begun) =
          make
          (subst (λ (ns : List Note). Leave ns before after) (sym ends) (then_cut c.whole last before c.at after cut c.leaves begun))
          (subst (λ (b : Bool). AreCut b notes) (sym is) (c.whole, whole, (last, cut, ends))) begun.passed
      at false is (ends, same) =
          make
          (subst (λ (p : Power). Leave notes before p) (sym same) (subst (λ (ns : List Note). Leave ns before c.at) (sym ends)
          (whole_leave c.whole before c.at c.leaves)))
          (subst (λ (b : Bool). AreCut b notes) (sym is) (c.whole, whole, ends)) (ap (λ (p : Power). p.passed) same)

-- layers on a disk in memory
module _ {S : Type 0} (G : Meaning S) (playable : IsPlayable G) (f : File) where
  -- a base that shows what the ground tells is the tables that are told
  base_is : (base : Env) (s : S) → TellsBase G f base s → base ≡ tables_told (G.told s)
  base_is base s (state, told, is) = is ∙ sym (ap (λ (o : Option Disk). tables_told o) told)

  state_is : (t : State Env) (v : View S) → SameOn (TellsBase G f) t (state_seen f v) → t ≡ state_played G f v
  state_is t v same =
      ap (λ (ms : List Env). record { memories = ms; base = t.base }) same.memories
      ∙ ap (λ (b : Env). record { memories = (state_seen f v).memories; base = b }) (base_is t.base v.base same.bases)

  told_on : (v v' : View S) (base : Env) → v'.height ≡ v.height → v.height ≡ length f.layers → TellsBase G f base v'.base → IsOnDisk G f v'
  told_on v v' base still height (state, told, is) = record { height = still ∙ height; state = state; told = told }

  module _ (v : View S) (height : v.height ≡ length f.layers) where
    mirrors : Mirrors (TellsBase G f) SameNotes (FormattedIf (TellsZeros G f v.base) (bottom_on G PowerLoss f v.base v.height)) (Noted f)
    mirrors =
        subst (λ (n : ℕ). Mirrors (TellsBase G f) SameNotes (FormattedIf (TellsZeros G f v.base) (bottom_on G PowerLoss f v.base n)) (Noted f))
        (sym height) (stacks_note G f v.base)

  module _ (v v' : View S) (here : IsOnDisk G f v) (looks : StillLooks G f v v') where
    abbrev low : Machine S Note
    low = bottom_on G PowerLoss f v.base v.height

    shown : SameOn (TellsBase G f) (state_played G f v) (state_seen f v)
    shown = record { memories = refl; bases = (here.state, here.told, ap (λ (o : Option Disk). tables_told o) here.told) }

    shown_base : TellsBase G f (state_played G f v).base v.base
    shown_base = (here.state, here.told, ap (λ (o : Option Disk). tables_told o) here.told)

    on_disk : (base : Env) → TellsBase G f base v'.base → IsOnDisk G f v'
    on_disk base told = told_on v v' base looks.height here.height told

    -- a command of the layers is a deed of the scene, whole or cut
    pub record IsDeed (command : Command S Note) (deed : Deed) : Type 0 where
      pub whole : (notes : List Note) (answer : Answer) → command.Does low (state_seen f v) notes answer (state_seen f v') →
          Gives deed answer × Leads (Noted f) (deed.whole answer notes) (deed.from (state_played G f v)) (Up (state_played G f v')) × IsOnDisk G f v'
      pub cut : (notes : List Note) → command.Leaves PowerLoss low (state_seen f v) notes v'.base →
          Leads (Noted f) (deed.cut notes) (deed.from (state_played G f v)) (Down (state_played G f v').base) × IsOnDisk G f v'

    pub call_is : (name : Name) (args : List Value) → IsDeed (command.calling name args) (calling name args)
    call_is name args = record {
      whole = λ notes answer h.
          let (t, ns, step, same, are) = (mirrors v here.height).calls (state_played G f v) (state_seen f v) (state_seen f v') name
          args notes answer shown h in (
            tt,
            subst (λ (x : State Env). (Noted f).Calls (state_played G f v) name args notes answer x) (state_is t v' same)
                (subst (λ (x : List Note). (Noted f).Calls (state_played G f v) name args x answer t) are step),
            on_disk t.base same.bases,
          );
      cut = λ notes h.
          let (g, ns, step, r, are) = (mirrors v here.height).falls (state_played G f v) (state_seen f v) name args notes v'.base shown h in (
            subst (λ (x : Env). (Noted f).Falls (state_played G f v) name args notes x) (base_is g v'.base r)
                (subst (λ (x : List Note). (Noted f).Falls (state_played G f v) name args x g) are step),
            on_disk g r,
          );
    }

    pub tick_is : (name : TickName) → IsDeed (command.ticking name) (ticking name)
    tick_is name = record {
      whole = λ notes answer h.
          let (t, ns, step, same, are) = (mirrors v here.height).ticks (state_played G f v) (state_seen f v) (state_seen f v') name notes shown h.1 in (
            h.0,
            subst (λ (x : State Env). (Noted f).Ticks (state_played G f v) name notes x) (state_is t v' same)
                (subst (λ (x : List Note). (Noted f).Ticks (state_played G f v) name x t) are step),
            on_disk t.base same.bases,
          );
      cut = λ notes h.
          let (g, ns, step, r, are) = (mirrors v here.height).tick_falls (state_played G f v) (state_seen f v) name notes v'.base shown h in (
            subst (λ (x : Env). (Noted f).TickFalls (state_played G f v) name notes x) (base_is g v'.base r)
                (subst (λ (x : List Note). (Noted f).TickFalls (state_played G f v) name x g) are step),
            on_disk g r,
          );
    }

    pub wake_is : IsDeed command.waking waking
    wake_is = record {
      whole = λ notes answer h.
          let (t, ns, step, same, are) = (mirrors v here.height).wakes (state_played G f v).base v.base notes (state_seen f v') shown_base h.1 in (
            h.0,
            subst (λ (x : State Env). (Noted f).Wakes (state_played G f v).base notes x) (state_is t v' same)
                (subst (λ (x : List Note). (Noted f).Wakes (state_played G f v).base x t) are step),
            on_disk t.base same.bases,
          );
      cut = λ notes h.
          let (g, ns, step, r, are) = (mirrors v here.height).wake_falls (state_played G f v).base v.base v'.base notes shown_base h in (
            subst (λ (x : Env). (Noted f).WakeFalls (state_played G f v).base notes x) (base_is g v'.base r)
                (subst (λ (x : List Note). (Noted f).WakeFalls (state_played G f v).base x g) are step),
            on_disk g r,
          );
    }

    module _ (command : Command S Note) (deed : Deed) (is : IsDeed command deed) (p p' : Power) where
      abbrev Ended : CommandOutcome → Type 0
      Ended o = Ends (Noted f) deed (state_played G f v) p o (state_played G f v') p' × IsOnDisk G f v'

      deed_ends : (o : CommandOutcome) → ViewEnds G f command (ending_in o) v p v' p' → Ended o
      deed_ends (outcome.Whole answer) h =
          let (gives, leads, told) = is.whole h.so.notes answer (h.so.does PowerLoss) in (
            record {
              notes = h.so.notes;
              gives = gives;
              leads = leads;
              are_whole = are_whole G playable.follows h.so.notes p p' h.so.left;
              left = whole_leave G playable.follows h.so.notes p p' h.so.left;
              unreached = h.so.passes.unreached;
            },
            told,
          )
      deed_ends outcome.Down h =
          let (leads, told) = is.cut h.so.notes h.so.leaves in
          let c = cut_so G playable.follows h.so.notes p p' h.so.left in (
            record { notes = h.so.notes; leads = leads; left = c.left; fuse = c.fuse; is = c.is; at = c.at; named = c.named },
            told,
          )

      -- it ended so
      pub ends_so : (o : CommandOutcome) (e : Ending) → ending_in o ≡ e → ViewEnds G f command e v p v' p' →
          Ends (Noted f) deed (state_played G f v) p o (state_played G f v') p'
      ends_so o e same h = (deed_ends o (subst (λ (x : Ending). ViewEnds G f command x v p v' p') (sym same) h)).0

      -- what is so of the layers after it
      pub after_so : (o : CommandOutcome) (e : Ending) → ending_in o ≡ e → ViewEnds G f command e v p v' p' → ending.AfterWhole e (ViewRuns G f v') →
          After o (Plays G f v') (MayWake G f v')
      after_so o e same h runs =
          at o (deed_ends o (subst (λ (x : Ending). ViewEnds G f command x v p v' p') (sym same) h)).1
          (subst (λ (x : Ending). ending.AfterWhole x (ViewRuns G f v')) (sym same) runs)
        where
          at : (o : CommandOutcome) → IsOnDisk G f v' → ending.AfterWhole (ending_in o) (ViewRuns G f v') → After o (Plays G f v') (MayWake G f v')
          at (outcome.Whole answer) told runs = record { runs = runs; on_disk = told }
          at outcome.Down told runs = record { stands = looks.stands; on_disk = told }

    -- no command of a disk in memory fails
    pub unfailed : (command : Command S Note) (p p' : Power) (e : Ending) → ViewEnds G f command e v p v' p' → e ≢ Failed
    unfailed command p p' e h is =
        no_rise (G.faults v.base) (G.faults v'.base) (playable.faultless v.base) (playable.faultless v'.base)
        (subst (λ (x : Ending). ViewEnds G f command x v p v' p') is h).so.rose
      where
        no_rise : (a b : ℕ) → a ≡ 0 → b ≡ 0 → Rose a b → ⊥
        no_rise a b x y r = omega arith

    -- power loss between commands
    pub lost_so : ViewLoses G f v v' →
        (Noted f).Loses (state_played G f v) [] (state_played G f v').base × MayWake G f v'
    lost_so h =
        let (g, ns, step, r, are) = (mirrors v here.height).loses (state_played G f v) (state_seen f v) [] v'.base shown h in (
          subst (λ (x : Env). (Noted f).Loses (state_played G f v) [] x) (base_is g v'.base r)
              (subst (λ (x : List Note). (Noted f).Loses (state_played G f v) x g) are step),
          record { stands = looks.stands; on_disk = on_disk g r },
        )

  -- the layers stand while they run
  pub stands_so : (v : View S) → Plays G f v → ViewStands G f v
  stands_so v h = record { within = let x = h.on_disk.height in omega arith; rows = h.runs.rows }

  -- a fuse may be set
  pub may_lose : IsTrue G.can_lose
  may_lose = playable.can_lose

  pub unwritten_stands : (v : View S) → IsUnwritten G f (length f.layers) v → ViewStands G f v
  unwritten_stands v h = record { within = let x = h.height in omega arith; rows = h.rows }

  -- formatting on zeros
  module _ (v v' : View S) (fresh : IsUnwritten G f (length f.layers) v) (looks : StillLooks G f v v') (p p' : Power) where
    pub format_starts : (e : Ending) (answer : Answer) → e ≡ Whole answer → ViewEnds G f (formats G f v) e v p v' p' →
        ((notes : List Note) × (Noted f).Starts (state_played G f v') notes × Leave notes p p') × IsOnDisk G f v'
    format_starts e answer is h =
        let done = subst (λ (x : Ending). ViewEnds G f (formats G f v) x v p v' p') is h in
        let (t, ns, step, same, are) = (mirrors v fresh.height).starts (state_seen f v') done.so.notes (fresh.zeros, (done.so.does PowerLoss).1) in (
          (
            done.so.notes,
            subst (λ (x : State Env). (Noted f).Starts x done.so.notes) (state_is t v' same)
                (subst (λ (x : List Note). (Noted f).Starts t x) are step),
            whole_leave G playable.follows done.so.notes p p' done.so.left,
          ),
          told_on v v' t.base looks.height fresh.height same.bases,
        )

    -- power can't fail in it without a fuse
    pub format_whole : (e : Ending) → p.fuse ≡ None → ViewEnds G f (formats G f v) e v p v' p' → e ≢ ending.Down
    format_whole e none h is =
        let fell = subst (λ (x : Ending). ViewEnds G f (formats G f v) x v p v' p') is h in
        subst (λ (o : Option Fuse). IsSomeAnd o (λ g. g.call ≡ p'.passed)) (fell.so.passes.fuse ∙ none) fell.so.named

    pub format_unfailed : (e : Ending) → ViewEnds G f (formats G f v) e v p v' p' → e ≢ Failed
    format_unfailed e h is =
        no_rise (G.faults v.base) (G.faults v'.base) (playable.faultless v.base) (playable.faultless v'.base)
        (subst (λ (x : Ending). ViewEnds G f (formats G f v) x v p v' p') is h).so.rose
      where
        no_rise : (a b : ℕ) → a ≡ 0 → b ≡ 0 → Rose a b → ⊥
        no_rise a b x y r = omega arith
