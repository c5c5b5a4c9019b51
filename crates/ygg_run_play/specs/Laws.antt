-- A script has one text, or is refused at one line; and what it names is a history.
use Rattle.std.specs.Prelude.{◌≡◌, ℕ, List, Option}
use Rattle.ygg_syntax.specs.declared.tree.File.{File}
use Rattle.ygg_meaning_laws.specs.ygg_type_rules.Files.{IsTyped}
use Rattle.ygg_script.specs.ygg_disk.declared.power.Fuse.{Fuse}
use Rattle.ygg_script.specs.ygg_meaning.Environments.{Env}
use Rattle.ygg_script.specs.ygg_meaning.Machine.{Picks, State, Machine}
use Rattle.ygg_script.specs.ygg_meaning.Stack.{BottomOf}
use Rattle.ygg_script.specs.ygg_meaning.History.{History}
use Rattle.ygg_script.specs.ygg_meaning.Trace.{Standing, Moment, entries_of}
use Rattle.ygg_script.specs.ygg_meaning.Noted.{Note}
use Rattle.ygg_script.specs.declared.command.Command.{Command}
use Rattle.ygg_run_play.specs.Named.{Happens, Leading, IsMissed}
use Rattle.ygg_run_play.specs.Played.{IsFresh, Plays, MissesAt, Noted, IsPlay}

-- On the machine there is one way to do what a line of a script says, from one place and with the same picks.
pub record HasOneWay (M : Machine Env Note) (f : File) : Type 0 where
  -- it is formatted in one way
  pub fresh : (s t : State Env) → IsFresh M s → IsFresh M t → s ≡ t
  -- the same happens, leads to the same place and leaves the same picks
  pub line : (c : Command) (stop : Option Fuse) (picks : Picks) (from : Standing Env) (ms other : List (Moment Note)) (to at : Standing Env)
      (left rest : Picks) → Happens f c stop ms → Leading M f c picks from ms to left → Happens f c stop other → Leading M f c picks from other at rest →
      (ms ≡ other) × (to ≡ at) × (left ≡ rest)
  -- power doesn't fail at a point that is missed
  pub missed : (c : Command) (stop : Option Fuse) (picks : Picks) (from : Standing Env) (ms : List (Moment Note)) (to : Standing Env) (left : Picks) →
      IsMissed M f c stop picks from → Happens f c stop ms → Leading M f c picks from ms to left → ⊥

-- this is so of the layers of every typed file
abbrev pub FilesHaveOneWay : Type 0
FilesHaveOneWay = (f : File) → IsTyped f → HasOneWay (Noted f) f

-- a script has one text at most, misses one stop first at most, and not both
pub record HasOneText (M : Machine Env Note) (f : File) (script : List Command) : Type 0 where
  pub text : (text other : List ℕ) → Plays M f script text → Plays M f script other → text ≡ other
  pub line : (line other : ℕ) → MissesAt M f script line → MissesAt M f script other → line ≡ other
  pub not_both : (text : List ℕ) (line : ℕ) → Plays M f script text → MissesAt M f script line → ⊥

-- this is so of every script on the layers of every typed file
abbrev pub ScriptsHaveOneText : Type 0
ScriptsHaveOneText = (f : File) → IsTyped f → (script : List Command) → HasOneText (Noted f) f script

-- what a script names on the layers of a typed file is a history of these layers
abbrev pub PlaysAreHistories : Type 0
PlaysAreHistories =
    (f : File) → IsTyped f → (script : List Command) (text : List ℕ) (play : IsPlay f script text) →
    (s : State Env) × History (BottomOf f) (entries_of play.moments) s
