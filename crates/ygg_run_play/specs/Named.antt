-- What a script names on a machine: one thing after another, with power failing where its stops say.
use Rattle.std.specs.Prelude.{
  ◌≡◌,
  ◌≤◌,
  ◌<◌,
  ◌⊎◌,
  ℕ,
  ◌+◌,
  true,
  false,
  All,
  MatchBool,
  List,
  [],
  ◌∷◌,
  ◌++◌,
  length,
  slice_get,
  Option,
  Some,
  None,
}
use Rattle.std.specs.List.{flat_map}
use Rattle.ygg_syntax.specs.declared.tree.File.{File}
use Rattle.ygg_script.specs.ygg_type.Typed.{ticks_at}
use Rattle.ygg_script.specs.ygg_disk.declared.power.Fuse.{Fuse}
use Rattle.ygg_script.specs.ygg_meaning.Environments.{Name, Env}
use Rattle.ygg_script.specs.ygg_meaning.Progress.{Answer}
use Rattle.ygg_script.specs.ygg_meaning.Machine.{Picks, TickName, Machine}
use Rattle.ygg_script.specs.ygg_meaning.Under.{InCall, InTick, Between}
use Rattle.ygg_script.specs.ygg_meaning.Trace.{Standing, Moment, Calls, Ticks, Fails, WakeFails, Wakes, Traces}
use Rattle.ygg_script.specs.ygg_meaning.Noted.{Note, picks_in}
use Rattle.ygg_meaning_laws.specs.Acts.{Taken}
use Rattle.ygg_script.specs.declared.command.Command.{Command}
use Rattle.ygg_script.specs.declared.command.Command.TheVariants.{Call, Tick, Lost, Fail, Keep}
use Rattle.ygg_script.specs.Places.{top_operations}

-- the name of the topmost layer's operation at a place; a place without one, which no script of the file has, has the empty name
abbrev pub operation_name : File → ℕ → Name
operation_name f op = elim (slice_get (top_operations f) op) [ None ↦ [] | Some o ↦ o.name.text ]

-- the name of the background step at a place of the layer at a place, likewise
abbrev pub tick_name : File → ℕ → ℕ → TickName
tick_name f layer number = record {
  layer = elim (slice_get f.layers layer) [ None ↦ [] | Some l ↦ l.name.text ];
  name = elim (slice_get (ticks_at f.layers layer) number) [ None ↦ [] | Some t ↦ t.name.text ];
}

-- where power is to fail in what a line does: where the line after it says so, if that is a `fail` line
abbrev pub stop_after : List Command → Option Fuse
stop_after [] = None
stop_after (Call op args ∷ cs) = None
stop_after (Tick layer number ∷ cs) = None
stop_after (Lost ∷ cs) = None
stop_after (Fail within call ∷ cs) = Some (record { within = within; call = call })
stop_after (Keep picks ∷ cs) = None

-- What happens by a line where no stop follows it; these are the disk calls of its operation, background step or waking. At a `lost` line power fails
-- and the machine is woken; a `fail` line stands where power has failed, so that it wakes the machine.
abbrev pub Wholly : File → Command → List Note → List (Moment Note) → Type 0
Wholly f (Call op args) notes ms = (answer : Answer) × (ms ≡ Calls (operation_name f op) args answer notes ∷ [])
Wholly f (Tick layer number) notes ms = ms ≡ Ticks (tick_name f layer number) notes ∷ []
Wholly f Lost notes ms = ms ≡ Fails Between [] ∷ Wakes notes ∷ []
Wholly f (Fail within call) notes ms = ms ≡ Wakes notes ∷ []
Wholly f (Keep picks) notes ms = (notes ≡ []) × (ms ≡ [])

-- what happens by a line where a stop follows it, and power fails after these disk calls
abbrev pub CutShort : File → Command → List Note → List (Moment Note) → Type 0
CutShort f (Call op args) notes ms = ms ≡ Fails (InCall (operation_name f op) args) notes ∷ []
CutShort f (Tick layer number) notes ms = ms ≡ Fails (InTick (tick_name f layer number)) notes ∷ []
CutShort f Lost notes ms = ms ≡ Fails Between [] ∷ WakeFails notes ∷ []
CutShort f (Fail within call) notes ms = ms ≡ WakeFails notes ∷ []
CutShort f (Keep picks) notes ms = ⊥

-- The disk calls of one operation, background step or waking end where the stop says: when so many are whole and no other has begun, or within the one
-- after them.
pub record EndsAt (stop : Fuse) (notes : List Note) : Type 0 where
  pub whole : List Note
  pub are_whole : All (λ (n : Note). n.cut ≡ false) whole
  pub count : length whole ≡ stop.call
  pub end : MatchBool stop.within ((last : Note) × (last.cut ≡ true) × (notes ≡ whole ++ last ∷ [])) (notes ≡ whole)

-- An operation, background step or waking that is whole with these disk calls has no such point: there are fewer than so many, or none after them.
abbrev pub Misses : Fuse → List Note → Type 0
Misses stop notes = MatchBool stop.within (length notes ≤ stop.call) (length notes < stop.call)

-- what happens by a line, with the stop that follows it, if one does
abbrev pub Happens : File → Command → Option Fuse → List (Moment Note) → Type 0
Happens f c None ms = (notes : List Note) × Wholly f c notes ms
Happens f c (Some stop) ms = (notes : List Note) × CutShort f c notes ms × EndsAt stop notes

-- the disk calls of a moment
abbrev pub notes_in : Moment Note → List Note
notes_in (Calls name args answer notes) = notes
notes_in (Ticks name notes) = notes
notes_in (Fails how notes) = notes
notes_in (WakeFails notes) = notes
notes_in (Wakes notes) = notes

-- the picks that moments take
abbrev pub picks_of : List (Moment Note) → Picks
picks_of ms = picks_in (flat_map notes_in ms)

-- the picks from a line on: a `keep` line gives others in place of those that are left
abbrev pub picks_from : Command → Picks → Picks
picks_from (Call op args) picks = picks
picks_from (Tick layer number) picks = picks
picks_from Lost picks = picks
picks_from (Fail within call) picks = picks
picks_from (Keep given) picks = given

module _ (M : Machine Env Note) (f : File) where
  -- These moments lead from here to there. They take the next of the picks, each 1 where none are left, and leave the others.
  pub record Leading (c : Command) (picks : Picks) (from : Standing Env) (ms : List (Moment Note)) (to : Standing Env) (left : Picks) : Type 0 where
    pub leads : Traces M from ms to
    pub takes : Taken true (picks_of ms) (picks_from c picks) left

  -- lines in turn name these moments, from here and with these picks
  abbrev pub Names : List Command → Picks → Standing Env → List (Moment Note) → Type 0
  Names [] picks from ms = ms ≡ []
  Names (c ∷ cs) picks from ms =
      (here rest : List (Moment Note)) × (next : Standing Env) × (left : Picks) × (ms ≡ here ++ rest)
      × Happens f c (stop_after cs) here × Leading c picks from here next left × Names cs left next rest

  -- what a line does is whole, and has not the point where power is to fail
  pub record IsMissed (c : Command) (stop : Option Fuse) (picks : Picks) (from : Standing Env) : Type 0 where
    pub point : Fuse
    pub is : stop ≡ Some point
    pub notes : List Note
    pub ms : List (Moment Note)
    pub to : Standing Env
    pub left : Picks
    pub wholly : Wholly f c notes ms
    pub leading : Leading c picks from ms to left
    pub misses : Misses point notes

  -- The stop on the line `at` is the first that isn't reached, where the first of these lines has the number `line`: the lines before the one that it stops
  -- name what leads there.
  abbrev pub Unreached : ℕ → List Command → Picks → Standing Env → ℕ → Type 0
  Unreached line [] picks from at = ⊥
  Unreached line (c ∷ cs) picks from at =
      (IsMissed c (stop_after cs) picks from × (at ≡ line + 1))
      ⊎ ((here : List (Moment Note)) × (next : Standing Env) × (left : Picks) × Happens f c (stop_after cs) here
      × Leading c picks from here next left × Unreached (line + 1) cs left next at)
