-- Which schedules are those of a file, and what a schedule says of its obligation.
use Rattle.std.specs.Prelude.{◌≡◌, ℕ, ◌<◌, ◌^◌, Bool, false, not, ◌==◌, ◌&&◌, IsTrue, List, [], ◌∷◌, Option, Some, is_some, IfSome}
use Rattle.std.specs.List.{list_all}
use Rattle.ygg_value.specs.declared.row.Value.{Value}
use Rattle.ygg_value.specs.Shapes.{IsValue, shape_of as value_shape}
use Rattle.ygg_syntax.specs.declared.tree.TypeText.{TypeText}
use Rattle.ygg_syntax.specs.declared.tree.Declared.{Declared}
use Rattle.ygg_syntax.specs.declared.tree.File.{File}
use Rattle.ygg_type.specs.ygg_type_rules.Shapes.{shape_of}
use Rattle.ygg_meaning.specs.Obligations as meaning
use Rattle.ygg_sched.specs.declared.schedule.Halt.{Halt}
use Rattle.ygg_sched.specs.declared.schedule.Schedule.{Schedule}
use Rattle.ygg_sched.specs.Sites.{Site, site_named, state_lines, memory_lines, low_lines, argument_lines, has_stop, has_wake, has_other}
use Rattle.ygg_sched.specs.Words.{is_word}

-- a value of a type
pub record IsOfType (t : TypeText) (v : Value) : Type 0 where
  pub shape : shape_of t ≡ Some (value_shape v)
  pub value : IsValue v

-- a value of its type for each variable, in order
abbrev pub AreOfTypes : List Declared → List Value → Type 0
AreOfTypes [] [] = Unit {0}
AreOfTypes (d ∷ ds) (v ∷ vs) = IsOfType d.shape v × AreOfTypes ds vs
AreOfTypes [] (v ∷ vs) = ⊥
AreOfTypes (d ∷ ds) [] = ⊥

-- a list that is empty unless there is a line of it
abbrev pub OnlyIf : Bool → List Bool → Type 0
OnlyIf line bits = line ≡ false → bits ≡ []

-- a stop is there exactly where there is a line of it, and its number is below 2 ^ 64
pub record StopsOnlyIf (line : Bool) (stop : Option Halt) : Type 0 where
  pub there : is_some stop ≡ line
  pub bounded : IfSome stop (λ h. h.event < 2 ^ 64)

-- The schedule is one of this obligation: it has a value of its type for each variable that has a line, and nothing for which there is no line.
pub record IsAt (s : Site) (x : Schedule) : Type 0 where
  pub state : AreOfTypes (state_lines s) x.state
  pub memory : AreOfTypes (memory_lines s) x.memory
  pub low : AreOfTypes (low_lines s) x.low
  pub args : AreOfTypes (argument_lines s) x.args
  pub stop : StopsOnlyIf (has_stop s.obligation) x.stop
  pub wake : OnlyIf (has_wake s.obligation) x.wake
  pub other : OnlyIf (has_other s.obligation) x.other

-- the schedule is one of the file's obligation of its name
pub record IsScheduleOf (f : File) (x : Schedule) : Type 0 where
  pub site : Site
  pub named : site_named f x.name ≡ Some site
  pub fits : IsAt site x

-- a name that may stand in a line: a word without a line feed, as every name of a text is
abbrev pub is_plain : List ℕ → Bool
is_plain name = is_word name && list_all (λ b. not (b == 10)) name

-- the names of all variables may stand in lines
abbrev pub all_plain : List Declared → Bool
all_plain = list_all (λ d. is_plain d.name.text)

-- the names in the lines of the obligation may stand there
pub record IsPlain (s : Site) (name : List ℕ) : Type 0 where
  pub own : IsTrue (is_plain name)
  pub state : IsTrue (all_plain (state_lines s))
  pub memory : IsTrue (all_plain (memory_lines s))
  pub low : IsTrue (all_plain (low_lines s))
  pub args : IsTrue (all_plain (argument_lines s))

-- what the stop means
abbrev pub halt_meant : Halt → meaning.Halt
halt_meant h = record { within = h.within; event = h.event }
