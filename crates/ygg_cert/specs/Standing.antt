-- What a reader of certificates has read.
use Rattle.std.specs.Prelude.{◌≡◌, ℕ, ◌+◌, ◌<◌, List, [], ◌∷◌, ◌++◌, length, drop, Contains, codes}
use Rattle.ygg_cnf.specs.declared.log.Step.TheVariants.{Added}
use Rattle.ygg_cnf.specs.Reading.{IsReading}
use Rattle.ygg_cert.specs.declared.item.Goal.{Goal}
use Rattle.ygg_cert.specs.declared.verdict.Heard.{Heard}
use Rattle.ygg_cert.specs.declared.verdict.Heard.TheVariants as heard
use Rattle.ygg_cert.specs.declared.log.LogLine.{LogLine}
use Rattle.ygg_cert.specs.declared.log.LogLine.TheVariants as line
use Rattle.ygg_cert.specs.declared.log.LogReading.{LogReading}
use Rattle.ygg_cert.specs.declared.phase.Next.{Next}
use Rattle.ygg_cert.specs.declared.phase.Phase.{Phase}
use Rattle.ygg_cert.specs.declared.phase.Phase.TheVariants as phase
use Rattle.ygg_cert.specs.declared.reading.Reading.{Reading}
use Rattle.ygg_cert.specs.Texts.{first_line, goal_line, closing_line, last_line}
use Rattle.ygg_cert.specs.Places.{Place, Start, Between, Within, End, IsDerived, IsBad, Leads, GoesOn}
use Rattle.ygg_cert.specs.Judging.{Reaches, IsBadAt, IsWrongAt, wrong_after}
use Rattle.ygg_cert.specs.Matching.{IsMatching}

-- these bytes of a line of a log are read
abbrev pub IsInLine : List ℕ → LogReading → Type 0
IsInLine bytes log = in_line log.at
  where
    in_line : LogLine → Type 0
    in_line line.Begin = (bytes ≡ []) × IsReading [] log.step
    in_line line.Closing = bytes ≡ codes "e"
    in_line line.Step = IsReading bytes log.step × ((more others : List ℕ) → bytes ++ more ≡ closing_line ++ others → ⊥)

-- these bytes of a line of a log are read, and the clauses held are counted
pub record IsLogAt (bytes : List ℕ) (log : LogReading) : Type 0 where
  pub counted : log.held ≡ length log.checker
  pub line : IsInLine bytes log

-- What is said at the end of a log: an empty clause is held, or none is.
abbrev pub Closes : LogReading → Heard → Type 0
Closes log heard.Whole = Contains log.checker []
Closes log (heard.Bad number) = (number ≡ 0) × (Contains log.checker [] → ⊥)
Closes log _ = ⊥

-- What is said of the step that is read: its clause is derived and now held, or it isn't derived.
abbrev pub Adds : LogReading → LogReading → Heard → Type 0
Adds old new heard.Added =
    IsDerived old.checker (Added old.step.clause old.step.chain)
    × ((new.checker ≡ old.checker ++ old.step.clause ∷ []) × (new.name ≡ old.name) × IsLogAt [] new)
Adds old new (heard.Bad number) =
    (IsDerived old.checker (Added old.step.clause old.step.chain) → ⊥) × (number ≡ length old.checker + 1) × (new.name ≡ old.name)
Adds old new _ = ⊥

-- these bytes of the line of a step are read, and with the next byte they don't begin the line after the log
pub record IsStepAt (bytes : List ℕ) (next : ℕ) (log : LogReading) : Type 0 where
  pub counted : log.held ≡ length log.checker
  pub line : IsReading bytes log.step
  pub other : (more others : List ℕ) → (bytes ++ next ∷ []) ++ more ≡ closing_line ++ others → ⊥

-- what is said of these bytes of a line of a log, by the log before and after the last of them
abbrev pub Turns : LogReading → List ℕ → LogReading → Heard → Type 0
Turns old bytes new heard.More = IsLogAt bytes new × (new.name ≡ old.name) × (new.checker ≡ old.checker)
Turns old bytes new heard.Added =
    (gs : List Goal) → Leads (Within old.name old.checker gs) bytes (Within new.name new.checker gs) × IsLogAt [] new
Turns old bytes new heard.Whole = (gs : List Goal) → Leads (Within old.name old.checker gs) bytes (Between gs)
Turns old bytes new (heard.Bad number) = (new.name ≡ old.name) × ((gs : List Goal) → IsBad (Within old.name old.checker gs) bytes old.name number)
Turns old bytes new heard.Wrong = (gs : List Goal) → GoesOn (Within old.name old.checker gs) bytes → ⊥
Turns old bytes new heard.Nothing = ⊥

-- this goal is next, with so many behind
pub record IsNext (goals : List Goal) (goal : Goal) (passed : ℕ) : Type 0 where
  pub is : drop passed goals ≡ goal ∷ drop (passed + 1) goals
  pub within : passed < length goals

-- these bytes of the line before the log of the next goal are read, and that log is made
pub record IsOpening (goals : List Goal) (place : Place) (bytes : List ℕ) (n : Next) : Type 0 where
  pub goal : Goal
  pub here : place ≡ Between (goal ∷ drop (n.passed + 1) goals)
  pub line : IsMatching (goal_line goal) bytes n.line
  pub name : n.log.name ≡ goal.name
  pub checker : n.log.checker ≡ goal.clauses
  pub log : IsLogAt [] n.log
  pub within : n.passed < length goals

-- the reader stands at the place, and these bytes of the line that stands there are read
abbrev pub IsAt : List Goal → Place → List ℕ → Next → Type 0
IsAt goals place bytes n = is_at n.phase
  where
    is_at : Phase → Type 0
    is_at phase.First = (place ≡ Start goals) × IsMatching first_line bytes n.line × (n.passed ≡ 0)
    is_at phase.Opening = IsOpening goals place bytes n
    is_at phase.Log = (place ≡ Within n.log.name n.log.checker (drop (n.passed + 1) goals)) × IsLogAt bytes n.log × (n.passed < length goals)
    is_at phase.Last = (place ≡ Between []) × IsMatching last_line bytes n.line × (n.passed ≡ length goals)
    is_at phase.End = (place ≡ End) × (bytes ≡ []) × (n.passed ≡ length goals)
    is_at _ = ⊥

-- the line that the reader stands in is read whole, and leads to the place
abbrev pub IsDone : List Goal → Place → Next → Type 0
IsDone goals to n = is_done n.phase
  where
    is_done : Phase → Type 0
    is_done phase.First = (to ≡ Between goals) × (n.passed ≡ 0)
    is_done phase.Opening = (to ≡ Within n.log.name n.log.checker (drop (n.passed + 1) goals)) × IsLogAt [] n.log × (n.passed < length goals)
    is_done phase.Log = (to ≡ Between (drop (n.passed + 1) goals)) × (n.passed < length goals)
    is_done phase.Last = (to ≡ End) × (n.passed ≡ length goals)
    is_done _ = ⊥

-- nothing more is read: a line is at fault, or no memory was left
abbrev pub IsEnded : Phase → Type 0
IsEnded (phase.Bad number) = Unit {0}
IsEnded phase.Wrong = Unit {0}
IsEnded phase.GivenUp = Unit {0}
IsEnded _ = ⊥

-- what is said of these bytes of the line at a place, by what is read next after the last of them
abbrev pub Hears : List Goal → Place → List ℕ → Next → Heard → Type 0
Hears goals place bytes new heard.More = IsAt goals place bytes new
Hears goals place bytes new heard.Added = (to : Place) × (Leads place bytes to × IsAt goals to [] new)
Hears goals place bytes new heard.Whole = (to : Place) × (Leads place bytes to × IsDone goals to new)
Hears goals place bytes new (heard.Bad number) = IsBad place bytes new.log.name number
Hears goals place bytes new heard.Wrong = GoesOn place bytes → ⊥
Hears goals place bytes new heard.Nothing = ⊥

-- the reader has read a text in which no line is at fault
pub record IsOn (goals : List Goal) (text : List ℕ) (r : Reading) : Type 0 where
  pub place : Place
  pub bytes : List ℕ
  pub reaches : Reaches goals text place r.lines bytes
  pub column : r.column ≡ length bytes
  pub at : IsAt goals place bytes r.next

-- the reader of certificates for goals has read the text, or was given up
abbrev pub IsFed : List Goal → List ℕ → Reading → Type 0
IsFed goals text r = fed r.next.phase
  where
    fed : Phase → Type 0
    fed (phase.Bad number) = IsBadAt goals text r.next.log.name number
    fed phase.Wrong = IsWrongAt goals text (wrong_after r.lines)
    fed phase.GivenUp = Unit {0}
    fed _ = IsOn goals text r
