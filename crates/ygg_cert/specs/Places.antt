-- Which line may stand where in a certificate for a list of goals, and where it leads.
use Rattle.std.specs.Prelude.{◌≡◌, ℕ, ◌+◌, List, [], ◌∷◌, ◌++◌, length, Contains, ◌⊎◌}
use Rattle.ygg_cnf.specs.declared.lit.Lit.{Lit}
use Rattle.ygg_cnf.specs.declared.log.Step.{Step}
use Rattle.ygg_cnf.specs.Logs.{clause_of, chain_of}
use Rattle.ygg_cnf.specs.Derivations.{HasClause, DerivesClause}
use Rattle.ygg_cnf.specs.Lines.{step_line}
use Rattle.ygg_cnf.specs.Steps.{IsStep}
use Rattle.ygg_cert.specs.declared.item.Goal.{Goal}
use Rattle.ygg_cert.specs.Texts.{first_line, goal_line, closing_line, last_line}

-- a place in a certificate, between two lines
pub data Place : Type 0 where
  -- before the first line
  Start : (goals : List Goal) → Place
  -- where these goals are still to come
  Between : (goals : List Goal) → Place
  -- in the log of the goal of this name, with these clauses held, and these goals to come after it
  Within : (name : List ℕ) → (held : List (List Lit)) → (goals : List Goal) → Place
  -- after the last line
  End : Place

-- the line is that of this step
pub record IsLineOf (step : Step) (line : List ℕ) : Type 0 where
  pub may : IsStep step
  pub is : line ≡ step_line step

-- the line may stand there, whatever its chain derives
abbrev pub MayStand : Place → List ℕ → Type 0
MayStand (Start goals) line = line ≡ first_line
MayStand (Between []) line = line ≡ last_line
MayStand (Between (g ∷ gs)) line = line ≡ goal_line g
MayStand (Within name held goals) line = (line ≡ closing_line) ⊎ ((step : Step) × IsLineOf step line)
MayStand End line = ⊥

-- the step's chain derives its clause from the clauses held
abbrev pub IsDerived : List (List Lit) → Step → Type 0
IsDerived held step = DerivesClause (HasClause held) (chain_of step) (clause_of step)

-- The line is at fault in the log of the goal of this name: its chain doesn't derive its clause, whose number this is; or it ends the log, no empty clause is
-- held, and the number is 0.
abbrev pub IsBad : Place → List ℕ → List ℕ → ℕ → Type 0
IsBad (Within name held goals) line named number =
    (named ≡ name)
    × (((line ≡ closing_line) × (Contains held [] → ⊥) × (number ≡ 0))
    ⊎ ((step : Step) × (IsLineOf step line × (IsDerived held step → ⊥) × (number ≡ length held + 1))))
IsBad _ line named number = ⊥

-- The line leads on: it may stand there, and in a log its chain derives its clause, or it ends the log and an empty clause is held.
abbrev pub Leads : Place → List ℕ → Place → Type 0
Leads (Start goals) line to = (line ≡ first_line) × (to ≡ Between goals)
Leads (Between []) line to = (line ≡ last_line) × (to ≡ End)
Leads (Between (g ∷ gs)) line to = (line ≡ goal_line g) × (to ≡ Within g.name g.clauses gs)
Leads (Within name held goals) line to =
    ((line ≡ closing_line) × Contains held [] × (to ≡ Between goals))
    ⊎ ((step : Step) × (IsLineOf step line × IsDerived held step × (to ≡ Within name (held ++ clause_of step ∷ []) goals)))
Leads End line to = ⊥

-- bytes that can be continued so that they begin with a line that may stand there
pub record Continues (place : Place) (bytes : List ℕ) : Type 0 where
  pub line : List ℕ
  pub more : List ℕ
  pub others : List ℕ
  pub may : MayStand place line
  pub is : bytes ++ more ≡ line ++ others

-- bytes may stand there, or be a front of such: after the last line there are none
abbrev pub GoesOn : Place → List ℕ → Type 0
GoesOn End bytes = bytes ≡ []
GoesOn place bytes = Continues place bytes
