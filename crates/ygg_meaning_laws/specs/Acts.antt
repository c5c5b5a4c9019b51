-- Machines as functions of the picks that they may take, and runs of blocks on them.
use Rattle.std.specs.Prelude.{◌≡◌, ℕ, zero, suc, Bool, if◌then◌else◌, List, [], ◌∷◌, ◌++◌, length, take, Option, Some, None, refl}
use Rattle.ygg_value.specs.declared.row.Value.{Value}
use Rattle.ygg_syntax.specs.declared.tree.Block.{Block}
use Rattle.ygg_meaning_laws.specs.Environments.{Name, Env}
use Rattle.ygg_meaning_laws.specs.Progress.{Question, Choice, Call, Answer, answer_of}
use Rattle.ygg_meaning_laws.specs.Machine.{Picks, State, on, memory_in, Machine}
use Rattle.ygg_meaning_laws.specs.Layer.{ClosedLayer, eval_of}
use Rattle.ygg_meaning_laws.specs.Obligations.{Halt}
use Rattle.ygg_meaning_laws.specs.Direct.{Handled, Event, Reached, direct_run}

-- the next pick of a list that goes on with `past` after its end
abbrev pub next_of : Bool → Picks → Bool
next_of past [] = past
next_of past (p ∷ ps) = p

-- the picks after it
abbrev pub later : Picks → Picks
later [] = []
later (p ∷ ps) = ps

-- these are the next picks of a list that goes on with `past` after its end, and these are left
abbrev pub Taken : Bool → Picks → Picks → Picks → Type 0
Taken past [] picks left = left ≡ picks
Taken past (t ∷ taken) picks left = (t ≡ next_of past picks) × Taken past taken (later picks) left

-- the picks in what is noted: those of one list and then those of another, where one comes after the other
pub record Notes (X : Type 0) : Type 0 where
  pub picks_in : List X → Picks
  pub none : picks_in [] ≡ []
  pub joined : (a b : List X) → picks_in (a ++ b) ≡ picks_in a ++ picks_in b

-- picks themselves are noted
abbrev pub noted_picks : Notes Bool
noted_picks = record { picks_in = λ picks. picks; none = refl; joined = λ a b. refl }

-- what a whole call or a whole block answers, the state after it, what is noted of it and the picks that are left
pub record Did (B X : Type 0) : Type 0 where
  pub answer : Answer
  pub to : State B
  pub notes : List X
  pub left : Picks

-- what power leaves that fails, what is noted and the picks that are left
pub record Fell (B X : Type 0) : Type 0 where
  pub base : B
  pub notes : List X
  pub left : Picks

-- a machine as a function of picks
pub record Acts (B X : Type 0) : Type 0 where
  -- a whole operation
  pub calls : State B → Name → List Value → Picks → Did B X
  -- power fails within an operation
  pub falls : State B → Name → List Value → Picks → Fell B X
  -- power fails between operations
  pub loses : State B → Picks → Fell B X

-- a state of the machine below within a run, what the run has noted and the picks that are left
pub record Standing (B X : Type 0) : Type 0 where
  pub at : State B
  pub notes : List X
  pub left : Picks

-- the state of the machine below a layer
abbrev pub under : {B : Type 0} → State B → State B
under s = record { memories = elim s.memories [ [] ↦ [] | memory ∷ below ↦ below ]; base = s.base }

module _ {B X : Type 0} (F : Acts B X) where
  -- a call has ended
  abbrev pub after_did : Standing B X → Did B X → Handled (Standing B X)
  after_did z d = record { answer = d.answer; to = record { at = d.to; notes = z.notes ++ d.notes; left = d.left } }

  -- a call is one of the machine below; there are no choices
  abbrev pub serve : ℕ → Question → Standing B X → Handled (Standing B X)
  serve i Choice z = record { answer = None; to = z }
  serve i (Call f args) z = after_did z (F.calls z.at f args z.left)

  -- the statements of a block of a layer, from a state of the layer
  abbrev pub run_from : ClosedLayer → Block → Env → State B → Picks → Reached (Standing B X)
  run_from L b args from picks =
      direct_run (eval_of L) (λ f. 1) serve b (memory_in from ++ args) (record { at = under from; notes = []; left = picks })

  -- what a whole run of the block does that has come to its end
  abbrev pub did_by : ClosedLayer → Block → Env → Env → Reached (Standing B X) → Did B X
  did_by L b args memory r = record {
    answer = answer_of (eval_of L) b.answer r.env;
    to = on (take (length memory) (take (length (memory ++ args)) r.env)) r.to.at;
    notes = r.to.notes;
    left = r.to.left;
  }

  -- a whole run of a block
  abbrev pub runs : ClosedLayer → Block → Env → State B → Picks → Did B X
  runs L b args from picks = did_by L b args (memory_in from) (run_from L b args from picks)

  -- power is lost where a run stands
  abbrev pub lost_at : Standing B X → Fell B X → Fell B X
  lost_at z f = record { base = f.base; notes = z.notes ++ f.notes; left = f.left }

  -- power fails within a question that is asked there
  abbrev pub cut_at : Question → Standing B X → Fell B X
  cut_at Choice z = lost_at z (F.loses z.at z.left)
  cut_at (Call f args) z = lost_at z (F.falls z.at f args z.left)

  -- what is left of a run that stops within the question of this number or before it, if there is such a one; before the one after the last is its end
  abbrev pub stopped_in : Bool → List (Event (Standing B X)) → ℕ → Standing B X → Option (Fell B X)
  stopped_in within [] zero end = if within then None else Some (lost_at end (F.loses end.at end.left))
  stopped_in within [] (suc n) end = None
  stopped_in within (e ∷ es) zero end = Some (if within then cut_at e.question e.before else lost_at e.before (F.loses e.before.at e.before.left))
  stopped_in within (e ∷ es) (suc n) end = stopped_in within es n end

  -- what is left of a run of a block that stops there
  abbrev pub falls_in : ClosedLayer → Block → Env → State B → Halt → Picks → Option (Fell B X)
  falls_in L b args from stop picks = let r = run_from L b args from picks in stopped_in stop.within r.events stop.event r.to

-- What is noted of a step names the picks that it took, the next ones of a list.
abbrev pub Took : {X : Type 0} → Bool → Notes X → List X → Picks → Picks → Type 0
Took past N notes picks left = Taken past (N.picks_in notes) picks left

-- whatever the machine does in a call is what the function says, with picks of which those that it took are the next
abbrev pub AreCalls : {B X : Type 0} → Bool → Notes X → Machine B X → Acts B X → Type 0
AreCalls {B} {X} past N M F =
    (s s' : State B) (name : Name) (args : List Value) (notes : List X) (picks left : Picks) (y : Answer) →
    M.Calls s name args notes y s' → Took past N notes picks left → F.calls s name args picks ≡ record { answer = y; to = s'; notes = notes; left = left }

-- and whatever power leaves that fails
pub record IsActed {B X : Type 0} (past : Bool) (N : Notes X) (M : Machine B X) (F : Acts B X) : Type 0 where
  pub calls : AreCalls past N M F
  pub falls : (s : State B) (name : Name) (args : List Value) (notes : List X) (picks left : Picks) (f : B) →
      M.Falls s name args notes f → Took past N notes picks left → F.falls s name args picks ≡ record { base = f; notes = notes; left = left }
  pub loses : (s : State B) (notes : List X) (picks left : Picks) (f : B) →
      M.Loses s notes f → Took past N notes picks left → F.loses s picks ≡ record { base = f; notes = notes; left = left }

-- what the machine does takes the next picks
pub record Takes {X : Type 0} (past : Bool) (N : Notes X) (Step : List X → Type 0) (notes : List X) (picks left : Picks) : Type 0 where
  pub step : Step notes
  pub took : Took past N notes picks left

module _ {B X : Type 0} (past : Bool) (N : Notes X) (M : Machine B X) where
  -- the machine makes a call so, with these picks
  abbrev pub CallIs : State B → Name → List Value → Picks → Did B X → Type 0
  CallIs s name args picks d = Takes past N (λ notes. M.Calls s name args notes d.answer d.to) d.notes picks d.left

  -- power fails so within a call
  abbrev pub FallIs : State B → Name → List Value → Picks → Fell B X → Type 0
  FallIs s name args picks f = Takes past N (λ notes. M.Falls s name args notes f.base) f.notes picks f.left

  -- power fails so between calls
  abbrev pub LossIs : State B → Picks → Fell B X → Type 0
  LossIs s picks f = Takes past N (λ notes. M.Loses s notes f.base) f.notes picks f.left
