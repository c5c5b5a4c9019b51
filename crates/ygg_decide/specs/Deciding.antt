-- What is said of a term by deciding it.
use Rattle.std.specs.Prelude.{ℕ, ◌≤◌, List, length}
use Rattle.ygg_blast.specs.ygg_cnf.Logs.{Refutes, SpentLog}
use Rattle.ygg_blast.specs.ygg_bank.declared.env.Given.{Given}
use Rattle.ygg_blast.specs.ygg_bank.declared.node.Id.{Id}
use Rattle.ygg_blast.specs.ygg_bank.declared.node.Node.{Node}
use Rattle.ygg_blast.specs.ygg_gates.Groups.{translated}
use Rattle.ygg_blast.specs.ygg_gates.Laws.{IsZeroIn}
use Rattle.ygg_decide.specs.declared.deciding.Decided.{Decided}
use Rattle.ygg_decide.specs.declared.deciding.Decided.TheVariants.{Valid, Fails, Spent}

-- the answer is true of the term and the budget: a log of at most so many clauses refutes the term's clauses, the term is 0 in the
-- environment, or a log over its clauses has exactly so many
abbrev pub IsDecided : List Node → Id → ℕ → Decided → Type 0
IsDecided nodes term budget (Valid log) = Refutes (translated nodes term).clauses log × (length log ≤ budget)
IsDecided nodes term budget (Fails env) = IsZeroIn nodes term env
IsDecided nodes term budget (Spent log) = SpentLog (translated nodes term).clauses log budget

-- the term is 0 in no environment
abbrev pub IsNeverZero : List Node → Id → Type 0
IsNeverZero nodes term = (env : List Given) → IsZeroIn nodes term env → ⊥

-- a term that is said to be valid is 0 in no environment
abbrev pub IsSound : List Node → Id → Decided → Type 0
IsSound nodes term (Valid log) = IsNeverZero nodes term
IsSound nodes term (Fails env) = Unit {0}
IsSound nodes term (Spent log) = Unit {0}
