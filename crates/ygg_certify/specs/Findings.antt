-- What is found of terms by deciding them, and the certificate of those that are 1 in every environment.
use Rattle.std.specs.Prelude.{◌≡◌, ℕ, ◌≤◌, List, [], length, All, map}
use Rattle.ygg_decide.specs.ygg_bank.declared.node.Id.{Id}
use Rattle.ygg_decide.specs.ygg_bank.declared.node.Node.{Node}
use Rattle.ygg_cert.specs.ygg_cnf.declared.log.Step.{Step}
use Rattle.ygg_cert.specs.ygg_cnf.Logs.{Refutes, SpentLog}
use Rattle.ygg_decide.specs.ygg_gates.Groups.{translated}
use Rattle.ygg_decide.specs.ygg_gates.Laws.{IsZeroIn}
use Rattle.ygg_cert.specs.ygg_cnf.Steps.{IsStep}
use Rattle.ygg_cert.specs.declared.item.Item.{Item}
use Rattle.ygg_cert.specs.Texts.{item_text, certificate_of}
use Rattle.ygg_certify.specs.declared.finding.Outcome.{Outcome}
use Rattle.ygg_certify.specs.declared.finding.Outcome.TheVariants.{Holds, Fails, Spent}
use Rattle.ygg_certify.specs.declared.finding.Finding.{Finding}

-- What is found of a term within a budget is true: a log of at most so many clauses refutes the term's clauses, and each of its steps may stand in a
-- certificate; or the term is 0 in the environment; or a log over the term's clauses has exactly so many.
abbrev pub IsOutcome : List Node → Id → ℕ → Outcome → Type 0
IsOutcome nodes term budget (Holds log) = Refutes (translated nodes term).clauses log × (length log ≤ budget) × All IsStep log
IsOutcome nodes term budget (Fails env) = IsZeroIn nodes term env
IsOutcome nodes term budget Spent = (log : List Step) × SpentLog (translated nodes term).clauses log budget

-- what is found of the term under a name, with the number of the term's clauses
pub record IsFinding (nodes : List Node) (budget : ℕ) (name : List ℕ) (term : Id) (f : Finding) : Type 0 where
  pub named : f.name ≡ name
  pub counted : f.clauses ≡ length (translated nodes term).clauses
  pub found : IsOutcome nodes term budget f.outcome

-- a log was found
abbrev pub HasLog : Outcome → Type 0
HasLog (Holds log) = Unit {0}
HasLog (Fails env) = ⊥
HasLog Spent = ⊥

-- a log was found for the term
abbrev pub IsHeld : Finding → Type 0
IsHeld f = HasLog f.outcome

-- the log that was found; none is the empty one
abbrev pub log_of : Outcome → List Step
log_of (Holds log) = log
log_of (Fails env) = []
log_of Spent = []

-- the log under its name
abbrev pub item_of : Finding → Item
item_of f = record { name = f.name; clauses = f.clauses; log = log_of f.outcome }

-- the lines of the log
abbrev pub lines_of : Finding → List ℕ
lines_of f = item_text (item_of f)

-- the certificate of what was found
abbrev pub text_of : List Finding → List ℕ
text_of findings = certificate_of (map item_of findings)
