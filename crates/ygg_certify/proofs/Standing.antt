-- Which literals and logs may stand in a certificate.
use Rattle.std.proofs.Common.{◌≡◌, ℕ, ◌<◌, ◌≤◌, ◌^◌, List, length, get_or, sym, subst, arith}
use Rattle.std.specs.Prelude.{All}
use Rattle.ygg_decide.specs.ygg_bank.declared.node.Id.{Id}
use Rattle.ygg_decide.specs.ygg_bank.declared.node.Node.{Node}
use Rattle.ygg_cert.specs.ygg_cnf.declared.lit.Lit.{Lit}
use Rattle.ygg_cert.specs.ygg_cnf.declared.log.Step.{Step}
use Rattle.ygg_cert.specs.ygg_cnf.Logs.{Refutes}
use Rattle.ygg_decide.specs.ygg_gates.Groups.{Translated, translated}
use Rattle.ygg_cert.specs.ygg_cnf.Steps.{IsLiteral, IsStep}
use Rattle.ygg_cert.specs.Laws.{StepsMay}
use Rattle.ygg_decide.specs.declared.deciding.Decided.{Decided}
use Rattle.ygg_decide.specs.declared.deciding.Decided.TheVariants as decided
use Rattle.ygg_decide.specs.Deciding.{IsDecided}
use Rattle.ygg_certify.specs.declared.finding.Outcome.TheVariants.{Holds, Spent}
use Rattle.ygg_certify.specs.Findings.{IsOutcome}

-- what holds of the items of a list holds of the one at a place
pub all_at : {A : Type 0} (P : A → Type 0) (xs : List A) (i : ℕ) (x : A) → i < length xs → x ≡ get_or xs i x → All P xs → P x
all_at {A} P xs i x within here all = subst (λ (y : A). P y) (sym here) (all i x within)

-- the steps of a log that refutes clauses whose literals may stand
may_stand : StepsMay → (clauses : List (List Lit)) (log : List Step) (budget : ℕ) → All (All IsLiteral) clauses → length clauses < 2 ^ 63 → budget < 2 ^ 32 →
    length log ≤ budget → Refutes clauses log
    → All IsStep log
may_stand law clauses log budget may few small within refutes = law clauses log may (omega (arith, few, small, within)) refutes.derives

-- what is found of a term with a log that refutes these clauses, which are its own
pub log_found : StepsMay → (nodes : List Node) (term : Id) (budget : ℕ) (t : Translated) (log : List Step) → t ≡ translated nodes term →
    All (All IsLiteral) t.clauses → length t.clauses < 2 ^ 63 → budget < 2 ^ 32 → Refutes t.clauses log → length log ≤ budget
    → IsOutcome nodes term budget (Holds log)
log_found law nodes term budget t log is may few small refutes within =
    subst (λ (u : Translated). Refutes u.clauses log × (length log ≤ budget) × All IsStep log) is
    (refutes, within, may_stand law t.clauses log budget may few small within refutes)

-- what is found of a term for which the whole budget was spent
pub spent_found : (nodes : List Node) (term : Id) (budget : ℕ) (d : Decided) (log : List Step) → d ≡ decided.Spent log → IsDecided nodes term budget d
    → IsOutcome nodes term budget Spent
spent_found nodes term budget d log is found = (log, subst (λ (x : Decided). IsDecided nodes term budget x) is found)
