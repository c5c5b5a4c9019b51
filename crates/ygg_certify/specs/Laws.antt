-- What is decided of an obligation by its term.
use Rattle.std.specs.Prelude.{◌⊎◌, List}
use Rattle.ygg_oblige_laws.specs.ygg_meaning.Obligations.{Schedule}
use Rattle.ygg_oblige_laws.specs.ygg_meaning.Claims.{Claim, ClaimHolds, ClaimViolated}
use Rattle.ygg_decide.specs.ygg_bank.Nodes.{IsBank}
use Rattle.ygg_decide.specs.ygg_bank.declared.env.Given.{Given}
use Rattle.ygg_decide.specs.ygg_bank.declared.node.Id.{Id}
use Rattle.ygg_decide.specs.ygg_bank.declared.node.Node.{Node}
use Rattle.ygg_decide.specs.ygg_gates.Laws.{IsZeroIn}
use Rattle.ygg_decide.specs.Deciding.{IsNeverZero}
use Rattle.ygg_oblige_laws.specs.Meaning.{IsTermOf}

-- an obligation whose term is 0 in no environment holds
abbrev pub NeverZeroHolds : Type 0
NeverZeroHolds = (nodes : List Node) (c : Claim) (term : Id) → IsBank nodes → IsTermOf nodes c term → IsNeverZero nodes term → ClaimHolds c

-- where an obligation's term is 0 in an environment, some schedule violates the obligation
abbrev pub ZeroIsViolated : Type 0
ZeroIsViolated =
    (nodes : List Node) (c : Claim) (term : Id) (env : List Given) → IsTermOf nodes c term → IsZeroIn nodes term env → (x : Schedule) × ClaimViolated c x

-- each obligation with a term holds, or some schedule violates it: there are finitely many truth values for the clauses of the term
abbrev pub EachIsDecided : Type 0
EachIsDecided = (nodes : List Node) (c : Claim) (term : Id) → IsBank nodes → IsTermOf nodes c term → ClaimHolds c ⊎ ((x : Schedule) × ClaimViolated c x)
