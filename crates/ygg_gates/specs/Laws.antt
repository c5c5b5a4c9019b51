-- What a term's clauses mean.
use Rattle.std.specs.Prelude.{ℕ, ◌≡◌, ◌↔◌, Bool, List}
use Rattle.ygg_cnf.specs.Literals.{SatisfiesAll}
use Rattle.ygg_cnf.specs.declared.lit.Lit.{Lit}
use Rattle.ygg_bank.specs.Nodes.{HasWidth, IsBank}
use Rattle.ygg_bank.specs.Values.{EnvFits, InputsFit, inputs_of, value_of}
use Rattle.ygg_bank.specs.declared.env.Given.{Given}
use Rattle.ygg_bank.specs.declared.node.Id.{Id}
use Rattle.ygg_bank.specs.declared.node.Node.{Node}
use Rattle.ygg_gates.specs.Groups.{translated}
use Rattle.ygg_gates.specs.Sources.{environment_by}

-- an environment that gives the inputs among the nodes words of their widths, and in which the term is 0
pub record IsZeroIn (nodes : List Node) (term : Id) (env : List Given) : Type 0 where
  pub widths : EnvFits env nodes
  pub numbers : InputsFit (inputs_of env) nodes
  pub zero : (value_of (inputs_of env) nodes term.0).bits ≡ 0

-- truth values that satisfy the clauses of a term of width 1 name an environment in which it is 0
abbrev pub SatisfyingIsZero : Type 0
SatisfyingIsZero =
    (nodes : List Node) (term : Id) (value : ℕ → Bool) → IsBank nodes → HasWidth nodes term 1 → SatisfiesAll value (translated nodes term).clauses →
    IsZeroIn nodes term (environment_by value (translated nodes term).sources)

-- the clauses are satisfiable exactly where the term is 0 in some environment
abbrev pub AreExact : List Node → Id → List (List Lit) → Type 0
AreExact nodes term clauses = ((value : ℕ → Bool) × SatisfiesAll value clauses) ↔ ((env : List Given) × IsZeroIn nodes term env)

-- so are those of each term of width 1
abbrev pub SatisfiableExactly : Type 0
SatisfiableExactly = (nodes : List Node) (term : Id) → IsBank nodes → HasWidth nodes term 1 → AreExact nodes term (translated nodes term).clauses
