-- What a certificate of a layer file is for.
use Rattle.std.specs.Prelude.{◌≡◌, ℕ, List, [], ◌∷◌, map}
use Rattle.ygg_syntax.specs.declared.tree.File.{File}
use Rattle.ygg_certify.specs.ygg_rules.declared.rule.RuleKind.{RuleKind}
use Rattle.ygg_certify.specs.ygg_meaning.Environments.{Env}
use Rattle.ygg_certify.specs.ygg_meaning.Machine.{State}
use Rattle.ygg_certify.specs.ygg_meaning.Stack.{BottomOf, FileRefines}
use Rattle.ygg_certify.specs.ygg_meaning.History.{Entry, History, Allows}
use Rattle.ygg_certify.specs.ygg_meaning.Claims.{claims_of}
use Rattle.ygg_certify.specs.ygg_bank.declared.node.Id.{Id}
use Rattle.ygg_certify.specs.ygg_bank.declared.node.Node.{Node}
use Rattle.ygg_certify.specs.ygg_gates.Groups.{translated}
use Rattle.ygg_certify.specs.ygg_oblige_laws.Terms.{file_made}
use Rattle.ygg_certify.specs.ygg_oblige_laws.Meaning.{claim_name}
use Rattle.ygg_oblige.specs.declared.obligation.Obligation.{Obligation}
use Rattle.ygg_cert.specs.declared.item.Goal.{Goal}
use Rattle.ygg_cert.specs.declared.verdict.CertEnd.{CertEnd}
use Rattle.ygg_cert.specs.declared.verdict.CertEnd.TheVariants.{Checked, Bad, Refused, Memory}

-- the clauses of a term, under a name
abbrev pub goal_by : List Node → List ℕ → Id → Goal
goal_by nodes name term = record { name = name; clauses = (translated nodes term).clauses }

-- the clauses of the terms, under these names, in order
abbrev pub goals_by : List Node → List (List ℕ) → List Id → List Goal
goals_by nodes (name ∷ names) (term ∷ terms) = goal_by nodes name term ∷ goals_by nodes names terms
goals_by nodes _ _ = []

-- the clauses of an obligation's term
abbrev pub goal_in : List Node → Obligation → Goal
goal_in nodes o = goal_by nodes o.name o.term

-- the goals of obligations, in order
abbrev pub goals_in : List Node → List Obligation → List Goal
goals_in nodes = map (goal_in nodes)

-- the goals of a file: the clauses of the terms of its obligations, in order
abbrev pub goals_of : List RuleKind → File → List Goal
goals_of kinds f = goals_by (file_made kinds f []).nodes (map claim_name (claims_of f)) (file_made kinds f []).value

-- the topmost specification allows every history of the file's bottom implementation on its disk
abbrev pub HistoriesAllowed : File → Type 0
HistoriesAllowed file = (entries : List Entry) (to : State Env) → History (BottomOf file) entries to → Allows file entries to

-- each layer refines its specification, and every history is allowed
abbrev pub IsRight : File → Type 0
IsRight file = FileRefines file × HistoriesAllowed file

-- a fact where a text is checked
abbrev pub IfChecked : CertEnd → Type 0 → Type 0
IfChecked (Checked count) fact = fact
IfChecked (Bad name id) fact = Unit {0}
IfChecked (Refused refusal) fact = Unit {0}
IfChecked Memory fact = Unit {0}

-- where a text is checked, it is for so many obligations
abbrev pub ChecksAll : CertEnd → ℕ → Type 0
ChecksAll (Checked count) each = count ≡ each
ChecksAll (Bad name id) each = Unit {0}
ChecksAll (Refused refusal) each = Unit {0}
ChecksAll Memory each = Unit {0}
