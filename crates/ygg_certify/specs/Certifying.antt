-- What certifying a layer file comes to.
use Rattle.std.specs.Prelude.{◌≡◌, ℕ, List, [], ◌∷◌, length, map, All, Option}
use Rattle.ygg_base.specs.declared.status.Status.{Status}
use Rattle.ygg_base.specs.declared.status.Status.TheVariants.{Done}
use Rattle.ygg_syntax.specs.declared.tree.File.{File}
use Rattle.ygg_certify.specs.ygg_rules.declared.rule.RuleKind.{RuleKind}
use Rattle.ygg_certify.specs.ygg_meaning.Claims.{claims_of}
use Rattle.ygg_certify.specs.ygg_bank.Nodes.{IsBank}
use Rattle.ygg_certify.specs.ygg_bank.declared.node.Id.{Id}
use Rattle.ygg_certify.specs.ygg_bank.declared.node.Node.{Node}
use Rattle.ygg_report.specs.Putting.{IsCutOf, Puts}
use Rattle.ygg_certify.specs.ygg_cnf.Pieces.{FinishesWith}
use Rattle.ygg_certify.specs.ygg_oblige_laws.Terms.{file_made}
use Rattle.ygg_certify.specs.ygg_oblige_laws.Meaning.{AreTermsOf, claim_name}
use Rattle.ygg_cert.specs.declared.item.Item.{Item}
use Rattle.ygg_cert.specs.Texts.{certificate_of}
use Rattle.ygg_cert.specs.Judging.{IsWhole}
use Rattle.ygg_cert.specs.Laws.{AreItemsOf}
use Rattle.ygg_certify.specs.declared.finding.Finding.{Finding}
use Rattle.ygg_certify.specs.Findings.{IsFinding, IsHeld, text_of}
use Rattle.ygg_certify.specs.declared.certifying.Certifying.{Certifying}
use Rattle.ygg_certify.specs.declared.certifying.Certifying.TheVariants.{Ends, Open}
use Rattle.ygg_certify.specs.FileGoals.{goals_of, IsRight}

-- what is found within a budget of each of the terms, under these names, in order
abbrev pub AreFound : List Node → ℕ → List (List ℕ) → List Id → List Finding → Type 0
AreFound nodes budget [] [] [] = Unit {0}
AreFound nodes budget (name ∷ names) (term ∷ terms) (f ∷ findings) = IsFinding nodes budget name term f × AreFound nodes budget names terms findings
AreFound nodes budget _ _ _ = ⊥

-- The text is a certificate of the file: that of logs which refute the clauses of its obligations' terms. It is checked as one, each layer refines its
-- specification, and every history is allowed.
pub record IsCertificate (kinds : List RuleKind) (f : File) (text : List ℕ) : Type 0 where
  pub items : List Item
  pub are : AreItemsOf (goals_of kinds f) items
  pub text_is : text ≡ certificate_of items
  pub checked : IsWhole (goals_of kinds f) text (length (goals_of kinds f))
  pub right : IsRight f

-- a certificate of the file, and that all was done
abbrev pub Certifies : List RuleKind → File → Status → List ℕ → Type 0
Certifies kinds f status text = (status ≡ Done) × IsCertificate kinds f text

-- what was found within a budget of the file's obligations, not all of which were found to hold; it was found of terms in a bank that mean the obligations
pub record IsOpen (kinds : List RuleKind) (f : File) (budget : ℕ) (findings : List Finding) : Type 0 where
  pub bank : IsBank (file_made kinds f []).nodes
  pub mean : AreTermsOf (file_made kinds f []).nodes (claims_of f) (file_made kinds f []).value
  pub found : AreFound (file_made kinds f []).nodes budget (map claim_name (claims_of f)) (file_made kinds f []).value findings
  pub open_one : All IsHeld findings → ⊥

-- How certifying a file within a budget comes to its end: a certificate was put, or a front of one where the sink failed or no memory was left; or nothing was
-- put, and not all obligations were found to hold.
abbrev pub IsCertifying : List RuleKind → File → ℕ → Option (List ℕ) → Option (List ℕ) → (SinkRose : Type 0) → Certifying → Type 0
IsCertifying kinds f budget before now SinkRose (Ends status) = Puts (Certifies kinds f) (IsCutOf (Certifies kinds f)) before now SinkRose status
IsCertifying kinds f budget before now SinkRose (Open findings) = (now ≡ before) × IsOpen kinds f budget findings

-- the same of what was found, whatever it is of
abbrev pub Concludes : List Finding → Option (List ℕ) → Option (List ℕ) → (SinkRose : Type 0) → Certifying → Type 0
Concludes findings before now SinkRose (Ends status) = All IsHeld findings × FinishesWith Done before now (text_of findings) SinkRose status
Concludes findings before now SinkRose (Open left) = (now ≡ before) × (left ≡ findings) × (All IsHeld findings → ⊥)
