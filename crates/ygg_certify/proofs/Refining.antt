-- What is known of a layer file whose certificate is checked.
use Rattle.std.proofs.Common.{◌≡◌, ℕ, suc, Bool, List, [], ◌∷◌, length, map, Option, None, Some, Result, Ok, Err, refl, ap, subst, ◌∙◌}
use Rattle.std.specs.Prelude.{All, IfSome, IfOk}
use Rattle.std.proofs.lemmas.List.Elements.{All-nil, All-cons, All-head, All-tail}
use Rattle.ygg_base.specs.declared.status.Status.{Status}
use Rattle.ygg_base.specs.Outside.{Reading}
use Rattle.ygg_syntax.specs.declared.tree.File.{File}
use Rattle.ygg_syntax.specs.Files.{IsDerived}
use Rattle.ygg_type.specs.ygg_type_rules.Files.{IsTyped}
use Rattle.ygg_certify.specs.ygg_rules.declared.rule.RuleKind.{RuleKind}
use Rattle.ygg_certify.specs.ygg_meaning.Stack.{FileRefines}
use Rattle.ygg_certify.specs.ygg_meaning.Claims.{Claim, ClaimHolds, claims_of}
use Rattle.ygg_certify.specs.ygg_meaning.HistoryLaws.{RefinesByList}
use Rattle.ygg_certify.specs.ygg_meaning_laws.ProgressLaws.{TypedHistories}
use Rattle.ygg_certify.specs.ygg_bank.Nodes.{IsBank}
use Rattle.ygg_certify.specs.ygg_bank.declared.node.Id.{Id}
use Rattle.ygg_certify.specs.ygg_bank.declared.node.Node.{Node}
use Rattle.ygg_cert.specs.ygg_cnf.declared.lit.Lit.{Lit}
use Rattle.ygg_cert.specs.ygg_cnf.declared.log.Step.{Step}
use Rattle.ygg_cert.specs.ygg_cnf.Literals.{SatisfiesAll}
use Rattle.ygg_cert.specs.ygg_cnf.Logs.{Refutes}
use Rattle.ygg_certify.specs.ygg_gates.Groups.{translated}
use Rattle.ygg_certify.specs.ygg_gates.Laws.{SatisfiableExactly}
use Rattle.ygg_certify.specs.ygg_decide.Deciding.{IsNeverZero}
use Rattle.ygg_certify.specs.ygg_oblige_laws.Terms.{file_made}
use Rattle.ygg_certify.specs.ygg_oblige_laws.Meaning.{IsTermOf, AreTermsOf, claim_name}
use Rattle.ygg_certify.specs.Laws.{NeverZeroHolds}
use Rattle.ygg_oblige.specs.declared.obligation.Obligation.{Obligation}
use Rattle.ygg_oblige.specs.Obligations.{names_in, terms_in}
use Rattle.ygg_cert.specs.declared.item.Goal.{Goal}
use Rattle.ygg_cert.specs.declared.verdict.CertEnd.{CertEnd}
use Rattle.ygg_cert.specs.declared.verdict.CertEnd.TheVariants.{Checked, Bad, Refused, Memory}
use Rattle.ygg_cert.specs.Judging.{IsWhole, Judges}
use Rattle.ygg_cert.specs.Laws.{IsRefuted, CheckedIsRefuted}
use Rattle.ygg_cert.specs.Opened.{JudgesOpen}
use Rattle.ygg_certify.specs.FileGoals.{goal_by, goals_by, goals_in, goals_of, IsRight, IfChecked, ChecksAll}
use Rattle.ygg_certify.specs.Checking.{Checks, ChecksOpen}

-- the goals of obligations by their names and terms
goals_same : (nodes : List Node) (all : List Obligation) → goals_in nodes all ≡ goals_by nodes (names_in all) (terms_in all)
goals_same nodes [] = refl
goals_same nodes (o ∷ all) = ap (λ (gs : List Goal). goal_by nodes o.name o.term ∷ gs) (goals_same nodes all)

-- those of a file
pub goals_are : (kinds : List RuleKind) (f : File) (nodes : List Node) (all : List Obligation) → nodes ≡ (file_made kinds f []).nodes →
    terms_in all ≡ (file_made kinds f []).value → names_in all ≡ map claim_name (claims_of f) → goals_in nodes all ≡ goals_of kinds f
goals_are kinds f nodes all nodes_are terms names =
    goals_same nodes all
    ∙ ap (λ (n : List Node). goals_by n (names_in all) (terms_in all)) nodes_are
    ∙ ap (λ (t : List Id). goals_by (file_made kinds f []).nodes (names_in all) t) terms
    ∙ ap (λ (n : List (List ℕ)). goals_by (file_made kinds f []).nodes n (file_made kinds f []).value) names

-- its nodes and terms
pub bank_in : (kinds : List RuleKind) (f : File) (nodes : List Node) → nodes ≡ (file_made kinds f []).nodes → IsBank nodes → IsBank (file_made kinds f []).nodes
bank_in kinds f nodes nodes_are bank = subst (λ (n : List Node). IsBank n) nodes_are bank

pub terms_of : (kinds : List RuleKind) (f : File) (nodes : List Node) (all : List Obligation) → nodes ≡ (file_made kinds f []).nodes →
    terms_in all ≡ (file_made kinds f []).value → AreTermsOf nodes (claims_of f) (terms_in all)
    → AreTermsOf (file_made kinds f []).nodes (claims_of f) (file_made kinds f []).value
terms_of kinds f nodes all nodes_are terms mean =
    subst (λ (ts : List Id). AreTermsOf (file_made kinds f []).nodes (claims_of f) ts) terms
    (subst (λ (n : List Node). AreTermsOf n (claims_of f) (terms_in all)) nodes_are mean)

-- what the laws say that are needed
pub record Laws : Type 0 where
  pub refuted : CheckedIsRefuted
  pub sound : (clauses : List (List Lit)) (log : List Step) (value : ℕ → Bool) → Refutes clauses log → SatisfiesAll value clauses → ⊥
  pub exact : SatisfiableExactly
  pub holds : NeverZeroHolds
  pub by_list : RefinesByList
  pub histories : TypedHistories

-- an obligation whose goal is refuted holds
one_holds : (laws : Laws) (nodes : List Node) (c : Claim) (t : Id) → IsBank nodes → IsTermOf nodes c t → IsRefuted (goal_by nodes (claim_name c) t)
    → ClaimHolds c
one_holds laws nodes c t bank term (log, refutes) = laws.holds nodes c t bank term never
  where
    never : IsNeverZero nodes t
    never env zero = let s = (laws.exact nodes t bank term.wide).1 (env, zero) in laws.sound (translated nodes t).clauses log s.0 refutes s.1

all_hold : (laws : Laws) (nodes : List Node) (cs : List Claim) (ts : List Id) → IsBank nodes → AreTermsOf nodes cs ts →
    All IsRefuted (goals_by nodes (map claim_name cs) ts)
    → All ClaimHolds cs
all_hold laws nodes [] [] bank terms refuted = All-nil ClaimHolds
all_hold laws nodes (c ∷ cs) (t ∷ ts) bank terms refuted =
    All-cons ClaimHolds c cs
    (one_holds laws nodes c t bank terms.0 (All-head IsRefuted (goal_by nodes (claim_name c) t) (goals_by nodes (map claim_name cs) ts) refuted))
    (all_hold laws nodes cs ts bank terms.1 (All-tail IsRefuted (goal_by nodes (claim_name c) t) (goals_by nodes (map claim_name cs) ts) refuted))
all_hold laws nodes [] (t ∷ ts) bank terms refuted = absurd terms
all_hold laws nodes (c ∷ cs) [] bank terms refuted = absurd terms

-- a file for whose goals a text is whole
pub whole_right : (laws : Laws) (kinds : List RuleKind) (f : File) (text : List ℕ) (count : ℕ) → ∥ IsDerived f ∥₁ → IsTyped f →
    IsBank (file_made kinds f []).nodes → AreTermsOf (file_made kinds f []).nodes (claims_of f) (file_made kinds f []).value →
    IsWhole (goals_of kinds f) text count
    → IsRight f
whole_right laws kinds f text count derived typed bank terms whole = (refines, laws.histories f derived typed refines)
  where
    refines : FileRefines f
    refines =
        (laws.by_list f).0
        (all_hold laws (file_made kinds f []).nodes (claims_of f) (file_made kinds f []).value bank terms (laws.refuted (goals_of kinds f) text count whole))

-- a file whose certificate is checked
pub is_right : (laws : Laws) (kinds : List RuleKind) (f : File) (text : List ℕ) (end : CertEnd) → ∥ IsDerived f ∥₁ → IsTyped f →
    IsBank (file_made kinds f []).nodes → AreTermsOf (file_made kinds f []).nodes (claims_of f) (file_made kinds f []).value →
    Judges (goals_of kinds f) text end
    → IfChecked end (IsRight f)
is_right laws kinds f text (Checked count) derived typed bank terms judged = whole_right laws kinds f text count derived typed bank terms judged
is_right laws kinds f text (Bad name id) derived typed bank terms judged = tt
is_right laws kinds f text (Refused refusal) derived typed bank terms judged = tt
is_right laws kinds f text Memory derived typed bank terms judged = tt

-- what is said of what is open, in terms of the file's goals
pub judged_open : (goals wanted : List Goal) (given : Option Reading) (end : CertEnd) → goals ≡ wanted → JudgesOpen goals given end
    → JudgesOpen wanted given end
judged_open goals wanted given end same judged = subst (λ (gs : List Goal). JudgesOpen gs given end) same judged

-- a fact of what is said of any bytes
by_read : (Fact : CertEnd → Type 0) (goals : List Goal) (given : Option Reading) (end : CertEnd) → ((text : List ℕ) → Judges goals text end → Fact end) →
    JudgesOpen goals given end
    → Fact end
by_read Fact goals None end fact judged = absurd judged
by_read Fact goals (Some file) end fact judged = fact judged.read judged.judged

-- a file whose open certificate is checked
pub open_right : (laws : Laws) (kinds : List RuleKind) (f : File) (given : Option Reading) (end : CertEnd) → ∥ IsDerived f ∥₁ → IsTyped f →
    IsBank (file_made kinds f []).nodes → AreTermsOf (file_made kinds f []).nodes (claims_of f) (file_made kinds f []).value →
    JudgesOpen (goals_of kinds f) given end
    → IfChecked end (IsRight f)
open_right laws kinds f given end derived typed bank terms judged =
    by_read (λ (e : CertEnd). IfChecked e (IsRight f)) (goals_of kinds f) given end (λ text j. is_right laws kinds f text end derived typed bank terms j) judged

-- there is a goal for each obligation
each_goal : (nodes : List Node) (cs : List Claim) (ts : List Id) → AreTermsOf nodes cs ts → length (goals_by nodes (map claim_name cs) ts) ≡ length cs
each_goal nodes [] [] terms = refl
each_goal nodes [] (t ∷ ts) terms = absurd terms
each_goal nodes (c ∷ cs) [] terms = absurd terms
each_goal nodes (c ∷ cs) (t ∷ ts) terms = ap suc (each_goal nodes cs ts terms.1)

all_by : (goals : List Goal) (each : ℕ) (text : List ℕ) (end : CertEnd) → length goals ≡ each → Judges goals text end → ChecksAll end each
all_by goals each text (Checked count) same judged = judged.all ∙ same
all_by goals each text (Bad name id) same judged = tt
all_by goals each text (Refused refusal) same judged = tt
all_by goals each text Memory same judged = tt

-- an open certificate that is checked is so for all obligations
pub open_all : (kinds : List RuleKind) (f : File) (given : Option Reading) (end : CertEnd) →
    AreTermsOf (file_made kinds f []).nodes (claims_of f) (file_made kinds f []).value → JudgesOpen (goals_of kinds f) given end
    → ChecksAll end (length (claims_of f))
open_all kinds f given end terms judged =
    by_read (λ (e : CertEnd). ChecksAll e (length (claims_of f))) (goals_of kinds f) given end
    (λ text j. all_by (goals_of kinds f) (length (claims_of f)) text end each j) judged
  where
    each : length (goals_of kinds f) ≡ length (claims_of f)
    each = each_goal (file_made kinds f []).nodes (claims_of f) (file_made kinds f []).value terms

-- what `check` says of bytes, it says of what is open
pub said_open : (kinds : List RuleKind) (f : File) (given : Option Reading) (end : CertEnd) (status : Status) (text : List ℕ) →
    ((bytes : List ℕ) → Judges (goals_of kinds f) bytes end → Checks kinds f bytes status text) → JudgesOpen (goals_of kinds f) given end
    → ChecksOpen kinds f given status text
said_open kinds f None end status text said judged = absurd judged
said_open kinds f (Some file) end status text said judged =
    record { read = judged.read; few = judged.few; said = said judged.read judged.judged; whole = by_rest file.rest judged.whole }
  where
    by_rest : (rest : Option (List ℕ)) → IfSome rest (λ (all : List ℕ). Judges (goals_of kinds f) all end)
        → IfSome rest (λ (all : List ℕ). Checks kinds f all status text)
    by_rest None was = tt
    by_rest (Some all) was = said all was

-- a fact where there is an answer, by another
pub if_ok : {A E : Type 0} (P Q : A → Type 0) (r : Result A E) → ((x : A) → P x → Q x) → IfOk r P → IfOk r Q
if_ok P Q (Ok x) follows p = follows x p
if_ok P Q (Err e) follows p = tt
