-- What certifying a layer file comes to.
use Rattle.std.proofs.Common.{◌≡◌, ℕ, ◌+◌, ◌<◌, List, [], ◌∷◌, ◌++◌, length, take, get_or, map, Option, refl, sym, ap, subst, ◌∙◌}
use Rattle.std.specs.Prelude.{All}
use Rattle.std.proofs.lemmas.List.{take_more}
use Rattle.std.proofs.lemmas.List.Elements.{All-nil, All-cons, All-head, All-tail}
use Rattle.ygg_syntax.specs.declared.tree.File.{File}
use Rattle.ygg_syntax.specs.Files.{IsDerived}
use Rattle.ygg_type.specs.ygg_type_rules.Files.{IsTyped}
use Rattle.ygg_certify.specs.ygg_rules.declared.rule.RuleKind.{RuleKind}
use Rattle.ygg_certify.specs.ygg_meaning.Claims.{Claim, claims_of}
use Rattle.ygg_certify.specs.ygg_bank.Nodes.{HasWidth, IsBank}
use Rattle.ygg_certify.specs.ygg_bank.declared.node.Id.{Id}
use Rattle.ygg_certify.specs.ygg_bank.declared.node.Node.{Node}
use Rattle.ygg_cert.specs.ygg_cnf.Logs.{Refutes}
use Rattle.ygg_certify.specs.ygg_gates.Groups.{translated}
use Rattle.ygg_certify.specs.ygg_oblige_laws.Terms.{file_made}
use Rattle.ygg_certify.specs.ygg_oblige_laws.Meaning.{AreTermsOf, claim_name}
use Rattle.ygg_oblige.specs.declared.obligation.Obligation.{Obligation}
use Rattle.ygg_oblige.specs.Obligations.{names_in, terms_in}
use Rattle.ygg_cert.specs.ygg_cnf.Steps.{IsStep}
use Rattle.ygg_certify.proofs.of_ygg_cnf.Flowing.{puts_done}
use Rattle.ygg_cert.specs.Laws.{IsItemOf, AreItemsOf, PrintedIsChecked}
use Rattle.ygg_cert.specs.Judging.{IsWhole}
use Rattle.ygg_certify.specs.declared.finding.Outcome.{Outcome}
use Rattle.ygg_certify.specs.declared.finding.Outcome.TheVariants as outcome
use Rattle.ygg_certify.specs.declared.finding.Finding.{Finding}
use Rattle.ygg_certify.specs.Findings.{IsOutcome, IsFinding, HasLog, IsHeld, log_of, item_of, text_of}
use Rattle.ygg_certify.specs.declared.certifying.Certifying.{Certifying}
use Rattle.ygg_certify.specs.declared.certifying.Certifying.TheVariants.{Ends, Open}
use Rattle.ygg_certify.specs.FileGoals.{goal_by, goals_by, goals_of}
use Rattle.ygg_certify.specs.Certifying.{AreFound, IsCertificate, Certifies, IsCertifying, Concludes}
use Rattle.ygg_certify.proofs.Refining.{Laws, whole_right}

-- the terms of obligations are single digits
pub digits_of : (nodes : List Node) (cs : List Claim) (all : List Obligation) → AreTermsOf nodes cs (terms_in all)
    → All (λ (o : Obligation). HasWidth nodes o.term 1) all
digits_of nodes [] [] t = All-nil (λ (o : Obligation). HasWidth nodes o.term 1)
digits_of nodes [] (o ∷ all) t = absurd t
digits_of nodes (c ∷ cs) [] t = absurd t
digits_of nodes (c ∷ cs) (o ∷ all) t = All-cons (λ (o : Obligation). HasWidth nodes o.term 1) o all t.0.wide (digits_of nodes cs all t.1)

-- what is found of one obligation more
found_push : (nodes : List Node) (budget : ℕ) (all : List Obligation) (o : Obligation) (findings : List Finding) (f : Finding) →
    AreFound nodes budget (names_in all) (terms_in all) findings → IsFinding nodes budget o.name o.term f
    → AreFound nodes budget (names_in (all ++ o ∷ [])) (terms_in (all ++ o ∷ [])) (findings ++ f ∷ [])
found_push nodes budget [] o [] f found is = (is, tt)
found_push nodes budget [] o (x ∷ findings) f found is = absurd found
found_push nodes budget (a ∷ all) o [] f found is = absurd found
found_push nodes budget (a ∷ all) o (x ∷ findings) f found is = (found.0, found_push nodes budget all o findings f found.1 is)

pub found_more : (nodes : List Node) (budget : ℕ) (all : List Obligation) (i : ℕ) (o : Obligation) (findings : List Finding) (f : Finding) →
    i < length all → o ≡ get_or all i o → AreFound nodes budget (names_in (take i all)) (terms_in (take i all)) findings →
    IsFinding nodes budget o.name o.term f
    → AreFound nodes budget (names_in (take (i + 1) all)) (terms_in (take (i + 1) all)) (findings ++ f ∷ [])
found_more nodes budget all i o findings f within here found is =
    subst (λ (xs : List Obligation). AreFound nodes budget (names_in xs) (terms_in xs) (findings ++ f ∷ [])) (sym taken)
    (found_push nodes budget (take i all) o findings f found is)
  where
    taken : take (i + 1) all ≡ take i all ++ o ∷ []
    taken = take_more all i o within ∙ ap (λ (x : Obligation). take i all ++ x ∷ []) (sym here)

-- what is found of a file's obligations
pub found_in : (kinds : List RuleKind) (file : File) (budget : ℕ) (nodes : List Node) (each all : List Obligation) (findings : List Finding) →
    nodes ≡ (file_made kinds file []).nodes → each ≡ all → terms_in all ≡ (file_made kinds file []).value → names_in all ≡ map claim_name (claims_of file) →
    AreFound nodes budget (names_in each) (terms_in each) findings
    → AreFound (file_made kinds file []).nodes budget (map claim_name (claims_of file)) (file_made kinds file []).value findings
found_in kinds file budget nodes each all findings nodes_are each_is terms names found =
    subst (λ (ts : List Id). AreFound (file_made kinds file []).nodes budget (map claim_name (claims_of file)) ts findings) (ap terms_in each_is ∙ terms)
    (subst (λ (ns : List (List ℕ)). AreFound (file_made kinds file []).nodes budget ns (terms_in each) findings) (ap names_in each_is ∙ names)
    (subst (λ (n : List Node). AreFound n budget (names_in each) (terms_in each) findings) nodes_are found))

-- the log that was found
log_refutes : (nodes : List Node) (term : Id) (budget : ℕ) (o : Outcome) → IsOutcome nodes term budget o → HasLog o
    → Refutes (translated nodes term).clauses (log_of o) × All IsStep (log_of o)
log_refutes nodes term budget (outcome.Holds log) is has = (is.0, is.2)
log_refutes nodes term budget (outcome.Fails env) is has = absurd has
log_refutes nodes term budget outcome.Spent is has = absurd has

item_is : (nodes : List Node) (budget : ℕ) (name : List ℕ) (term : Id) (f : Finding) → IsFinding nodes budget name term f → IsHeld f
    → IsItemOf (goal_by nodes name term) (item_of f)
item_is nodes budget name term f is held =
    let l = log_refutes nodes term budget f.outcome is.found held in
    record { named = is.named; counted = is.counted; may = l.1; refutes = l.0 }

items_are : (nodes : List Node) (budget : ℕ) (names : List (List ℕ)) (terms : List Id) (findings : List Finding) → AreFound nodes budget names terms findings →
    All IsHeld findings
    → AreItemsOf (goals_by nodes names terms) (map item_of findings)
items_are nodes budget [] [] [] found held = tt
items_are nodes budget [] [] (f ∷ findings) found held = absurd found
items_are nodes budget [] (term ∷ terms) findings found held = absurd found
items_are nodes budget (name ∷ names) [] findings found held = absurd found
items_are nodes budget (name ∷ names) (term ∷ terms) [] found held = absurd found
items_are nodes budget (name ∷ names) (term ∷ terms) (f ∷ findings) found held = (
  item_is nodes budget name term f found.0 (All-head IsHeld f findings held),
  items_are nodes budget names terms findings found.1 (All-tail IsHeld f findings held),
)

-- a certificate of the file
certificate : (laws : Laws) (printed : PrintedIsChecked) (kinds : List RuleKind) (f : File) (budget : ℕ) (findings : List Finding) → ∥ IsDerived f ∥₁ →
    IsTyped f → IsBank (file_made kinds f []).nodes → AreTermsOf (file_made kinds f []).nodes (claims_of f) (file_made kinds f []).value →
    AreFound (file_made kinds f []).nodes budget (map claim_name (claims_of f)) (file_made kinds f []).value findings → All IsHeld findings
    → IsCertificate kinds f (text_of findings)
certificate laws printed kinds f budget findings derived typed bank terms found held = record {
  items = map item_of findings;
  are = are;
  text_is = refl;
  checked = whole;
  right = whole_right laws kinds f (text_of findings) (length (goals_of kinds f)) derived typed bank terms whole;
}
  where
    are : AreItemsOf (goals_of kinds f) (map item_of findings)
    are = items_are (file_made kinds f []).nodes budget (map claim_name (claims_of f)) (file_made kinds f []).value findings found held

    whole : IsWhole (goals_of kinds f) (text_of findings) (length (goals_of kinds f))
    whole = printed (goals_of kinds f) (map item_of findings) are

-- how certifying a file comes to its end
pub certified : (laws : Laws) (printed : PrintedIsChecked) (kinds : List RuleKind) (f : File) (budget : ℕ) (findings : List Finding)
    (before now : Option (List ℕ)) (SinkRose : Type 0) (end : Certifying) → ∥ IsDerived f ∥₁ → IsTyped f → IsBank (file_made kinds f []).nodes →
    AreTermsOf (file_made kinds f []).nodes (claims_of f) (file_made kinds f []).value →
    AreFound (file_made kinds f []).nodes budget (map claim_name (claims_of f)) (file_made kinds f []).value findings →
    Concludes findings before now SinkRose end
    → IsCertifying kinds f budget before now SinkRose end
certified laws printed kinds f budget findings before now SinkRose (Ends status) derived typed bank terms found told =
    puts_done (Certifies kinds f) status (refl, certificate laws printed kinds f budget findings derived typed bank terms found told.0) told.1
certified laws printed kinds f budget findings before now SinkRose (Open left) derived typed bank terms found told = (
  told.0,
  record {
    bank = bank;
    mean = terms;
    found =
        subst (λ (xs : List Finding). AreFound (file_made kinds f []).nodes budget (map claim_name (claims_of f)) (file_made kinds f []).value xs) (sym told.1)
        found;
    open_one = λ held. told.2 (subst (λ (xs : List Finding). All IsHeld xs) told.1 held);
  },
)
