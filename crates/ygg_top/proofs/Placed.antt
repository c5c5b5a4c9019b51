-- An obligation by its name, and what its clauses ask.
use Rattle.std.proofs.Common.{below_more, ◌≡◌, ℕ, zero, suc, ◌+◌, ◌<◌, true, false, List, [], ◌∷◌, length, Some, map, get_or, refl, sym, ap, ◌∙◌, subst, arith}
use Rattle.std.specs.Prelude.{slice_get, Contains, ◌==◌}
use Rattle.std.specs.Str.{bytes_eq}
use Rattle.std.proofs.lemmas.Bool.{and_parts, and_from}
use Rattle.std.proofs.lemmas.Bool.Decides.{nat_tests}
use Rattle.std.proofs.lemmas.Option.{get_or_from_slice_get}
use Rattle.ygg_syntax.specs.declared.tree.File.{File}
use Rattle.ygg_dimacs.specs.ygg_rules.declared.rule.RuleKind.{RuleKind}
use Rattle.ygg_sched.specs.ygg_meaning.Claims.{Claim, claims_of}
use Rattle.ygg_dimacs.specs.ygg_bank.Nodes.{IsBank}
use Rattle.ygg_dimacs.specs.ygg_bank.declared.node.Id.{Id}
use Rattle.ygg_dimacs.specs.ygg_bank.declared.node.Node.{Node}
use Rattle.ygg_dimacs.specs.ygg_gates.Groups.{translated}
use Rattle.ygg_dimacs.specs.ygg_gates.Laws.{AreExact}
use Rattle.ygg_dimacs.proofs.of_ygg_gates.Whole.{satisfiable_exactly}
use Rattle.ygg_certify.specs.ygg_oblige_laws.Terms.{file_made}
use Rattle.ygg_certify.specs.ygg_oblige_laws.Meaning.{claim_name, IsTermOf, AreTermsOf}
use Rattle.ygg_certify.proofs.Deciding.{zero_is_violated}
use Rattle.ygg_certify.proofs.Listed.{listed_zero}
use Rattle.ygg_oblige.specs.declared.obligation.Obligation.{Obligation}
use Rattle.ygg_oblige.specs.Obligations.{names_in, terms_in}
use Rattle.ygg_dimacs.specs.Counted.{clauses_text}
use Rattle.ygg_top.specs.Printed.{AskFor, IsClausesOf, IsPlace}

-- the clauses of an obligation's term ask for what violates it
pub asks_for : (nodes : List Node) (c : Claim) (term : Id) → IsBank nodes → IsTermOf nodes c term → AskFor (translated nodes term).clauses c
asks_for nodes c term bank t = (
  λ found. let zero = exact.0 found in zero_is_violated nodes c term zero.0 t zero.1,
  λ violated. exact.1 (listed_zero nodes term bank.ordered (t.shown violated.0 violated.1)),
)
  where
    exact : AreExact nodes term (translated nodes term).clauses
    exact = satisfiable_exactly nodes term bank t.wide

-- an obligation at a place of the list, with what it is
pub record IsAt (nodes : List Node) (cs : List Claim) (ts : List Id) (place : ℕ) (name : List ℕ) (term : Id) : Type 0 where
  pub claim : Claim
  pub stands : slice_get cs place ≡ Some claim
  pub named : claim_name claim ≡ name
  pub means : slice_get ts place ≡ Some term
  pub is : IsTermOf nodes claim term

pub is_at : (nodes : List Node) (cs : List Claim) (all : List Obligation) (place : ℕ) (o : Obligation) (name : List ℕ) → names_in all ≡ map claim_name cs →
    AreTermsOf nodes cs (terms_in all) → slice_get all place ≡ Some o → o.name ≡ name → IsAt nodes cs (terms_in all) place name o.term
is_at nodes cs [] place o name names are there called = absurd (cc there)
is_at nodes [] (x ∷ all) place o name names are there called = absurd are
is_at nodes (c ∷ cs) (x ∷ all) zero o name names are there called =
    let same : x ≡ o = cc there in
    let head : x.name ≡ claim_name c = cc names in
    record {
      claim = c;
      stands = refl;
      named = sym head ∙ ap (λ (y : Obligation). y.name) same ∙ called;
      means = ap (λ (y : Obligation). Some y.term) same;
      is = subst (λ (y : Obligation). IsTermOf nodes c y.term) same are.0;
    }
is_at nodes (c ∷ cs) (x ∷ all) (suc place) o name names are there called =
    let tail : names_in all ≡ map claim_name cs = cc names in
    let rest = is_at nodes cs all place o name tail are.1 there called in
    record { claim = rest.claim; stands = rest.stands; named = rest.named; means = rest.means; is = rest.is }

-- the text of its clauses
pub is_clauses_of : (kinds : List RuleKind) (f : File) (nodes : List Node) (all : List Obligation) (place : ℕ) (o : Obligation) (name : List ℕ) → IsBank nodes →
    nodes ≡ (file_made kinds f []).nodes → terms_in all ≡ (file_made kinds f []).value → names_in all ≡ map claim_name (claims_of f) →
    AreTermsOf nodes (claims_of f) (terms_in all) → slice_get all place ≡ Some o → o.name ≡ name →
    IsClausesOf kinds f name (clauses_text (translated nodes o.term).clauses)
is_clauses_of kinds f nodes all place o name bank made terms names are there called =
    let a = is_at nodes (claims_of f) all place o name names are there called in
    let asks : AskFor (translated (file_made kinds f []).nodes o.term).clauses a.claim =
    subst (λ (ns : List Node). AskFor (translated ns o.term).clauses a.claim) made (asks_for nodes a.claim o.term bank a.is) in
    record {
      place = place;
      claim = a.claim;
      term = o.term;
      stands = a.stands;
      named = a.named;
      means = ap (λ (ts : List Id). slice_get ts place) (sym terms) ∙ a.means;
      is = ap (λ (ns : List Node). clauses_text (translated ns o.term).clauses) made;
      asks = asks;
    }

-- what was found of a list
pub placed_name : (all slice : List Obligation) (place : ℕ) (o : Obligation) (name : List ℕ) → slice ≡ all → IsPlace slice name place →
    slice_get all place ≡ Some o → o.name ≡ name
placed_name all slice place o name same p there =
    let both : Some p.obligation ≡ Some o = sym p.stands ∙ ap (λ (x : List Obligation). slice_get x place) same ∙ there in
    let one : p.obligation ≡ o = cc both in
    sym (ap (λ (x : Obligation). x.name) one) ∙ p.named

-- none of a list has the name
pub named_none : (all : List Obligation) (name : List ℕ) →
    ((k : ℕ) (o : Obligation) → k < length all → slice_get all k ≡ Some o → o.name ≡ name → ⊥) → Contains (names_in all) name → ⊥
named_none [] name none (k, within, is) = absurd (omega arith)
named_none (x ∷ all) name none (zero, within, is) = none 0 x (omega arith) refl is
named_none (x ∷ all) name none (suc k, within, is) =
    named_none all name (λ j o below there called. none (suc j) o (omega arith) there called) (k, omega arith, is)

-- one of them has
pub some_named : (all slice : List Obligation) (names : List (List ℕ)) (name : List ℕ) → slice ≡ all → names_in all ≡ names → Contains names name →
    Contains (names_in slice) name
some_named all slice names name same is here =
    subst (λ (x : List Obligation). Contains (names_in x) name) (sym same) (subst (λ (x : List (List ℕ)). Contains x name) (sym is) here)

-- what the test of equal bytes says
pub eq_true : (xs ys : List ℕ) → bytes_eq xs ys ≡ true → xs ≡ ys
eq_true [] [] e = refl
eq_true [] (y ∷ ys) e = absurd cc
eq_true (x ∷ xs) [] e = absurd cc
eq_true (x ∷ xs) (y ∷ ys) e =
    let p = and_parts (x == y) (bytes_eq xs ys) e in
    let same : x ≡ y = grind (arith, nat_tests, p.0) in
    ap (λ (z : ℕ). z ∷ xs) same ∙ ap (λ (zs : List ℕ). y ∷ zs) (eq_true xs ys p.1)

eq_self : (bytes : List ℕ) → bytes_eq bytes bytes ≡ true
eq_self [] = refl
eq_self (b ∷ bytes) = let same : (b == b) ≡ true = grind (arith, nat_tests) in and_from (b == b) (bytes_eq bytes bytes) same (eq_self bytes)

pub eq_false : (xs ys : List ℕ) → bytes_eq xs ys ≡ false → xs ≡ ys → ⊥
eq_false xs ys e same =
    let h : true ≡ false = sym (eq_self xs) ∙ ap (bytes_eq xs) same ∙ e in
    absurd cc

-- one more that hasn't the name
pub next_none : (all : List Obligation) (place : ℕ) (x : Obligation) (name : List ℕ) → x ≡ get_or all place x →
    ((k : ℕ) (o : Obligation) → k < place → slice_get all k ≡ Some o → o.name ≡ name → ⊥) → (x.name ≡ name → ⊥) →
    (k : ℕ) (o : Obligation) → k < place + 1 → slice_get all k ≡ Some o → o.name ≡ name → ⊥
next_none all place x name is before differs k o below there called =
    below_more (λ (j : ℕ). (y : Obligation) → slice_get all j ≡ Some y → y.name ≡ name → ⊥) place (λ j less y. before j y less)
    (λ y here named. differs (ap (λ (z : Obligation). z.name) (is ∙ get_or_from_slice_get all place y x here) ∙ named)) k below o there called
