-- The schedule that is named at a place violates the obligation there exactly where its term is 0.
use Rattle.std.proofs.Common.{◌≡◌, ◌↔◌, ℕ, zero, suc, List, [], ◌∷◌, Option, Some, refl, sym, ◌∙◌, subst}
use Rattle.std.specs.Prelude.{slice_get}
use Rattle.ygg_syntax.specs.Files.{IsDerived}
use Rattle.ygg_syntax.specs.declared.tree.File.{File}
use Rattle.ygg_oblige_reading.specs.ygg_type_rules.Files.{IsTyped}
use Rattle.ygg_oblige_list.specs.ygg_meaning.Obligations as meaning
use Rattle.ygg_oblige_list.specs.ygg_meaning.Claims.{Claim, ClaimViolated, claims_of}
use Rattle.ygg_oblige_list.specs.ygg_meaning.Stack.{layers_of}
use Rattle.ygg_oblige_reading.specs.ygg_rules.declared.rule.RuleKind.{RuleKind}
use Rattle.ygg_oblige.specs.ygg_bank.Values.{Inputs, value_of}
use Rattle.ygg_oblige.specs.ygg_bank.declared.node.Id.{Id}
use Rattle.ygg_oblige.specs.ygg_bank.declared.node.Node.{Node}
use Rattle.ygg_oblige.specs.ygg_sym_laws.Means.{terms_of}
use Rattle.ygg_oblige.specs.ygg_oblige_laws.Terms.{file_made}
use Rattle.ygg_oblige_reading.specs.Obligation.{Obligation}
use Rattle.ygg_oblige_reading.specs.ygg_oblige_laws.ScheduleLaws.{AllExact, IsExact}
use Rattle.ygg_oblige.specs.ygg_oblige_laws.Schedules.{all_schedules}
use Rattle.ygg_oblige_reading.proofs.of_ygg_oblige_laws.ScheduleLayers.{file_named}
use Rattle.ygg_oblige_schedule.specs.ygg_sched.declared.schedule.Schedule.{Schedule}
use Rattle.ygg_oblige_reading.specs.Meant.{FitsTerms, IsExactly, IsMadeIn, IsNamed, Names, NamesShaped, ViolatesAtZero, meant}

-- the term of an obligation, and what it says of the schedule
record HasTerm (inputs : Inputs) (nodes : List Node) (ts : List Id) (place : ℕ) (c : Claim) (x : meaning.Schedule) : Type 0 where
  term : Id
  there : slice_get ts place ≡ Some term
  is : IsExact inputs nodes c term x

at_place : (inputs : Inputs) (nodes : List Node) (cs : List Claim) (ts : List Id) (xs : List meaning.Schedule) → AllExact inputs nodes cs ts xs →
    (place : ℕ) (c : Claim) (x : meaning.Schedule) → slice_get cs place ≡ Some c → slice_get xs place ≡ Some x → HasTerm inputs nodes ts place c x
at_place inputs nodes [] ts xs all place c x a b = absurd (cc a)
at_place inputs nodes (c ∷ cs) [] xs all place d x a b = absurd all
at_place inputs nodes (c ∷ cs) (t ∷ ts) [] all place d x a b = absurd all
at_place inputs nodes (c ∷ cs) (t ∷ ts) (y ∷ xs) all zero d x a b =
    let same_claim : c ≡ d = cc a in
    let same_schedule : y ≡ x = cc b in
    record {
      term = t;
      there = refl;
      is = subst (λ (k : Claim). IsExact inputs nodes k t x) same_claim (subst (λ (z : meaning.Schedule). IsExact inputs nodes c t z) same_schedule all.0);
    }
at_place inputs nodes (c ∷ cs) (t ∷ ts) (y ∷ xs) all (suc place) d x a b =
    let later = at_place inputs nodes cs ts xs all.1 place d x a b in record { term = later.term; there = later.there; is = later.is }

module _ (kinds : List RuleKind) (f : File) (derived : ∥ IsDerived f ∥₁) (typed : IsTyped f) (inputs : Inputs) (fit : FitsTerms kinds f inputs) (place : ℕ)
  where
    has_term : (c : Claim) (x : meaning.Schedule) → slice_get (claims_of f) place ≡ Some c → Names kinds f inputs place x →
        HasTerm inputs (file_made kinds f []).nodes (file_made kinds f []).value place c x
    has_term c x there names =
        at_place inputs (file_made kinds f []).nodes (claims_of f) (file_made kinds f []).value
        (all_schedules kinds (terms_of kinds f.defs) f.disk inputs (layers_of f)) (file_named kinds f derived typed fit.bank inputs fit.numbers) place c x
        there names

    -- its values have the declared shapes
    pub shaped_so : NamesShaped kinds f inputs place
    shaped_so c x there names = (has_term c x there names).is.shaped

    -- it violates the obligation exactly where the term is 0
    pub exactly_so : (x : Schedule) → IsNamed kinds f inputs place x → IsExactly kinds f inputs place x
    exactly_so x named =
        let t = has_term named.claim (meant named.claim x) named.there named.names in
        record { claim = named.claim; there = named.there; term = t.term; made = t.there; exact = t.is.exact }

some_is : {A : Type 0} (o : Option A) (a b : A) → o ≡ Some a → o ≡ Some b → a ≡ b
some_is o a b e f = let same : Some a ≡ Some b = sym e ∙ f in cc

-- so it does exactly where the term of the obligation in the bank is 0
pub at_zero : (kinds : List RuleKind) (f : File) (inputs : Inputs) (nodes : List Node) (o : Obligation) → IsMadeIn kinds f nodes o → (x : Schedule) →
    IsExactly kinds f inputs o.place x → ViolatesAtZero f inputs nodes o x
at_zero kinds f inputs nodes o made x is = record {
  claim = is.claim;
  there = is.there;
  exact = subst (λ (ns : List Node). (value_of inputs ns o.term.0).bits ≡ 0 ↔ ClaimViolated is.claim (meant is.claim x)) (sym made.nodes_are)
      (subst (λ (t : Id). (value_of inputs (file_made kinds f []).nodes t.0).bits ≡ 0 ↔ ClaimViolated is.claim (meant is.claim x))
      (some_is (slice_get (file_made kinds f []).value o.place) is.term o.term is.made made.made) is.exact);
}
