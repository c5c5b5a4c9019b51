-- The first type error that is found is the least one.
use Rattle.std.proofs.Common.{
  ◌≡◌,
  ◌<◌,
  Bool,
  true,
  false,
  cond,
  arith,
  List,
  [],
  ◌∷◌,
  ◌++◌,
  Option,
  Some,
  None,
  Contains,
  refl,
  sym,
  ap,
  ◌∙◌,
  subst,
  ◌⊎◌,
  inl,
  inr,
}
use Rattle.std.specs.Prelude.{◌&&◌}
use Rattle.std.proofs.lemmas.Bool.Decides.{nat_tests}
use Rattle.std.proofs.lemmas.List.Elements.{Contains-append_left, Contains-append_right, Contains-append_cases, Contains-push, Contains-push_cases}
use Rattle.ygg_type.specs.ygg_type_rules.declared.type_error.TypeError.{TypeError}
use Rattle.ygg_type.specs.ygg_type_rules.TypeErrors.{TypeErrors, nothing, one, both, listed, none, first_after, earlier, comes_before, IsLeast}

before_not : (a b c : TypeError) → comes_before a b ≡ false → comes_before b c ≡ false → comes_before a c ≡ false
before_not a b c h g = grind (arith, nat_tests)

never_before : (a : TypeError) → comes_before a a ≡ false
never_before a = grind (arith, nat_tests)

not_after : (a b : TypeError) → comes_before a b ≡ true → comes_before b a ≡ false
not_after a b h = grind (arith, nat_tests)

none_in : (f : TypeError) → Contains [] f → ⊥
none_in f h = let k : h.0 < 0 = h.1 in omega arith

-- of one type error
only : (x f : TypeError) → Contains (x ∷ []) f → x ≡ f
only x f h = elim (Contains-push_cases [] x f h) [ inl p ↦ absurd (none_in f p) | inr e ↦ e ]

-- what is found from a type error, if there is one, and a list on
record Found (found : Option TypeError) (fs : List TypeError) (f : TypeError) : Type 0 where
  pub where_from : Contains fs f ⊎ (found ≡ Some f)
  pub least : (g : TypeError) → Contains fs g → comes_before g f ≡ false
  pub before : (g : TypeError) → found ≡ Some g → comes_before g f ≡ false

some_is : {a b : TypeError} → Some a ≡ Some b → a ≡ b
some_is h = cc

-- nothing is found where there is nothing
pub stays : (found : Option TypeError) (fs : TypeErrors) → first_after found fs ≡ None → (found ≡ None) × (listed fs ≡ []) × (none fs ≡ true)
stays found nothing h = (h, refl, refl)
stays None (one x) h = absurd (cc)
stays (Some y) (one x) h = cases (comes_before x y) h
  where
    cases : (b : Bool) → cond b (Some x) (Some y) ≡ None → (Some y ≡ None) × (x ∷ [] ≡ []) × (false ≡ true)
    cases true h = absurd (cc)
    cases false h = absurd (cc)
stays found (both fs gs) h =
    let second = stays (first_after found fs) gs h in
    let first = stays found fs second.0 in
    (first.0, ap (λ xs. xs ++ listed gs) first.1 ∙ second.1, ap (λ b. b && none gs) first.2 ∙ second.2)

-- the earlier one of two type errors
of_two : (x y f : TypeError) → earlier (Some y) x ≡ Some f → Found (Some y) (x ∷ []) f
of_two x y f h = cases (comes_before x y) refl h
  where
    cases : (b : Bool) → comes_before x y ≡ b → cond b (Some x) (Some y) ≡ Some f → Found (Some y) (x ∷ []) f
    cases true e h =
        let is : x ≡ f = some_is h in
        record {
          where_from = inl (subst (λ g. Contains (x ∷ []) g) is (Contains-push [] x));
          least = λ g m. ap (λ a. comes_before a f) (sym (only x g m) ∙ is) ∙ never_before f;
          before = λ g m. ap (λ a. comes_before a f) (sym (some_is m)) ∙ ap (comes_before y) (sym is) ∙ not_after x y e;
        }
    cases false e h =
        let is : y ≡ f = some_is h in
        record {
          where_from = inr h;
          least = λ g m. ap (λ a. comes_before a f) (sym (only x g m)) ∙ ap (comes_before x) (sym is) ∙ e;
          before = λ g m. ap (λ a. comes_before a f) (sym (some_is m) ∙ is) ∙ never_before f;
        }

-- what is found in the second of two lists, after the first
joined : (found middle : Option TypeError) (xs ys : List TypeError) (f : TypeError) → ((m : TypeError) → middle ≡ Some m → Found found xs m) →
    (middle ≡ None → (found ≡ None) × (xs ≡ [])) → Found middle ys f
    → Found found (xs ++ ys) f
joined found (Some m) xs ys f first none second =
    let r = first m refl in
    let after : (g : TypeError) → comes_before g m ≡ false → comes_before g f ≡ false = λ g h. before_not g m f h (second.before m refl) in
    record {
      where_from = elim second.where_from [
        | inl p ↦ inl (Contains-append_right xs ys f p)
        | inr e ↦ elim r.where_from [
          | inl p ↦ inl (Contains-append_left xs ys f (subst (λ g. Contains xs g) (some_is e) p))
          | inr p ↦ inr (p ∙ e)
        ]
      ];
      least = λ g h. elim (Contains-append_cases xs ys g h) [ inl p ↦ after g (r.least g p) | inr p ↦ second.least g p ];
      before = λ g h. after g (r.before g h);
    }
joined found None xs ys f first none second =
    let gone = none refl in
    record {
      where_from = elim second.where_from [ inl p ↦ inl (Contains-append_right xs ys f p) | inr e ↦ absurd (cc) ];
      least = λ g h. elim (Contains-append_cases xs ys g h) [
        | inl p ↦ absurd (none_in g (subst (λ zs. Contains zs g) gone.1 p))
        | inr p ↦ second.least g p
      ];
      before = λ g h. absurd (cc (gone.0));
    }

of_found : (found : Option TypeError) (fs : TypeErrors) (f : TypeError) → first_after found fs ≡ Some f → Found found (listed fs) f
of_found found nothing f h = record {
  where_from = inr h;
  least = λ g m. absurd (none_in g m);
  before = λ g m. ap (λ a. comes_before a f) (some_is (sym m ∙ h)) ∙ never_before f;
}
of_found None (one x) f h = record {
  where_from = inl (subst (λ g. Contains (x ∷ []) g) (some_is h) (Contains-push [] x));
  least = λ g m. ap (λ a. comes_before a f) (sym (only x g m) ∙ some_is h) ∙ never_before f;
  before = λ g m. absurd (cc);
}
of_found (Some y) (one x) f h = of_two x y f h
of_found found (both fs gs) f h =
    joined found (first_after found fs) (listed fs) (listed gs) f (λ m e. of_found found fs m e) (λ e. let h = stays found fs e in (h.0, h.1))
    (of_found (first_after found fs) gs f h)

-- where a type error was found it is the least of all
pub is_least : (fs : TypeErrors) (f : TypeError) → first_after None fs ≡ Some f → IsLeast f (listed fs)
is_least fs f h =
    let r = of_found None fs f h in
    record { in_list = elim r.where_from [ inl p ↦ p | inr p ↦ absurd (cc) ]; least = r.least }

-- where none was found there is none
pub is_none : (fs : TypeErrors) → first_after None fs ≡ None → listed fs ≡ []
is_none fs h = (stays None fs h).1

pub is_clear : (fs : TypeErrors) → first_after None fs ≡ None → none fs ≡ true
is_clear fs h = (stays None fs h).2

pub and_left : (a b : Bool) → (a && b) ≡ true → a ≡ true
and_left true b h = refl
and_left false b h = h

pub and_right : (a b : Bool) → (a && b) ≡ true → b ≡ true
and_right true b h = h
and_right false b h = absurd (cc)

-- no type error is in the list where the test says so
pub is_empty : (fs : TypeErrors) → none fs ≡ true → listed fs ≡ []
is_empty nothing h = refl
is_empty (one f) h = absurd (cc)
is_empty (both fs gs) h = ap (λ xs. xs ++ listed gs) (is_empty fs (and_left (none fs) (none gs) h)) ∙ is_empty gs (and_right (none fs) (none gs) h)
