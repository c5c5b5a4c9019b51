-- Whether a name is that of an obligation of a file.
use Rattle.std.proofs.Common.{◌≡◌, ℕ, zero, suc, Bool, true, false, List, [], ◌∷◌, map, Option, Some, None, refl, sym, ap, ◌∙◌, subst, arith}
use Rattle.std.specs.Prelude.{Contains, MatchBool, is_some}
use Rattle.std.specs.List.{find}
use Rattle.std.specs.Option.{option_map}
use Rattle.ygg_syntax.specs.declared.tree.File.{File}
use Rattle.ygg_sched.specs.ygg_meaning.Obligations.{name_of}
use Rattle.ygg_sched.specs.ygg_meaning.Claims.{Claim, claims_of}
use Rattle.ygg_certify.specs.ygg_oblige_laws.Meaning.{claim_name}
use Rattle.ygg_sched.specs.declared.claim.Claim as code
use Rattle.ygg_sched.specs.Laws.{asked_at, asked_of}
use Rattle.ygg_sched.specs.Sites.{Site, sites_of, is_named, site_named, site_in}
use Rattle.ygg_sched.proofs.Standing.{sites_are_claims}
use Rattle.ygg_top.specs.Printed.{IsNamed}
use Rattle.ygg_top.proofs.Placed.{eq_true, eq_false}

-- the name of an obligation
abbrev site_name : Site → List ℕ
site_name s = name_of s.layer.name.text s.obligation

same_names : (ss : List Site) (cs : List Claim) → map asked_at ss ≡ map asked_of cs → map site_name ss ≡ map claim_name cs
same_names [] [] e = refl
same_names [] (c ∷ cs) e = absurd (cc e)
same_names (s ∷ ss) [] e = absurd (cc e)
same_names (s ∷ ss) (c ∷ cs) e =
    let head : asked_at s ≡ asked_of c = cc e in
    let tail : map asked_at ss ≡ map asked_of cs = cc e in
    let first : site_name s ≡ claim_name c = ap (λ a. name_of a.0.name.text a.2) head in
    ap (λ (n : List ℕ). n ∷ map site_name ss) first ∙ ap (λ (ns : List (List ℕ)). claim_name c ∷ ns) (same_names ss cs tail)

names_are : (f : File) → map site_name (sites_of f) ≡ map claim_name (claims_of f)
names_are f = same_names (sites_of f) (claims_of f) (sites_are_claims f)

later : (n : List ℕ) (ns : List (List ℕ)) (name : List ℕ) → Contains ns name → Contains (n ∷ ns) name
later n ns name (k, within, is) = (suc k, omega arith, is)

-- what is found has the name
found_named : (name : List ℕ) (ss : List Site) (s : Site) → find (is_named name) ss ≡ Some s → Contains (map site_name ss) name
found_named name [] s e = absurd (cc)
found_named name (x ∷ ss) s e = by_test (is_named name x) refl (found_named name ss s)
  where
    by_test : (b : Bool) → is_named name x ≡ b → (find (is_named name) ss ≡ Some s → Contains (map site_name ss) name) →
        Contains (map site_name (x ∷ ss)) name
    by_test true t rest = (zero, omega arith, eq_true (site_name x) name t)
    by_test false t rest = later (site_name x) (map site_name ss) name (rest (rw t at e))

-- where none is found, none has the name
none_named : (name : List ℕ) (ss : List Site) → find (is_named name) ss ≡ None → Contains (map site_name ss) name → ⊥
none_named name [] e (k, within, is) = absurd (omega arith)
none_named name (x ∷ ss) e (zero, within, is) = by_test (is_named name x) refl
  where
    by_test : (b : Bool) → is_named name x ≡ b → ⊥
    by_test true t = let g : Some x ≡ None = rw t at e in absurd (cc g)
    by_test false t = eq_false (site_name x) name t is
none_named name (x ∷ ss) e (suc k, within, is) = by_test (is_named name x) refl (λ none. none_named name ss none (k, omega arith, is))
  where
    by_test : (b : Bool) → is_named name x ≡ b → (find (is_named name) ss ≡ None → ⊥) → ⊥
    by_test true t rest = let g : Some x ≡ None = rw t at e in absurd (cc g)
    by_test false t rest = rest (rw t at e)

-- whether one is found
pub is_obligation : (f : File) (name : List ℕ) (found : Option code.Claim) (b : Bool) → b ≡ is_some found → option_map site_in found ≡ site_named f name →
    MatchBool b (IsNamed f name) (IsNamed f name → ⊥)
is_obligation f name None b is named =
    rw is (λ here. none_named name (sites_of f) (sym named) (subst (λ (ns : List (List ℕ)). Contains ns name) (sym (names_are f)) here))
is_obligation f name (Some c) b is named =
    rw is (subst (λ (ns : List (List ℕ)). Contains ns name) (names_are f) (found_named name (sites_of f) (site_in c) (sym named)))
