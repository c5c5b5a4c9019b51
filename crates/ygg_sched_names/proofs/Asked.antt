-- No two obligations of a typed file whose names have the form of a name have one name, so each is the first of its name.
use Rattle.std.proofs.Common.{◌≡◌, ℕ, suc, List, [], ◌∷◌, ◌++◌, map, slice_get, Option, Some, None, refl, sym, ap, subst, ◌∙◌}
use Rattle.std.specs.Option.{option_map}
use Rattle.std.proofs.lemmas.List.{map-append}
use Rattle.std.proofs.lemmas.List.Elements.{recursion_from_All, All-weaker}
use Rattle.std.proofs.lemmas.Option.{slice_get-map}
use Rattle.ygg_syntax.specs.declared.tree.Declared.{Declared}
use Rattle.ygg_syntax.specs.declared.tree.Layer.{Layer}
use Rattle.ygg_syntax.specs.declared.tree.File.{File}
use Rattle.ygg_accept.specs.ygg_type_rules.Files.{IsTyped}
use Rattle.ygg_replay.specs.ygg_meaning.Obligations.{Obligation, obligations_of, name_of}
use Rattle.ygg_replay.specs.ygg_meaning.Claims.{Claim, claims_of}
use Rattle.ygg_replay.specs.ygg_meaning.Stack.{tables_of}
use Rattle.ygg_print.specs.TreeLaws.{IsName}
use Rattle.ygg_oblige_laws.specs.Meaning.{claim_name}
use Rattle.ygg_replay.specs.ygg_sched.Laws.{asked_at, asked_of}
use Rattle.ygg_replay.specs.ygg_sched.Sites.{Site, sites_at, sites_on, sites_of, site_named}
use Rattle.ygg_replay.proofs.of_ygg_sched.Standing.{sites_are_claims}
use Rattle.ygg_replay.specs.Shown.{claim_named}
use Rattle.ygg_sched_names.specs.Names.{LayerNamed, HasNames}
use Rattle.ygg_sched_names.proofs.Apart.{Apart, one_place, first_named}
use Rattle.ygg_sched_names.proofs.Keys.{names_on, names_apart}
use Rattle.ygg_sched_names.proofs.Taken.{file_names}

-- what an obligation asks, whatever its place
abbrev pub Asked : Type 0
Asked = Layer × List Declared × Obligation

-- the name of what is asked
abbrev pub asked_name : Asked → List ℕ
asked_name a = name_of a.0.name.text a.2

abbrev pub site_name : Site → List ℕ
site_name s = asked_name (asked_at s)

names_in : {X : Type 0} (ask : X → Asked) (xs : List X) → map asked_name (map ask xs) ≡ map (λ x. asked_name (ask x)) xs
names_in ask [] = refl
names_in ask (x ∷ xs) = ap (λ ns. asked_name (ask x) ∷ ns) (names_in ask xs)

each_named : (place : ℕ) (l : Layer) (low : List Declared) (os : List Obligation) →
    map site_name (map (λ o. record { place = place; layer = l; low = low; obligation = o }) os) ≡ map (name_of l.name.text) os
each_named place l low [] = refl
each_named place l low (o ∷ os) = ap (λ ns. name_of l.name.text o ∷ ns) (each_named place l low os)

sites_named : (place : ℕ) (low : List Declared) (ls : List Layer) → map site_name (sites_on place low ls) ≡ names_on ls
sites_named place low [] = refl
sites_named place low (l ∷ ls) =
    map-append site_name (sites_at place l low) (sites_on (suc place) l.state ls)
    ∙ ap (λ ns. ns ++ map site_name (sites_on (suc place) l.state ls)) (each_named place l low (obligations_of l))
    ∙ ap (λ ns. map (name_of l.name.text) (obligations_of l) ++ ns) (sites_named (suc place) l.state ls)

-- the names of a file's obligations, by its sites and by its claims
names_of_sites : (f : File) → map site_name (sites_of f) ≡ names_on f.layers
names_of_sites f = sites_named 0 (tables_of f.disk) f.layers

names_of_claims : (f : File) → map claim_name (claims_of f) ≡ names_on f.layers
names_of_claims f =
    sym (names_in asked_of (claims_of f)) ∙ ap (map asked_name) (sym (sites_are_claims f)) ∙ names_in asked_at (sites_of f) ∙ names_of_sites f

-- they differ
apart : (f : File) → IsTyped f → HasNames f → Apart (names_on f.layers)
apart f typed named =
    let own = All-weaker LayerNamed (λ l. IsName l.name.text) (λ l h. h.own) f.layers named in
    let names = file_names f typed in
    names_apart f.layers (recursion_from_All (λ l. IsName l.name.text) f.layers own) names.layers names.own

-- the site of an obligation at a place
abbrev pub site_for : ℕ → Claim → Site
site_for place c = record { place = place; layer = c.layer.layer; low = c.layer.low; obligation = c.obligation }

-- the place at which the first obligation of its name is it
pub record SiteOf (f : File) (c : Claim) : Type 0 where
  pub place : ℕ
  pub named : site_named f (claim_name c) ≡ Some (site_for place c)

module _ (f : File) (typed : IsTyped f) (named : HasNames f) where
  claims_apart : Apart (map claim_name (claims_of f))
  claims_apart = subst (λ (ns : List (List ℕ)). Apart ns) (sym (names_of_claims f)) (apart f typed named)

  sites_apart : Apart (map site_name (sites_of f))
  sites_apart = subst (λ (ns : List (List ℕ)). Apart ns) (sym (names_of_sites f)) (apart f typed named)

  -- no two have one name
  pub names_differ : (i j : ℕ) (c d : Claim) → slice_get (claims_of f) i ≡ Some c → slice_get (claims_of f) j ≡ Some d → claim_name c ≡ claim_name d → i ≡ j
  names_differ i j c d h g same =
      one_place (map claim_name (claims_of f)) claims_apart i j (claim_name c)
      (slice_get-map claim_name (claims_of f) i ∙ ap (option_map claim_name) h)
      (slice_get-map claim_name (claims_of f) j ∙ ap (option_map claim_name) g ∙ ap (λ n. Some n) (sym same))

  -- so each is the first of its name
  pub named_is : (place : ℕ) (c : Claim) → slice_get (claims_of f) place ≡ Some c → claim_named f (claim_name c) ≡ Some c
  named_is place c h = first_named claim_name (claims_of f) claims_apart place c h

  pub site_named_is : (place : ℕ) (s : Site) → slice_get (sites_of f) place ≡ Some s → site_named f (name_of s.layer.name.text s.obligation) ≡ Some s
  site_named_is place s h = first_named site_name (sites_of f) sites_apart place s h

  pub site_of : (place : ℕ) (c : Claim) → slice_get (claims_of f) place ≡ Some c → SiteOf f c
  site_of place c h = there (slice_get (sites_of f) place) refl
    where
      asked : option_map asked_at (slice_get (sites_of f) place) ≡ Some (asked_of c)
      asked =
          sym (slice_get-map asked_at (sites_of f) place) ∙ ap (λ (all : List Asked). slice_get all place) (sites_are_claims f)
          ∙ slice_get-map asked_of (claims_of f) place ∙ ap (option_map asked_of) h

      there : (o : Option Site) → slice_get (sites_of f) place ≡ o → SiteOf f c
      there None e = let none : None ≡ Some (asked_of c) = sym (ap (option_map asked_at) e) ∙ asked in absurd (cc)
      there (Some s) e =
          let found : Some (asked_at s) ≡ Some (asked_of c) = sym (ap (option_map asked_at) e) ∙ asked in
          let asks : asked_at s ≡ asked_of c = cc in
          record {
            place = s.place;
            named = ap (λ (a : Asked). site_named f (asked_name a)) (sym asks) ∙ first_named site_name (sites_of f) sites_apart place s e
                ∙ ap (λ (a : Asked). Some (record { place = s.place; layer = a.0; low = a.1; obligation = a.2 })) asks;
          }
