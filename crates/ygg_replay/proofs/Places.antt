-- Obligations by their places are those of the list.
use Rattle.std.proofs.Common.{
  ◌≡◌,
  ℕ,
  zero,
  suc,
  ◌+◌,
  Bool,
  true,
  false,
  List,
  [],
  ◌∷◌,
  ◌++◌,
  map,
  slice_get,
  Option,
  Some,
  None,
  refl,
  sym,
  ap,
  subst,
  ◌∙◌,
  append_assoc,
  zero-add,
  arith,
}
use Rattle.std.specs.List.{find, AllByRecursion}
use Rattle.std.specs.Option.{option_map}
use Rattle.std.proofs.lemmas.List.{append-nil, map-append}
use Rattle.ygg_syntax.specs.declared.tree.Declared.{Declared}
use Rattle.ygg_syntax.specs.declared.tree.Layer.{Layer}
use Rattle.ygg_syntax.specs.declared.tree.File.{File}
use Rattle.ygg_replay.specs.ygg_meaning.Meaning.{functions_of}
use Rattle.ygg_replay.specs.ygg_meaning.Layer.{ClosedLayer}
use Rattle.ygg_replay.specs.ygg_meaning.Obligations.{Obligation, obligations_of}
use Rattle.ygg_replay.specs.ygg_meaning.Refines.{Below, OnDisk, OnSpec}
use Rattle.ygg_replay.specs.ygg_meaning.Stack.{Layers, below_of, layers_on, tables_of}
use Rattle.ygg_replay.specs.ygg_meaning.Claims.{Claim, claims_on, claims_of}
use Rattle.ygg_replay.specs.ygg_eval.Layers.{variables_from, variables_at, closed_at, below_at}
use Rattle.ygg_replay.specs.ygg_sched.Sites.{Site, sites_at, sites_on, sites_of, is_named, site_named}
use Rattle.ygg_replay.proofs.of_ygg_sched.Finding.{find-map}
use Rattle.ygg_replay.specs.Shown.{claim_named, is_name}

-- the variables over a layer are its own
variables_over : (ls : List Layer) (below : List Declared) (n : ℕ) (l : Layer) → slice_get ls n ≡ Some l → variables_from below ls (suc n) ≡ l.state
variables_over [] below n l h = absurd (cc)
variables_over (x ∷ []) below zero l h = let e : x ≡ l = cc in ap (λ (y : Layer). y.state) e
variables_over (x ∷ y ∷ ls) below zero l h = let e : x ≡ l = cc in ap (λ (z : Layer). z.state) e
variables_over (x ∷ ls) below (suc n) l h = variables_over ls x.state n l h

-- the obligation of a site, with all that it speaks of
abbrev pub claim_at : File → Site → Claim
claim_at f s = record { layer = closed_at f s.place s.layer; below = below_at f s.place; obligation = s.obligation }

-- these are the layers of the file from a place up
abbrev Above : File → ℕ → List Layer → Type 0
Above f place ls = (k : ℕ) → slice_get ls k ≡ slice_get f.layers (k + place)

above_next : (f : File) (place : ℕ) (l : Layer) (ls : List Layer) → Above f place (l ∷ ls) → Above f (suc place) ls
above_next f place l ls above k = let same : suc k + place ≡ k + suc place = omega arith in above (suc k) ∙ ap (slice_get f.layers) same

above_here : (f : File) (place : ℕ) (l : Layer) (ls : List Layer) → Above f place (l ∷ ls) → slice_get f.layers place ≡ Some l
above_here f place l ls above = sym (above 0 ∙ ap (slice_get f.layers) (zero-add place))

-- what the next layer is specified over
below_next : (f : File) (place : ℕ) (l : Layer) → slice_get f.layers place ≡ Some l → OnSpec (closed_at f place l) ≡ below_at f (suc place)
below_next f place l here = sym (ap (λ (o : Option Layer). elim o [ None ↦ OnDisk f.disk | Some m ↦ OnSpec (closed_at f place m) ]) here)

-- a layer over these variables
abbrev closed : File → Layer → List Declared → ClosedLayer
closed f l low = record { functions = functions_of f.defs; layer = l; low = low }

-- an obligation of it on this
abbrev claim : File → Layer → List Declared → Below → Obligation → Claim
claim f l low g o = record { layer = closed f l low; below = g; obligation = o }

-- an obligation of a layer at a place
abbrev site : ℕ → Layer → List Declared → Obligation → Site
site place l low o = record { place = place; layer = l; low = low; obligation = o }

-- the obligations of one layer
each : (f : File) (place : ℕ) (l : Layer) (low : List Declared) (g : Below) (os : List Obligation) → low ≡ variables_at f place → g ≡ below_at f place →
    map (claim f l low g) os ≡ map (claim_at f) (map (site place l low) os)
each f place l low g [] e b = refl
each f place l low g (o ∷ os) e b =
    ap (λ (d : List Declared). claim f l d g o ∷ map (claim f l low g) os) e
    ∙ ap (λ (k : Below). claim f l (variables_at f place) k o ∷ map (claim f l low g) os) b
    ∙ ap (λ (cs : List Claim). claim f l (variables_at f place) (below_at f place) o ∷ cs) (each f place l low g os e b)

-- those of layers on others
on : (f : File) (place : ℕ) (low : List Declared) (ls : List Layer) (lower : Layers) → Above f place ls → low ≡ variables_at f place →
    below_of f.disk lower ≡ below_at f place →
    claims_on f.disk (layers_on (functions_of f.defs) low ls lower) ≡ claims_on f.disk lower ++ map (claim_at f) (sites_on place low ls)
on f place low [] lower above e b = sym (append-nil (claims_on f.disk lower))
on f place low (l ∷ ls) lower above e b =
    let here : slice_get f.layers place ≡ Some l = above_here f place l ls above in
    let same : closed f l low ≡ closed_at f place l = ap (closed f l) e in
    on f (suc place) l.state ls (closed f l low ∷ lower) (above_next f place l ls above) (sym (variables_over f.layers (tables_of f.disk) place l here))
    (ap (λ (c : ClosedLayer). OnSpec c) same ∙ below_next f place l here)
    ∙ ap (λ (own : List Claim). (claims_on f.disk lower ++ own) ++ map (claim_at f) (sites_on (suc place) l.state ls))
    (each f place l low (below_of f.disk lower) (obligations_of l) e b)
    ∙ append_assoc (claims_on f.disk lower) (map (claim_at f) (sites_at place l low)) (map (claim_at f) (sites_on (suc place) l.state ls))
    ∙ ap (λ (cs : List Claim). claims_on f.disk lower ++ cs) (sym (map-append (claim_at f) (sites_at place l low) (sites_on (suc place) l.state ls)))

above_all : (f : File) → Above f 0 f.layers
above_all f k = let same : k ≡ k + 0 = omega arith in ap (slice_get f.layers) same

first_variables : (f : File) → tables_of f.disk ≡ variables_at f 0
first_variables f = by_layers f.layers
  where
    by_layers : (ls : List Layer) → tables_of f.disk ≡ variables_from (tables_of f.disk) ls 0
    by_layers [] = refl
    by_layers (l ∷ ls) = refl

-- the obligations of a file are those of its sites
claims_are_sites : (f : File) → claims_of f ≡ map (claim_at f) (sites_of f)
claims_are_sites f = on f 0 (tables_of f.disk) f.layers [] (above_all f) (first_variables f) refl

-- the first obligation of a name
pub claim_is : (f : File) (name : List ℕ) (s : Site) → site_named f name ≡ Some s → claim_named f name ≡ Some (claim_at f s)
claim_is f name s named =
    ap (find (is_name name)) (claims_are_sites f)
    ∙ find-map (is_name name) (claim_at f) (sites_of f)
    ∙ ap (option_map (claim_at f)) named

-- a site stands where it says
pub record Stands (f : File) (s : Site) : Type 0 where
  pub here : slice_get f.layers s.place ≡ Some s.layer
  pub low : s.low ≡ variables_at f s.place

each_append : {X : Type 0} (P : X → Type 0) (xs ys : List X) → AllByRecursion P xs → AllByRecursion P ys → AllByRecursion P (xs ++ ys)
each_append P [] ys h g = g
each_append P (x ∷ xs) ys h g = (h.0, each_append P xs ys h.1 g)

each_map : {X Y : Type 0} (P : Y → Type 0) (f : X → Y) (xs : List X) → ((x : X) → P (f x)) → AllByRecursion P (map f xs)
each_map P f [] h = tt
each_map P f (x ∷ xs) h = (h x, each_map P f xs h)

stand : (f : File) (place : ℕ) (low : List Declared) (ls : List Layer) → Above f place ls → low ≡ variables_at f place →
    AllByRecursion (Stands f) (sites_on place low ls)
stand f place low [] above e = tt
stand f place low (l ∷ ls) above e =
    let here : slice_get f.layers place ≡ Some l = above_here f place l ls above in
    each_append (Stands f) (sites_at place l low) (sites_on (suc place) l.state ls)
    (each_map (Stands f) (site place l low) (obligations_of l) (λ o. record { here = here; low = e }))
    (stand f (suc place) l.state ls (above_next f place l ls above) (sym (variables_over f.layers (tables_of f.disk) place l here)))

-- what is found is one of them
found : {X : Type 0} (P : X → Type 0) (test : X → Bool) (xs : List X) (x : X) → AllByRecursion P xs → find test xs ≡ Some x → P x
found P test [] x all h = absurd (cc)
found P test (y ∷ ys) x all h = by_test (test y) refl (found P test ys x all.1)
  where
    by_test : (b : Bool) → test y ≡ b → (find test ys ≡ Some x → P x) → P x
    by_test true e later = let g : Some y ≡ Some x = rw e at h in let same : y ≡ x = cc in subst P same all.0
    by_test false e later = later (rw e at h)

pub stands : (f : File) (name : List ℕ) (s : Site) → site_named f name ≡ Some s → Stands f s
stands f name s named =
    found (Stands f) (is_named name) (sites_of f) s (stand f 0 (tables_of f.disk) f.layers (above_all f) (first_variables f)) named
