-- The obligations that a schedule may name are those of the file.
use Rattle.std.proofs.Common.{◌≡◌, ℕ, suc, List, [], ◌∷◌, ◌++◌, map, refl, sym, ap, ◌∙◌, append_assoc}
use Rattle.std.proofs.lemmas.List.{append-nil, map-append}
use Rattle.ygg_syntax.specs.declared.tree.Declared.{Declared}
use Rattle.ygg_syntax.specs.declared.tree.DiskText.{DiskText}
use Rattle.ygg_syntax.specs.declared.tree.Layer.{Layer}
use Rattle.ygg_meaning.specs.Meaning.{Functions, functions_of}
use Rattle.ygg_meaning.specs.Obligations.{Obligation, obligations_of}
use Rattle.ygg_meaning.specs.Layer.{ClosedLayer}
use Rattle.ygg_meaning.specs.Refines.{Below}
use Rattle.ygg_meaning.specs.Stack.{Layers, below_of, layers_on, tables_of}
use Rattle.ygg_meaning.specs.Claims.{Claim, claims_at, claims_on}
use Rattle.ygg_sched.specs.Sites.{sites_at, sites_on}
use Rattle.ygg_sched.specs.Laws.{asked_at, asked_of, SitesAreClaims}

-- an obligation with its layer and the variables below
abbrev Asked : Type 0
Asked = Layer × List Declared × Obligation

-- the obligations of one layer
each : (place : ℕ) (L : ClosedLayer) (g : Below) (os : List Obligation) →
    map asked_of (map (λ o. record { layer = L; below = g; obligation = o }) os)
    ≡ map asked_at (map (λ o. record { place = place; layer = L.layer; low = L.low; obligation = o }) os)
each place L g [] = refl
each place L g (o ∷ os) = ap (λ (all : List Asked). (L.layer, L.low, o) ∷ all) (each place L g os)

-- those of layers on others
on : (place : ℕ) (functions : Functions) (disk : DiskText) (low : List Declared) (ls : List Layer) (lower : Layers) →
    map asked_of (claims_on disk (layers_on functions low ls lower)) ≡ map asked_of (claims_on disk lower) ++ map asked_at (sites_on place low ls)
on place functions disk low [] lower = sym (append-nil (map asked_of (claims_on disk lower)))
on place functions disk low (l ∷ ls) lower =
    let L : ClosedLayer = record { functions = functions; layer = l; low = low } in
    let own : List Claim = claims_at L (below_of disk lower) in
    let one : map asked_of (claims_on disk lower ++ own) ≡ map asked_of (claims_on disk lower) ++ map asked_at (sites_at place l low) =
    map-append asked_of (claims_on disk lower) own
    ∙ ap (λ (all : List Asked). map asked_of (claims_on disk lower) ++ all) (each place L (below_of disk lower) (obligations_of l)) in
    on (suc place) functions disk l.state ls (L ∷ lower)
    ∙ ap (λ (all : List Asked). all ++ map asked_at (sites_on (suc place) l.state ls)) one
    ∙ append_assoc (map asked_of (claims_on disk lower)) (map asked_at (sites_at place l low)) (map asked_at (sites_on (suc place) l.state ls))
    ∙ ap (λ (all : List Asked). map asked_of (claims_on disk lower) ++ all)
    (sym (map-append asked_at (sites_at place l low) (sites_on (suc place) l.state ls)))

pub sites_are_claims : SitesAreClaims
sites_are_claims f = sym (on 0 (functions_of f.defs) f.disk (tables_of f.disk) f.layers [])
