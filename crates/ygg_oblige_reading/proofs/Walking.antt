-- The layers of a file from the lowest up, to the one that has an obligation.
use Rattle.std.proofs.Common.{◌≡◌, ◌<◌, ℕ, ◌+◌, List, [], ◌∷◌, ◌++◌, length, take, refl, sym, ap, ◌∙◌, subst, append_assoc, arith}
use Rattle.std.proofs.lemmas.List.{length-append, length-map}
use Rattle.std.specs.Prelude.{slice_get}
use Rattle.ygg_rules.specs.declared.rule.RuleKind.{RuleKind}
use Rattle.ygg_syntax.specs.declared.tree.Declared.{Declared}
use Rattle.ygg_syntax.specs.declared.tree.Def.{Def}
use Rattle.ygg_syntax.specs.declared.tree.File.{File}
use Rattle.ygg_syntax.specs.declared.tree.Layer.{Layer}
use Rattle.ygg_oblige_list.specs.ygg_meaning.Layer.{ClosedLayer}
use Rattle.ygg_oblige_list.specs.ygg_meaning.Meaning.{Functions, functions_of}
use Rattle.ygg_oblige_list.specs.ygg_meaning.Obligations.{Obligation, obligations_of}
use Rattle.ygg_oblige_list.specs.ygg_meaning.Refines.{Below, OnSpec}
use Rattle.ygg_oblige_list.specs.ygg_meaning.Claims.{claims_at, claims_of, claims_on}
use Rattle.ygg_oblige_list.specs.ygg_meaning.Stack.{Layers, below_of, layers_on, layers_of, tables_of}
use Rattle.ygg_oblige.specs.ygg_sym_laws.Means.{terms_of}
use Rattle.ygg_oblige.specs.ygg_sym_spec.Layers.{closed}
use Rattle.ygg_oblige.specs.ygg_sym_spec.declared.layer.SymLayer.{SymLayer}
use Rattle.ygg_oblige.specs.Sites.{below_in}
use Rattle.ygg_oblige.specs.ygg_sym_spec.declared.below.SymBelow.{SymBelow}
use Rattle.ygg_oblige.specs.ygg_sym_spec.declared.below.SymBelow.TheVariants as on
use Rattle.ygg_oblige.specs.ygg_oblige_laws.LayerTerms.{LayerTyped}
use Rattle.ygg_oblige.specs.ygg_oblige_laws.Numbers.{Numbers, numbers_of}
use Rattle.ygg_oblige.specs.ygg_oblige_laws.TermStates.{state_words}
use Rattle.ygg_oblige.specs.ygg_oblige_laws.Terms.{after_all, after_layer, after_layers}
use Rattle.ygg_oblige.specs.ygg_oblige_laws.TypedLayers.{LayersTyped}
use Rattle.ygg_oblige.specs.Making.{SiteFits}
use Rattle.ygg_oblige.specs.Adding.{after_layer_at}
use Rattle.ygg_oblige.proofs.Walking.{HasDefs, lower_typed, same_defs}
use Rattle.ygg_oblige_reading.specs.Listing.{StandsIn}
use Rattle.ygg_oblige_reading.specs.Sites.{IsInLayer, IsSite, layer_here, obligation_here}
use Rattle.ygg_oblige_schedule.specs.declared.site.Site.{Site}

-- what was gathered stays last
record EndsWith (all gathered : Layers) : Type 0 where
  pub upper : Layers
  pub is : all ≡ upper ++ gathered

ends_with : (functions : Functions) (low : List Declared) (ls : List Layer) (gathered : Layers) → EndsWith (layers_on functions low ls gathered) gathered
ends_with functions low [] gathered = record { upper = []; is = refl }
ends_with functions low (x ∷ xs) gathered =
    let c : ClosedLayer = record { functions = functions; layer = x; low = low } in
    let e = ends_with functions x.state xs (c ∷ gathered) in
    record { upper = e.upper ++ c ∷ []; is = e.is ∙ sym (append_assoc e.upper (c ∷ []) gathered) }

-- as many claims as obligations
claims_count : (L : ClosedLayer) (G : Below) → length (claims_at L G) ≡ length (obligations_of L.layer)
claims_count L G = length-map (obligations_of L.layer) (λ (o : Obligation). record { layer = L; below = G; obligation = o })

sums : (all below own count rest left place : ℕ) → all ≡ below + own → own ≡ count → count + left ≡ rest → below + rest ≡ place → all + left ≡ place
sums all below own count rest left place a b c d = omega (arith, a, b, c, d)

past : (below all rest place : ℕ) → below ≡ all → below + rest ≡ place → place < all → ⊥
past below all rest place a b c = absurd (omega (arith, a, b, c))

module _ (kinds : List RuleKind) (file : File) (place : ℕ) where
  -- these layers have no obligation of the place, and these are left, over these names
  pub record Walked (low : List Declared) (left : List Layer) (count : ℕ) (g : SymBelow) (number rest : ℕ) : Type 0 where
    pub lower : Layers
    pub layers : layers_on (functions_of file.defs) low left lower ≡ layers_of file
    pub counts : length lower ≡ count
    pub below : below_in g ≡ below_of file.disk lower
    pub same : HasDefs file.defs g
    pub number_is : number ≡ after_layers kinds (terms_of kinds file.defs) file.disk lower
    pub place_is : length (claims_on file.disk lower) + rest ≡ place
    pub typed : LayersTyped file.defs file.disk (layers_on (functions_of file.defs) low left lower)

  module _ (l : SymLayer) (g : SymBelow) (left : List Layer) (count number rest : ℕ) (defs : l.defs.now ≡ file.defs)
      (w : Walked l.low.now (l.layer.now ∷ left) count g number rest) where
    abbrev layer_with : List Def → ClosedLayer
    layer_with ds = record { functions = functions_of ds; layer = l.layer.now; low = l.low.now }

    abbrev L : ClosedLayer
    L = layer_with file.defs

    abbrev G : Below
    G = below_of file.disk w.lower

    abbrev after : ℕ
    after = after_layers kinds (terms_of kinds file.defs) file.disk w.lower

    both_typed : LayersTyped file.defs file.disk (L ∷ w.lower)
    both_typed = lower_typed file.defs file.disk (functions_of file.defs) (l.layer.now).state left (L ∷ w.lower) w.typed

    -- the next layer has no type error on what is below
    pub site_fits : SiteFits l g
    site_fits = record {
      layer = subst (λ (H : Below). LayerTyped l.defs.now H (closed l)) (sym w.below)
          (subst (λ (ds : List Def). LayerTyped ds G (layer_with ds)) (sym defs) both_typed.0);
      same = same_defs l g (subst (λ (ds : List Def). HasDefs ds g) (sym defs) w.same);
    }

    abbrev after_with : List Def → Below → ℕ → ℕ
    after_with ds H n = after_layer kinds (terms_of kinds ds) (layer_with ds) H n

    after_is : after_layer_at kinds l g number ≡ after_with file.defs G after
    after_is = ap (λ (ds : List Def). after_with ds (below_in g) number) defs ∙ ap (λ (H : Below). after_with file.defs H number) w.below
        ∙ ap (λ (n : ℕ). after_with file.defs G n) w.number_is

    -- and then the layers above it are left
    pub walked_on : (low_then : List Declared) (number_then rest_then : ℕ) → low_then ≡ (l.layer.now).state →
        number_then ≡ after_layer_at kinds l g number → length (obligations_of l.layer.now) + rest_then ≡ rest →
        Walked low_then left (count + 1) (on.Layer l) number_then rest_then
    walked_on low_then number_then rest_then e a h =
        let long : length (claims_on file.disk (L ∷ w.lower)) ≡ length (claims_on file.disk w.lower) + length (claims_at L G) =
        length-append (claims_on file.disk w.lower) (claims_at L G) in
        let counts = w.counts in
        subst (λ (z : List Declared). Walked z left (count + 1) (on.Layer l) number_then rest_then) (sym e) (record {
          lower = L ∷ w.lower;
          layers = w.layers;
          counts = omega (arith, counts);
          below = ap (λ (ds : List Def). OnSpec (layer_with ds)) defs;
          same = defs;
          number_is = a ∙ after_is;
          place_is = sums _ _ _ _ _ _ _ long (claims_count L G) h w.place_is;
          typed = w.typed;
        })

    -- the inputs of an obligation at its place in a layer
    abbrev at_with : Site → List Def → Below → Layer → List Declared → ℕ → Numbers
    at_with s ds H y z n =
        let K : ClosedLayer = record { functions = functions_of ds; layer = y; low = z } in
        numbers_of H K (obligation_here s) (after_all kinds (terms_of kinds ds) K H (take rest (obligations_of y)) (n + state_words K))

    -- the obligation of the place is one of the next layer
    pub found : (s : Site) → IsInLayer kinds l g count number rest s → IsSite kinds file place s
    found s i =
        let e = ends_with (functions_of file.defs) (l.layer.now).state left (L ∷ w.lower) in
        let made : Layer → List Declared → ClosedLayer = λ y z. record { functions = functions_of file.defs; layer = y; low = z } in
        let here : layer_here file s ≡ L = ap (λ (y : Layer). made y s.low.now) i.layer_is ∙ ap (made l.layer.now) i.low_is in
        record {
          upper = e.upper;
          lower = w.lower;
          layers = sym w.layers ∙ e.is ∙ ap (λ (K : ClosedLayer). e.upper ++ K ∷ w.lower) (sym here);
          counts = w.counts ∙ sym i.place_is;
          at = rest;
          place_is = w.place_is;
          listed = ap (λ (y : Layer). slice_get (obligations_of y) rest) i.layer_is ∙ i.listed;
          stands = subst (λ (y : Layer). StandsIn y.operations y.ticks (obligation_here s) s.number) (sym i.layer_is) i.stands;
          states = i.states_is ∙ w.number_is;
          numbers = i.numbers ∙ ap (λ (ds : List Def). at_with s ds (below_in g) l.layer.now l.low.now number) defs
              ∙ ap (λ (H : Below). at_with s file.defs H l.layer.now l.low.now number) w.below
              ∙ ap (λ (y : Layer). at_with s file.defs G y l.low.now number) (sym i.layer_is)
              ∙ ap (λ (z : List Declared). at_with s file.defs G s.layer.now z number) (sym i.low_is)
              ∙ ap (at_with s file.defs G s.layer.now s.low.now) (sym i.states_is);
          typed = subst (LayerTyped file.defs G) (sym here) both_typed.0;
        }

  -- the same where the layer's number is equal to its place
  pub found_there : (l : SymLayer) (g : SymBelow) (left : List Layer) (count number rest n : ℕ) (s : Site) → IsInLayer kinds l g n number rest s → n ≡ count →
      l.defs.now ≡ file.defs → Walked l.low.now (l.layer.now ∷ left) count g number rest → IsSite kinds file place s
  found_there l g left count number rest n s i e defs w =
      found l g left count number rest defs w s (subst (λ m. IsInLayer kinds l g m number rest s) e i)

  -- before the first layer
  pub walk_begun : (low : List Declared) → low ≡ tables_of file.disk → LayersTyped file.defs file.disk (layers_of file) →
      Walked low file.layers 0 (on.Disk file.disk) 0 place
  walk_begun low e t = let same_layers = ap (λ (z : List Declared). layers_on (functions_of file.defs) z file.layers []) e in
      record {
        lower = [];
        layers = same_layers;
        counts = refl;
        below = refl;
        same = tt;
        number_is = refl;
        place_is = let e : 0 + place ≡ place = omega arith in e;
        typed = subst (LayersTyped file.defs file.disk) (sym same_layers) t;
      }

  -- after the last there would be an obligation past the end
  pub walked_past : (low : List Declared) (left : List Layer) (count : ℕ) (g : SymBelow) (number rest : ℕ) → left ≡ [] →
      Walked low left count g number rest → place < length (claims_of file) → ⊥
  walked_past low left count g number rest e w h =
      let is : w.lower ≡ layers_of file = ap (λ (z : List Layer). layers_on (functions_of file.defs) low z w.lower) (sym e) ∙ w.layers in
      let same : length (claims_on file.disk w.lower) ≡ length (claims_of file) = ap (λ (z : Layers). length (claims_on file.disk z)) is in
      past _ _ _ _ same w.place_is h
