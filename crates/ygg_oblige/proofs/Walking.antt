-- The layers of a file from the lowest up: those so far, and those that are left.
use Rattle.std.proofs.Common.{◌≡◌, ◌<◌, ℕ, ◌+◌, List, [], ◌∷◌, ◌++◌, length, drop, get_or, map, slice_get, Some, refl, sym, ap, ◌∙◌, subst}
use Rattle.std.proofs.lemmas.List.{map-append}
use Rattle.ygg_oblige_laws.specs.ygg_rules.declared.rule.RuleKind.{RuleKind}
use Rattle.ygg_oblige_laws.specs.ygg_bank.Inputs.{InputsBelow}
use Rattle.ygg_oblige_laws.specs.ygg_bank.Makes.{Out}
use Rattle.ygg_oblige_laws.specs.ygg_bank.Nodes.{IsBank}
use Rattle.ygg_oblige_laws.specs.ygg_bank.declared.node.Id.{Id}
use Rattle.ygg_oblige_laws.specs.ygg_bank.declared.node.Node.{Node}
use Rattle.ygg_syntax.specs.declared.tree.Declared.{Declared}
use Rattle.ygg_syntax.specs.declared.tree.Def.{Def}
use Rattle.ygg_syntax.specs.declared.tree.DiskText.{DiskText}
use Rattle.ygg_syntax.specs.declared.tree.File.{File}
use Rattle.ygg_syntax.specs.declared.tree.Layer.{Layer}
use Rattle.ygg_oblige_laws.specs.ygg_meaning.Layer.{ClosedLayer}
use Rattle.ygg_oblige_laws.specs.ygg_meaning.Meaning.{Functions, functions_of}
use Rattle.ygg_oblige_laws.specs.ygg_meaning.Obligations.{Obligation, name_of, obligations_of}
use Rattle.ygg_oblige_laws.specs.ygg_meaning.Refines.{Below, OnSpec}
use Rattle.ygg_oblige_laws.specs.ygg_meaning.Claims.{claims_at, claims_of, claims_on}
use Rattle.ygg_oblige_laws.specs.ygg_meaning.Stack.{Layers, below_of, layers_on, layers_of, tables_of}
use Rattle.ygg_oblige_laws.specs.ygg_sym_laws.Means.{terms_of}
use Rattle.ygg_oblige_parts.specs.ygg_sym_spec.Layers.{closed}
use Rattle.ygg_oblige_parts.specs.ygg_sym_spec.declared.layer.SymLayer.{SymLayer}
use Rattle.ygg_oblige.specs.Sites.{SameDefs, below_in}
use Rattle.ygg_sym.specs.ygg_sym_spec.declared.below.SymBelow.{SymBelow}
use Rattle.ygg_sym.specs.ygg_sym_spec.declared.below.SymBelow.TheVariants as on
use Rattle.ygg_oblige.proofs.Left.{rest_is}
use Rattle.ygg_oblige_laws.specs.LayerTerms.{LayerTyped}
use Rattle.ygg_oblige_laws.specs.Meaning.{claim_name}
use Rattle.ygg_oblige_laws.specs.Terms.{after_layer, after_layers, file_made, layer_made, layers_made}
use Rattle.ygg_oblige_laws.specs.TypedLayers.{LayersTyped}
use Rattle.ygg_oblige_laws.proofs.Whole.{layer_inputs}
use Rattle.ygg_oblige.specs.Adding.{AddsAsked, after_layer_at, layer_at, names_of}
use Rattle.ygg_oblige.specs.Making.{SiteFits}
use Rattle.ygg_oblige.proofs.Asking.{claims_on_more}
use Rattle.ygg_oblige.specs.Obligations as listed
use Rattle.ygg_oblige.specs.declared.obligation.Obligation as code

-- the layer at a place, and those after it
pub next_layer : (ls items : List Layer) (i : ℕ) (l d : Layer) → items ≡ ls → i < length items → l ≡ get_or items i d → drop i ls ≡ l ∷ drop (i + 1) ls
next_layer ls items i l d e h is = subst (λ (z : List Layer). drop i z ≡ l ∷ drop (i + 1) z) e (rest_is items i l d h is)

-- what is below has these definitions
abbrev pub HasDefs : List Def → SymBelow → Type 0
HasDefs defs (on.Disk d) = Unit {0}
HasDefs defs (on.Layer m) = m.defs.now ≡ defs

pub same_defs : (l : SymLayer) (g : SymBelow) → HasDefs l.defs.now g → SameDefs l g
same_defs l (on.Disk d) h = h
same_defs l (on.Layer m) h = h

-- layers are typed on those below, and so are those below
pub lower_typed : (defs : List Def) (disk : DiskText) (f : Functions) (low : List Declared) (ls : List Layer) (lower : Layers) →
    LayersTyped defs disk (layers_on f low ls lower) → LayersTyped defs disk lower
lower_typed defs disk f low [] lower t = t
lower_typed defs disk f low (l ∷ ls) lower t = (lower_typed defs disk f l.state ls (record { functions = f; layer = l; low = low } ∷ lower) t).1

names_at : (L : ClosedLayer) (G : Below) (os : List Obligation) →
    map claim_name (map (λ (o : Obligation). record { layer = L; below = G; obligation = o }) os) ≡ map (name_of L.layer.name.text) os
names_at L G [] = refl
names_at L G (o ∷ os) = ap (λ z. name_of L.layer.name.text o ∷ z) (names_at L G os)

module _ (kinds : List RuleKind) (file : File) where
  -- the obligations of these layers are in the bank and the list, and these layers are left, over these names
  pub record Walked (low : List Declared) (left : List Layer) (g : SymBelow) (number : ℕ) (now : List Node) (all : List code.Obligation) : Type 0 where
    pub lower : Layers
    pub layers : layers_on (functions_of file.defs) low left lower ≡ layers_of file
    pub below : below_in g ≡ below_of file.disk lower
    pub same : HasDefs file.defs g
    pub number_is : number ≡ after_layers kinds (terms_of kinds file.defs) file.disk lower
    pub nodes : now ≡ (layers_made kinds (terms_of kinds file.defs) file.disk lower []).nodes
    pub terms : listed.terms_in all ≡ (layers_made kinds (terms_of kinds file.defs) file.disk lower []).value
    pub names : listed.names_in all ≡ map claim_name (claims_on file.disk lower)
    pub placed : listed.ArePlaced all
    pub claims : listed.AreClaims file (claims_on file.disk lower) all
    pub typed : LayersTyped file.defs file.disk (layers_on (functions_of file.defs) low left lower)
    pub free : InputsBelow number now
    pub is_bank : IsBank now

  -- the obligations of the layer at a place are added
  pub record LayerAdded (place : ℕ) (l : SymLayer) (g : SymBelow) (number : ℕ) (now : List Node) (all : List code.Obligation)
      (number_then : ℕ) (then_nodes : List Node) (then_all : List code.Obligation) : Type 0 where
    pub nodes : then_nodes ≡ (layer_at kinds l g number now).nodes
    pub terms : listed.terms_in then_all ≡ listed.terms_in all ++ (layer_at kinds l g number now).value
    pub names : listed.names_in then_all ≡ listed.names_in all ++ names_of l (obligations_of l.layer.now)
    pub next_is : number_then ≡ after_layer_at kinds l g number
    pub is_bank : IsBank then_nodes
    pub placed : listed.ArePlaced then_all
    pub asked : AddsAsked place l.layer.now (obligations_of l.layer.now) all then_all

  module _ (l : SymLayer) (g : SymBelow) (left : List Layer) (number : ℕ) (now : List Node) (all : List code.Obligation)
      (defs : l.defs.now ≡ file.defs) (w : Walked l.low.now (l.layer.now ∷ left) g number now all) where
    abbrev layer_with : List Def → ClosedLayer
    layer_with ds = record { functions = functions_of ds; layer = l.layer.now; low = l.low.now }

    abbrev L : ClosedLayer
    L = layer_with file.defs

    abbrev G : Below
    G = below_of file.disk w.lower

    abbrev base : Out (List Id)
    base = layers_made kinds (terms_of kinds file.defs) file.disk w.lower []

    abbrev after : ℕ
    after = after_layers kinds (terms_of kinds file.defs) file.disk w.lower

    abbrev made_with : List Def → Below → ℕ → List Node → Out (List Id)
    made_with ds H n z = layer_made kinds (terms_of kinds ds) (layer_with ds) H n z

    abbrev after_with : List Def → Below → ℕ → ℕ
    after_with ds H n = after_layer kinds (terms_of kinds ds) (layer_with ds) H n

    abbrev obligations : List Obligation
    obligations = obligations_of l.layer.now

    both_typed : LayersTyped file.defs file.disk (L ∷ w.lower)
    both_typed = lower_typed file.defs file.disk (functions_of file.defs) (l.layer.now).state left (L ∷ w.lower) w.typed

    -- the next layer has no type error on what is below
    pub site_fits : SiteFits l g
    site_fits = record {
      layer = subst (λ (H : Below). LayerTyped l.defs.now H (closed l)) (sym w.below)
          (subst (λ (ds : List Def). LayerTyped ds G (layer_with ds)) (sym defs) both_typed.0);
      same = same_defs l g (subst (λ (ds : List Def). HasDefs ds g) (sym defs) w.same);
    }

    made_is : layer_at kinds l g number now ≡ made_with file.defs G after base.nodes
    made_is = ap (λ (ds : List Def). made_with ds (below_in g) number now) defs ∙ ap (λ (H : Below). made_with file.defs H number now) w.below
        ∙ ap (λ (n : ℕ). made_with file.defs G n now) w.number_is ∙ ap (λ (z : List Node). made_with file.defs G after z) w.nodes

    after_is : after_layer_at kinds l g number ≡ after_with file.defs G after
    after_is = ap (λ (ds : List Def). after_with ds (below_in g) number) defs ∙ ap (λ (H : Below). after_with file.defs H number) w.below
        ∙ ap (λ (n : ℕ). after_with file.defs G n) w.number_is

    -- and then the layers above it are left
    pub walked_on : (place : ℕ) (low_then : List Declared) (number_then : ℕ) (then_nodes : List Node) (then_all : List code.Obligation) →
        slice_get file.layers place ≡ Some l.layer.now → low_then ≡ (l.layer.now).state →
        LayerAdded place l g number now all number_then then_nodes then_all → Walked low_then left (on.Layer l) number_then then_nodes then_all
    walked_on place low_then number_then then_nodes then_all here e a =
        subst (λ (z : List Declared). Walked z left (on.Layer l) number_then then_nodes then_all) (sym e) (record {
          lower = L ∷ w.lower;
          layers = w.layers;
          below = ap (λ (ds : List Def). OnSpec (layer_with ds)) defs;
          same = defs;
          number_is = a.next_is ∙ after_is;
          nodes = a.nodes ∙ ap (λ (o : Out (List Id)). o.nodes) made_is;
          terms = a.terms ∙ ap (λ (z : List Id). z ++ (layer_at kinds l g number now).value) w.terms
              ∙ ap (λ (o : Out (List Id)). base.value ++ o.value) made_is;
          names = a.names ∙ ap (λ (z : List (List ℕ)). z ++ names_of l obligations) w.names
              ∙ ap (λ (z : List (List ℕ)). map claim_name (claims_on file.disk w.lower) ++ z) (sym (names_at L G obligations))
              ∙ sym (map-append claim_name (claims_on file.disk w.lower) (claims_at L G));
          placed = a.placed;
          claims = claims_on_more file place L G here (claims_on file.disk w.lower) all then_all w.claims a.asked;
          typed = w.typed;
          free = subst (λ (n : ℕ). InputsBelow n then_nodes) (sym a.next_is) (subst (InputsBelow (after_layer_at kinds l g number)) (sym a.nodes)
              (layer_inputs kinds l.defs.now (below_in g) (closed l) number now site_fits.layer w.free));
          is_bank = a.is_bank;
        })

  nothing : InputsBelow 0 []
  nothing place number w e = absurd (cc)

  none_placed : listed.ArePlaced []
  none_placed place o there = absurd (cc)

  -- before the first layer
  pub walk_begun : (low : List Declared) (now : List Node) → low ≡ tables_of file.disk → now ≡ [] → IsBank now →
      LayersTyped file.defs file.disk (layers_of file) → Walked low file.layers (on.Disk file.disk) 0 now []
  walk_begun low now e f b t = let same_layers = ap (λ (z : List Declared). layers_on (functions_of file.defs) z file.layers []) e in
      record {
        lower = [];
        layers = same_layers;
        below = refl;
        same = tt;
        number_is = refl;
        nodes = f;
        terms = refl;
        names = refl;
        placed = none_placed;
        claims = tt;
        typed = subst (LayersTyped file.defs file.disk) (sym same_layers) t;
        free = subst (InputsBelow 0) (sym f) nothing;
        is_bank = b;
      }

  -- after the last
  pub record WalkedAll (now : List Node) (all : List code.Obligation) : Type 0 where
    pub nodes : now ≡ (file_made kinds file []).nodes
    pub terms : listed.terms_in all ≡ (file_made kinds file []).value
    pub names : listed.names_in all ≡ map claim_name (claims_of file)
    pub placed : listed.ArePlaced all
    pub claims : listed.AreClaims file (claims_of file) all

  pub walked_all : (low : List Declared) (left : List Layer) (g : SymBelow) (number : ℕ) (now : List Node) (all : List code.Obligation) → left ≡ [] →
      Walked low left g number now all → WalkedAll now all
  walked_all low left g number now all e w =
      let is : w.lower ≡ layers_of file = ap (λ (z : List Layer). layers_on (functions_of file.defs) low z w.lower) (sym e) ∙ w.layers in
      record {
        nodes = w.nodes ∙ ap (λ (z : Layers). (layers_made kinds (terms_of kinds file.defs) file.disk z []).nodes) is;
        terms = w.terms ∙ ap (λ (z : Layers). (layers_made kinds (terms_of kinds file.defs) file.disk z []).value) is;
        names = w.names ∙ ap (λ (z : Layers). map claim_name (claims_on file.disk z)) is;
        placed = w.placed;
        claims = subst (λ (z : Layers). listed.AreClaims file (claims_on file.disk z) all) is w.claims;
      }
