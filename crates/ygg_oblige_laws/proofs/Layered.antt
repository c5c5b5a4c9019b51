-- The terms of a layer's obligations, and of a file's, mean them.
use Rattle.std.proofs.Common.{◌≤◌, ◌+◌, ℕ, List, [], ◌∷◌, ◌++◌, map, arith}
use Rattle.std.proofs.lemmas.List.Elements.{All-head, All-tail}
use Rattle.std.specs.Prelude.{All}
use Rattle.ygg_syntax.specs.declared.tree.Def.{Def}
use Rattle.ygg_syntax.specs.declared.tree.DiskText.{DiskText}
use Rattle.ygg_syntax.specs.declared.tree.File.{File}
use Rattle.ygg_sym_laws.specs.ygg_meaning.Layer.{ClosedLayer}
use Rattle.ygg_sym_laws.specs.ygg_meaning.Obligations.{Obligation, obligations_of}
use Rattle.ygg_sym_laws.specs.ygg_meaning.Refines.{Below}
use Rattle.ygg_sym_laws.specs.ygg_meaning.Claims.{Claim, claims_at, claims_on}
use Rattle.ygg_sym_laws.specs.ygg_meaning.Stack.{Layers, below_of, layers_of}
use Rattle.ygg_sym_laws.specs.ygg_rules.declared.rule.RuleKind.{RuleKind}
use Rattle.ygg_sym_laws.specs.ygg_bank_proofs_Widths.{extends_self, extends_both}
use Rattle.ygg_sym_laws.specs.ygg_bank.Inputs.{InputsBelow}
use Rattle.ygg_sym_laws.specs.ygg_bank.Makes.{Make}
use Rattle.ygg_sym_laws.specs.ygg_bank.Nodes.{IsBank, Extends}
use Rattle.ygg_sym_laws.specs.ygg_bank.declared.node.Id.{Id}
use Rattle.ygg_sym_laws.specs.ygg_bank.declared.node.Node.{Node}
use Rattle.ygg_sym_laws.specs.Means.{terms_of}
use Rattle.ygg_oblige_laws.specs.LayerTerms.{LayerTyped}
use Rattle.ygg_oblige_laws.specs.Meaning.{AreTermsOf, AreTermsIn}
use Rattle.ygg_oblige_laws.specs.Numbers.{numbers_of}
use Rattle.ygg_oblige_laws.specs.TermStates.{Starting, state_words, starting}
use Rattle.ygg_oblige_laws.specs.Terms.{term_made, terms_made, after_all, layer_made, after_layer, layers_made, after_layers, file_made}
use Rattle.ygg_oblige_laws.proofs.EachKind.{term_grows, term_means, all_known}
use Rattle.ygg_oblige_laws.proofs.Frame.{Frame}
use Rattle.ygg_oblige_laws.proofs.Free.{term_below}
use Rattle.ygg_oblige_laws.specs.LayerMeans.{LayerMeans}
use Rattle.ygg_oblige_laws.specs.Layers.{LayersKnown}
use Rattle.ygg_oblige_laws.specs.ObligationMeans.{ObligationKnown}
use Rattle.ygg_oblige_laws.specs.Parts.{PartsMean}

-- the parts of any layer without a type error mean what they should
abbrev pub PartsMeanSo : Type 0
PartsMeanSo = (kinds : List RuleKind) (defs : List Def) (G : Below) (L : ClosedLayer) → LayerTyped defs G L → PartsMean kinds defs G L

more_terms : (nodes : List Node) (cs ds : List Claim) (ts us : List Id) → AreTermsOf nodes cs ts → AreTermsOf nodes ds us →
    AreTermsOf nodes (cs ++ ds) (ts ++ us)
more_terms nodes [] ds [] us p q = q
more_terms nodes [] ds (t ∷ ts) us p q = absurd p
more_terms nodes (c ∷ cs) ds [] us p q = absurd p
more_terms nodes (c ∷ cs) ds (t ∷ ts) us p q = (p.0, more_terms nodes cs ds ts us p.1 q)

module _ (kinds : List RuleKind) (defs : List Def) (G : Below) (L : ClosedLayer) (parts : PartsMean kinds defs G L) (typed : LayerTyped defs G L)
    (means : LayerMeans kinds defs G L) (number : ℕ) (before : List Node) (free : InputsBelow number before) where
  abbrev S : Starting
  S = (starting kinds (terms_of kinds defs) L number before).value

  abbrev started : List Node
  started = (starting kinds (terms_of kinds defs) L number before).nodes

  abbrev Known : Obligation → Type 0
  Known = ObligationKnown kinds defs G L

  -- terms after one another have inputs of their own numbers alone
  pub terms_below : (os : List Obligation) (start : ℕ) (nodes : List Node) → All Known os → InputsBelow start nodes →
      InputsBelow (after_all kinds (terms_of kinds defs) L G os start) (terms_made kinds (terms_of kinds defs) L G S os start nodes).nodes
  terms_below [] start nodes k b = b
  terms_below (o ∷ os) start nodes k b =
      let n = numbers_of G L o start in
      let t = term_made kinds (terms_of kinds defs) L G S o n nodes in
      terms_below os n.next t.nodes (All-tail Known o os k) (term_below kinds defs G L parts means start S o (All-head Known o os k) nodes b)

  -- so have the terms of all obligations of the layer, and the states that they begin with
  pub layer_below : InputsBelow (after_layer kinds (terms_of kinds defs) L G number) (layer_made kinds (terms_of kinds defs) L G number before).nodes
  layer_below = terms_below (obligations_of L.layer) (number + state_words L) started (all_known kinds defs G L typed means)
      (parts.states.starting_below number before free)

  -- a bank in which all of them are
  module _ (final : List Node) (bank : IsBank final) where
    frame_at : (start : ℕ) (nodes : List Node) → Extends started nodes → InputsBelow start nodes → number + state_words L ≤ start →
        Frame kinds defs L number before start nodes final
    frame_at start nodes g b l = record { free = free; grows = g; below = b; room = l; bank = bank }

    terms_grow : (os : List Obligation) (start : ℕ) (nodes : List Node) → All Known os → Extends started nodes → InputsBelow start nodes →
        number + state_words L ≤ start → Extends nodes (terms_made kinds (terms_of kinds defs) L G S os start nodes).nodes
    terms_grow [] start nodes k g b l = extends_self nodes
    terms_grow (o ∷ os) start nodes k g b l =
        let n = numbers_of G L o start in
        let t = term_made kinds (terms_of kinds defs) L G S o n nodes in
        let known = All-head Known o os k in
        let gt = term_grows kinds defs G L parts means typed number before start nodes final (frame_at start nodes g b l) o known nodes in
        let bt = term_below kinds defs G L parts means start S o known nodes b in
        let rest = terms_made kinds (terms_of kinds defs) L G S os n.next t.nodes in
        extends_both nodes t.nodes rest.nodes gt
        (terms_grow os n.next t.nodes (All-tail Known o os k) (extends_both started nodes t.nodes g gt) bt (omega arith))

    terms_mean : (os : List Obligation) (start : ℕ) (nodes : List Node) → All Known os → Extends started nodes → InputsBelow start nodes →
        number + state_words L ≤ start → Extends (terms_made kinds (terms_of kinds defs) L G S os start nodes).nodes final →
        AreTermsOf final (map (λ o. record { layer = L; below = G; obligation = o }) os) (terms_made kinds (terms_of kinds defs) L G S os start nodes).value
    terms_mean [] start nodes k g b l f = tt
    terms_mean (o ∷ os) start nodes k g b l f =
        let n = numbers_of G L o start in
        let t = term_made kinds (terms_of kinds defs) L G S o n nodes in
        let known = All-head Known o os k in
        let frame = frame_at start nodes g b l in
        let gt = term_grows kinds defs G L parts means typed number before start nodes final frame o known nodes in
        let bt = term_below kinds defs G L parts means start S o known nodes b in
        let later = extends_both started nodes t.nodes g gt in
        let tail = All-tail Known o os k in
        let rest = terms_made kinds (terms_of kinds defs) L G S os n.next t.nodes in
        let after = terms_grow os n.next t.nodes tail later bt (omega arith) in (
          term_means kinds defs G L parts means typed number before start nodes final frame o known (extends_both t.nodes rest.nodes final after f),
          terms_mean os n.next t.nodes tail later bt (omega arith) f,
        )

    pub layer_grows : Extends before (layer_made kinds (terms_of kinds defs) L G number before).nodes
    layer_grows =
        extends_both before started (layer_made kinds (terms_of kinds defs) L G number before).nodes (parts.states.starting_grows number before)
        (terms_grow (obligations_of L.layer) (number + state_words L) started (all_known kinds defs G L typed means) (extends_self started)
        (parts.states.starting_below number before free) (omega arith))

    -- the terms of the layer's obligations mean them
    pub layer_means : Extends (layer_made kinds (terms_of kinds defs) L G number before).nodes final →
        AreTermsOf final (claims_at L G) (layer_made kinds (terms_of kinds defs) L G number before).value
    layer_means f = terms_mean (obligations_of L.layer) (number + state_words L) started (all_known kinds defs G L typed means) (extends_self started)
        (parts.states.starting_below number before free) (omega arith) f

module _ (so : PartsMeanSo) (kinds : List RuleKind) (defs : List Def) (disk : DiskText) where
  abbrev made_of : Layers → Make (List Id)
  made_of = layers_made kinds (terms_of kinds defs) disk

  abbrev after_of : Layers → ℕ
  after_of = after_layers kinds (terms_of kinds defs) disk

  abbrev parts_of : (L : ClosedLayer) (lower : Layers) → LayersKnown kinds defs disk (L ∷ lower) → PartsMean kinds defs (below_of disk lower) L
  parts_of L lower k = so kinds defs (below_of disk lower) L k.0.typed

  -- the terms of layers have inputs of their own numbers alone
  pub layers_below : (ls : Layers) → LayersKnown kinds defs disk ls → (before : List Node) → InputsBelow 0 before →
      InputsBelow (after_of ls) (made_of ls before).nodes
  layers_below [] k before free = free
  layers_below (L ∷ lower) k before free =
      layer_below kinds defs (below_of disk lower) L (parts_of L lower k) k.0.typed k.0.means (after_of lower) (made_of lower before).nodes
      (layers_below lower k.1 before free)

  module _ (final : List Node) (bank : IsBank final) where
    layers_grow : (ls : Layers) → LayersKnown kinds defs disk ls → (before : List Node) → InputsBelow 0 before → Extends before (made_of ls before).nodes
    layers_grow [] k before free = extends_self before
    layers_grow (L ∷ lower) k before free =
        let b = made_of lower before in
        extends_both before b.nodes (made_of (L ∷ lower) before).nodes (layers_grow lower k.1 before free)
        (layer_grows kinds defs (below_of disk lower) L (parts_of L lower k) k.0.typed k.0.means (after_of lower) b.nodes
        (layers_below lower k.1 before free) final bank)

    -- and mean the obligations of the layers
    pub layers_mean : (ls : Layers) → LayersKnown kinds defs disk ls → (before : List Node) → InputsBelow 0 before →
        Extends (made_of ls before).nodes final → AreTermsOf final (claims_on disk ls) (made_of ls before).value
    layers_mean [] k before free f = tt
    layers_mean (L ∷ lower) k before free f =
        let G = below_of disk lower in
        let b = made_of lower before in
        let l = layer_made kinds (terms_of kinds defs) L G (after_of lower) b.nodes in
        let below = layers_below lower k.1 before free in
        let parts = parts_of L lower k in
        let g = layer_grows kinds defs G L parts k.0.typed k.0.means (after_of lower) b.nodes below final bank in
        more_terms final (claims_on disk lower) (claims_at L G) b.value l.value (layers_mean lower k.1 before free (extends_both b.nodes l.nodes final g f))
        (layer_means kinds defs G L parts k.0.typed k.0.means (after_of lower) b.nodes below final bank f)

-- the terms of a file's obligations mean them, in the bank that they make
pub file_means : PartsMeanSo → (kinds : List RuleKind) (f : File) → LayersKnown kinds f.defs f.disk (layers_of f) →
    IsBank (file_made kinds f []).nodes → AreTermsIn f (file_made kinds f []).nodes (file_made kinds f []).value
file_means so kinds f known bank =
    layers_mean so kinds f.defs f.disk (file_made kinds f []).nodes bank (layers_of f) known [] nothing (extends_self (file_made kinds f []).nodes)
  where
    nothing : InputsBelow 0 []
    nothing place number w e = absurd (cc)
