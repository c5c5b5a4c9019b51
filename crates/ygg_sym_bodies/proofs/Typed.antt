-- Each block of a typed file has no type error on what its layer is specified over.
use Rattle.std.proofs.Common.{◌≡◌, ℕ, zero, suc, Bool, true, false, List, [], ◌∷◌, ◌++◌, All, Option, Some, None, refl, sym, ap, ◌∙◌, subst, append_assoc}
use Rattle.std.specs.Prelude.{option_and_then, slice_get}
use Rattle.std.specs.Option.{option_map}
use Rattle.std.proofs.lemmas.List.Elements.{All-head, All-tail}
use Rattle.ygg_syntax.specs.declared.grammar.BlockKind.TheVariants.{Impl}
use Rattle.ygg_syntax.specs.declared.tree.Block.{Block}
use Rattle.ygg_syntax.specs.declared.tree.Declared.{Declared}
use Rattle.ygg_syntax.specs.declared.tree.Def.{Def}
use Rattle.ygg_syntax.specs.declared.tree.DiskText.{DiskText}
use Rattle.ygg_syntax.specs.declared.tree.File.{File}
use Rattle.ygg_syntax.specs.declared.tree.Layer.{Layer}
use Rattle.ygg_syntax.specs.declared.tree.Operation.{Operation}
use Rattle.ygg_syntax.specs.declared.tree.Tick as tick
use Rattle.ygg_meaning.specs.Layer.{ClosedLayer}
use Rattle.ygg_meaning.specs.Meaning.{functions_of}
use Rattle.ygg_meaning.specs.Refines.{Below}
use Rattle.ygg_meaning.specs.Stack.{Layers, below_of, layers_of}
use Rattle.ygg_meaning_laws.specs.Kinds.{may_call}
use Rattle.ygg_eval.specs.Bodies.{IsBlock, arguments_in, block_in, kind_of, variables_in}
use Rattle.ygg_eval.specs.Layers.{below_at, closed_at, variables_at}
use Rattle.ygg_eval.specs.declared.body.Body.{Body}
use Rattle.ygg_eval.specs.declared.body.Part.{Part}
use Rattle.ygg_eval.specs.declared.body.Part.TheVariants.{Start, Spec, OnCrash, Crash, Format, Impl as ImplPart, Tick, Recover}
use Rattle.ygg_eval.proofs.Numbers.{below_is_numbered, numbered_is_listed}
use Rattle.ygg_sym_laws.specs.Below.{signatures_on}
use Rattle.ygg_sym_laws.specs.Typed.{BlockTyped, SpecBlockTyped}
use Rattle.ygg_oblige_laws.specs.LayerTerms.{LayerTyped, OperationFits}
use Rattle.ygg_oblige_laws.specs.TypedLayers.{LayersTyped}
use Rattle.ygg_sym_spec.specs.Layers.{closed}
use Rattle.ygg_sym.specs.Kept.{AreKept}
use Rattle.ygg_sym.specs.Sites.{SameDefs, below_in}
use Rattle.ygg_sym.specs.declared.runs.SymBlock.{SymBlock}
use Rattle.ygg_sym_bodies.specs.Blocks.{SiteFits, TypedAs, site_in}
use Rattle.ygg_sym_bodies.specs.Sites.{Site, site_of}

-- what holds of all items holds of the one at a place
all_at : {X : Type 0} (P : X → Type 0) (xs : List X) (n : ℕ) (x : X) → All P xs → slice_get xs n ≡ Some x → P x
all_at P [] n x a h = absurd (cc)
all_at P (y ∷ ys) zero x a h = let e : y ≡ x = cc in subst P e (All-head P y ys a)
all_at P (y ∷ ys) (suc n) x a h = all_at P ys n x (All-tail P y ys a) h

in_list : (defs : List Def) (disk : DiskText) (upper lower : Layers) (L : ClosedLayer) → LayersTyped defs disk (upper ++ L ∷ lower) →
    LayerTyped defs (below_of disk lower) L
in_list defs disk [] lower L t = t.0
in_list defs disk (K ∷ upper) lower L t = in_list defs disk upper lower L t.1

-- the layer with a number has no type error on what it is specified over
pub layer_typed : (f : File) → LayersTyped f.defs f.disk (layers_of f) → (number : ℕ) (l : Layer) → slice_get f.layers number ≡ Some l →
    LayerTyped f.defs (below_at f number) (closed_at f number l)
layer_typed f all number l h =
    let o = numbered_is_listed f number l h in
    let L = closed_at f number l in
    let split : layers_of f ≡ (o.upper ++ L ∷ []) ++ o.lower = o.is ∙ sym (append_assoc o.upper (L ∷ []) o.lower) in
    let below : below_of f.disk o.lower ≡ below_at f number = below_is_numbered f (o.upper ++ L ∷ []) o.lower split ∙ ap (below_at f) o.counts in
    subst (λ (G : Below). LayerTyped f.defs G L) below
    (in_list f.defs f.disk o.upper o.lower L (subst (λ (ls : Layers). LayersTyped f.defs f.disk ls) o.is all))

-- a block of an implementation over its layer's memory, or one of a specification, without a type error
abbrev pub TypedFor : List Def → Below → ClosedLayer → Block → List Declared → Bool → Type 0
TypedFor defs G L b args true = BlockTyped defs L Impl (signatures_on G) b L.layer.memory args
TypedFor defs G L b args false = SpecBlockTyped defs L b args

module _ (defs : List Def) (G : Below) (L : ClosedLayer) (t : LayerTyped defs G L) (b : Block) where
  abbrev Fits : Operation → Type 0
  Fits = OperationFits defs G L

  spec_typed : (number : ℕ) (found : Option Operation) → slice_get L.layer.operations number ≡ found →
      option_map (λ (o : Operation). o.spec) found ≡ Some b →
      SpecBlockTyped defs L b (elim found [ None ↦ [] | Some o ↦ o.arguments ])
  spec_typed number None there h = absurd (cc)
  spec_typed number (Some o) there h =
      let same : o.spec ≡ b = cc in
      subst (λ x. SpecBlockTyped defs L x o.arguments) same ((all_at Fits L.layer.operations number o t.operations_typed there).spec).spec

  crash_typed : (number : ℕ) (found : Option Operation) → slice_get L.layer.operations number ≡ found →
      option_and_then (λ (o : Operation). o.on_crash) found ≡ Some b →
      SpecBlockTyped defs L b (elim found [ None ↦ [] | Some o ↦ o.arguments ])
  crash_typed number None there h = absurd (cc)
  crash_typed number (Some o) there h = ((all_at Fits L.layer.operations number o t.operations_typed there).spec).on_crash b h

  impl_typed : (number : ℕ) (found : Option Operation) → slice_get L.layer.operations number ≡ found →
      option_map (λ (o : Operation). o.implementation) found ≡ Some b →
      BlockTyped defs L Impl (signatures_on G) b L.layer.memory (elim found [ None ↦ [] | Some o ↦ o.arguments ])
  impl_typed number None there h = absurd (cc)
  impl_typed number (Some o) there h =
      let same : o.implementation ≡ b = cc in
      subst (λ x. BlockTyped defs L Impl (signatures_on G) x L.layer.memory o.arguments) same
      (all_at Fits L.layer.operations number o t.operations_typed there).implementation

  tick_typed : (number : ℕ) (found : Option tick.Tick) → slice_get L.layer.ticks number ≡ found →
      option_map (λ (x : tick.Tick). x.body) found ≡ Some b →
      BlockTyped defs L Impl (signatures_on G) b L.layer.memory []
  tick_typed number None there h = absurd (cc)
  tick_typed number (Some x) there h =
      let same : x.body ≡ b = cc in
      subst (λ y. BlockTyped defs L Impl (signatures_on G) y L.layer.memory []) same
      (all_at (λ (z : tick.Tick). BlockTyped defs L Impl (signatures_on G) z.body L.layer.memory []) L.layer.ticks number x t.ticks_typed there)

  -- so has each block of the layer
  pub block_typed : (part : Part) (number : ℕ) → block_in L.layer part number ≡ Some b →
      TypedFor defs G L b (arguments_in L.layer part number) (may_call (kind_of part))
  block_typed Start number h = let same : L.layer.start ≡ b = cc in subst (λ x. SpecBlockTyped defs L x []) same (t.own).start
  block_typed Spec number h = spec_typed number (slice_get L.layer.operations number) refl h
  block_typed OnCrash number h = crash_typed number (slice_get L.layer.operations number) refl h
  block_typed Crash number h = let same : L.layer.crash ≡ b = cc in subst (λ x. SpecBlockTyped defs L x []) same (t.own).crash
  block_typed Format number h =
      let same : L.layer.format ≡ b = cc in subst (λ x. BlockTyped defs L Impl (signatures_on G) x L.layer.memory []) same t.format_typed
  block_typed ImplPart number h = impl_typed number (slice_get L.layer.operations number) refl h
  block_typed Tick number h = tick_typed number (slice_get L.layer.ticks number) refl h
  block_typed Recover number h =
      let same : L.layer.recover ≡ b = cc in subst (λ x. BlockTyped defs L Impl (signatures_on G) x L.layer.memory []) same t.recover_typed

  -- the shapes of the variables keep the limits
  pub variables_kept : (part : Part) → AreKept (variables_in L.layer part)
  variables_kept Start = t.state_shapes
  variables_kept Spec = t.state_shapes
  variables_kept OnCrash = t.state_shapes
  variables_kept Crash = t.state_shapes
  variables_kept Format = t.memory_shapes
  variables_kept ImplPart = t.memory_shapes
  variables_kept Tick = t.memory_shapes
  variables_kept Recover = t.memory_shapes

-- a block in code that is one of a layer of a typed file
module _ (f : File) (body : Body) (at : SymBlock) where
  pub record IsOf (l : Layer) (b : Block) : Type 0 where
    pub defs : (at.layer).defs.now ≡ f.defs
    pub layer : (at.layer).layer.now ≡ l
    pub low : (at.layer).low.now ≡ variables_at f body.layer
    pub below : below_in at.below ≡ below_at f body.layer
    pub block : at.block.now ≡ b
    pub names : at.names.now ≡ arguments_in l body.part body.number

  abbrev site : List Def → Below → Layer → List Declared → Block → List Declared → Site
  site defs below l low b args = record {
    defs = defs;
    below = below;
    layer = record { functions = functions_of defs; layer = l; low = low };
    block = b;
    vars = variables_in l body.part;
    args = args;
    calls = may_call (kind_of body.part);
  }

  module _ (l : Layer) (b : Block) (is : IsOf l b) where
    pub same_site : site_in at body.part ≡ site_of f body l b
    same_site =
        let d = (at.layer).defs.now in
        let g = below_in at.below in
        let k = (at.layer).layer.now in
        let low = (at.layer).low.now in
        let c = at.block.now in
        let n = at.names.now in
        ap (λ x. site x g k low c n) is.defs ∙ ap (λ x. site f.defs x k low c n) is.below ∙ ap (λ x. site f.defs (below_at f body.layer) x low c n) is.layer
        ∙ ap (λ x. site f.defs (below_at f body.layer) l x c n) is.low
        ∙ ap (λ x. site f.defs (below_at f body.layer) l (variables_at f body.layer) x n) is.block
        ∙ ap (λ x. site f.defs (below_at f body.layer) l (variables_at f body.layer) b x) is.names

    abbrev on_layer : List Def → Layer → List Declared → ClosedLayer
    on_layer defs k low = record { functions = functions_of defs; layer = k; low = low }

    typed_here : LayersTyped f.defs f.disk (layers_of f) → IsBlock f body l b → LayerTyped (at.layer).defs.now (below_in at.below) (closed at.layer)
    typed_here all there =
        let k = (at.layer).layer.now in
        let low = (at.layer).low.now in
        subst (λ x. LayerTyped x (below_in at.below) (on_layer x k low)) (sym is.defs)
        (subst (λ x. LayerTyped f.defs x (on_layer f.defs k low)) (sym is.below)
        (subst (λ x. LayerTyped f.defs (below_at f body.layer) (on_layer f.defs x low)) (sym is.layer)
        (subst (λ x. LayerTyped f.defs (below_at f body.layer) (on_layer f.defs l x)) (sym is.low)
        (layer_typed f all body.layer l there.layer))))

    typed_as : (c : Bool) → TypedFor (at.layer).defs.now (below_in at.below) (closed at.layer) at.block.now at.names.now c → TypedAs at c
    typed_as true t = t
    typed_as false t = t

    pub site_fits : LayersTyped f.defs f.disk (layers_of f) → IsBlock f body l b → SameDefs at.layer at.below → SiteFits at body.part
    site_fits all there same =
        let t = typed_here all there in
        let d = (at.layer).defs.now in
        let G = below_in at.below in
        let L = closed at.layer in
        let found : block_in L.layer body.part body.number ≡ Some at.block.now =
        ap (λ (x : Layer). block_in x body.part body.number) is.layer ∙ there.block ∙ ap (λ (x : Block). Some x) (sym is.block) in
        let names : arguments_in L.layer body.part body.number ≡ at.names.now =
        ap (λ (x : Layer). arguments_in x body.part body.number) is.layer ∙ sym is.names in
        let typed = subst (λ x. TypedFor d G L at.block.now x (may_call (kind_of body.part))) names
        (block_typed d G L t at.block.now body.part body.number found) in
        record {
          below = record { sound = t.definitions; same = same; typed = t.below; low_is = t.low_is; kept = t.low_shapes };
          typed = typed_as (may_call (kind_of body.part)) typed;
          kept = variables_kept d G L t at.block.now body.part;
        }
