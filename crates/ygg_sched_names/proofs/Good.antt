-- The obligations of a typed file whose names have the form of a name: names that may stand in lines, and shapes that keep the limits.
use Rattle.std.proofs.Common.{◌≡◌, ℕ, Bool, true, false, List, [], ◌∷◌, ◌++◌, All, get_or, slice_get, Option, Some, None, refl, sym, ap, subst, ◌∙◌}
use Rattle.std.specs.Prelude.{if◌then◌else◌}
use Rattle.std.specs.List.{AllByRecursion, flat_map}
use Rattle.std.specs.Option.{option_map}
use Rattle.std.proofs.lemmas.List.Elements.{All-nil, recursion_from_All}
use Rattle.std.proofs.lemmas.Option.{slice_get-map}
use Rattle.ygg_base.specs.declared.geometry.DiskKind.{DiskKind}
use Rattle.ygg_base.specs.declared.geometry.DiskKind.TheVariants.{Sync, Async}
use Rattle.ygg_value.specs.Shapes.{IsShape}
use Rattle.ygg_syntax.specs.Files.{IsDerived}
use Rattle.ygg_syntax.specs.declared.tree.Declared.{Declared}
use Rattle.ygg_syntax.specs.declared.tree.Def.{Def}
use Rattle.ygg_syntax.specs.declared.tree.DiskText.{DiskText}
use Rattle.ygg_syntax.specs.declared.tree.Operation.{Operation}
use Rattle.ygg_syntax.specs.declared.tree.Tick.{Tick}
use Rattle.ygg_syntax.specs.declared.tree.Layer.{Layer}
use Rattle.ygg_syntax.specs.declared.tree.File.{File}
use Rattle.ygg_accept.specs.ygg_type_rules.Files.{IsTyped}
use Rattle.ygg_replay.specs.ygg_meaning.Layer.{ClosedLayer}
use Rattle.ygg_replay.specs.ygg_meaning.Meaning.{Functions, functions_of}
use Rattle.ygg_replay.specs.ygg_meaning.Obligations.{Obligation, Init, CallOf, CutOf, TickOf, CutTickOf, Idle, Again, obligations_of}
use Rattle.ygg_replay.specs.ygg_meaning.Refines.{Below}
use Rattle.ygg_replay.specs.ygg_meaning.Shapes.{shape_in}
use Rattle.ygg_replay.specs.ygg_meaning.Claims.{Claim, claims_at, claims_on, claims_of}
use Rattle.ygg_replay.specs.ygg_meaning.Stack.{Layers, below_of, layers_on, layers_of, tables_of, tables_of_kind}
use Rattle.ygg_oblige_laws.specs.LayerTerms.{OperationFits}
use Rattle.ygg_oblige_laws.specs.Meaning.{claim_name}
use Rattle.ygg_oblige_laws.specs.TypedLayers.{LayersTyped}
use Rattle.ygg_oblige_laws.proofs.Files.{typed_layers}
use Rattle.ygg_replay.specs.ygg_sched.Fitting.{IsPlain, is_plain, all_plain}
use Rattle.ygg_replay.specs.ygg_sched.Laws.{asked_at, asked_of}
use Rattle.ygg_replay.specs.ygg_sched.Sites.{Site, arguments_of, has_state, has_low, sites_of}
use Rattle.ygg_replay.proofs.of_ygg_sched.Standing.{sites_are_claims}
use Rattle.ygg_sched_names.specs.Names.{OperationNamed, LayerNamed, HasNames}
use Rattle.ygg_sched_names.proofs.Asked.{Asked, asked_name, site_for}
use Rattle.ygg_sched_names.proofs.Lists.{each_append, each_at, each_map, each_two, each_weaker}
use Rattle.ygg_sched_names.proofs.Plain.{PartNamed, plain_names, plain_obligation}

-- the shapes keep the limits
abbrev Shaped : List Declared → Type 0
Shaped = All (λ (d : Declared). IsShape (shape_in d.shape))

-- the variables of which an obligation speaks
abbrev lines_if : Bool → List Declared → List Declared
lines_if speaks ds = if speaks then ds else []

-- the names of variables may stand in lines, and their shapes keep the limits
pub record VariablesGood (ds : List Declared) : Type 0 where
  pub plain : all_plain ds ≡ true
  pub shaped : Shaped ds

-- an obligation's own part
record PartGood (o : Obligation) : Type 0 where
  named : PartNamed o
  args : VariablesGood (arguments_of o)

nothing_good : VariablesGood []
nothing_good = record { plain = refl; shaped = All-nil (λ (d : Declared). IsShape (shape_in d.shape)) }

parts_good : (defs : List Def) (G : Below) (L : ClosedLayer) → LayerNamed L.layer → All (OperationFits defs G L) L.layer.operations →
    AllByRecursion PartGood (obligations_of L.layer)
parts_good defs G L named fits =
    let calls : List Obligation = flat_map (λ (o : Operation). CallOf o ∷ CutOf o ∷ []) L.layer.operations in
    let ticks : List Obligation = flat_map (λ (t : Tick). TickOf t ∷ CutTickOf t ∷ []) L.layer.ticks in
    let last : List Obligation = Idle ∷ Again ∷ [] in
    let alone : (o : Obligation) → PartNamed o → VariablesGood (arguments_of o) → PartGood o = λ o h g. record { named = h; args = g } in (
      alone Init tt nothing_good,
      each_append PartGood (calls ++ ticks) last
          (each_append PartGood calls ticks (each_two PartGood CallOf CutOf L.layer.operations of_operations)
          (each_two PartGood TickOf CutTickOf L.layer.ticks of_ticks))
          (alone Idle tt nothing_good, (alone Again tt nothing_good, tt)),
    )
  where
    one : (o : Operation) → OperationNamed o → OperationFits defs G L o → PartGood (CallOf o) × PartGood (CutOf o)
    one o h g =
        let args : VariablesGood o.arguments = record { plain = plain_names o.arguments h.arguments; shaped = g.shapes } in
        (record { named = h.own; args = args }, record { named = h.own; args = args })

    of_operations : AllByRecursion (λ o. PartGood (CallOf o) × PartGood (CutOf o)) L.layer.operations
    of_operations =
        recursion_from_All (λ o. PartGood (CallOf o) × PartGood (CutOf o)) L.layer.operations
        (λ k d lt. one (get_or L.layer.operations k d) (named.operations k d lt) (fits k d lt))

    of_ticks : AllByRecursion (λ t. PartGood (TickOf t) × PartGood (CutTickOf t)) L.layer.ticks
    of_ticks =
        recursion_from_All (λ t. PartGood (TickOf t) × PartGood (CutTickOf t)) L.layer.ticks
        (λ k d lt. (record { named = named.ticks k d lt; args = nothing_good }, record { named = named.ticks k d lt; args = nothing_good }))

-- a layer over variables whose names may stand in lines
record LayerPlain (L : ClosedLayer) : Type 0 where
  named : LayerNamed L.layer
  low : all_plain L.low ≡ true

layers_plain : (functions : Functions) (low : List Declared) (ls : List Layer) (lower : Layers) → all_plain low ≡ true → AllByRecursion LayerNamed ls →
    AllByRecursion LayerPlain lower → AllByRecursion LayerPlain (layers_on functions low ls lower)
layers_plain functions low [] lower h named done = done
layers_plain functions low (l ∷ ls) lower h named done =
    layers_plain functions l.state ls (record { functions = functions; layer = l; low = low } ∷ lower) (plain_names l.state named.0.state) named.1
    (record { named = named.0; low = h }, done)

tables_plain : (kind : DiskKind) (d : DiskText) → all_plain (tables_of_kind kind d) ≡ true
tables_plain Sync d = refl
tables_plain Async d = refl

-- an obligation of which all names may stand in lines, and all shapes keep the limits
pub record ClaimGood (c : Claim) : Type 0 where
  pub own : is_plain (claim_name c) ≡ true
  pub state : VariablesGood c.layer.layer.state
  pub memory : VariablesGood c.layer.layer.memory
  pub low : VariablesGood c.layer.low
  pub args : VariablesGood (arguments_of c.obligation)

claims_good : (defs : List Def) (disk : DiskText) (ls : Layers) → LayersTyped defs disk ls → AllByRecursion LayerPlain ls →
    AllByRecursion ClaimGood (claims_on disk ls)
claims_good defs disk [] typed plain = tt
claims_good defs disk (L ∷ lower) typed plain =
    let G = below_of disk lower in
    let claim : Obligation → Claim = λ o. record { layer = L; below = G; obligation = o } in
    let own = plain.0 in
    let state : VariablesGood L.layer.state = record { plain = plain_names L.layer.state own.named.state; shaped = typed.0.state_shapes } in
    let memory : VariablesGood L.layer.memory = record { plain = plain_names L.layer.memory own.named.memory; shaped = typed.0.memory_shapes } in
    let low : VariablesGood L.low = record { plain = own.low; shaped = typed.0.low_shapes } in
    let good : (o : Obligation) → PartGood o → ClaimGood (claim o) = λ o h. record {
      own = plain_obligation L.layer.name.text o own.named.own h.named;
      state = state;
      memory = memory;
      low = low;
      args = h.args;
    } in
    each_append ClaimGood (claims_on disk lower) (claims_at L G) (claims_good defs disk lower typed.1 plain.1)
    (each_map ClaimGood claim (obligations_of L.layer)
    (each_weaker PartGood (λ o. ClaimGood (claim o)) good (obligations_of L.layer) (parts_good defs G L own.named typed.0.operations_typed)))

-- all obligations of a file are such
pub all_good : (f : File) → ∥ IsDerived f ∥₁ → IsTyped f → HasNames f → AllByRecursion ClaimGood (claims_of f)
all_good f derived typed named =
    claims_good f.defs f.disk (layers_of f) (typed_layers f derived typed)
    (layers_plain (functions_of f.defs) (tables_of f.disk) f.layers [] (tables_plain f.disk.kind f.disk) (recursion_from_All LayerNamed f.layers named) tt)

-- names that may stand in lines, where there are lines
plain_if : (speaks : Bool) (ds : List Declared) → all_plain ds ≡ true → all_plain (lines_if speaks ds) ≡ true
plain_if true ds h = h
plain_if false ds h = refl

-- so the names in the lines of its schedules may stand there
pub plain_for : (place : ℕ) (c : Claim) → ClaimGood c → IsPlain (site_for place c) (claim_name c)
plain_for place c good = record {
  own = good.own;
  state = plain_if (has_state c.obligation) c.layer.layer.state good.state.plain;
  memory = plain_if (has_state c.obligation) c.layer.layer.memory good.memory.plain;
  low = plain_if (has_low c.obligation) c.layer.low good.low.plain;
  args = good.args.plain;
}

-- at each site
pub plain_at : (f : File) → AllByRecursion ClaimGood (claims_of f) → (place : ℕ) (s : Site) → slice_get (sites_of f) place ≡ Some s →
    IsPlain s (asked_name (asked_at s))
plain_at f good place s h = there (slice_get (claims_of f) place) refl
  where
    asked : option_map asked_of (slice_get (claims_of f) place) ≡ Some (asked_at s)
    asked =
        sym (slice_get-map asked_of (claims_of f) place) ∙ ap (λ (all : List Asked). slice_get all place) (sym (sites_are_claims f))
        ∙ slice_get-map asked_at (sites_of f) place ∙ ap (option_map asked_at) h

    there : (o : Option Claim) → slice_get (claims_of f) place ≡ o → IsPlain s (asked_name (asked_at s))
    there None e = let none : None ≡ Some (asked_at s) = sym (ap (option_map asked_of) e) ∙ asked in absurd (cc)
    there (Some c) e =
        let found : Some (asked_of c) ≡ Some (asked_at s) = sym (ap (option_map asked_of) e) ∙ asked in
        let asks : asked_of c ≡ asked_at s = cc in
        subst (λ (a : Asked). IsPlain (record { place = s.place; layer = a.0; low = a.1; obligation = a.2 }) (asked_name a)) asks
        (plain_for s.place c (each_at ClaimGood (claims_of f) good place c e))
