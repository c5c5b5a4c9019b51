-- The schedules that an environment names for the obligations of a layer, and of a file, violate just those whose terms are 0 in it.
use Rattle.std.proofs.Common.{◌≤◌, ◌+◌, ℕ, List, [], ◌∷◌, ◌++◌, map, arith}
use Rattle.std.proofs.lemmas.List.Elements.{All-head, All-tail}
use Rattle.std.specs.Prelude.{All}
use Rattle.ygg_syntax.specs.declared.tree.Def.{Def}
use Rattle.ygg_syntax.specs.declared.tree.DiskText.{DiskText}
use Rattle.ygg_oblige_laws.specs.ygg_meaning.Layer.{ClosedLayer}
use Rattle.ygg_oblige_laws.specs.ygg_meaning.Obligations.{Schedule, Obligation, obligations_of}
use Rattle.ygg_oblige_laws.specs.ygg_meaning.Refines.{Below}
use Rattle.ygg_oblige_laws.specs.ygg_meaning.Claims.{Claim, claims_at, claims_on}
use Rattle.ygg_oblige_laws.specs.ygg_meaning.Stack.{Layers, below_of, layers_of}
use Rattle.ygg_oblige_laws.specs.ygg_rules.declared.rule.RuleKind.{RuleKind}
use Rattle.ygg_oblige_laws.specs.ygg_bank_proofs_Widths.{extends_self, extends_both}
use Rattle.ygg_oblige_laws.specs.ygg_bank.Inputs.{InputsBelow}
use Rattle.ygg_oblige_laws.specs.ygg_bank.Makes.{Make}
use Rattle.ygg_oblige_laws.specs.ygg_bank.Nodes.{IsBank, Extends}
use Rattle.ygg_oblige_laws.specs.ygg_bank.Values.{Inputs, InputsFit, value_of}
use Rattle.ygg_oblige_laws.specs.ygg_bank.declared.node.Id.{Id}
use Rattle.ygg_oblige_laws.specs.ygg_bank.declared.node.Node.{Node}
use Rattle.ygg_oblige_laws.specs.ygg_sym_runs.Meaning.{is_set}
use Rattle.ygg_oblige_laws.specs.ygg_sym_laws.Means.{terms_of}
use Rattle.ygg_oblige_laws.specs.LayerTerms.{LayerTyped}
use Rattle.ygg_oblige_laws.specs.Numbers.{numbers_of}
use Rattle.ygg_oblige_laws.specs.TermStates.{Starting, state_words, starting}
use Rattle.ygg_oblige_laws.specs.Terms.{term_made, terms_made, layer_made, layers_made, after_layers}
use Rattle.ygg_oblige_laws.proofs.Compares.{comparing_means}
use Rattle.ygg_oblige_laws.proofs.Fresh.{fresh_means}
use Rattle.ygg_oblige_laws.proofs.Glued.{glued_means}
use Rattle.ygg_oblige_laws.proofs.Starting.{states_mean}
use Rattle.ygg_oblige_laws.proofs.Steps.{steps_mean}
use Rattle.ygg_oblige_laws.proofs.Files.{typed_layers}
use Rattle.ygg_oblige_laws.specs.TypedLayers.{LayersTyped}
use Rattle.ygg_oblige_laws.proofs.Digits.{unset_zero, zero_unset}
use Rattle.ygg_oblige_laws.proofs.EachKind.{term_grows, term_means}
use Rattle.ygg_oblige_laws.proofs.Frame.{Frame, fits_bank}
use Rattle.ygg_oblige_laws.proofs.Free.{term_below}
use Rattle.ygg_oblige_laws.proofs.Layered.{PartsMeanSo, layer_grows, layers_below}
use Rattle.ygg_oblige_laws.proofs.Whole.{means_typed}
use Rattle.ygg_oblige_laws.specs.LayerMeans.{LayerMeans}
use Rattle.ygg_oblige_laws.specs.Layers.{LayersKnown}
use Rattle.ygg_oblige_laws.specs.Parts.{PartsMean}
use Rattle.ygg_oblige_laws.specs.ScheduleLaws.{AllExact, LayerSchedules, FileSchedules}
use Rattle.ygg_oblige_laws.specs.Schedules.{schedule_of, schedules_of, layer_schedules, all_schedules}
use Rattle.ygg_oblige_laws.proofs.EachSchedule.{over_typed, judged}
use Rattle.ygg_oblige_laws.proofs.Judged.{judged_exact}
use Rattle.ygg_oblige_laws.proofs.Known.{Known, all_known}

more_exact : (inputs : Inputs) (nodes : List Node) (cs ds : List Claim) (ts us : List Id) (xs ys : List Schedule) → AllExact inputs nodes cs ts xs →
    AllExact inputs nodes ds us ys → AllExact inputs nodes (cs ++ ds) (ts ++ us) (xs ++ ys)
more_exact inputs nodes [] ds [] us [] ys p q = q
more_exact inputs nodes [] ds [] us (x ∷ xs) ys p q = absurd p
more_exact inputs nodes [] ds (t ∷ ts) us [] ys p q = absurd p
more_exact inputs nodes [] ds (t ∷ ts) us (x ∷ xs) ys p q = absurd p
more_exact inputs nodes (c ∷ cs) ds [] us [] ys p q = absurd p
more_exact inputs nodes (c ∷ cs) ds [] us (x ∷ xs) ys p q = absurd p
more_exact inputs nodes (c ∷ cs) ds (t ∷ ts) us [] ys p q = absurd p
more_exact inputs nodes (c ∷ cs) ds (t ∷ ts) us (x ∷ xs) ys p q = (p.0, more_exact inputs nodes cs ds ts us xs ys p.1 q)

module _ (kinds : List RuleKind) (defs : List Def) (G : Below) (L : ClosedLayer) (parts : PartsMean kinds defs G L) (typed : LayerTyped defs G L)
    (means : LayerMeans kinds defs G L) (number : ℕ) (before : List Node) (free : InputsBelow number before) (final : List Node) (bank : IsBank final)
    (inputs : Inputs) (fit : InputsFit inputs final) where
  abbrev S : Starting
  S = (starting kinds (terms_of kinds defs) L number before).value

  abbrev started : List Node
  started = (starting kinds (terms_of kinds defs) L number before).nodes

  abbrev K : Obligation → Type 0
  K = Known kinds defs G L

  frame_at : (start : ℕ) (nodes : List Node) → Extends started nodes → InputsBelow start nodes → number + state_words L ≤ start →
      Frame kinds defs L number before start nodes final
  frame_at start nodes g b l = record { free = free; grows = g; below = b; room = l; bank = bank }

  -- the terms of obligations add nodes
  terms_grow : (os : List Obligation) (start : ℕ) (nodes : List Node) → All K os → Extends started nodes → InputsBelow start nodes →
      number + state_words L ≤ start → Extends nodes (terms_made kinds (terms_of kinds defs) L G S os start nodes).nodes
  terms_grow [] start nodes k g b l = extends_self nodes
  terms_grow (o ∷ os) start nodes k g b l =
      let n = numbers_of G L o start in
      let t = term_made kinds (terms_of kinds defs) L G S o n nodes in
      let known = All-head K o os k in
      let gt = term_grows kinds defs G L parts means typed number before start nodes final (frame_at start nodes g b l) o known.means nodes in
      let bt = term_below kinds defs G L parts means start S o known.means nodes b in
      let rest = terms_made kinds (terms_of kinds defs) L G S os n.next t.nodes in
      extends_both nodes t.nodes rest.nodes gt
      (terms_grow os n.next t.nodes (All-tail K o os k) (extends_both started nodes t.nodes g gt) bt (omega arith))

  terms_exact : (os : List Obligation) (start : ℕ) (nodes : List Node) → All K os → Extends started nodes → InputsBelow start nodes →
      number + state_words L ≤ start → Extends (terms_made kinds (terms_of kinds defs) L G S os start nodes).nodes final →
      AllExact inputs final (map (λ o. record { layer = L; below = G; obligation = o }) os)
      (terms_made kinds (terms_of kinds defs) L G S os start nodes).value (schedules_of G L inputs number os start)
  terms_exact [] start nodes k g b l f = tt
  terms_exact (o ∷ os) start nodes k g b l f =
      let n = numbers_of G L o start in
      let t = term_made kinds (terms_of kinds defs) L G S o n nodes in
      let known = All-head K o os k in
      let frame = frame_at start nodes g b l in
      let gt = term_grows kinds defs G L parts means typed number before start nodes final frame o known.means nodes in
      let bt = term_below kinds defs G L parts means start S o known.means nodes b in
      let later = extends_both started nodes t.nodes g gt in
      let tail = All-tail K o os k in
      let rest = terms_made kinds (terms_of kinds defs) L G S os n.next t.nodes in
      let after = terms_grow os n.next t.nodes tail later bt (omega arith) in
      let v = value_of inputs final in
      let h = fits_bank inputs final bank fit in
      let ft = extends_both t.nodes rest.nodes final after f in
      let named = judged kinds defs G L parts typed means number before start nodes final frame inputs v h o known ft in
      let exact = judged_exact L G o (schedule_of G L inputs number o start) (is_set v t.value) named.judged in
      let wide = (term_means kinds defs G L parts means typed number before start nodes final frame o known.means ft).wide in (
        record {
          shaped = named.shaped;
          exact = (λ zero. exact.0 (zero_unset v t.value zero), λ w. unset_zero inputs v final t.value h wide (exact.1 w));
        },
        terms_exact os n.next t.nodes tail later bt (omega arith) f,
      )

  -- the schedules of the layer's obligations
  pub layer_exact : Extends (layer_made kinds (terms_of kinds defs) L G number before).nodes final →
      AllExact inputs final (claims_at L G) (layer_made kinds (terms_of kinds defs) L G number before).value (layer_schedules G L inputs number)
  layer_exact f = terms_exact (obligations_of L.layer) (number + state_words L) started (all_known kinds defs G L (over_typed defs G L typed) typed means)
      (extends_self started) (parts.states.starting_below number before free) (omega arith) f

parts_mean : PartsMeanSo
parts_mean kinds defs G L typed = record {
  fresh = fresh_means;
  glue = glued_means;
  comparing = comparing_means kinds;
  states = states_mean kinds defs G L typed;
  steps = steps_mean kinds defs G L typed;
}

pub layer_named : LayerSchedules
layer_named kinds defs G L number before final typed free g bank inputs fit =
    layer_exact kinds defs G L (parts_mean kinds defs G L typed) typed (means_typed kinds defs G L typed) number before free final bank inputs fit g

layers_known : (kinds : List RuleKind) (defs : List Def) (disk : DiskText) (ls : Layers) → LayersTyped defs disk ls → LayersKnown kinds defs disk ls
layers_known kinds defs disk [] t = tt
layers_known kinds defs disk (L ∷ lower) t =
    (record { typed = t.0; means = means_typed kinds defs (below_of disk lower) L t.0 }, layers_known kinds defs disk lower t.1)

module _ (kinds : List RuleKind) (defs : List Def) (disk : DiskText) (final : List Node) (bank : IsBank final) (inputs : Inputs) (fit : InputsFit inputs final)
  where
    abbrev made_of : Layers → Make (List Id)
    made_of = layers_made kinds (terms_of kinds defs) disk

    abbrev after_of : Layers → ℕ
    after_of = after_layers kinds (terms_of kinds defs) disk

    layers_exact : (ls : Layers) → LayersTyped defs disk ls → (before : List Node) → InputsBelow 0 before → Extends (made_of ls before).nodes final →
        AllExact inputs final (claims_on disk ls) (made_of ls before).value (all_schedules kinds (terms_of kinds defs) disk inputs ls)
    layers_exact [] t before free f = tt
    layers_exact (L ∷ lower) t before free f =
        let G = below_of disk lower in
        let b = made_of lower before in
        let l = layer_made kinds (terms_of kinds defs) L G (after_of lower) b.nodes in
        let below = layers_below parts_mean kinds defs disk lower (layers_known kinds defs disk lower t.1) before free in
        let parts = parts_mean kinds defs G L t.0 in
        let means = means_typed kinds defs G L t.0 in
        let g = layer_grows kinds defs G L parts t.0 means (after_of lower) b.nodes below final bank in
        more_exact inputs final (claims_on disk lower) (claims_at L G) b.value l.value (all_schedules kinds (terms_of kinds defs) disk inputs lower)
        (layer_schedules G L inputs (after_of lower)) (layers_exact lower t.1 before free (extends_both b.nodes l.nodes final g f))
        (layer_exact kinds defs G L parts t.0 means (after_of lower) b.nodes below final bank inputs fit f)

pub file_named : FileSchedules
file_named kinds file derived typed bank inputs fit =
    let nodes = (layers_made kinds (terms_of kinds file.defs) file.disk (layers_of file) []).nodes in
    layers_exact kinds file.defs file.disk nodes bank inputs fit (layers_of file) (typed_layers file derived typed) [] nothing (extends_self nodes)
  where
    nothing : InputsBelow 0 []
    nothing place number w e = absurd (cc)
