-- The inputs that the terms of obligations have: those of their numbers alone.
use Rattle.std.proofs.Common.{◌≤◌, ◌+◌, ◌*◌, ℕ, List, [], arith}
use Rattle.std.specs.Prelude.{Option}
use Rattle.ygg_value.specs.declared.operation.Op.TheVariants.{And}
use Rattle.ygg_value.specs.declared.shape.Shape.{Shape}
use Rattle.ygg_syntax.specs.declared.tree.Block.{Block}
use Rattle.ygg_syntax.specs.declared.tree.Declared.{Declared}
use Rattle.ygg_syntax.specs.declared.tree.Def.{Def}
use Rattle.ygg_sym_laws.specs.ygg_meaning.Layer.{ClosedLayer}
use Rattle.ygg_sym_laws.specs.ygg_meaning.Obligations.{Obligation, Init, CallOf, CutOf, TickOf, CutTickOf, Idle, Again}
use Rattle.ygg_sym_laws.specs.ygg_meaning.Refines.{Below}
use Rattle.ygg_sym_laws.specs.ygg_rules.declared.rule.RuleKind.{RuleKind}
use Rattle.ygg_sym_laws.specs.ygg_bank_proofs_Inputs.{made_keeps}
use Rattle.ygg_sym_laws.specs.ygg_bank.Inputs.{InputsBelow}
use Rattle.ygg_sym_laws.specs.ygg_bank.Makes.{Make, and_make}
use Rattle.ygg_sym_laws.specs.ygg_bank.Making.{made}
use Rattle.ygg_sym_laws.specs.ygg_bank.declared.node.Id.{Id}
use Rattle.ygg_sym_laws.specs.ygg_bank.declared.node.Node.{Node}
use Rattle.ygg_sym_laws.specs.ygg_bank.declared.node.Node.TheVariants.{Bin, Not}
use Rattle.ygg_sym_laws.specs.ygg_shape_cells.declared.terms.SymValue.{SymValue}
use Rattle.ygg_sym_laws.specs.ygg_sym_runs_proofs_Keeps.{Keeps}
use Rattle.ygg_sym_laws.proofs.of_ygg_sym_runs.Below.{below_more}
use Rattle.ygg_sym_laws.specs.Below.{places_on, failure_room, zeros_made, lows_at_start, lost_made}
use Rattle.ygg_sym_laws.specs.Means.{terms_of, values_in, WholeMeans, FallMeans}
use Rattle.ygg_oblige_laws.specs.Implied.{implied_made}
use Rattle.ygg_oblige_laws.specs.Numbers.{Numbers, numbers_of, arguments_of}
use Rattle.ygg_oblige_laws.specs.TermStates.{Starting, words_in, all_compared, settled_made, fresh_all}
use Rattle.ygg_oblige_laws.specs.Terms.{
  Finish,
  some_passes,
  ran,
  recovered,
  cut_short,
  recovers,
  runs_through,
  falls_through,
  recovers_again,
  formats,
  term_made,
}
use Rattle.ygg_oblige_laws.specs.States.{AddsNoInputs}
use Rattle.ygg_oblige_laws.specs.LayerMeans.{LayerMeans}
use Rattle.ygg_oblige_laws.specs.ObligationMeans.{ObligationKnown}
use Rattle.ygg_oblige_laws.specs.Parts.{PartsMean}

-- one step after another
and_keeps : {A B : Type 0} (P : List Node → Type 0) (m : Make A) (next : A → Make B) → Keeps P m → ((a : A) → Keeps P (next a)) → Keeps P (and_make m next)
and_keeps P m next h k nodes p = k (m nodes).value (m nodes).nodes (h nodes p)

module _ (kinds : List RuleKind) (defs : List Def) (G : Below) (L : ClosedLayer) (parts : PartsMean kinds defs G L) (means : LayerMeans kinds defs G L)
    (next : ℕ) where
  abbrev P : List Node → Type 0
  P = InputsBelow next

  adds_keep : {A : Type 0} (m : Make A) → AddsNoInputs m → Keeps P m
  adds_keep m a nodes p = a.inputs nodes next p

  both_keep : (a b : Id) → Keeps P (made kinds (Bin And a b))
  both_keep a b nodes p = made_keeps kinds (Bin And a b) nodes next tt p

  implied_keep : (a b : Id) → Keeps P (implied_made kinds a b)
  implied_keep a b nodes p =
      let n = made kinds (Not b) nodes in
      let c = made kinds (Bin And a n.value) n.nodes in
      made_keeps kinds (Not c.value) c.nodes next tt (both_keep a n.value n.nodes (made_keeps kinds (Not b) nodes next tt p))

  passes_keep : (o : Obligation) (vars args : List SymValue) (end : Finish) → Keeps P (some_passes kinds (terms_of kinds defs) L o vars args end)
  passes_keep o vars args end = adds_keep (some_passes kinds (terms_of kinds defs) L o vars args end) (parts.steps.adds o vars args end)

  run_keeps : (b : Block) (declared : List Declared) (shape : Option Shape) (whole : WholeMeans kinds defs G L b L.layer.memory declared shape)
      (first : ℕ) (memory args low : List SymValue) → first + places_on G b ≤ next →
      Keeps P (ran kinds (terms_of kinds defs) L G first b memory declared args low)
  run_keeps b declared shape whole first memory args low l nodes p =
      whole.inputs_below first next (record { vars = memory; args = args; low = low }) nodes p l

  recovered_keeps : (first : ℕ) (low : List SymValue) → first + places_on G L.layer.recover ≤ next →
      Keeps P (recovered kinds (terms_of kinds defs) L G first low)
  recovered_keeps first low l =
      and_keeps P (zeros_made kinds L.layer.memory) (λ zeros. ran kinds (terms_of kinds defs) L G first L.layer.recover zeros [] [] low)
      (adds_keep (zeros_made kinds L.layer.memory) (parts.comparing.zeros_add L.layer.memory))
      (λ zeros. run_keeps L.layer.recover [] means.recover_shape means.recover_whole first zeros [] low l)

  -- the numbers of a run that power cuts are below
  record CutRoom (n : Numbers) (b : Block) : Type 0 where
    run : n.run + places_on G b ≤ next
    stop : n.stop + (2 * places_on G b + 1) ≤ next
    last : n.last + failure_room G ≤ next

  cut_keeps : (b : Block) (declared : List Declared) (falls : FallMeans kinds defs G L b L.layer.memory declared) (n : Numbers)
      (memory args low : List SymValue) → CutRoom n b → Keeps P (cut_short kinds (terms_of kinds defs) L G n b memory declared args low)
  cut_keeps b declared falls n memory args low r nodes p =
      falls.inputs_below n.run n.stop n.last next (record { vars = memory; args = args; low = low }) nodes p r.run r.stop r.last

  recovers_keep : (o : Obligation) (n : Numbers) (hypothesis : Id) (vars args fallen : List SymValue) → n.wake + places_on G L.layer.recover ≤ next →
      Keeps P (recovers kinds (terms_of kinds defs) L G o n hypothesis vars args fallen)
  recovers_keep o n hypothesis vars args fallen l nodes p =
      let terms = terms_of kinds defs in
      let r = recovered kinds terms L G n.wake fallen nodes in
      let s = settled_made kinds terms L fallen r.nodes in
      let q = some_passes kinds terms L o vars args r.value s.nodes in
      let c = made kinds (Bin And s.value q.value) q.nodes in
      let pr = recovered_keeps n.wake fallen l nodes p in
      let ps = (parts.states.settled_add fallen).inputs r.nodes next pr in
      let pq = passes_keep o vars args r.value s.nodes ps in
      implied_keep hypothesis c.value c.nodes (both_keep s.value q.value q.nodes pq)

  runs_keep : (o : Obligation) (b : Block) (shape : Option Shape) (whole : WholeMeans kinds defs G L b L.layer.memory (arguments_of o) shape)
      (n : Numbers) (S : Starting) (args : List SymValue) → n.run + places_on G b ≤ next → Keeps P (runs_through kinds (terms_of kinds defs) L G o n S b args)
  runs_keep o b shape whole n S args l nodes p =
      let terms = terms_of kinds defs in
      let r = ran kinds terms L G n.run b S.from.memory (arguments_of o) args S.from.low nodes in
      let s = some_passes kinds terms L o S.from.vars args r.value r.nodes in
      let pr = run_keeps b (arguments_of o) shape whole n.run S.from.memory args S.from.low l nodes p in
      implied_keep S.related s.value s.nodes (passes_keep o S.from.vars args r.value r.nodes pr)

  falls_keep : (o : Obligation) (b : Block) (falls : FallMeans kinds defs G L b L.layer.memory (arguments_of o)) (n : Numbers) (S : Starting)
      (args : List SymValue) → CutRoom n b → n.wake + places_on G L.layer.recover ≤ next →
      Keeps P (falls_through kinds (terms_of kinds defs) L G o n S b args)
  falls_keep o b falls n S args room l nodes p =
      let terms = terms_of kinds defs in
      let c = cut_short kinds terms L G n b S.from.memory (arguments_of o) args S.from.low nodes in
      let a = made kinds (Bin And S.related c.value.reached) c.nodes in
      let pc = cut_keeps b (arguments_of o) falls n S.from.memory args S.from.low room nodes p in
      recovers_keep o n a.value S.from.vars args c.value.fallen l a.nodes (both_keep S.related c.value.reached c.nodes pc)

  again_keeps : (n : Numbers) (S : Starting) → CutRoom n L.layer.recover → n.wake + places_on G L.layer.recover ≤ next →
      n.other + places_on G L.layer.recover ≤ next → Keeps P (recovers_again kinds (terms_of kinds defs) L G n S)
  again_keeps n S room l m nodes p =
      let terms = terms_of kinds defs in
      let low = S.settled_low in
      let z = zeros_made kinds L.layer.memory nodes in
      let c = cut_short kinds terms L G n L.layer.recover z.value [] [] low z.nodes in
      let e = recovered kinds terms L G n.wake c.value.fallen c.nodes in
      let o = recovered kinds terms L G n.other low e.nodes in
      let s = settled_made kinds terms L c.value.fallen o.nodes in
      let q = all_compared kinds (values_in e.value.vars) (values_in o.value.vars) s.nodes in
      let b = all_compared kinds e.value.to o.value.to q.nodes in
      let a = made kinds (Bin And q.value b.value) b.nodes in
      let k = made kinds (Bin And s.value a.value) a.nodes in
      let y = made kinds (Bin And S.settled c.value.reached) k.nodes in
      let pz = (parts.comparing.zeros_add L.layer.memory).inputs nodes next p in
      let pc = cut_keeps L.layer.recover [] means.recover_falls n z.value [] low room z.nodes pz in
      let pe = recovered_keeps n.wake c.value.fallen l c.nodes pc in
      let po = recovered_keeps n.other low m e.nodes pe in
      let ps = (parts.states.settled_add c.value.fallen).inputs o.nodes next po in
      let pq = (parts.comparing.same_add (values_in e.value.vars) (values_in o.value.vars)).inputs s.nodes next ps in
      let pb = (parts.comparing.same_add e.value.to o.value.to).inputs q.nodes next pq in
      let pa = both_keep q.value b.value b.nodes pb in
      let pk = both_keep s.value a.value a.nodes pa in
      implied_keep y.value k.value y.nodes (both_keep S.settled c.value.reached k.nodes pk)

  formats_keep : (n : Numbers) → n.run + places_on G L.layer.format ≤ next → Keeps P (formats kinds (terms_of kinds defs) L G n)
  formats_keep n l nodes p =
      let terms = terms_of kinds defs in
      let low = lows_at_start kinds terms G nodes in
      let z = zeros_made kinds L.layer.memory low.nodes in
      let r = ran kinds terms L G n.run L.layer.format z.value [] [] low.value z.nodes in
      let pl = means.start.inputs_below next nodes p in
      let pz = (parts.comparing.zeros_add L.layer.memory).inputs low.nodes next pl in
      passes_keep Init [] [] r.value r.nodes (run_keeps L.layer.format [] means.format_shape means.format_whole n.run z.value [] low.value l z.nodes pz)

  idle_keeps : (n : Numbers) (S : Starting) → n.last + failure_room G ≤ next → n.wake + places_on G L.layer.recover ≤ next →
      Keeps P (term_made kinds (terms_of kinds defs) L G S Idle n)
  idle_keeps n S l m nodes p =
      let low = lost_made kinds (terms_of kinds defs) G n.last S.from.low nodes in
      recovers_keep Idle n S.related S.from.vars [] low.value m low.nodes (means.loss.inputs_below n.last next S.from.low nodes p l)

  -- the inputs of arguments
  args_below : (start : ℕ) (ds : List Declared) (nodes : List Node) → InputsBelow start nodes → start + words_in ds ≤ next →
      InputsBelow next (fresh_all kinds start ds nodes).nodes
  args_below start ds nodes p l =
      below_more (start + words_in ds) next (fresh_all kinds start ds nodes).nodes l (parts.fresh.inputs_below kinds start ds nodes p)

module _ (kinds : List RuleKind) (defs : List Def) (G : Below) (L : ClosedLayer) (parts : PartsMean kinds defs G L) (means : LayerMeans kinds defs G L)
    (start : ℕ) (S : Starting) where
  -- a term has inputs of its own numbers alone
  pub term_below : (o : Obligation) → ObligationKnown kinds defs G L o → (nodes : List Node) → InputsBelow start nodes →
      InputsBelow (numbers_of G L o start).next (term_made kinds (terms_of kinds defs) L G S o (numbers_of G L o start) nodes).nodes
  term_below Init known nodes p =
      let n = numbers_of G L Init start in
      formats_keep kinds defs G L parts means n.next n (omega arith) nodes (below_more start n.next nodes (omega arith) p)
  term_below (CallOf o) known nodes p =
      let n = numbers_of G L (CallOf o) start in
      let args = fresh_all kinds start o.arguments nodes in
      runs_keep kinds defs G L parts means n.next (CallOf o) o.implementation known.means.shape known.means.whole n S args.value (omega arith) args.nodes
      (args_below kinds defs G L parts means n.next start o.arguments nodes p (omega arith))
  term_below (CutOf o) known nodes p =
      let n = numbers_of G L (CutOf o) start in
      let args = fresh_all kinds start o.arguments nodes in
      falls_keep kinds defs G L parts means n.next (CutOf o) o.implementation known.means.falls n S args.value
      (record { run = omega arith; stop = omega arith; last = omega arith }) (omega arith) args.nodes
      (args_below kinds defs G L parts means n.next start o.arguments nodes p (omega arith))
  term_below (TickOf t) known nodes p =
      let n = numbers_of G L (TickOf t) start in
      runs_keep kinds defs G L parts means n.next (TickOf t) t.body known.shape known.whole n S [] (omega arith) nodes
      (below_more start n.next nodes (omega arith) p)
  term_below (CutTickOf t) known nodes p =
      let n = numbers_of G L (CutTickOf t) start in
      falls_keep kinds defs G L parts means n.next (CutTickOf t) t.body known.falls n S []
      (record { run = omega arith; stop = omega arith; last = omega arith }) (omega arith) nodes (below_more start n.next nodes (omega arith) p)
  term_below Idle known nodes p =
      let n = numbers_of G L Idle start in
      idle_keeps kinds defs G L parts means n.next n S (omega arith) (omega arith) nodes (below_more start n.next nodes (omega arith) p)
  term_below Again known nodes p =
      let n = numbers_of G L Again start in
      again_keeps kinds defs G L parts means n.next n S (record { run = omega arith; stop = omega arith; last = omega arith }) (omega arith) (omega arith) nodes
      (below_more start n.next nodes (omega arith) p)
