-- The terms of the other obligations: formatting, power loss between operations, and a recovery after another.
use Rattle.std.proofs.Common.{◌≤◌, ◌&&◌, ◌+◌, ℕ, Bool, true, false, List, [], ◌∷◌, refl, sym, ap, ◌∙◌, subst, arith}
use Rattle.std.proofs.lemmas.List.Elements.{All-cons, All-head, All-tail}
use Rattle.std.specs.Prelude.{None}
use Rattle.ygg_oblige_laws.specs.Steps.{end_worth}
use Rattle.ygg_syntax.specs.declared.tree.Def.{Def}
use Rattle.ygg_sym_laws.specs.ygg_meaning_laws_proofs_Tests.{right}
use Rattle.ygg_sym_laws.specs.ygg_meaning.Layer.{ClosedLayer, BlockRuns}
use Rattle.ygg_sym_laws.specs.ygg_meaning.Machine.{on}
use Rattle.ygg_sym_laws.specs.ygg_meaning.Obligations.{Schedule, Init, Idle, Again}
use Rattle.ygg_sym_laws.specs.ygg_meaning.Refines.{Below, machine_below}
use Rattle.ygg_sym_laws.specs.ygg_meaning.Related.{all_true, settles}
use Rattle.ygg_sym_laws.specs.ygg_meaning.Shapes.{env_fits, zeros_of}
use Rattle.ygg_sym_laws.specs.ygg_meaning.Violates.{End, Violates}
use Rattle.ygg_sym_laws.specs.ygg_rules.declared.rule.RuleKind.{RuleKind}
use Rattle.ygg_sym_laws.specs.ygg_bank_proofs_Meaning.{fits_fewer}
use Rattle.ygg_sym_laws.specs.ygg_bank_proofs_Widths.{extends_both}
use Rattle.ygg_sym_laws.specs.ygg_bank.Makes.{Make, and_make}
use Rattle.ygg_sym_laws.specs.ygg_bank.Nodes.{Extends}
use Rattle.ygg_sym_laws.specs.ygg_bank.Values.{Inputs, Values, Fits, value_of}
use Rattle.ygg_sym_laws.specs.ygg_bank.declared.node.Id.{Id}
use Rattle.ygg_sym_laws.specs.ygg_bank.declared.node.Node.{Node}
use Rattle.ygg_sym_laws.specs.ygg_sym_runs.ExpressionMeaning.{Grows}
use Rattle.ygg_sym_laws.specs.Below.{lost_made}
use Rattle.ygg_sym_laws.specs.Means.{terms_of}
use Rattle.ygg_oblige_laws.specs.LayerTerms.{LayerTyped}
use Rattle.ygg_oblige_laws.specs.Meaning.{IsTermOf}
use Rattle.ygg_oblige_laws.specs.Numbers.{numbers_of}
use Rattle.ygg_oblige_laws.specs.TermStates.{Starting, words_in, state_words}
use Rattle.ygg_oblige_laws.specs.Terms.{formats, recovers, recovers_again}
use Rattle.ygg_oblige_laws.specs.Inputs.{AreDigits, Part, PartFits, InTurn, glued, env_part}
use Rattle.ygg_oblige_laws.specs.States.{given_stand, StartsSo}
use Rattle.ygg_oblige_laws.proofs.Again.{AgainSo, again_gives, again_grows}
use Rattle.ygg_oblige_laws.proofs.Falls.{RecoversSo, recovers_give, recovers_grows}
use Rattle.ygg_oblige_laws.proofs.FallTerms.{recovery_there}
use Rattle.ygg_oblige_laws.proofs.Formats.{starts_based, FormatsSo, formats_give, formats_grow}
use Rattle.ygg_oblige_laws.proofs.Frame.{Frame, states, starts_so, ready_so, stand_so, Unsets, term_is}
use Rattle.ygg_oblige_laws.proofs.Glue.{
  AllBits,
  bit_parts,
  bits_turn,
  bits_there,
  bits_fit,
  state_digits,
  state_parts,
  states_turn,
  states_fit,
  states_given,
  from_there,
  low_at,
}
use Rattle.ygg_oblige_laws.proofs.Refutes.{end_is, recovery_refutes, again_refutes}
use Rattle.ygg_oblige_laws.proofs.Schedules.{Fails, fails_unset}
use Rattle.ygg_oblige_laws.proofs.Setting.{ready_wider}
use Rattle.ygg_oblige_laws.proofs.Shows.{init_shows, idle_shows, again_shows, related_there, settled_there, schedule_of}
use Rattle.ygg_oblige_laws.specs.LayerMeans.{LayerMeans}
use Rattle.ygg_oblige_laws.specs.Parts.{PartsMean}

no_bits : ℕ → Bool
no_bits i = false

module _ (kinds : List RuleKind) (defs : List Def) (G : Below) (L : ClosedLayer) (parts : PartsMean kinds defs G L) (typed : LayerTyped defs G L)
    (means : LayerMeans kinds defs G L) (number : ℕ) (before : List Node) (start : ℕ) (nodes final : List Node)
    (frame : Frame kinds defs L number before start nodes final) where
  abbrev S : Starting
  S = (states kinds defs G L parts number before start nodes final frame).value

  -- formatting
  abbrev init_made : Make Id
  init_made = formats kinds (terms_of kinds defs) L G (numbers_of G L Init start)

  pub init_grows : Grows init_made
  init_grows = formats_grow kinds defs G L parts (glued []) (value_of (glued []) []) means.format_shape means.start means.format_whole typed.memory_shapes
      (numbers_of G L Init start)

  module _ (g : Extends (init_made nodes).nodes final) where
    init_so : (inputs : Inputs) (v : Values) → Fits inputs v final →
        FormatsSo kinds defs G L parts inputs v means.format_shape means.start means.format_whole typed.memory_shapes (numbers_of G L Init start)
        (init_made nodes).nodes (init_made nodes).value
    init_so inputs v h = formats_give kinds defs G L parts inputs v means.format_shape means.start means.format_whole typed.memory_shapes
        (numbers_of G L Init start) nodes (fits_fewer inputs v (init_made nodes).nodes final g h)

    init_shown : (x : Schedule) → Violates L (machine_below G) Init x → Unsets final (init_made nodes).value
    init_shown x violates =
        let e = violates.end in
        let f = violates.meets.reached.run in
        let run = subst (λ s. BlockRuns L (machine_below G) L.layer.format [] (on (zeros_of L.layer.memory) s) f.second f.answer e.to)
        (starts_based G f.lower f.first f.starts) f.formats in
        let back = means.format_whole.back (zeros_of L.layer.memory) [] f.lower.base f.second f.answer e.to run in
        let bits : AllBits = record { run = back.0; stop = no_bits; last = no_bits; wake = no_bits; other = no_bits } in
        let ps = bit_parts G L Init start bits in
        let inputs = glued ps in
        let bits_are = bits_there G L Init start parts.glue inputs bits (parts.glue.digits start ps (bits_turn G L Init start bits start (omega arith))) in (
          ps,
          bits_fit G L Init start parts.glue final bits,
          λ v h.
              let s = init_so inputs v h in
              let ends = s.ends back.0 f.lower f.first f.answer e.to f.starts back.1 bits_are.run in
              let e' : End = record { answer = f.answer; to = e.to; side = e.side } in
              let same = end_is kinds defs G L parts inputs v L.layer.format [] e' s.end ends in
              fails_unset v L Init x (init_made nodes).nodes (init_made nodes).value (end_worth v L s.end true) (s.passes x)
              (subst (λ z. Fails L Init x z) (sym same) violates.fails),
        )

    pub init_term : IsTermOf final (record { layer = L; below = G; obligation = Init }) (init_made nodes).value
    init_term = term_is L G Init parts.glue (init_made nodes).nodes final (init_made nodes).value frame.bank g
        (λ inputs v h. ((init_so inputs v h).passes (schedule_of v L S [] None [] [])).wide)
        (λ inputs v h unset. init_shows kinds defs G L parts inputs v means.format_shape means.start means.format_whole typed.memory_shapes
        (numbers_of G L Init start) (init_made nodes).nodes (init_made nodes).value (init_so inputs v h) unset) init_shown

  -- power loss between operations
  abbrev idle_made : Make Id
  idle_made =
      and_make (lost_made kinds (terms_of kinds defs) G (numbers_of G L Idle start).last S.from.low)
      (λ fallen. recovers kinds (terms_of kinds defs) L G Idle (numbers_of G L Idle start) S.related S.from.vars [] fallen)

  pub idle_grows : Grows idle_made
  idle_grows old =
      let n = numbers_of G L Idle start in
      let l = lost_made kinds (terms_of kinds defs) G n.last S.from.low old in
      let t = recovers kinds (terms_of kinds defs) L G Idle n S.related S.from.vars [] l.value l.nodes in
      extends_both old l.nodes t.nodes (means.loss.grows n.last S.from.low old)
      (recovers_grows kinds defs G L parts (glued []) (value_of (glued []) []) means.recover_shape means.recover_whole typed.memory_shapes Idle tt tt
      (λ end. tt) n S.related S.from.vars [] l.value l.nodes)

  module _ (g : Extends (idle_made nodes).nodes final) where
    idle_rest : Extends nodes final
    idle_rest = extends_both nodes (idle_made nodes).nodes final (idle_grows nodes) g

    lost_fit : (inputs : Inputs) (v : Values) → Fits inputs v final →
        Fits inputs v (lost_made kinds (terms_of kinds defs) G (numbers_of G L Idle start).last S.from.low nodes).nodes
    lost_fit inputs v h =
        let n = numbers_of G L Idle start in
        let l = lost_made kinds (terms_of kinds defs) G n.last S.from.low nodes in
        fits_fewer inputs v l.nodes (idle_made nodes).nodes
        (recovers_grows kinds defs G L parts inputs v means.recover_shape means.recover_whole typed.memory_shapes Idle tt tt
        (λ end. tt) n S.related S.from.vars [] l.value l.nodes) (fits_fewer inputs v (idle_made nodes).nodes final g h)

    idle_so : (inputs : Inputs) (v : Values) → Fits inputs v final →
        RecoversSo kinds defs G L parts inputs v means.recover_shape Idle (numbers_of G L Idle start) S.related S.from.vars []
        (lost_made kinds (terms_of kinds defs) G (numbers_of G L Idle start).last S.from.low nodes).value (idle_made nodes).nodes (idle_made nodes).value
    idle_so inputs v h =
        let n = numbers_of G L Idle start in
        let l = lost_made kinds (terms_of kinds defs) G n.last S.from.low nodes in
        let ready = ready_so kinds defs G L parts number before start nodes final frame inputs v idle_rest h in
        let later = ready_wider L S nodes l.nodes (means.loss.grows n.last S.from.low nodes) ready in
        let after = means.loss.after inputs v n.last S.from.low nodes ready.from.low (lost_fit inputs v h) in
        recovers_give kinds defs G L parts inputs v means.recover_shape means.recover_whole typed.memory_shapes Idle tt tt (λ end. tt) n S.related
        S.from.vars []
        l.value l.nodes later.related later.from.vars tt after (schedule_of v L S [] None [] []) refl
        (fits_fewer inputs v (idle_made nodes).nodes final g h)

    idle_shown : (x : Schedule) → Violates L (machine_below G) Idle x → Unsets final (idle_made nodes).value
    idle_shown x violates =
        let n = numbers_of G L Idle start in
        let e = violates.end in
        let m = violates.meets in
        let r = m.reached in
        let recovery = recovery_there G L x r.fallen e.to r.recovers in
        let fits = right (env_fits L.layer.state x.state && env_fits L.layer.memory x.memory) (env_fits L.low x.low) m.shapes in
        let back = means.loss.back x.low r.fallen r.falls.taken fits r.falls.run in
        let wakes = means.recover_whole.back (zeros_of L.layer.memory) [] r.fallen recovery.taken recovery.answer e.to recovery.run in
        let ds = state_digits parts.fresh L x typed.state_shapes typed.memory_shapes typed.low_shapes m.shapes in
        let bits : AllBits = record { run = no_bits; stop = no_bits; last = back.0; wake = wakes.0; other = no_bits } in
        let rest = bit_parts G L Idle start bits in
        let ps = state_parts L number x ds rest in
        let inputs = glued ps in
        let stand = stand_so kinds defs G L parts number before start nodes final frame idle_rest in
        let turn : InTurn number ps = states_turn L number x ds rest (bits_turn G L Idle start bits (number + state_words L) run_room) in
        let given = states_given L number x ds rest inputs (parts.glue.digits number ps turn) in
        let bits_are = bits_there G L Idle start parts.glue inputs bits given.1 in (
          ps,
          states_fit L number x parts.glue ds rest final stand (bits_fit G L Idle start parts.glue final bits),
          λ v h.
              let first = states kinds defs G L parts number before start nodes final frame in
              let starts = subst (λ s. StartsSo v L s first.nodes S) given.0
              (starts_so kinds defs G L parts number before start nodes final frame inputs v idle_rest h) in
              let from = from_there L number x v first.nodes S starts m.hypotheses in
              let ready = ready_so kinds defs G L parts number before start nodes final frame inputs v idle_rest h in
              let l = lost_made kinds (terms_of kinds defs) G n.last S.from.low nodes in
              let left_is = back.1 inputs v n.last S.from.low nodes ready.from.low (lost_fit inputs v h) (sym from.1.low_is) bits_are.last in
              recovery_refutes kinds defs G L parts inputs v means.recover_shape means.recover_whole typed.memory_shapes Idle n S.related S.from.vars [] l.value
              (idle_made nodes).nodes (idle_made nodes).value (idle_so inputs v h) (λ a b. refl) x from.1.vars_is
              (record { answer = recovery.answer; to = e.to; side = e.side }) r.fallen wakes.0 wakes.1 bits_are.wake left_is r.side from.0 violates.fails,
        )
      where
        run_room : number + state_words L ≤ (numbers_of G L Idle start).run
        run_room = let r = frame.room in omega arith

    pub idle_term : IsTermOf final (record { layer = L; below = G; obligation = Idle }) (idle_made nodes).value
    idle_term = term_is L G Idle parts.glue (idle_made nodes).nodes final (idle_made nodes).value frame.bank g (λ inputs v h. (idle_so inputs v h).wide)
        (λ inputs v h unset.
        let n = numbers_of G L Idle start in
        let l = lost_made kinds (terms_of kinds defs) G n.last S.from.low nodes in
        let starts = starts_so kinds defs G L parts number before start nodes final frame inputs v idle_rest h in
        let ready = ready_so kinds defs G L parts number before start nodes final frame inputs v idle_rest h in
        let loses = means.loss.sound inputs v n.last S.from.low nodes ready.from.low (lost_fit inputs v h) in
        idle_shows kinds defs G L parts inputs v means.recover_shape means.recover_whole typed.memory_shapes n S l.value loses.0 (idle_made nodes).nodes
        (idle_made nodes).value loses.1 (idle_so inputs v h)
        (λ e. related_there v L (given_stand inputs number L) (states kinds defs G L parts number before start nodes final frame).nodes S starts e) unset)
        idle_shown

  -- a recovery after another
  abbrev again_made : Make Id
  again_made = recovers_again kinds (terms_of kinds defs) L G (numbers_of G L Again start) S

  pub again_grow : Grows again_made
  again_grow = again_grows kinds defs G L parts (glued []) (value_of (glued []) []) means.recover_shape means.recover_whole typed.memory_shapes
      means.recover_falls (numbers_of G L Again start) S

  module _ (g : Extends (again_made nodes).nodes final) where
    again_rest : Extends nodes final
    again_rest = extends_both nodes (again_made nodes).nodes final (again_grow nodes) g

    again_so : (inputs : Inputs) (v : Values) → Fits inputs v final →
        AgainSo kinds defs G L parts inputs v means.recover_shape means.recover_whole typed.memory_shapes (numbers_of G L Again start) S
        (again_made nodes).nodes (again_made nodes).value
    again_so inputs v h = again_gives kinds defs G L parts inputs v means.recover_shape means.recover_whole typed.memory_shapes means.recover_falls
        (numbers_of G L Again start) S nodes (ready_so kinds defs G L parts number before start nodes final frame inputs v again_rest h)
        (fits_fewer inputs v (again_made nodes).nodes final g h)

    again_shown : (x : Schedule) → Violates L (machine_below G) Again x → Unsets final (again_made nodes).value
    again_shown x violates =
        let n = numbers_of G L Again start in
        let e = violates.end in
        let m = violates.meets in
        let r = m.reached in
        let recovery = recovery_there G L x r.fallen e.to r.recovers in
        let back = means.recover_falls.back (zeros_of L.layer.memory) [] x.low r.falls.taken r.fallen r.falls.run in
        let wakes = means.recover_whole.back (zeros_of L.layer.memory) [] r.fallen recovery.taken recovery.answer e.to recovery.run in
        let others = means.recover_whole.back (zeros_of L.layer.memory) [] x.low r.taken r.answer r.to r.run in
        let low = parts.fresh.back L.low x.low typed.low_shapes m.shapes in
        let bits : AllBits = record { run = back.0.run_bits; stop = back.0.stop_bits; last = back.0.last_bits; wake = wakes.0; other = others.0 } in
        let at = low_at L number x in
        let one = env_part at L.low x.low low in
        let rest = bit_parts G L Again start bits in
        let ps = one ∷ rest in
        let inputs = glued ps in
        let stand = stand_so kinds defs G L parts number before start nodes final frame again_rest in
        let P = PartFits final in
        let D = λ (p : Part). AreDigits inputs p.first p.count p.digits in
        let fit = All-cons P one rest (parts.glue.env_fits final at L.low x.low low stand.low) (bits_fit G L Again start parts.glue final bits) in
        let turn : InTurn at ps = (omega arith, bits_turn G L Again start bits (at + words_in L.low) run_room) in
        let digits = parts.glue.digits at ps turn in
        let low_is = low.give inputs at (All-head D one rest digits) in
        let bits_are = bits_there G L Again start parts.glue inputs bits (All-tail D one rest digits) in (
          ps,
          fit,
          λ v h.
              let first = states kinds defs G L parts number before start nodes final frame in
              let starts = starts_so kinds defs G L parts number before start nodes final frame inputs v again_rest h in
              let set = starts.settled.settles ∙ ap (λ z. all_true (settles L z)) low_is ∙ m.hypotheses in
              let from = starts.low set ∙ low_is in
              let unset = sym r.side ∙ violates.fails [] refl in
              again_refutes kinds defs G L parts inputs v means.recover_shape means.recover_whole typed.memory_shapes n S (again_made nodes).nodes
              (again_made nodes).value
              (again_so inputs v h) x.low r.fallen back.0 back.1 (record { run_is = bits_are.run; stop_is = bits_are.stop; last_is = bits_are.last })
              wakes.0 recovery.answer e.to wakes.1 bits_are.wake others.0 r.answer r.to others.1 bits_are.other from set unset,
        )
      where
        run_room : number + words_in L.layer.state + words_in L.layer.memory + words_in L.low ≤ (numbers_of G L Again start).run
        run_room = let r = frame.room in omega arith

    pub again_term : IsTermOf final (record { layer = L; below = G; obligation = Again }) (again_made nodes).value
    again_term = term_is L G Again parts.glue (again_made nodes).nodes final (again_made nodes).value frame.bank g (λ inputs v h. (again_so inputs v h).wide)
        (λ inputs v h unset.
        let n = numbers_of G L Again start in
        let starts = starts_so kinds defs G L parts number before start nodes final frame inputs v again_rest h in
        again_shows kinds defs G L parts inputs v means.recover_shape means.recover_whole typed.memory_shapes n S (again_made nodes).nodes
        (again_made nodes).value (again_so inputs v h)
        (λ e. settled_there v L (given_stand inputs number L) (states kinds defs G L parts number before start nodes final frame).nodes S starts e) unset)
        again_shown
