-- The terms of obligations that speak of a run that power cuts, and a recovery after it.
use Rattle.std.proofs.Common.{◌≡◌, ◌+◌, ℕ, true, false, List, [], ◌∷◌, refl, sym, ◌∙◌, subst, arith}
use Rattle.std.proofs.lemmas.List.Elements.{All-cons, All-head, All-tail}
use Rattle.ygg_syntax.specs.declared.tree.Def.{Def}
use Rattle.ygg_sym_laws.specs.ygg_meaning.Environments.{Env}
use Rattle.ygg_sym_laws.specs.ygg_meaning.Layer.{ClosedLayer, BlockRuns, BlockFalls}
use Rattle.ygg_sym_laws.specs.ygg_meaning.Machine.{Picks, State, on, based}
use Rattle.ygg_sym_laws.specs.ygg_meaning.Obligations.{Schedule, Obligation}
use Rattle.ygg_sym_laws.specs.ygg_meaning.Progress.{Answer}
use Rattle.ygg_sym_laws.specs.ygg_meaning.Refines.{Below, machine_below}
use Rattle.ygg_sym_laws.specs.ygg_meaning.Related.{shaped, all_true, relates, settled}
use Rattle.ygg_sym_laws.specs.ygg_meaning.Shapes.{env_fits, zeros_of}
use Rattle.ygg_sym_laws.specs.ygg_meaning.Violates.{Recovers, Violates}
use Rattle.ygg_sym_laws.specs.ygg_rules.declared.rule.RuleKind.{RuleKind}
use Rattle.ygg_sym_laws.specs.ygg_bank_proofs_Meaning.{fits_fewer}
use Rattle.ygg_sym_laws.specs.ygg_bank_proofs_Widths.{extends_both}
use Rattle.ygg_sym_laws.specs.ygg_bank.Makes.{Make, and_make}
use Rattle.ygg_sym_laws.specs.ygg_bank.Nodes.{Extends}
use Rattle.ygg_sym_laws.specs.ygg_bank.Values.{Inputs, Values, Fits, value_of}
use Rattle.ygg_sym_laws.specs.ygg_bank.declared.node.Id.{Id}
use Rattle.ygg_sym_laws.specs.ygg_bank.declared.node.Node.{Node}
use Rattle.ygg_sym_laws.specs.ygg_shape_cells.declared.terms.SymValue.{SymValue}
use Rattle.ygg_sym_laws.specs.ygg_sym_runs.ExpressionMeaning.{Grows}
use Rattle.ygg_sym_laws.specs.ygg_sym_runs.Meaning.{is_set}
use Rattle.ygg_sym_laws.specs.ygg_sym_runs.Lows.{LowShaped, low_worth}
use Rattle.ygg_sym_laws.specs.Means.{terms_of, FallMeans}
use Rattle.ygg_oblige_laws.specs.LayerTerms.{ShapesKept, LayerTyped}
use Rattle.ygg_oblige_laws.specs.Meaning.{IsTermOf}
use Rattle.ygg_oblige_laws.specs.Numbers.{Numbers, numbers_of, arguments_of, block_of}
use Rattle.ygg_oblige_laws.specs.TermStates.{Starting, words_in, fresh_all}
use Rattle.ygg_oblige_laws.specs.Terms.{Finish, falls_through}
use Rattle.ygg_oblige_laws.specs.Inputs.{given_env, AreDigits, Part, PartFits, InTurn, glued, env_part}
use Rattle.ygg_oblige_laws.specs.States.{given_stand, StartsSo}
use Rattle.ygg_oblige_laws.specs.Steps.{HasStep, variables_of, ObligationTyped, AnswerKept, StepIs}
use Rattle.ygg_oblige_laws.specs.Worth.{LowIs}
use Rattle.ygg_oblige_laws.proofs.Digits.{both_hold}
use Rattle.ygg_oblige_laws.proofs.Falls.{cut_of, FallsSo, falls_give, falls_grow}
use Rattle.ygg_oblige_laws.proofs.Frame.{Frame, states, starts_so, ready_so, stand_so, Unsets, term_is}
use Rattle.ygg_oblige_laws.proofs.Glue.{
  AllBits,
  bit_parts,
  bits_turn,
  bits_there,
  bits_fit,
  state_digits,
  state_parts,
  states_turn,
  states_fit,
  states_given,
  from_there,
}
use Rattle.ygg_oblige_laws.proofs.Refutes.{left_so, recovery_refutes}
use Rattle.ygg_oblige_laws.proofs.Schedules.{woken_below, Sided, Fails}
use Rattle.ygg_oblige_laws.proofs.Setting.{ready_wider}
use Rattle.ygg_oblige_laws.proofs.Shows.{Related, related_there}
use Rattle.ygg_oblige_laws.specs.LayerMeans.{LayerMeans}
use Rattle.ygg_oblige_laws.specs.Parts.{PartsMean}

-- a whole recovery from what power left
pub record Recovery (G : Below) (L : ClosedLayer) (fallen : Env) (to : State Env) : Type 0 where
  pub taken : Picks
  pub answer : Answer
  pub run : BlockRuns L (machine_below G) L.layer.recover [] (on (zeros_of L.layer.memory) (based fallen)) taken answer to

-- a schedule's recovery is one
pub recovery_there : (G : Below) (L : ClosedLayer) (x : Schedule) (fallen : Env) (to : State Env) → Recovers L (machine_below G) x fallen to →
    Recovery G L fallen to
recovery_there G L x fallen to r = record {
  taken = r.run.second;
  answer = r.run.next.0;
  run = subst (λ s. BlockRuns L (machine_below G) L.layer.recover [] (on (zeros_of L.layer.memory) s) r.run.second r.run.next.0 to)
      (woken_below G fallen r.run.first r.run.lower r.run.wakes) r.run.next.1;
}

-- what a violation says whose obligation speaks of a run that power cuts
pub record FallViolates (G : Below) (L : ClosedLayer) (o : Obligation) (x : Schedule) : Type 0 where
  pub given : Env
  pub given_fits : env_fits (arguments_of o) given ≡ true
  pub shapes : shaped L x.state x.memory x.low ≡ true
  pub holds : all_true (relates L x.state x.memory x.low) ≡ true
  pub fallen : Env
  pub taken : Picks
  pub falls : BlockFalls L (machine_below G) (block_of L o) given (on x.memory (based x.low)) taken fallen
  pub to : State Env
  pub recovery : Recovery G L fallen to
  pub fails : Fails L o x (record { answer = recovery.answer; to = to; side = settled L fallen })
  pub step : (v : Values) (vars args : List SymValue) → x.state ≡ low_worth v L.layer.state vars → given ≡ low_worth v (arguments_of o) args →
      StepIs v L o vars args x

-- an obligation that speaks of a run that power cuts
pub record FallKind (kinds : List RuleKind) (defs : List Def) (G : Below) (L : ClosedLayer) (parts : PartsMean kinds defs G L)
    (means : LayerMeans kinds defs G L) (o : Obligation) : Type 0 where
  pub falls : FallMeans kinds defs G L (block_of L o) L.layer.memory (arguments_of o)
  pub has : HasStep o
  pub typed : ObligationTyped defs G L o
  pub kept : (v : Values) (end : Finish) → AnswerKept v o end
  pub state : L.layer.state ≡ variables_of L o
  pub sided : Sided L o
  pub args_shapes : ShapesKept (arguments_of o)
  pub some : (v : Values) (vars args : List SymValue) → (x : Schedule) × StepIs v L o vars args x
  pub shows : (inputs : Inputs) (v : Values) (n : Numbers) (S : Starting) (args : List SymValue) (before nodes old : List Node) (out : Id) → Fits inputs v old →
      LowShaped old (arguments_of o) args → FallsSo kinds defs G L parts inputs v means.recover_shape o n (block_of L o) S args before nodes out →
      (is_set v S.related ≡ true → Related v L S) → is_set v out ≡ false → (x : Schedule) × Violates L (machine_below G) o x
  pub opens : (x : Schedule) → Violates L (machine_below G) o x → FallViolates G L o x

-- the term of such an obligation
abbrev pub fall_made : List RuleKind → List Def → Below → ClosedLayer → Obligation → ℕ → Starting → Make Id
fall_made kinds defs G L o start S =
    and_make (fresh_all kinds start (arguments_of o))
    (λ args. falls_through kinds (terms_of kinds defs) L G o (numbers_of G L o start) S (block_of L o) args)

module _ (kinds : List RuleKind) (defs : List Def) (G : Below) (L : ClosedLayer) (parts : PartsMean kinds defs G L) (typed : LayerTyped defs G L)
    (means : LayerMeans kinds defs G L) (number : ℕ) (before : List Node) (start : ℕ) (nodes final : List Node)
    (frame : Frame kinds defs L number before start nodes final) (o : Obligation) (k : FallKind kinds defs G L parts means o) where
  abbrev S : Starting
  S = (states kinds defs G L parts number before start nodes final frame).value

  abbrev n : Numbers
  n = numbers_of G L o start

  rest_grows : (inputs : Inputs) (v : Values) (args : List SymValue) → Grows (falls_through kinds (terms_of kinds defs) L G o n S (block_of L o) args)
  rest_grows inputs v args = falls_grow kinds defs G L parts inputs v means.recover_shape means.recover_whole typed.memory_shapes o k.has k.typed (k.kept v)
      (block_of L o) k.falls k.state n S args

  pub fall_grows : Grows (fall_made kinds defs G L o start S)
  fall_grows old =
      let args = fresh_all kinds start (arguments_of o) old in
      let out = falls_through kinds (terms_of kinds defs) L G o n S (block_of L o) args.value args.nodes in
      let inputs = glued [] in
      extends_both old args.nodes out.nodes (parts.fresh.grows kinds start (arguments_of o) old) (rest_grows inputs (value_of inputs []) args.value args.nodes)

  module _ (g : Extends (fall_made kinds defs G L o start S nodes).nodes final) where
    gf : Extends nodes final
    gf = extends_both nodes (fall_made kinds defs G L o start S nodes).nodes final (fall_grows nodes) g

    args_so : (inputs : Inputs) (v : Values) → Fits inputs v final →
        let args = fresh_all kinds start (arguments_of o) nodes in
        Fits inputs v args.nodes × LowIs v (arguments_of o) (given_env inputs start (arguments_of o)) args.nodes args.value
    args_so inputs v h =
        let args = fresh_all kinds start (arguments_of o) nodes in
        let out = fall_made kinds defs G L o start S nodes in
        let ha = fits_fewer inputs v args.nodes out.nodes (rest_grows inputs v args.value args.nodes) (fits_fewer inputs v out.nodes final g h) in
        (ha, parts.fresh.gives inputs v kinds start (arguments_of o) nodes k.args_shapes frame.below ha)

    falls_so : (inputs : Inputs) (v : Values) → Fits inputs v final →
        let args = fresh_all kinds start (arguments_of o) nodes in
        let out = fall_made kinds defs G L o start S nodes in
        FallsSo kinds defs G L parts inputs v means.recover_shape o n (block_of L o) S args.value args.nodes out.nodes out.value
    falls_so inputs v h =
        let args = fresh_all kinds start (arguments_of o) nodes in
        let out = fall_made kinds defs G L o start S nodes in
        let ready = ready_wider L S nodes args.nodes (parts.fresh.grows kinds start (arguments_of o) nodes)
        (ready_so kinds defs G L parts number before start nodes final frame inputs v gf h) in
        let a = args_so inputs v h in
        let st = k.some v S.from.vars args.value in
        falls_give kinds defs G L parts inputs v means.recover_shape means.recover_whole typed.memory_shapes o k.has k.typed (k.kept v)
        (block_of L o) k.falls k.state n S args.value args.nodes ready a.1.shaped st.0 st.1 (fits_fewer inputs v out.nodes final g h)

    shows_so : (inputs : Inputs) (v : Values) → Fits inputs v final → is_set v (fall_made kinds defs G L o start S nodes).value ≡ false →
        (x : Schedule) × Violates L (machine_below G) o x
    shows_so inputs v h unset =
        let args = fresh_all kinds start (arguments_of o) nodes in
        let out = fall_made kinds defs G L o start S nodes in
        let a = args_so inputs v h in
        let starts = starts_so kinds defs G L parts number before start nodes final frame inputs v gf h in
        k.shows inputs v n S args.value args.nodes out.nodes args.nodes out.value a.0 a.1.shaped (falls_so inputs v h)
        (λ e. related_there v L (given_stand inputs number L) (states kinds defs G L parts number before start nodes final frame).nodes S starts e) unset

    shown_so : (x : Schedule) → Violates L (machine_below G) o x → Unsets final (fall_made kinds defs G L o start S nodes).value
    shown_so x violates =
        let w = k.opens x violates in
        let back = k.falls.back x.memory w.given x.low w.taken w.fallen w.falls in
        let wakes = means.recover_whole.back (zeros_of L.layer.memory) [] w.fallen w.recovery.taken w.recovery.answer w.to w.recovery.run in
        let ds = state_digits parts.fresh L x typed.state_shapes typed.memory_shapes typed.low_shapes w.shapes in
        let words = parts.fresh.back (arguments_of o) w.given k.args_shapes w.given_fits in
        let unset = λ (i : ℕ). false in
        let bits : AllBits =
        record { run = back.0.run_bits; stop = back.0.stop_bits; last = back.0.last_bits; wake = wakes.0; other = unset } in
        let arg = env_part start (arguments_of o) w.given words in
        let bs = bit_parts G L o start bits in
        let rest = arg ∷ bs in
        let ps = state_parts L number x ds rest in
        let args = fresh_all kinds start (arguments_of o) nodes in
        let out = fall_made kinds defs G L o start S nodes in
        let stand = stand_so kinds defs G L parts number before start nodes final frame gf in
        let ga = parts.fresh.grows kinds start (arguments_of o) nodes in
        let inputs = glued ps in
        let go = rest_grows inputs (value_of inputs []) args.value args.nodes in
        let args_stand = parts.fresh.stay start (arguments_of o) args.nodes final (extends_both args.nodes out.nodes final go g)
        (parts.fresh.stand kinds start (arguments_of o) nodes) in
        let P = PartFits final in
        let D = λ (p : Part). AreDigits inputs p.first p.count p.digits in
        let fit = states_fit L number x parts.glue ds rest final stand
        (All-cons P arg bs (parts.glue.env_fits final start (arguments_of o) w.given words args_stand) (bits_fit G L o start parts.glue final bits)) in
        let turn : InTurn number ps = states_turn L number x ds rest (
          frame.room,
          bits_turn G L o start bits (start + words_in (arguments_of o))
              (omega arith),
        ) in
        let given = states_given L number x ds rest inputs (parts.glue.digits number ps turn) in
        let args_are = words.give inputs start (All-head D arg bs given.1) in
        let bits_are = bits_there G L o start parts.glue inputs bits (All-tail D arg bs given.1) in (
          ps,
          fit,
          λ v h.
              let first = states kinds defs G L parts number before start nodes final frame in
              let starts = subst (λ s. StartsSo v L s first.nodes S) given.0 (starts_so kinds defs G L parts number before start nodes final frame inputs
              v gf h) in
              let from = from_there L number x v first.nodes S starts w.holds in
              let a = args_so inputs v h in
              let given_is : w.given ≡ low_worth v (arguments_of o) args.value = sym args_are ∙ sym a.1.is in
              let step = w.step v S.from.vars args.value from.1.vars_is given_is in
              let ready = ready_wider L S nodes args.nodes ga (ready_so kinds defs G L parts number before start nodes final frame inputs v gf h) in
              let f = falls_so inputs v h in
              let left = left_so kinds defs G L parts inputs v o (block_of L o) S args.value args.nodes ready a.1.shaped x w.given step from.1 given_is n
              w.fallen
              back.0 back.1 (record { run_is = bits_are.run; stop_is = bits_are.stop; last_is = bits_are.last }) means.recover_shape f.cut_fit in
              let c = cut_of kinds defs G L parts inputs v means.recover_shape n (block_of L o) S (arguments_of o) args.value args.nodes in
              let hypothesis = f.hypothesis_is ∙ both_hold (is_set v S.related) (is_set v c.value.reached) from.0 left.reached in
              recovery_refutes kinds defs G L parts inputs v means.recover_shape means.recover_whole typed.memory_shapes o n f.hypothesis S.from.vars args.value
              c.value.fallen out.nodes out.value f.recovers k.sided x step (record { answer = w.recovery.answer; to = w.to; side = settled L w.fallen })
              w.fallen
              wakes.0 wakes.1 bits_are.wake left.fallen_is refl hypothesis w.fails,
        )

    pub fall_term : IsTermOf final (record { layer = L; below = G; obligation = o }) (fall_made kinds defs G L o start S nodes).value
    fall_term = term_is L G o parts.glue (fall_made kinds defs G L o start S nodes).nodes final (fall_made kinds defs G L o start S nodes).value frame.bank g
        (λ inputs v h. (falls_so inputs v h).recovers.wide) shows_so shown_so
