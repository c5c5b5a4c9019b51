-- The terms of obligations that speak of a whole run.
use Rattle.std.proofs.Common.{◌≡◌, ◌+◌, ℕ, true, false, List, [], ◌∷◌, sym, ◌∙◌, subst, arith}
use Rattle.std.proofs.lemmas.List.Elements.{All-cons, All-head, All-tail}
use Rattle.std.specs.Prelude.{IsTrue, Option}
use Rattle.ygg_value.specs.declared.shape.Shape.{Shape}
use Rattle.ygg_syntax.specs.declared.tree.Def.{Def}
use Rattle.ygg_sym_laws.specs.ygg_meaning.Environments.{Env}
use Rattle.ygg_sym_laws.specs.ygg_meaning.Layer.{ClosedLayer, BlockRuns}
use Rattle.ygg_sym_laws.specs.ygg_meaning.Machine.{Picks, on, based}
use Rattle.ygg_sym_laws.specs.ygg_meaning.Obligations.{Schedule, Obligation}
use Rattle.ygg_sym_laws.specs.ygg_meaning.Refines.{Below, machine_below}
use Rattle.ygg_sym_laws.specs.ygg_meaning.Related.{shaped, all_true, relates}
use Rattle.ygg_sym_laws.specs.ygg_meaning.Shapes.{env_fits}
use Rattle.ygg_sym_laws.specs.ygg_meaning.Violates.{End, Violates}
use Rattle.ygg_sym_laws.specs.ygg_meaning_laws.Blocks.{is_returned}
use Rattle.ygg_sym_laws.specs.ygg_rules.declared.rule.RuleKind.{RuleKind}
use Rattle.ygg_sym_laws.specs.ygg_bank_proofs_Meaning.{fits_fewer}
use Rattle.ygg_sym_laws.specs.ygg_bank_proofs_Widths.{extends_both}
use Rattle.ygg_sym_laws.specs.ygg_bank.Makes.{Make, and_make}
use Rattle.ygg_sym_laws.specs.ygg_bank.Nodes.{Extends}
use Rattle.ygg_sym_laws.specs.ygg_bank.Values.{Inputs, Values, Fits, value_of}
use Rattle.ygg_sym_laws.specs.ygg_bank.declared.node.Id.{Id}
use Rattle.ygg_sym_laws.specs.ygg_bank.declared.node.Node.{Node}
use Rattle.ygg_sym_laws.specs.ygg_shape_cells.declared.terms.SymValue.{SymValue}
use Rattle.ygg_sym_laws.specs.ygg_sym_runs.ExpressionMeaning.{Grows}
use Rattle.ygg_sym_laws.specs.ygg_sym_runs.Meaning.{answer_worth, is_set}
use Rattle.ygg_sym_laws.specs.ygg_sym_runs.Lows.{LowShaped, low_worth}
use Rattle.ygg_sym_laws.specs.Means.{terms_of, WholeMeans}
use Rattle.ygg_oblige_laws.specs.LayerTerms.{ShapesKept, LayerTyped}
use Rattle.ygg_oblige_laws.specs.Meaning.{IsTermOf}
use Rattle.ygg_oblige_laws.specs.Numbers.{Numbers, numbers_of, arguments_of, block_of}
use Rattle.ygg_oblige_laws.specs.TermStates.{Starting, words_in, fresh_all}
use Rattle.ygg_oblige_laws.specs.Terms.{Finish, ran, runs_through}
use Rattle.ygg_oblige_laws.specs.Inputs.{given_env, AreDigits, Part, PartFits, InTurn, glued, env_part}
use Rattle.ygg_oblige_laws.specs.States.{given_stand, StartsSo}
use Rattle.ygg_oblige_laws.specs.Steps.{HasStep, variables_of, ObligationTyped, AnswerKept, StepIs}
use Rattle.ygg_oblige_laws.specs.Worth.{LowIs}
use Rattle.ygg_oblige_laws.proofs.Frame.{Frame, states, starts_so, ready_so, stand_so, Unsets, term_is}
use Rattle.ygg_oblige_laws.proofs.Glue.{
  AllBits,
  bit_parts,
  bits_turn,
  bits_there,
  bits_fit,
  state_digits,
  state_parts,
  states_turn,
  states_fit,
  states_given,
  from_there,
}
use Rattle.ygg_oblige_laws.proofs.Refutes.{run_refutes}
use Rattle.ygg_oblige_laws.proofs.Schedules.{Unsided, Fails}
use Rattle.ygg_oblige_laws.proofs.Setting.{ready_wider}
use Rattle.ygg_oblige_laws.proofs.Shows.{Related, related_there}
use Rattle.ygg_oblige_laws.proofs.Wholes.{RunsSo, runs_give, runs_grow, run_fit}
use Rattle.ygg_oblige_laws.specs.Parts.{PartsMean}

-- what a violation says whose obligation speaks of a whole run
pub record RunViolates (G : Below) (L : ClosedLayer) (o : Obligation) (x : Schedule) : Type 0 where
  pub end : End
  pub given : Env
  pub given_fits : env_fits (arguments_of o) given ≡ true
  pub shapes : shaped L x.state x.memory x.low ≡ true
  pub holds : all_true (relates L x.state x.memory x.low) ≡ true
  pub taken : Picks
  pub run : BlockRuns L (machine_below G) (block_of L o) given (on x.memory (based x.low)) taken end.answer end.to
  pub fails : Fails L o x end
  pub step : (v : Values) (vars args : List SymValue) → x.state ≡ low_worth v L.layer.state vars → given ≡ low_worth v (arguments_of o) args →
      StepIs v L o vars args x

-- an obligation that speaks of a whole run
pub record RunKind (kinds : List RuleKind) (defs : List Def) (G : Below) (L : ClosedLayer) (parts : PartsMean kinds defs G L) (o : Obligation) : Type 0 where
  pub shape : Option Shape
  pub whole : WholeMeans kinds defs G L (block_of L o) L.layer.memory (arguments_of o) shape
  pub has : HasStep o
  pub typed : ObligationTyped defs G L o
  pub kept : (v : Values) (end : Finish) → IsTrue (is_returned (block_of L o).answer shape (answer_worth v end.answer)) → AnswerKept v o end
  pub state : L.layer.state ≡ variables_of L o
  pub unsided : Unsided L o
  pub args_shapes : ShapesKept (arguments_of o)
  pub some : (v : Values) (vars args : List SymValue) → (x : Schedule) × StepIs v L o vars args x
  pub shows : (inputs : Inputs) (v : Values) (S : Starting) (args : List SymValue) (end : Finish) (nodes old : List Node) (out : Id) → Fits inputs v old →
      LowShaped old (arguments_of o) args → RunsSo kinds defs G L parts inputs v o (block_of L o) S args end nodes out →
      (is_set v S.related ≡ true → Related v L S) → is_set v out ≡ false → (x : Schedule) × Violates L (machine_below G) o x
  pub opens : (x : Schedule) → Violates L (machine_below G) o x → RunViolates G L o x

-- the term of such an obligation
abbrev pub run_made : List RuleKind → List Def → Below → ClosedLayer → Obligation → ℕ → Starting → Make Id
run_made kinds defs G L o start S =
    and_make (fresh_all kinds start (arguments_of o))
    (λ args. runs_through kinds (terms_of kinds defs) L G o (numbers_of G L o start) S (block_of L o) args)

module _ (kinds : List RuleKind) (defs : List Def) (G : Below) (L : ClosedLayer) (parts : PartsMean kinds defs G L) (typed : LayerTyped defs G L) (number : ℕ)
    (before : List Node) (start : ℕ) (nodes final : List Node) (frame : Frame kinds defs L number before start nodes final) (o : Obligation)
    (k : RunKind kinds defs G L parts o) where
  abbrev S : Starting
  S = (states kinds defs G L parts number before start nodes final frame).value

  abbrev n : Numbers
  n = numbers_of G L o start

  pub run_grows : Grows (run_made kinds defs G L o start S)
  run_grows old =
      let args = fresh_all kinds start (arguments_of o) old in
      let out = runs_through kinds (terms_of kinds defs) L G o n S (block_of L o) args.value args.nodes in
      let inputs = glued [] in
      let v = value_of inputs [] in
      extends_both old args.nodes out.nodes (parts.fresh.grows kinds start (arguments_of o) old)
      (runs_grow kinds defs G L parts inputs v o (block_of L o) k.shape k.whole k.has k.typed (k.kept v) k.state n S args.value args.nodes)

  module _ (g : Extends (run_made kinds defs G L o start S nodes).nodes final) where
    gf : Extends nodes final
    gf = extends_both nodes (run_made kinds defs G L o start S nodes).nodes final (run_grows nodes) g

    args_so : (inputs : Inputs) (v : Values) → Fits inputs v final →
        let args = fresh_all kinds start (arguments_of o) nodes in
        Fits inputs v args.nodes × LowIs v (arguments_of o) (given_env inputs start (arguments_of o)) args.nodes args.value
    args_so inputs v h =
        let args = fresh_all kinds start (arguments_of o) nodes in
        let out = run_made kinds defs G L o start S nodes in
        let go = runs_grow kinds defs G L parts inputs v o (block_of L o) k.shape k.whole k.has k.typed (k.kept v) k.state n S args.value args.nodes in
        let ha = fits_fewer inputs v args.nodes out.nodes go (fits_fewer inputs v out.nodes final g h) in
        (ha, parts.fresh.gives inputs v kinds start (arguments_of o) nodes k.args_shapes frame.below ha)

    runs_so : (inputs : Inputs) (v : Values) → Fits inputs v final →
        let args = fresh_all kinds start (arguments_of o) nodes in
        let out = run_made kinds defs G L o start S nodes in
        RunsSo kinds defs G L parts inputs v o (block_of L o) S args.value
        (ran kinds (terms_of kinds defs) L G n.run (block_of L o) S.from.memory (arguments_of o) args.value S.from.low args.nodes).value out.nodes out.value
    runs_so inputs v h =
        let args = fresh_all kinds start (arguments_of o) nodes in
        let out = run_made kinds defs G L o start S nodes in
        let ready = ready_wider L S nodes args.nodes (parts.fresh.grows kinds start (arguments_of o) nodes)
        (ready_so kinds defs G L parts number before start nodes final frame inputs v gf h) in
        let a = args_so inputs v h in
        let st = k.some v S.from.vars args.value in
        runs_give kinds defs G L parts inputs v o (block_of L o) k.shape k.whole k.has k.typed (k.kept v) k.state n S args.value args.nodes ready a.1.shaped
        st.0 st.1 (fits_fewer inputs v out.nodes final g h)

    shows_so : (inputs : Inputs) (v : Values) → Fits inputs v final → is_set v (run_made kinds defs G L o start S nodes).value ≡ false →
        (x : Schedule) × Violates L (machine_below G) o x
    shows_so inputs v h unset =
        let args = fresh_all kinds start (arguments_of o) nodes in
        let out = run_made kinds defs G L o start S nodes in
        let end = (ran kinds (terms_of kinds defs) L G n.run (block_of L o) S.from.memory (arguments_of o) args.value S.from.low args.nodes).value in
        let a = args_so inputs v h in
        let starts = starts_so kinds defs G L parts number before start nodes final frame inputs v gf h in
        k.shows inputs v S args.value end out.nodes args.nodes out.value a.0 a.1.shaped (runs_so inputs v h)
        (λ e. related_there v L (given_stand inputs number L) (states kinds defs G L parts number before start nodes final frame).nodes S starts e) unset

    shown_so : (x : Schedule) → Violates L (machine_below G) o x → Unsets final (run_made kinds defs G L o start S nodes).value
    shown_so x violates =
        let w = k.opens x violates in
        let back = k.whole.back x.memory w.given x.low w.taken w.end.answer w.end.to w.run in
        let ds = state_digits parts.fresh L x typed.state_shapes typed.memory_shapes typed.low_shapes w.shapes in
        let words = parts.fresh.back (arguments_of o) w.given k.args_shapes w.given_fits in
        let unset = λ (i : ℕ). false in
        let bits : AllBits = record { run = back.0; stop = unset; last = unset; wake = unset; other = unset } in
        let arg = env_part start (arguments_of o) w.given words in
        let bs = bit_parts G L o start bits in
        let rest = arg ∷ bs in
        let ps = state_parts L number x ds rest in
        let args = fresh_all kinds start (arguments_of o) nodes in
        let out = run_made kinds defs G L o start S nodes in
        let stand = stand_so kinds defs G L parts number before start nodes final frame gf in
        let ga = parts.fresh.grows kinds start (arguments_of o) nodes in
        let inputs = glued ps in
        let v0 = value_of inputs [] in
        let go = runs_grow kinds defs G L parts inputs v0 o (block_of L o) k.shape k.whole k.has k.typed (k.kept v0) k.state n S args.value args.nodes in
        let args_stand = parts.fresh.stay start (arguments_of o) args.nodes final (extends_both args.nodes out.nodes final go g)
        (parts.fresh.stand kinds start (arguments_of o) nodes) in
        let P = PartFits final in
        let D = λ (p : Part). AreDigits inputs p.first p.count p.digits in
        let fit = states_fit L number x parts.glue ds rest final stand
        (All-cons P arg bs (parts.glue.env_fits final start (arguments_of o) w.given words args_stand) (bits_fit G L o start parts.glue final bits)) in
        let turn : InTurn number ps = states_turn L number x ds rest (
          frame.room,
          bits_turn G L o start bits (start + words_in (arguments_of o))
              (omega arith),
        ) in
        let given = states_given L number x ds rest inputs (parts.glue.digits number ps turn) in
        let args_are = words.give inputs start (All-head D arg bs given.1) in
        let bits_are = bits_there G L o start parts.glue inputs bits (All-tail D arg bs given.1) in (
          ps,
          fit,
          λ v h.
              let first = states kinds defs G L parts number before start nodes final frame in
              let starts = subst (λ s. StartsSo v L s first.nodes S) given.0 (starts_so kinds defs G L parts number before start nodes final frame inputs
              v gf h) in
              let from = from_there L number x v first.nodes S starts w.holds in
              let a = args_so inputs v h in
              let given_is : w.given ≡ low_worth v (arguments_of o) args.value = sym args_are ∙ sym a.1.is in
              let step = w.step v S.from.vars args.value from.1.vars_is given_is in
              let ready = ready_wider L S nodes args.nodes ga (ready_so kinds defs G L parts number before start nodes final frame inputs v gf h) in
              let ran_fit = run_fit kinds defs G L parts inputs v o (block_of L o) k.shape k.whole k.has k.typed (k.kept v) k.state n S args.value args.nodes
              (fits_fewer inputs v out.nodes final g h) in
              run_refutes kinds defs G L parts inputs v o (block_of L o) S args.value args.nodes ready a.1.shaped x w.given step from.1 given_is n
              out.nodes out.value
              ran_fit (runs_so inputs v h) k.unsided w.end back.0 back.1 bits_are.run from.0 w.fails,
        )

    pub run_term : IsTermOf final (record { layer = L; below = G; obligation = o }) (run_made kinds defs G L o start S nodes).value
    run_term = term_is L G o parts.glue (run_made kinds defs G L o start S nodes).nodes final (run_made kinds defs G L o start S nodes).value frame.bank g
        (λ inputs v h. (runs_so inputs v h).wide) shows_so shown_so
