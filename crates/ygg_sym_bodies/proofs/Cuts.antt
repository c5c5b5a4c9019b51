-- What runs over terms of a block are worth that power cuts.
use Rattle.std.proofs.Common.{◌≡◌, ◌==◌, ◌*◌, ◌+◌, ℕ, Bool, true, false, IsTrue, if◌then◌else◌, List, Some, None, refl, sym, ap, ◌∙◌, subst, arith}
use Rattle.std.specs.Prelude.{is_some}
use Rattle.ygg_value.specs.Words.{word, bit_of}
use Rattle.ygg_value.specs.declared.word.Word as number
use Rattle.ygg_syntax.specs.declared.grammar.BlockKind.TheVariants.{Impl}
use Rattle.ygg_syntax.specs.declared.tree.Block.{Block}
use Rattle.ygg_syntax.specs.declared.tree.Declared.{Declared}
use Rattle.ygg_syntax.specs.declared.tree.Def.{Def}
use Rattle.ygg_meaning.specs.Environments.{Env}
use Rattle.ygg_meaning.specs.Layer.{BlockFalls, ClosedLayer}
use Rattle.ygg_meaning.specs.Machine.{Picks, on, based}
use Rattle.ygg_meaning.specs.Obligations.{Halt}
use Rattle.ygg_meaning.specs.Refines.{Below, machine_below}
use Rattle.ygg_meaning.specs.Shapes.{env_fits}
use Rattle.ygg_rules.specs.declared.rule.RuleKind.{RuleKind}
use Rattle.ygg_bank.proofs.Meaning.{fits_fewer}
use Rattle.ygg_bank.proofs.Widths.{extends_both}
use Rattle.ygg_bank.specs.Makes.{Out}
use Rattle.ygg_bank.specs.Nodes.{Extends}
use Rattle.ygg_bank.specs.Values.{Inputs, Values, Fits}
use Rattle.ygg_bank.specs.declared.node.Id.{Id}
use Rattle.ygg_bank.specs.declared.node.Node.{Node}
use Rattle.ygg_shape_cells.specs.declared.terms.SymValue.{SymValue}
use Rattle.ygg_sym_runs.specs.Meaning.{is_set}
use Rattle.ygg_sym_runs.specs.Laws.{picked_by}
use Rattle.ygg_sym_runs.specs.Lows.{LowShaped, low_worth}
use Rattle.ygg_sym_runs.specs.Specs.{input_pick}
use Rattle.ygg_sym_runs.specs.Stops.{halt}
use Rattle.ygg_sym_runs.proofs.Lows.{low_wider}
use Rattle.ygg_sym_runs.proofs.Specs.{input_pick_means}
use Rattle.ygg_sym_laws.specs.Below.{failure_room, lost_made, signatures_on, zeros_made}
use Rattle.ygg_sym_laws.specs.Means.{Begins, Values3, terms_of}
use Rattle.ygg_sym_laws.specs.Typed.{BlockTyped, SpecBlockTyped}
use Rattle.ygg_sym_runs.proofs.DeclaredZeros.{zeros_made_grow}
use Rattle.ygg_sym_laws.specs.Fronts.{loss_picks}
use Rattle.ygg_sym_laws.specs.FrontLaws.{FallsThere}
use Rattle.ygg_sym_laws.specs.SymLaws.{OverTyped}
use Rattle.ygg_sym_laws.proofs.FrontAnyLayer.{falls_are_named, loss_is_named}
use Rattle.ygg_sym_bodies.specs.Runs.{Ending, IsMade, calls_of, cut_body}
use Rattle.ygg_sym_bodies.specs.Sites.{IsShaped, Site}
use Rattle.ygg_sym_bodies.specs.Worths.{AreWorth, CutBits, CutsAsAny, CutsAsNamed, SameBits, args_worth, below_worth, fall_takes, stop_at, vars_worth}
use Rattle.ygg_sym_bodies.specs.declared.state.SymRun.{SymRun}
use Rattle.ygg_sym_bodies.specs.declared.state.SymState.{SymState}
use Rattle.ygg_sym_bodies.proofs.Laws.{fall_means, loss_means}
use Rattle.ygg_sym_bodies.proofs.Silent.{at_end, falls_below, the_stop}
use Rattle.ygg_sym_bodies.proofs.Whole.{called_on, chosen_on, ending_is, shaped_wider}

module _ (s : Site) (from : SymState) (first stop last : ℕ) where
  -- an ending that is worth the cut run that the environment names
  pub record EndsNamed (inputs : Inputs) (v : Values) (e : Ending) : Type 0 where
    pub reached : is_set v e.reached ≡ is_some (stop_at s (vars_worth v s from) (args_worth v s from) (below_worth v s from) s.calls
        (picked_by inputs first) (picked_by inputs stop))
    pub falls : (halts : Halt) → stop_at s (vars_worth v s from) (args_worth v s from) (below_worth v s from) s.calls
        (picked_by inputs first) (picked_by inputs stop) ≡ Some halts →
        FallsThere s.below s.layer s.block (vars_worth v s from) (args_worth v s from) (below_worth v s from) halts
        (fall_takes s (vars_worth v s from) (args_worth v s from) (below_worth v s from) s.calls (picked_by inputs first) (picked_by inputs last) halts)
        (low_worth v (s.layer).low e.low)

  -- one at a stop that is set, which leaves this
  pub record EndsIn (v : Values) (fallen : Env) (e : Ending) : Type 0 where
    pub reached : is_set v e.reached ≡ true
    pub fallen_is : low_worth v (s.layer).low e.low ≡ fallen

  -- the inputs are these bits
  pub record AreBits (inputs : Inputs) (bits : CutBits) : Type 0 where
    pub picks : SameBits (calls_of s s.calls) (picked_by inputs first) bits.picks
    pub stops : SameBits (2 * calls_of s s.calls + 1) (picked_by inputs stop) bits.stops
    pub failure : SameBits (failure_room s.below) (picked_by inputs last) bits.failure

  module _ (kinds : List RuleKind) (old : List Node) where
    abbrev pub out : Out Ending
    out = cut_body kinds s from first stop last old

    abbrev pub AllNamed : Type 0
    AllNamed = (inputs : Inputs) (v : Values) → Fits inputs v out.nodes → EndsNamed inputs v out.value

    abbrev pub AllAny : Type 0
    AllAny =
        (vars args low : Env) (picks : Picks) (fallen : Env) → IsTrue (env_fits (s.layer).low low) →
        BlockFalls s.layer (machine_below s.below) s.block args (on vars (based low)) picks fallen →
        (bits : CutBits) × ((inputs : Inputs) (v : Values) → Fits inputs v out.nodes → AreWorth v s from vars args low → AreBits inputs bits →
        EndsIn v fallen out.value)

module _ (s : Site) (from : SymState) (kinds : List RuleKind) (old new : List Node) (r : SymRun)
    (m : IsMade (cut_body kinds s from r.inputs.picks r.inputs.stops r.inputs.failure old) from r new) where
  abbrev made_by : Out Ending
  made_by = cut_body kinds s from r.inputs.picks r.inputs.stops r.inputs.failure old

  pub cuts_named : AllNamed s from r.inputs.picks r.inputs.stops r.inputs.failure kinds old → CutsAsNamed s from r new
  cuts_named all inputs v h =
      let n = subst (EndsNamed s from r.inputs.picks r.inputs.stops r.inputs.failure inputs v) (sym (ending_is made_by from r new m))
      (all inputs v (subst (Fits inputs v) m.nodes_are h)) in
      record { reached = n.reached; falls = n.falls }

  pub cuts_any : AllAny s from r.inputs.picks r.inputs.stops r.inputs.failure kinds old → CutsAsAny s from r new
  cuts_any all vars args low picks fallen shaped run =
      let a = all vars args low picks fallen shaped run in (
        a.0,
        λ inputs v h worth same.
            let e = subst (EndsIn s from r.inputs.picks r.inputs.stops r.inputs.failure v fallen) (sym (ending_is made_by from r new m))
            (a.1 inputs v (subst (Fits inputs v) m.nodes_are h) worth
            (record { picks = same.picks; stops = same.stops; failure = same.failure })) in
            (e.reached, e.fallen_is),
      )

-- a block that may call what is below
module _ (kinds : List RuleKind) (defs : List Def) (G : Below) (L : ClosedLayer) (b : Block) (args : List Declared) (o : OverTyped defs G L)
    (t : BlockTyped defs L Impl (signatures_on G) b L.layer.memory args) where
  abbrev site : Site
  site = called_on kinds defs G L b args o t

  module _ (from : SymState) (first stop last : ℕ) (old : List Node) (shaped : IsShaped site old from) where
    abbrev x : Values3
    x = record { vars = from.vars; args = from.args; low = from.low }

    abbrev first_nodes : List Node
    first_nodes = (zeros_made kinds L.layer.memory old).nodes

    begins : Begins kinds defs G L b L.layer.memory args first_nodes x
    begins =
        let w = shaped_wider site old first_nodes from (zeros_made_grow kinds L.layer.memory old) shaped in
        record { vars_are = w.vars; args_are = w.args; low_are = w.low }

    pub called_named : AllNamed site from first stop last kinds old
    called_named inputs v h =
        let n = falls_are_named kinds defs G L b L.layer.memory args o t inputs v first stop last x first_nodes begins h in
        record { reached = n.reached; falls = n.run }

    pub called_any : AllAny site from first stop last kinds old
    called_any vars given low picks fallen fits run =
        let w = fall_means kinds defs G L b L.layer.memory args o t in
        let a = w.back vars given low picks fallen run in
        let bits : CutBits = record { picks = (a.0).run_bits; stops = (a.0).stop_bits; failure = (a.0).last_bits } in (
          bits,
          λ inputs v h worth same.
              let e = a.1 inputs v first stop last x first_nodes begins h
              (record { vars_is = worth.vars_are; args_is = worth.args_are; low_is = worth.low_is })
              (record { run_is = same.picks; stop_is = same.stops; last_is = same.failure }) in
              record { reached = e.reached; fallen_is = e.fallen_is },
        )

set_is : (b : Bool) → ((word 1 (bit_of b)).bits == 1) ≡ b
set_is true = refl
set_is false = refl

some_is : (b : Bool) (h : Halt) → is_some (if b then Some h else None) ≡ b
some_is true h = refl
some_is false h = refl

-- a block that runs on no machine
module _ (kinds : List RuleKind) (defs : List Def) (G : Below) (L : ClosedLayer) (b : Block) (args : List Declared) (o : OverTyped defs G L)
    (t : SpecBlockTyped defs L b args) where
  abbrev place : Site
  place = chosen_on kinds defs G L b args o t

  module _ (from : SymState) (first stop last : ℕ) (old : List Node) (shaped : IsShaped place old from) where
    abbrev zeroed : List Node
    zeroed = (zeros_made kinds L.layer.state old).nodes

    abbrev here : Out Id
    here = input_pick kinds stop 0 zeroed

    abbrev left : Out (List SymValue)
    left = lost_made kinds (terms_of kinds defs) G last from.low here.nodes

    here_grows : (inputs : Inputs) (v : Values) → Extends zeroed here.nodes
    here_grows inputs v = (input_pick_means inputs v kinds stop).grows 0 zeroed

    low_here : (inputs : Inputs) (v : Values) → LowShaped here.nodes L.low from.low
    low_here inputs v =
        low_wider old here.nodes L.low from.low
        (extends_both old zeroed here.nodes (zeros_made_grow kinds L.layer.state old) (here_grows inputs v)) shaped.low

    is_here : (inputs : Inputs) (v : Values) → Fits inputs v left.nodes → is_set v here.value ≡ picked_by inputs stop 0
    is_here inputs v h =
        let before = fits_fewer inputs v here.nodes left.nodes ((loss_means kinds defs G L o).grows last from.low here.nodes) h in
        ap (λ (w : number.Word). w.bits == 1) ((input_pick_means inputs v kinds stop).is 0 zeroed before) ∙ set_is (picked_by inputs stop 0)

    pub chosen_named : AllNamed place from first stop last kinds old
    chosen_named inputs v h =
        let low = below_worth v place from in
        let n = loss_is_named kinds defs G L o inputs v last from.low here.nodes (low_here inputs v) h in
        let there = at_end G L b (vars_worth v place from) (args_worth v place from) low (loss_picks G (picked_by inputs last) low)
        (low_worth v L.low left.value) n.loses in
        record {
          reached = is_here inputs v h ∙ sym (some_is (picked_by inputs stop 0) (halt false 0));
          falls = λ halts e.
              subst (λ (z : Halt). FallsThere G L b (vars_worth v place from) (args_worth v place from) low z (loss_picks G (picked_by inputs last) low)
              (low_worth v L.low left.value)) (the_stop (picked_by inputs stop 0) halts e) there;
        }

    pub chosen_any : AllAny place from first stop last kinds old
    chosen_any vars given low picks fallen fits run =
        let w = loss_means kinds defs G L o in
        let a = w.back low fallen picks fits (falls_below defs G L b args t vars given low picks fallen run) in
        let bits : CutBits = record { picks = λ k. false; stops = λ k. true; failure = a.0 } in (
          bits,
          λ inputs v h worth same.
              record {
                reached = is_here inputs v h ∙ same.stops 0 (omega arith);
                fallen_is = a.1 inputs v last from.low here.nodes (low_here inputs v) h worth.low_is same.failure;
              },
        )
