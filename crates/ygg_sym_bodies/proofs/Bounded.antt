-- Runs over terms make inputs of their own numbers alone.
use Rattle.std.proofs.Common.{◌≤◌, ◌*◌, ◌+◌, ℕ, List, Option, Some, None, arith}
use Rattle.ygg_value.specs.Words.{word, bit_of}
use Rattle.ygg_syntax.specs.declared.grammar.BlockKind.TheVariants.{Impl}
use Rattle.ygg_syntax.specs.declared.tree.Block.{Block}
use Rattle.ygg_syntax.specs.declared.tree.Declared.{Declared}
use Rattle.ygg_syntax.specs.declared.tree.Def.{Def}
use Rattle.ygg_meaning.specs.Layer.{ClosedLayer}
use Rattle.ygg_meaning.specs.Machine.{Picks}
use Rattle.ygg_meaning.specs.Refines.{Below}
use Rattle.ygg_rules.specs.declared.rule.RuleKind.{RuleKind}
use Rattle.ygg_bank.specs.Inputs.{InputsBelow}
use Rattle.ygg_bank.specs.Making.{made}
use Rattle.ygg_bank.specs.declared.node.Node.{Node}
use Rattle.ygg_bank.specs.declared.node.Node.TheVariants.{Const}
use Rattle.ygg_shape_words.proofs.Keeps.{inputs_stay}
use Rattle.ygg_sym_runs.specs.Names.{sym_bind}
use Rattle.ygg_sym_runs.specs.SpecCuts.{choice_room}
use Rattle.ygg_sym_runs.specs.Specs.{given_pick, input_pick}
use Rattle.ygg_sym_runs.proofs.MadeInputs.{fresh_below, terms_below}
use Rattle.ygg_sym_runs.proofs.SpecKeeps.{block_keeps}
use Rattle.ygg_sym_laws.specs.Below.{failure_room, places_on, signatures_on, zeros_made}
use Rattle.ygg_sym_laws.specs.Means.{Values3, terms_of}
use Rattle.ygg_sym_laws.specs.Typed.{BlockTyped, SpecBlockTyped}
use Rattle.ygg_sym_runs.proofs.DeclaredZeros.{zeros_made_keep}
use Rattle.ygg_sym_spec.specs.Picking.{bit_in}
use Rattle.ygg_sym_laws.specs.SymLaws.{OverTyped}
use Rattle.ygg_sym_bodies.specs.Runs.{cut_body, cut_inputs, whole_body, whole_inputs}
use Rattle.ygg_sym_bodies.specs.declared.state.SymState.{SymState}
use Rattle.ygg_sym_bodies.proofs.Laws.{fall_means, loss_means, whole_means}
use Rattle.ygg_sym_bodies.proofs.Whole.{called_on, chosen_on}

-- what is below a number is below a greater one
more : (first next : ℕ) (nodes : List Node) → first ≤ next → InputsBelow first nodes → InputsBelow next nodes
more first next nodes l p = λ place i w e. let k = p place i w e in omega (arith, l, k)

one_kept : (kinds : List RuleKind) (first next : ℕ) (old : List Node) → first ≤ next → InputsBelow first old →
    InputsBelow next (made kinds (Const (word 1 1)) old).nodes
one_kept kinds first next old l p = inputs_stay kinds next (Const (word 1 1)) old tt (more first next old l p)

zeros_kept : (kinds : List RuleKind) (ds : List Declared) (first next : ℕ) (old : List Node) → first ≤ next → InputsBelow first old →
    InputsBelow next (zeros_made kinds ds old).nodes
zeros_kept kinds ds first next old l p = zeros_made_keep kinds (InputsBelow next) (inputs_stay kinds next) ds old (more first next old l p)

-- a block that may call what is below
module _ (kinds : List RuleKind) (defs : List Def) (G : Below) (L : ClosedLayer) (b : Block) (args : List Declared) (o : OverTyped defs G L)
    (t : BlockTyped defs L Impl (signatures_on G) b L.layer.memory args) (from : SymState) (first : ℕ) (old : List Node) (p : InputsBelow first old) where
  abbrev x : Values3
  x = record { vars = from.vars; args = from.args; low = from.low }

  pub called_whole : let s = called_on kinds defs G L b args o t in
      InputsBelow (whole_inputs s None first).next (whole_body kinds s from None first old).nodes
  called_whole =
      let places = places_on G b in
      let next = first + places in
      (whole_means kinds defs G L b L.layer.memory args o t).inputs_below first next x (made kinds (Const (word 1 1)) old).nodes
      (one_kept kinds first next old (omega arith) p) (omega arith)

  pub called_cut : let s = called_on kinds defs G L b args o t in let n = cut_inputs s first in
      InputsBelow n.next (cut_body kinds s from n.picks n.stops n.failure old).nodes
  called_cut =
      let places = places_on G b in
      let room = failure_room G in
      let stop = first + places in
      let last = first + places + (2 * places + 1) in
      let next = first + places + (2 * places + 1) + room in
      (fall_means kinds defs G L b L.layer.memory args o t).inputs_below first stop last next x (zeros_made kinds L.layer.memory old).nodes
      (zeros_kept kinds L.layer.memory first next old (omega arith) p) (omega arith) (omega arith) (omega arith)

-- a block that runs on no machine
module _ (kinds : List RuleKind) (defs : List Def) (G : Below) (L : ClosedLayer) (b : Block) (args : List Declared) (o : OverTyped defs G L)
    (t : SpecBlockTyped defs L b args) (from : SymState) (first : ℕ) (old : List Node) (p : InputsBelow first old) where
  pub chosen_whole : (given : Option Picks) → let s = chosen_on kinds defs G L b args o t in
      InputsBelow (whole_inputs s given first).next (whole_body kinds s from given first old).nodes
  chosen_whole (Some given) =
      let next = first + 0 in
      block_keeps kinds (InputsBelow next) (inputs_stay kinds next) (terms_of kinds defs) (terms_below kinds defs next) L (given_pick kinds given) b
      (λ k less nodes q. inputs_stay kinds next (Const (word 1 (bit_of (bit_in k given)))) nodes tt q) from.vars (sym_bind args from.args)
      (made kinds (Const (word 1 1)) old).nodes (one_kept kinds first next old (omega arith) p)
  chosen_whole None =
      let next = first + choice_room b in
      block_keeps kinds (InputsBelow next) (inputs_stay kinds next) (terms_of kinds defs) (terms_below kinds defs next) L (input_pick kinds first) b
      (λ k less nodes q. fresh_below kinds (first + k) next (omega (arith, less)) nodes q) from.vars (sym_bind args from.args)
      (made kinds (Const (word 1 1)) old).nodes (one_kept kinds first next old (omega arith) p)

  pub chosen_cut : let s = chosen_on kinds defs G L b args o t in let n = cut_inputs s first in
      InputsBelow n.next (cut_body kinds s from n.picks n.stops n.failure old).nodes
  chosen_cut =
      let room = failure_room G in
      let stop = first + 0 in
      let last = first + 0 + (2 * 0 + 1) in
      let next = first + 0 + (2 * 0 + 1) + room in
      let zeroed = (zeros_made kinds L.layer.state old).nodes in
      (loss_means kinds defs G L o).inputs_below last next from.low (input_pick kinds stop 0 zeroed).nodes
      (fresh_below kinds (stop + 0) next (omega arith) zeroed (zeros_kept kinds L.layer.state first next old (omega arith) p)) (omega arith)
