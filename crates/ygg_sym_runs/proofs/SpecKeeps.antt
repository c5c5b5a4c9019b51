-- What holds of nodes stays where power fails on a specification over terms, if it does at each pick.
use Rattle.std.proofs.Common.{◌≡◌, ◌+◌, ◌<◌, ◌≤◌, ℕ, suc, List, [], Option, Some, None, refl, arith}
use Rattle.ygg_value.specs.declared.operation.Op.TheVariants.{Or}
use Rattle.ygg_syntax.specs.declared.tree.Block.{Block}
use Rattle.ygg_syntax.specs.declared.tree.Operation.{Operation}
use Rattle.ygg_sym_runs.specs.ygg_meaning.Environments.{Name}
use Rattle.ygg_sym_runs.specs.ygg_meaning.Layer.{ClosedLayer, operation_of}
use Rattle.ygg_sym_runs.specs.ygg_rules.declared.rule.RuleKind.{RuleKind}
use Rattle.ygg_sym_runs.specs.ygg_bank.Inputs.{InputsBelow}
use Rattle.ygg_sym_runs.specs.ygg_bank.Makes.{Make}
use Rattle.ygg_sym_runs.specs.ygg_bank.declared.node.Id.{Id}
use Rattle.ygg_sym_runs.specs.ygg_bank.declared.node.Node.{Node}
use Rattle.ygg_sym_runs.specs.ygg_bank.declared.node.Node.TheVariants.{Bin}
use Rattle.ygg_sym_runs.specs.ygg_shape_words_proofs_Keeps.{Stays, inputs_stay, picked_keeps}
use Rattle.ygg_sym_runs.specs.ygg_shape_cells.declared.terms.SymValue.{SymValue}
use Rattle.ygg_sym_runs.specs.ygg_meaning_laws.RunPlaces.{spec_space}
use Rattle.ygg_sym_runs.specs.Names.{SymEnv, sym_bind}
use Rattle.ygg_sym_runs.specs.Exprs.{SymFunctions}
use Rattle.ygg_sym_runs.proofs.Keeps.{Keeps, FunctionsKeep}
use Rattle.ygg_sym_runs.specs.Runs.{SymQuestion, Choice, Call}
use Rattle.ygg_sym_runs.proofs.Below.{asked_space}
use Rattle.ygg_sym_runs.specs.SpecCuts.{
  picks_after,
  block_made,
  crash_made,
  then_crash_made,
  fall_made,
  fall_asked,
  spec_cuts,
  spec_stops,
  fall_places,
  fall_room,
}
use Rattle.ygg_sym_runs.specs.Specs.{sym_chooser, input_pick}
use Rattle.ygg_sym_runs.proofs.Chosen.{room}
use Rattle.ygg_sym_runs.proofs.MadeInputs.{fresh_below, lows_keep, chooser_keeps, whole_keeps}
use Rattle.ygg_sym_runs.proofs.JoinedLows.{joins_keep}
use Rattle.ygg_sym_runs.proofs.SpecFalls.{among}
use Rattle.ygg_sym_runs.proofs.StopKeeps.{StopsKeep}

module _ (kinds : List RuleKind) (P : List Node → Type 0) (stays : Stays kinds P) (terms : SymFunctions) (keep : FunctionsKeep P terms) (m : ClosedLayer) where
  -- what holds stays at so many picks
  abbrev pub PicksKeep : ℕ → (ℕ → Make Id) → Type 0
  PicksKeep count pick = (k : ℕ) → k < count → Keeps P (pick k)

  fewer : (n count : ℕ) (pick : ℕ → Make Id) → n ≤ count → PicksKeep count pick → PicksKeep n pick
  fewer n count pick l fresh k less = fresh k (omega (arith, l, less))

  later : (n more count : ℕ) (pick : ℕ → Make Id) → n + more ≤ count → PicksKeep count pick → PicksKeep more (picks_after n pick)
  later n more count pick l fresh k less = fresh (n + k) (omega (arith, l, less))

  pub block_keeps : (pick : ℕ → Make Id) (b : Block) → PicksKeep (room b) pick → (vars : List SymValue) (args : SymEnv) →
      Keeps P (block_made kinds terms m pick b vars args)
  block_keeps pick b fresh vars args nodes p =
      whole_keeps kinds P stays terms keep (room b) (sym_chooser pick) (chooser_keeps kinds P stays pick (room b) fresh) b (sym_bind m.layer.state vars)
      args tt (omega arith) nodes p

  pub crash_keeps : (pick : ℕ → Make Id) → PicksKeep (room m.layer.crash) pick → (vars : List SymValue) → Keeps P (crash_made kinds terms m pick vars)
  crash_keeps pick fresh vars nodes p = block_keeps pick m.layer.crash fresh vars [] nodes p

  pub then_keeps : (pick : ℕ → Make Id) (b : Block) → PicksKeep (room b + room m.layer.crash) pick → (vars : List SymValue) (args : SymEnv) →
      Keeps P (then_crash_made kinds terms m pick b vars args)
  then_keeps pick b fresh vars args nodes p =
      let o = block_made kinds terms m pick b vars args nodes in
      let count = room b + room m.layer.crash in
      crash_keeps (picks_after (room b) pick) (later (room b) (room m.layer.crash) count pick (omega arith) fresh) o.value.to o.nodes
      (block_keeps pick b (fewer (room b) count pick (omega arith) fresh) vars args nodes p)

  fall_keeps : (pick : ℕ → Make Id) (o : Operation) (crash : Option Block) →
      PicksKeep (elim crash [ None ↦ suc (room o.spec) + room m.layer.crash | Some b ↦ room b + room m.layer.crash ]) pick → (vars xs : List SymValue) →
      Keeps P (fall_made kinds terms m pick o crash vars xs)
  fall_keeps pick o (Some b) fresh vars xs nodes p = then_keeps pick b fresh vars (sym_bind o.arguments xs) nodes p
  fall_keeps pick o None fresh vars xs nodes p =
      let count = suc (room o.spec) + room m.layer.crash in
      let rest = picks_after 1 pick in
      let t = pick 0 nodes in
      let a = then_crash_made kinds terms m rest o.spec vars (sym_bind o.arguments xs) t.nodes in
      let n = crash_made kinds terms m rest vars a.nodes in
      lows_keep kinds P stays t.value a.value n.value n.nodes
      (crash_keeps rest (later 1 (room m.layer.crash) count pick (omega arith) fresh) vars a.nodes
      (then_keeps rest o.spec (later 1 (room o.spec + room m.layer.crash) count pick (omega arith) fresh) vars (sym_bind o.arguments xs) t.nodes
      (fresh 0 (omega arith) nodes p)))

  asked_keeps : (pick : ℕ → Make Id) → PicksKeep (fall_room m) pick → (f : Name) (o : Option Operation) → operation_of m f ≡ o → (vars xs : List SymValue) →
      Keeps P (fall_asked kinds terms m pick o vars xs)
  asked_keeps pick fresh f None e vars xs nodes p = p
  asked_keeps pick fresh f (Some o) e vars xs nodes p =
      let few = among (fall_places m) m.layer.operations f o e in
      fall_keeps pick o o.on_crash (fewer (fall_places m o) (fall_room m) pick (omega (arith, few)) fresh) vars xs nodes p

  pub lose_keeps : (pick : ℕ → Make Id) → PicksKeep (fall_room m) pick → (vars : List SymValue) → Keeps P (crash_made kinds terms m pick vars)
  lose_keeps pick fresh vars nodes p = crash_keeps pick (fewer (room m.layer.crash) (fall_room m) pick (omega arith) fresh) vars nodes p

  cuts_keep : (pick : ℕ → Make Id) → PicksKeep (fall_room m) pick → (q : SymQuestion) (vars : List SymValue) → Keeps P (spec_cuts kinds terms m pick q vars)
  cuts_keep pick fresh Choice vars nodes p = lose_keeps pick fresh vars nodes p
  cuts_keep pick fresh (Call f xs) vars nodes p = asked_keeps pick fresh f (operation_of m f) refl vars xs nodes p

-- the stops on a specification keep inputs below a number that theirs are below
pub spec_stops_below : (kinds : List RuleKind) (terms : SymFunctions) (m : ClosedLayer) (first last most next : ℕ) → FunctionsKeep (InputsBelow next) terms →
    first + most ≤ next → last + fall_room m ≤ next → StopsKeep (InputsBelow next) most (spec_stops kinds terms m first last)
spec_stops_below kinds terms m first last most next keep l few = record {
  bit = λ n k nodes p. fresh_below kinds (first + n) next (omega (arith, l, k)) nodes p;
  cut = λ q s nodes p. cuts_keep kinds (InputsBelow next) (inputs_stay kinds next) terms keep m (input_pick kinds last) fresh q s nodes p;
  lose = λ s nodes p. lose_keeps kinds (InputsBelow next) (inputs_stay kinds next) terms keep m (input_pick kinds last) fresh s nodes p;
  merge = λ t a b nodes p. joins_keep kinds (InputsBelow next) (inputs_stay kinds next) t a b nodes p;
  either = λ a b nodes p. inputs_stay kinds next (Bin Or a b) nodes tt p;
  pick = λ t a b nodes p. picked_keeps kinds (InputsBelow next) (inputs_stay kinds next) t a b nodes p;
}
  where
    fresh : (k : ℕ) → k < fall_room m → Keeps (InputsBelow next) (input_pick kinds last k)
    fresh k less nodes p = fresh_below kinds (last + k) next (omega (arith, few, less)) nodes p

-- each question on a specification has a place
pub spec_asked_one : (m : ClosedLayer) (q : SymQuestion) → 1 ≤ asked_space (spec_space m) q
spec_asked_one m Choice = omega arith
spec_asked_one m (Call f xs) = omega arith
