-- Power that fails on a specification over terms only adds nodes.
use Rattle.std.specs.Prelude.{ℕ, ◌+◌, List, Option, Some, None, reverse}
use Rattle.ygg_syntax.specs.declared.tree.Block.{Block}
use Rattle.ygg_syntax.specs.declared.tree.Def.{Def}
use Rattle.ygg_syntax.specs.declared.tree.Operation.{Operation}
use Rattle.ygg_sym_machine.specs.ygg_meaning.Layer.{ClosedLayer, operation_of}
use Rattle.ygg_sym_machine.specs.ygg_rules.declared.rule.RuleKind.{RuleKind}
use Rattle.ygg_sym_machine.specs.ygg_bank_proofs_Made.{made_grows}
use Rattle.ygg_sym_machine.specs.ygg_bank_proofs_Widths.{extends_both, extends_self}
use Rattle.ygg_sym_machine.specs.ygg_bank.Makes.{Make}
use Rattle.ygg_sym_machine.specs.ygg_bank.Making.{made}
use Rattle.ygg_sym_machine.specs.ygg_bank.Nodes.{Extends}
use Rattle.ygg_sym_machine.specs.ygg_bank.declared.node.Id.{Id}
use Rattle.ygg_sym_machine.specs.ygg_bank.declared.node.Node.{Node}
use Rattle.ygg_sym_machine.specs.ygg_bank.declared.node.Node.TheVariants.{Input}
use Rattle.ygg_sym_machine.specs.ygg_shape_words_proofs_Keeps.{Stays, grows_stays}
use Rattle.ygg_sym_machine.specs.ygg_shape_cells.declared.terms.SymValue.{SymValue}
use Rattle.ygg_sym_machine.specs.ygg_sym_runs.ExpressionMeaning.{Grows}
use Rattle.ygg_sym_machine.specs.ygg_sym_runs.Names.{SymEnv, sym_bind}
use Rattle.ygg_sym_machine.specs.ygg_sym_runs.Exprs.{SymFunctions, sym_functions}
use Rattle.ygg_sym_machine.specs.ygg_sym_runs_proofs_Keeps.{Keeps, FunctionsKeep, functions_keep}
use Rattle.ygg_sym_machine.specs.ygg_sym_runs.Runs.{SymQuestion, Choice, Call}
use Rattle.ygg_sym_machine.specs.ygg_sym_runs.Specs.{input_pick}
use Rattle.ygg_sym_machine.specs.ygg_sym_runs.SpecCuts.{picks_after, choice_room, block_made, crash_made, then_crash_made, fall_made, fall_asked, spec_cuts}
use Rattle.ygg_sym_machine.specs.ygg_sym_runs_proofs_MadeInputs.{lows_keep}
use Rattle.ygg_sym_machine.specs.ygg_sym_runs_proofs_SpecKeeps.{block_keeps, crash_keeps}

module _ (kinds : List RuleKind) (P : List Node → Type 0) (stays : Stays kinds P) (terms : SymFunctions) (keep : FunctionsKeep P terms) (m : ClosedLayer) where
  -- what holds stays at all picks
  abbrev AllKeep : (ℕ → Make Id) → Type 0
  AllKeep pick = (k : ℕ) → Keeps P (pick k)

  loss_keeps : (pick : ℕ → Make Id) → AllKeep pick → (vars : List SymValue) → Keeps P (crash_made kinds terms m pick vars)
  loss_keeps pick fresh vars nodes p = crash_keeps kinds P stays terms keep m pick (λ k l. fresh k) vars nodes p

  then_keeps : (pick : ℕ → Make Id) → AllKeep pick → (b : Block) (vars : List SymValue) (args : SymEnv) →
      Keeps P (then_crash_made kinds terms m pick b vars args)
  then_keeps pick fresh b vars args nodes p =
      let o = block_made kinds terms m pick b vars args nodes in
      loss_keeps (picks_after (choice_room b) pick) (λ k. fresh (choice_room b + k)) o.value.to o.nodes
      (block_keeps kinds P stays terms keep m pick b (λ k l. fresh k) vars args nodes p)

  fall_keeps : (pick : ℕ → Make Id) → AllKeep pick → (o : Operation) (crash : Option Block) (vars xs : List SymValue) →
      Keeps P (fall_made kinds terms m pick o crash vars xs)
  fall_keeps pick fresh o (Some b) vars xs nodes p = then_keeps pick fresh b vars (sym_bind o.arguments xs) nodes p
  fall_keeps pick fresh o None vars xs nodes p =
      let rest = picks_after 1 pick in
      let later : AllKeep rest = λ k. fresh (1 + k) in
      let t = pick 0 nodes in
      let a = then_crash_made kinds terms m rest o.spec vars (sym_bind o.arguments xs) t.nodes in
      let n = crash_made kinds terms m rest vars a.nodes in
      lows_keep kinds P stays t.value a.value n.value n.nodes
      (loss_keeps rest later vars a.nodes (then_keeps rest later o.spec vars (sym_bind o.arguments xs) t.nodes (fresh 0 nodes p)))

  asked_keeps : (pick : ℕ → Make Id) → AllKeep pick → (o : Option Operation) (vars xs : List SymValue) → Keeps P (fall_asked kinds terms m pick o vars xs)
  asked_keeps pick fresh None vars xs nodes p = p
  asked_keeps pick fresh (Some o) vars xs nodes p = fall_keeps pick fresh o o.on_crash vars xs nodes p

  cuts_keep : (pick : ℕ → Make Id) → AllKeep pick → (q : SymQuestion) (vars : List SymValue) → Keeps P (spec_cuts kinds terms m pick q vars)
  cuts_keep pick fresh Choice vars nodes p = loss_keeps pick fresh vars nodes p
  cuts_keep pick fresh (Call name xs) vars nodes p = asked_keeps pick fresh (operation_of m name) vars xs nodes p

module _ (kinds : List RuleKind) (defs : List Def) (m : ClosedLayer) (last : ℕ) where
  fresh_grows : (first : List Node) (k : ℕ) → Keeps (Extends first) (input_pick kinds last k)
  fresh_grows first k nodes p = extends_both first nodes (made kinds (Input (last + k) 1) nodes).nodes p (made_grows kinds (Input (last + k) 1) nodes)

  -- within a question
  pub cut_grows : (q : SymQuestion) (vars : List SymValue) → Grows (spec_cuts kinds (sym_functions kinds (reverse defs)) m (input_pick kinds last) q vars)
  cut_grows q vars nodes =
      cuts_keep kinds (Extends nodes) (grows_stays kinds nodes) (sym_functions kinds (reverse defs))
      (functions_keep kinds (Extends nodes) (grows_stays kinds nodes) (reverse defs)) m (input_pick kinds last) (fresh_grows nodes) q vars nodes
      (extends_self nodes)

  -- and between questions
  pub loss_grows : (vars : List SymValue) → Grows (crash_made kinds (sym_functions kinds (reverse defs)) m (input_pick kinds last) vars)
  loss_grows vars nodes =
      loss_keeps kinds (Extends nodes) (grows_stays kinds nodes) (sym_functions kinds (reverse defs))
      (functions_keep kinds (Extends nodes) (grows_stays kinds nodes) (reverse defs)) m (input_pick kinds last) (fresh_grows nodes) vars nodes
      (extends_self nodes)
