-- States that were joined by a call: their inputs stay single digits, and they stand with their names.
use Rattle.std.proofs.Common.{◌≡◌, List, Result, Ok, Err, IfOk, OnOk, sym, subst}
use Rattle.ygg_syntax.specs.declared.tree.Declared.{Declared}
use Rattle.ygg_sym_runs.specs.ygg_rules.declared.rule.RuleKind.{RuleKind}
use Rattle.ygg_sym_runs.specs.ygg_bank.Nodes.{HasWidth, IsBank}
use Rattle.ygg_sym_runs.specs.ygg_bank.Values.{value_of}
use Rattle.ygg_sym_runs.specs.ygg_bank.declared.node.Id.{Id}
use Rattle.ygg_sym_runs.specs.ygg_bank.declared.node.Node.{Node}
use Rattle.ygg_sym_runs.specs.ygg_shape_cells.declared.terms.SymValue.{SymValue}
use Rattle.ygg_sym_runs.specs.ygg_shape_joins_proofs_Joins.{joined_all_keeps}
use Rattle.ygg_sym_runs.specs.Lower.{KeepsSingle, SingleFrom}
use Rattle.ygg_sym_runs.specs.Lows.{LowShaped, join_lows}
use Rattle.ygg_sym_runs.proofs.of_ygg_shape.Answered.{no_inputs, some_fit}
use Rattle.ygg_sym_runs.proofs.JoinedLows.{join_worth}
use Rattle.ygg_sym_runs.proofs.Singles.{single_stays}

-- no input comes as states are joined
pub joined_single : (kinds : List RuleKind) (t : Id) (xs ys : List SymValue) (old new : List Node) → new ≡ (join_lows kinds t xs ys old).nodes →
    KeepsSingle old new
joined_single kinds t xs ys old new e = λ first h. subst (SingleFrom first) (sym e)
    (joined_all_keeps kinds (SingleFrom first) (single_stays kinds first) t xs ys old h)

-- a state that was joined of two stands with its names
pub joined_lows : {E : Type 0} (kinds : List RuleKind) (names : List Declared) (t : Id) (one two : List SymValue) (old new : List Node)
    (r : Result (List SymValue) E) → IsBank new → HasWidth old t 1 → OnOk r (new ≡ (join_lows kinds t one two old).nodes) →
    IfOk r (λ answers. answers ≡ (join_lows kinds t one two old).value) → LowShaped old names one → LowShaped old names two → IfOk r (LowShaped new names)
joined_lows kinds names t one two old new (Ok answers) b w e f p q =
    let o = join_lows kinds t one two old in
    let m = join_worth no_inputs (value_of no_inputs o.nodes) kinds names t one two old w p q (some_fit o.nodes (subst IsBank e b)) in
    subst (λ z. LowShaped z names answers) (sym e) (subst (LowShaped o.nodes names) (sym f) m.has)
joined_lows kinds names t one two old new (Err x) b w e f p q = tt
