-- States of the same names are alike; where they are merged, the state stands with its names, and no input comes.
use Rattle.std.proofs.Common.{◌≡◌, List, [], ◌∷◌, map, subst, sym, Result, Ok, Err, IfOk, OnOk}
use Rattle.ygg_syntax.specs.declared.tree.Declared.{Declared}
use Rattle.ygg_sym_runs.specs.ygg_rules.declared.rule.RuleKind.{RuleKind}
use Rattle.ygg_sym_runs.specs.ygg_bank.declared.node.Id.{Id}
use Rattle.ygg_sym_runs.specs.ygg_bank.declared.node.Node.{Node}
use Rattle.ygg_sym_runs.specs.ygg_bank.Nodes.{HasWidth, IsBank}
use Rattle.ygg_sym_runs.specs.ygg_bank.Values.{value_of}
use Rattle.ygg_sym_runs.specs.ygg_shape.Wholes.{AllAlike}
use Rattle.ygg_sym_runs.specs.ygg_shape_cells.Terms.{AreShaped}
use Rattle.ygg_sym_runs.specs.ygg_shape_cells.declared.terms.SymValue.{SymValue}
use Rattle.ygg_sym_runs.proofs.of_ygg_shape.Answered.{no_inputs, some_fit}
use Rattle.ygg_sym_runs.proofs.of_ygg_shape.Whole.{merged_all_keeps}
use Rattle.ygg_sym_runs.specs.ygg_meaning.Shapes.{shape_in}
use Rattle.ygg_sym_runs.specs.Lower.{KeepsSingle, SingleFrom}
use Rattle.ygg_sym_runs.specs.Lows.{LowShaped, merge_lows}
use Rattle.ygg_sym_runs.proofs.Lows.{merge_worth}
use Rattle.ygg_sym_runs.proofs.Singles.{single_stays}

-- two states of the same names are alike
pub lows_alike : (nodes : List Node) (names : List Declared) (xs ys : List SymValue) → LowShaped nodes names xs → LowShaped nodes names ys →
    AllAlike nodes xs ys
lows_alike nodes names xs ys p q = record {
  shapes = map (λ (d : Declared). shape_in d.shape) names;
  ones_are = all names xs p;
  twos_are = all names ys q;
}
  where
    all : (names : List Declared) (xs : List SymValue) → LowShaped nodes names xs → AreShaped nodes (map (λ (d : Declared). shape_in d.shape) names) xs
    all [] [] p = tt
    all [] (x ∷ xs) p = absurd p
    all (d ∷ names) [] p = absurd p
    all (d ∷ names) (x ∷ xs) p = (p.0, all names xs p.1)

-- no input comes as states are merged
pub merged_single : (kinds : List RuleKind) (t : Id) (xs ys : List SymValue) (old new : List Node) → new ≡ (merge_lows kinds t xs ys old).nodes →
    KeepsSingle old new
merged_single kinds t xs ys old new e = λ first h. subst (SingleFrom first) (sym e)
    (merged_all_keeps kinds (SingleFrom first) (single_stays kinds first) t xs ys old h)

-- a state that was merged of two stands with its names
pub merged_lows : {E : Type 0} (kinds : List RuleKind) (names : List Declared) (t : Id) (one two : List SymValue) (old new : List Node)
    (r : Result (List SymValue) E) → IsBank new → HasWidth old t 1 → OnOk r (new ≡ (merge_lows kinds t one two old).nodes) →
    IfOk r (λ answers. answers ≡ (merge_lows kinds t one two old).value) → LowShaped old names one → LowShaped old names two → IfOk r (LowShaped new names)
merged_lows kinds names t one two old new (Ok answers) b w e f p q =
    let o = merge_lows kinds t one two old in
    let m = merge_worth no_inputs (value_of no_inputs o.nodes) kinds names t one two old w p q (some_fit o.nodes (subst IsBank e b)) in
    subst (λ z. LowShaped z names answers) (sym e) (subst (LowShaped o.nodes names) (sym f) m.has)
merged_lows kinds names t one two old new (Err x) b w e f p q = tt
