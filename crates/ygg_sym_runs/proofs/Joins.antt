-- Tests at all numbers below a bound, joined to a digit.
use Rattle.std.proofs.Common.{◌≡◌, ◌<◌, ◌+◌, ℕ, List, [], ◌∷◌, ◌++◌, add-one, append_assoc, sym, ap, ◌∙◌, subst, arith}
use Rattle.std.proofs.lemmas.List.{map-append}
use Rattle.ygg_value.specs.Number.{IsWord}
use Rattle.ygg_value.specs.Words.{word}
use Rattle.ygg_value.specs.declared.operation.Op.{Op}
use Rattle.ygg_syntax.specs.declared.tree.Def.{Def}
use Rattle.ygg_syntax.specs.declared.tree.Name as tree_name
use Rattle.ygg_syntax.specs.declared.tree.Numeral.{Numeral}
use Rattle.ygg_syntax.specs.declared.tree.Quantifier.{Quantifier}
use Rattle.ygg_syntax.specs.declared.tree.Quantifier.TheVariants as quantifier
use Rattle.ygg_syntax.specs.declared.tree.Expr.{Expr}
use Rattle.ygg_syntax.specs.declared.tree.Expr.TheVariants as tree
use Rattle.ygg_eval_expr.specs.ygg_meaning_laws.Environments.{Name}
use Rattle.ygg_shape.specs.ygg_rules.declared.rule.RuleKind.{RuleKind}
use Rattle.ygg_shape.specs.ygg_bank_proofs_Widths.{width_is}
use Rattle.ygg_shape.specs.ygg_bank.Makes.{Make}
use Rattle.ygg_shape.specs.ygg_bank.Making.{made}
use Rattle.ygg_shape.specs.ygg_bank.Nodes.{widths_of, node_width, HasWidth, IsBank, Extends}
use Rattle.ygg_shape.specs.ygg_bank.declared.node.Id.{Id}
use Rattle.ygg_shape.specs.ygg_bank.declared.node.Node.{Node}
use Rattle.ygg_shape.specs.ygg_bank.declared.node.Node.TheVariants as node
use Rattle.ygg_shape.specs.ygg_shape_cells.declared.terms.SymValue.{SymValue}
use Rattle.ygg_sym_runs.specs.Names.{SymEnv}
use Rattle.ygg_sym_runs.specs.Exprs.{id_in, joined}
use Rattle.ygg_sym_runs.specs.Seen.{SymKnown, CanQuantify, env_of, joining, start_of, test_at}
use Rattle.ygg_sym_runs.specs.declared.held.SymBinding.{SymBinding}
use Rattle.ygg_sym_runs.proofs.Arms.{seeing}
use Rattle.ygg_sym_runs.proofs.Ready.{with_term, test_wide}
use Rattle.ygg_sym_runs.proofs.Terms.{can_later}

-- what the tests of no numbers are is a digit
pub start_word : (which : Quantifier) → IsWord (word 1 (start_of which))
start_word quantifier.All = record { least = omega arith; most = omega arith; fits = omega arith }
start_word quantifier.Any = record { least = omega arith; most = omega arith; fits = omega arith }

-- among more nodes
pub quantify_later : (k : SymKnown) (old new : List Node) (which : Quantifier) (x : tree_name.Name) (w n : Numeral) (e : Expr) → Extends old new →
    CanQuantify k old which x w n e → CanQuantify k new which x w n e
quantify_later k old new which x w n e g can = record {
  first = can.first;
  can = can_later k old new (tree.Quantified can.first which x w n e) g can.can;
}

-- a test is a digit
pub tested_wide : (kinds : List RuleKind) (k : SymKnown) (which : Quantifier) (x : tree_name.Name) (w n : Numeral) (e : Expr) (i : ℕ) (old mid : List Node)
    (test : SymValue) → IsBank old → CanQuantify k old which x w n e → i < n.value → mid ≡ (test_at kinds k x w e i old).nodes →
    test ≡ (test_at kinds k x w e i old).value → IsBank mid → HasWidth mid (id_in test) 1
tested_wide kinds k which x w n e i old mid test bank can l nodes value there =
    let o = test_at kinds k x w e i old in
    subst (λ z. HasWidth z (id_in test) 1) (sym nodes)
    (subst (λ z. HasWidth o.nodes (id_in z) 1) (sym value)
    (test_wide kinds k can.first which x w n e i old bank can.can l (subst IsBank nodes there)))

-- one more test
pub joined_more : (kinds : List RuleKind) (which : Quantifier) (test : ℕ → Make SymValue) (old now mid : List Node) (i : ℕ) (all : Id) (t : SymValue) (o : Op)
    (b : Id) → now ≡ (joined kinds (joining which) (start_of which) i test old).nodes → all ≡ (joined kinds (joining which) (start_of which) i test old).value →
    o ≡ joining which → mid ≡ (test i now).nodes → t ≡ (test i now).value → b ≡ id_in t →
    made kinds (node.Bin o all b) mid ≡ joined kinds (joining which) (start_of which) (i + 1) test old
joined_more kinds which test old now mid i all t o b nodes value joins mid_is t_is b_is =
    let before = joined kinds (joining which) (start_of which) i test old in
    let second = b_is ∙ ap id_in t_is ∙ ap (λ z. id_in (test i z).value) nodes in
    let there = mid_is ∙ ap (λ z. (test i z).nodes) nodes in
    let id_there = id_in (test i before.nodes).value in
    ap (λ z. made kinds (node.Bin z all b) mid) joins
    ∙ ap (λ z. made kinds (node.Bin (joining which) z b) mid) value
    ∙ ap (λ z. made kinds (node.Bin (joining which) before.value z) mid) second
    ∙ ap (made kinds (node.Bin (joining which) before.value id_there)) there
    ∙ ap (λ z. joined kinds (joining which) (start_of which) z test old) (sym (add-one i))

-- two digits that are joined are a digit
pub digit_made : (which : Quantifier) (mid new : List Node) (o : Op) (all b answer : Id) → o ≡ joining which → HasWidth mid all 1 →
    HasWidth new answer (node_width (widths_of mid) (node.Bin o all b)) → HasWidth new answer 1
digit_made which mid new o all b answer joins wide made_wide =
    subst (HasWidth new answer) (ap (λ z. node_width (widths_of mid) (node.Bin z all b)) joins ∙ plain which) made_wide
  where
    plain : (which : Quantifier) → node_width (widths_of mid) (node.Bin (joining which) all b) ≡ 1
    plain quantifier.All = width_is mid all 1 wide
    plain quantifier.Any = width_is mid all 1 wide

-- with one more number
pub grown_seen : (kinds : List RuleKind) (defs : List Def) (own low : SymEnv) (before copy pushed now : List SymBinding) (b : SymBinding) (name called : Name)
    (y : SymValue) → b.name.now ≡ called → b.value ≡ y → env_of copy ≡ env_of before → pushed ≡ copy ++ b ∷ [] → now ≡ pushed → called ≡ name →
    seeing defs (own ++ env_of now) low ≡ with_term kinds (seeing defs (own ++ env_of before) low) name y
grown_seen kinds defs own low before copy pushed now b name called y named valued same push is text =
    let pair : Name → SymValue → (Name × SymValue) = λ n v. (n, v) in
    let here : pair b.name.now b.value ≡ pair name y = ap (λ n. pair n b.value) (named ∙ text) ∙ ap (pair name) valued in
    let all : env_of now ≡ env_of before ++ pair name y ∷ [] = ap env_of (is ∙ push)
    ∙ map-append (λ (x : SymBinding). pair x.name.now x.value) copy (b ∷ []) ∙ ap (λ z. z ++ pair b.name.now b.value ∷ []) same
    ∙ ap (λ z. env_of before ++ z ∷ []) here in
    ap (λ z. seeing defs z low) (ap (λ z. own ++ z) all ∙ sym (append_assoc own (env_of before) (pair name y ∷ [])))
