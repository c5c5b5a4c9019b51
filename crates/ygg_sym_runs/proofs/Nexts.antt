-- What lets the next part of a run be run.
use Rattle.std.proofs.Common.{◌≡◌, ◌<◌, ◌+◌, ℕ, List, [], None, length, drop, get_or, sym, subst}
use Rattle.ygg_syntax.specs.declared.tree.Block.{Block}
use Rattle.ygg_syntax.specs.declared.tree.Def.{Def}
use Rattle.ygg_syntax.specs.declared.tree.Expr.{Expr}
use Rattle.ygg_syntax.specs.declared.tree.Stmt.{Stmt}
use Rattle.ygg_syntax.specs.declared.tree.Stmt.TheVariants as tree
use Rattle.ygg_meaning_laws.specs.ygg_type_rules.Statements.{block_errors}
use Rattle.ygg_meaning_laws.specs.Kinds.{keeps}
use Rattle.ygg_sym_runs.specs.ygg_bank_proofs_Widths.{extends_both}
use Rattle.ygg_sym_runs.specs.ygg_bank.Nodes.{Extends}
use Rattle.ygg_sym_runs.specs.ygg_bank.declared.node.Node.{Node}
use Rattle.ygg_sym_runs.specs.Names.{SymEnv}
use Rattle.ygg_sym_runs.specs.Lower.{SymMeaning, IsLower, KeepsSingle}
use Rattle.ygg_sym_runs.specs.Ready.{CanStep, CanRun, CanEnter, Ended}
use Rattle.ygg_sym_runs.specs.Runs.{SymRun}
use Rattle.ygg_sym_runs.proofs.Going.{rest_is}
use Rattle.ygg_sym_runs.proofs.Sides.{step_if, choose_first, choose_second}
use Rattle.ygg_sym_runs.proofs.Walking.{do_later, first_runs}
use Rattle.ygg_sym_runs.proofs.Zeros.{single_both}

-- the next statement
pub next_can : {S : Type 0} (M : SymMeaning S) (law : IsLower M) (defs : List Def) (all : List Stmt) (i : ℕ) (t d : Stmt) (nodes : List Node)
    (env : SymEnv) (s : S) →
    i < length all → t ≡ get_or all i d → CanRun M defs (drop i all) nodes env s → CanStep M defs t nodes env s
next_can M law defs all i t d nodes env s less is can =
    first_runs M law [] defs t (drop (i + 1) all) nodes env s
    (subst (λ (ss : List Stmt). CanRun M defs ss nodes env s) (rest_is all i t d less is) can)

-- the first side of an `if`
pub first_can : {S : Type 0} (M : SymMeaning S) (law : IsLower M) (defs : List Def) (t : Stmt) (test : Expr) (first second : Block)
    (old new : List Node) (env : SymEnv) (s : S) → t ≡ tree.If test first second → CanStep M defs t old env s → Extends old new →
    KeepsSingle old new → CanEnter M defs first new env s
first_can M law defs t test first second old new env s is can g k =
    do_later M law [] defs (block_errors first None) (λ kind. keeps kind first) old new env s g k
    (choose_first M law [] defs test first second old env s (step_if M law [] defs t test first second old env s is can))

-- the second, after the first, from the names and the state that there were before it
pub second_can : {S : Type 0} (M : SymMeaning S) (law : IsLower M) (defs : List Def) (t : Stmt) (test : Expr) (first second : Block) (old mid new : List Node)
    (env one copied : SymEnv) (s to copy : S) (r : SymRun S) (i end : ℕ) → t ≡ tree.If test first second → CanStep M defs t old env s → Extends old mid →
    KeepsSingle old mid → Extends mid new → Ended r i env s mid end one to new → copied ≡ env → copy ≡ s → CanEnter M defs second new copied copy
second_can M law defs t test first second old mid new env one copied s to copy r i end is can g k h ran same also =
    subst (λ (z : SymEnv). CanEnter M defs second new z copy) (sym same)
    (subst (λ z. CanEnter M defs second new env z) (sym also)
    (do_later M law [] defs (block_errors second None) (λ kind. keeps kind second) old new env s (extends_both old mid new g h)
    (single_both old mid new k ran.single)
    (choose_second M law [] defs test first second old env s (step_if M law [] defs t test first second old env s is can))))
