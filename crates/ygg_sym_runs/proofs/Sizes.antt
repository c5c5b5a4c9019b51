-- How much of a tree of statements is still to be run: what lies inside a part is smaller.
use Rattle.std.proofs.Common.{◌≡◌, ◌≤◌, ◌<◌, ℕ, zero, suc, ◌+◌, List, [], ◌∷◌, map, length, get_or, sym, ap, ◌∙◌, arith}
use Rattle.ygg_syntax.specs.declared.tree.Block.{Block, fold-Block, fold_out-Block}
use Rattle.ygg_syntax.specs.declared.tree.Expr.{Expr}
use Rattle.ygg_syntax.specs.declared.tree.Name.{Name}
use Rattle.ygg_syntax.specs.declared.tree.Numeral.{Numeral}
use Rattle.ygg_syntax.specs.declared.tree.Stmt.{Stmt}
use Rattle.ygg_syntax.specs.declared.tree.Stmt.TheFolds.{fold-Stmt, fold-roll-Stmt}
use Rattle.ygg_syntax.specs.declared.tree.Stmt.TheOpen.{Stmt-F, Block-F}
use Rattle.ygg_syntax.specs.declared.tree.Stmt.TheVariants as tree
use Rattle.ygg_meaning_laws.specs.Direct.{total}

abbrev stmt_size : Stmt-F ℕ ℕ → ℕ
stmt_size (Stmt-F.Let x s) = 0
stmt_size (Stmt-F.Assign x is s) = 0
stmt_size (Stmt-F.If test first second) = first + second
stmt_size (Stmt-F.For x w n each) = each
stmt_size (Stmt-F.Call f es) = 0

abbrev block_size : Block-F ℕ ℕ → ℕ
block_size b = suc (total b.statements)

abbrev F : Stmt → ℕ
F = fold-Stmt ℕ ℕ stmt_size block_size

abbrev F' : Block → ℕ
F' = fold-Block ℕ ℕ stmt_size block_size

-- how many blocks there are in a statement, in statements, and in a block with itself
pub size : Stmt → ℕ
size t = F t

pub sizes : List Stmt → ℕ
sizes ts = total (map F ts)

pub inside_size : Block → ℕ
inside_size b = suc (total (map F b.statements))

inside_is : (b : Block) → F' b ≡ inside_size b
unfolding inside_size
inside_is b = fold_out-Block ℕ ℕ stmt_size block_size b

pub size_if : (t : Stmt) (test : Expr) (first second : Block) → t ≡ tree.If test first second → size t ≡ inside_size first + inside_size second
unfolding size
size_if t test first second is =
    ap F (is ∙ sym (tree.rolls-If test first second)) ∙ fold-roll-Stmt ℕ ℕ stmt_size block_size (Stmt-F.If test first second)
    ∙ ap (λ p. p + F' second) (inside_is first) ∙ ap (λ p. inside_size first + p) (inside_is second)

pub size_for : (t : Stmt) (x : Name) (w n : Numeral) (each : Block) → t ≡ tree.For x w n each → size t ≡ inside_size each
unfolding size
size_for t x w n each is =
    ap F (is ∙ sym (tree.rolls-For x w n each)) ∙ fold-roll-Stmt ℕ ℕ stmt_size block_size (Stmt-F.For x w n each) ∙ inside_is each

pub size_block : (b : Block) (ts : List Stmt) → ts ≡ b.statements → inside_size b ≡ suc (sizes ts)
unfolding inside_size sizes
size_block b ts is = ap (λ (z : List Stmt). suc (total (map F z))) (sym is)

pub size_item : (all : List Stmt) (i : ℕ) (t d : Stmt) → i < length all → t ≡ get_or all i d → size t ≤ sizes all
unfolding size sizes
size_item [] i t d l e = absurd (omega (arith, l))
size_item (x ∷ all) zero t d l e = let s : F t ≡ F x = ap F e in omega (arith, s)
size_item (x ∷ all) (suc i) t d l e = let r = size_item all i t d (omega (arith, l)) e in omega (arith, r)
