-- How much work a block or an expression may be: each part counts one, what is repeated counts as often, and a definition's
-- expression counts wherever the definition is used.
use Rattle.std.specs.Prelude.{ℕ, ◌+◌, ◌*◌, sum, List, [], ◌∷◌, ◌++◌, map, Option, Some, None, if◌then◌else◌}
use Rattle.std.specs.Str.{bytes_eq}
use Rattle.ygg_syntax.specs.declared.tree.Def.{Def}
use Rattle.ygg_syntax.specs.declared.tree.File.{File}
use Rattle.ygg_syntax.specs.declared.tree.Index.{Index}
use Rattle.ygg_syntax.specs.declared.tree.Expr.{Expr}
use Rattle.ygg_syntax.specs.declared.tree.Expr.TheOpen.{Expr-F}
use Rattle.ygg_syntax.specs.declared.tree.Expr.TheFolds.{fold-Expr}
use Rattle.ygg_syntax.specs.declared.tree.Source.{Source}
use Rattle.ygg_syntax.specs.declared.tree.Source.TheVariants as source
use Rattle.ygg_syntax.specs.declared.tree.Stmt.{Stmt}
use Rattle.ygg_syntax.specs.declared.tree.Block.{Block}
use Rattle.ygg_syntax.specs.declared.tree.Stmt.TheOpen.{Stmt-F, Block-F}
use Rattle.ygg_syntax.specs.declared.tree.Stmt.TheFolds.{fold-Stmt}

-- the names of definitions, each with the weight of its expression
abbrev pub Weights : Type 0
Weights = List (List ℕ × ℕ)

-- the weight of the first definition of a name, or nothing more where there is none
abbrev pub weight_at : Weights → List ℕ → ℕ
weight_at [] name = 0
weight_at (k ∷ ks) name = if bytes_eq k.0 name then k.1 else weight_at ks name

-- the weight of an expression, where the weights of its parts stand in their places
abbrev pub node_weight : Weights → Expr-F ℕ → ℕ
node_weight known (Expr-F.Constant v w) = 1
node_weight known (Expr-F.Low at x) = 1
node_weight known (Expr-F.Variable x) = 1
node_weight known (Expr-F.Apply f arguments) = 1 + sum arguments + weight_at known f.text
node_weight known (Expr-F.Binary first a op at b) = 1 + a + b
node_weight known (Expr-F.Not first a) = 1 + a
node_weight known (Expr-F.At a bracket i) = 1 + a + i
node_weight known (Expr-F.Pick first c a b) = 1 + c + a + b
node_weight known (Expr-F.Resize first a w) = 1 + a
node_weight known (Expr-F.Fill first m a) = 1 + a
node_weight known (Expr-F.Row first parts) = 1 + sum parts
node_weight known (Expr-F.Quantified first which x w n e) = 1 + n.value * (1 + e)

-- the weight of an expression over these definitions
abbrev pub expr_weight : Weights → Expr → ℕ
expr_weight known = fold-Expr ℕ (node_weight known)

-- the weight of expressions
abbrev pub exprs_weight : Weights → List Expr → ℕ
exprs_weight known es = sum (map (expr_weight known) es)

-- these weights and those of further definitions, each over the definitions that stand before it
abbrev pub weights_with : Weights → List Def → Weights
weights_with known [] = known
weights_with known (d ∷ ds) = weights_with (known ++ (d.name.text, expr_weight known d.body) ∷ []) ds

-- the weights of definitions
abbrev pub weights_of : List Def → Weights
weights_of = weights_with []

-- the weight of a right side
abbrev pub source_weight : Weights → Source → ℕ
source_weight known (source.Value e) = expr_weight known e
source_weight known (source.Choose at) = 1
source_weight known (source.Call at f arguments) = 1 + exprs_weight known arguments

-- the weight of the indices of an assignment
abbrev pub indices_weight : Weights → List Index → ℕ
indices_weight known indices = sum (map (λ (i : Index). expr_weight known i.at) indices)

-- the weight of what a block returns
abbrev pub answer_weight : Weights → Option Expr → ℕ
answer_weight known None = 0
answer_weight known (Some e) = 1 + expr_weight known e

-- the weight of a statement, where the weights of the blocks inside stand in their places
abbrev pub node_stmt_weight : Weights → Stmt-F ℕ ℕ → ℕ
node_stmt_weight known (Stmt-F.Let x s) = 1 + source_weight known s
node_stmt_weight known (Stmt-F.Assign x indices s) = 1 + indices_weight known indices + source_weight known s
node_stmt_weight known (Stmt-F.If test first second) = 1 + expr_weight known test + first + second
node_stmt_weight known (Stmt-F.For x w n each) = 1 + n.value * (1 + each)
node_stmt_weight known (Stmt-F.Call f arguments) = 1 + exprs_weight known arguments

-- the weight of a block inside another
abbrev pub node_block_weight : Weights → Block-F ℕ ℕ → ℕ
node_block_weight known b = sum b.statements + answer_weight known b.answer

-- the weight of a statement over these definitions
abbrev pub stmt_weight : Weights → Stmt → ℕ
stmt_weight known = fold-Stmt ℕ ℕ (node_stmt_weight known) (node_block_weight known)

-- the weight of a block over these definitions
abbrev pub block_weight : Weights → Block → ℕ
block_weight known b = sum (map (stmt_weight known) b.statements) + answer_weight known b.answer

-- the weight of a block of a layer of the file
abbrev pub weight_in : File → Block → ℕ
weight_in file = block_weight (weights_of file.defs)
