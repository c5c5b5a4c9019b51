-- How many choices and how many calls of the machine below a block makes at most.
use Rattle.std.specs.Prelude.{ℕ, ◌+◌, ◌*◌, sum, map}
use Rattle.ygg_syntax.specs.declared.tree.Source.{Source}
use Rattle.ygg_syntax.specs.declared.tree.Source.TheVariants as source
use Rattle.ygg_syntax.specs.declared.tree.Stmt.{Stmt}
use Rattle.ygg_syntax.specs.declared.tree.Block.{Block}
use Rattle.ygg_syntax.specs.declared.tree.Stmt.TheOpen.{Stmt-F, Block-F}
use Rattle.ygg_syntax.specs.declared.tree.Stmt.TheFolds.{fold-Stmt}

-- what a right side counts, where a choice and a call count so much
abbrev pub source_steps : ℕ → ℕ → Source → ℕ
source_steps choice call (source.Value e) = 0
source_steps choice call (source.Choose at) = choice
source_steps choice call (source.Call at f arguments) = call

-- what a statement counts, where the counts of the blocks inside stand in their places
abbrev pub node_steps : ℕ → ℕ → Stmt-F ℕ ℕ → ℕ
node_steps choice call (Stmt-F.Let x s) = source_steps choice call s
node_steps choice call (Stmt-F.Assign x indices s) = source_steps choice call s
node_steps choice call (Stmt-F.If test first second) = first + second
node_steps choice call (Stmt-F.For x w n each) = n.value * each
node_steps choice call (Stmt-F.Call f arguments) = call

-- what a block inside another counts
abbrev pub block_steps : Block-F ℕ ℕ → ℕ
block_steps b = sum b.statements

-- what a statement counts
abbrev pub stmt_steps : ℕ → ℕ → Stmt → ℕ
stmt_steps choice call = fold-Stmt ℕ ℕ (node_steps choice call) block_steps

-- what a block counts: both sides of an `if` count, and a `for` counts its block as often as its bound says
abbrev pub steps_of : ℕ → ℕ → Block → ℕ
steps_of choice call b = sum (map (stmt_steps choice call) b.statements)

-- the choices of a block
abbrev pub choices_of : Block → ℕ
choices_of = steps_of 1 0

-- the calls of the machine below that a block makes
abbrev pub events_of : Block → ℕ
events_of = steps_of 0 1
