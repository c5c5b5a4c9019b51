-- What a part of a block does that is run by place.
use Rattle.std.specs.Prelude.{◌≡◌, ◌+◌, ◌*◌, ℕ, List, [], ◌∷◌, ◌++◌, map}
use Rattle.ygg_value.specs.Words.{word}
use Rattle.ygg_value.specs.declared.row.Value.TheVariants.{Word}
use Rattle.ygg_syntax.specs.declared.tree.Block.{Block}
use Rattle.ygg_syntax.specs.declared.tree.File.{File}
use Rattle.ygg_syntax.specs.declared.tree.Name.{Name}
use Rattle.ygg_syntax.specs.declared.tree.Numeral.{Numeral}
use Rattle.ygg_syntax.specs.declared.tree.Stmt.{Stmt}
use Rattle.ygg_meaning_laws.specs.ygg_meaning.Environments.{Env}
use Rattle.ygg_meaning_laws.specs.Direct.{Direct, Reached, total, forgets, times, in_order, direct_of}
use Rattle.ygg_eval.specs.Ready.{eval_in}
use Rattle.ygg_eval_places.specs.Machines.{PlaceMeaning}

-- what a part of a run that began at a place with these names and this state ends with: what it is defined to
pub record Ended {Z : Type 0} (d : Direct Z) (from : ℕ) (env : Env) (s : Z) (end : ℕ) (env' : Env) (s' : Z) : Type 0 where
  pub place : end ≡ from + d.room
  pub names : env' ≡ (d.run from env s).env
  pub state : s' ≡ (d.run from env s).to

module _ {S : Type 0} (M : PlaceMeaning S) (file : File) where
  -- a statement
  abbrev pub stmt_part : Stmt → Direct M.Is
  stmt_part = direct_of (eval_in file) M.space M.handle

  -- how many places some statements have
  abbrev pub parts_room : List Stmt → ℕ
  parts_room ts = total (map (λ d. d.room) (map stmt_part ts))

  -- statements one after another
  abbrev pub order_part : List Stmt → Direct M.Is
  order_part ts = record { room = parts_room ts; run = in_order (map stmt_part ts) }

  -- a block inside another, whose own names are forgotten
  abbrev pub inside_part : Block → Direct M.Is
  inside_part b = record { room = parts_room b.statements; run = λ i env s. forgets env (in_order (map stmt_part b.statements) i env s) }

  -- the block of a loop for a number
  abbrev pub turn_part : Name → Numeral → Block → ℕ → ℕ → Env → M.Is → Reached M.Is
  turn_part x w each k i env s = forgets env ((inside_part each).run i (env ++ (x.text, Word (word w.value k)) ∷ []) s)

  -- the block of a loop for each number
  abbrev pub turns_part : Name → Numeral → Numeral → Block → Direct M.Is
  turns_part x w n each = record { room = n.value * (inside_part each).room; run = times n.value 0 (inside_part each).room (turn_part x w each) }
