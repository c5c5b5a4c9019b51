-- How many places the statements of a block have as they are run over terms: as many as the block has.
use Rattle.std.proofs.Common.{◌≡◌, ℕ, ◌+◌, ◌*◌, List, [], ◌∷◌, map, refl, sym, ap, ◌∙◌, subst}
use Rattle.ygg_syntax.specs.declared.tree.Stmt.{Stmt, map-Stmt}
use Rattle.ygg_syntax.specs.declared.tree.Block.{Block, map-Block, fold-Block}
use Rattle.ygg_syntax.specs.declared.tree.Stmt.TheOpen.{Stmt-F, Block-F}
use Rattle.ygg_syntax.specs.declared.tree.Stmt.TheFolds.{fold-Stmt, ind-Stmt, fold-roll-Stmt, fold-roll-Block}
use Rattle.ygg_sym_machine.specs.ygg_rules.declared.rule.RuleKind.{RuleKind}
use Rattle.ygg_sym_machine.specs.ygg_meaning_laws.Direct.{total, stmt_room, block_room, room_of}
use Rattle.ygg_sym_machine.specs.ygg_sym_runs.Exprs.{SymFunctions}
use Rattle.ygg_sym_machine.specs.ygg_sym_runs.Runs.{SymRun, SymMachine, sym_stmt, sym_block, sym_of}

module _ {S : Type 0} (kinds : List RuleKind) (terms : SymFunctions) (M : SymMachine S) where
  abbrev R : Stmt → SymRun S
  R = sym_of kinds terms M

  abbrev R' : Block → SymRun S
  R' = fold-Block (SymRun S) (SymRun S) (sym_stmt kinds terms M) (sym_block kinds terms M)

  abbrev N : Stmt → ℕ
  N = fold-Stmt ℕ ℕ (stmt_room M.space) (block_room M.space)

  abbrev N' : Block → ℕ
  N' = fold-Block ℕ ℕ (stmt_room M.space) (block_room M.space)

  abbrev St : Type 0
  St = (s : Stmt) × ((R s).room ≡ N s)

  abbrev Bl : Type 0
  Bl = (b : Block) × ((R' b).room ≡ N' b)

  abbrev bare : Stmt-F St Bl → Stmt-F Stmt Block
  bare = map-Stmt St Bl Stmt Block (λ e. e.0) (λ e. e.0)

  abbrev bare' : Block-F St Bl → Block-F Stmt Block
  bare' = map-Block St Bl Stmt Block (λ e. e.0) (λ e. e.0)

  abbrev heads : List St → List Stmt
  heads = map (λ e. e.0)

  order_room : (ss : List St) → total (map (λ r. r.room) (map R (heads ss))) ≡ total (map N (heads ss))
  order_room [] = refl
  order_room (s ∷ ss) = ap (λ n. n + total (map (λ r. r.room) (map R (heads ss)))) s.1 ∙ ap (λ n. N s.0 + n) (order_room ss)

  stmt_case : (y : Stmt-F St Bl) →
      (sym_stmt kinds terms M (map-Stmt Stmt Block (SymRun S) (SymRun S) R R' (bare y))).room ≡ stmt_room M.space (map-Stmt Stmt Block ℕ ℕ N N' (bare y))
  stmt_case (Stmt-F.Let x s) = refl
  stmt_case (Stmt-F.Assign x at s) = refl
  stmt_case (Stmt-F.If test a b) = ap (λ n. n + (R' b.0).room) a.1 ∙ ap (λ n. N' a.0 + n) b.1
  stmt_case (Stmt-F.For x w n each) = ap (λ m. n.value * m) each.1
  stmt_case (Stmt-F.Call f es) = refl

  all_roomy : (s : Stmt) → (R s).room ≡ N s
  all_roomy =
      ind-Stmt (λ s. (R s).room ≡ N s) (λ b. (R' b).room ≡ N' b)
      (λ x y is.
      ap (λ (r : SymRun S). r.room) (fold-roll-Stmt (SymRun S) (SymRun S) (sym_stmt kinds terms M) (sym_block kinds terms M) x)
      ∙ subst (λ z. (sym_stmt kinds terms M (map-Stmt Stmt Block (SymRun S) (SymRun S) R R' z)).room
      ≡ stmt_room M.space (map-Stmt Stmt Block ℕ ℕ N N' z)) is (stmt_case y)
      ∙ sym (fold-roll-Stmt ℕ ℕ (stmt_room M.space) (block_room M.space) x))
      (λ x y is.
      ap (λ (r : SymRun S). r.room) (fold-roll-Block (SymRun S) (SymRun S) (sym_stmt kinds terms M) (sym_block kinds terms M) x)
      ∙ subst (λ z. (sym_block kinds terms M (map-Block Stmt Block (SymRun S) (SymRun S) R R' z)).room
      ≡ block_room M.space (map-Block Stmt Block ℕ ℕ N N' z)) is (order_room y.statements)
      ∙ sym (fold-roll-Block ℕ ℕ (stmt_room M.space) (block_room M.space) x))

  order_rooms : (ss : List Stmt) → total (map (λ r. r.room) (map R ss)) ≡ total (map N ss)
  order_rooms [] = refl
  order_rooms (s ∷ ss) = ap (λ n. n + total (map (λ r. r.room) (map R ss))) (all_roomy s) ∙ ap (λ n. N s + n) (order_rooms ss)

  -- the statements of a block
  pub rooms_are : (b : Block) → total (map (λ r. r.room) (map R b.statements)) ≡ room_of M.space b
  rooms_are b = order_rooms b.statements
