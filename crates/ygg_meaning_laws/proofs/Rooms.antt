-- How many places there are.
use Rattle.std.proofs.Common.{◌≡◌, ℕ, ◌+◌, ◌*◌, List, [], ◌∷◌, map, refl, sym, ap, ◌∙◌, subst, arith}
use Rattle.ygg_syntax.specs.declared.tree.Stmt.{Stmt, roll-Stmt, map-Stmt}
use Rattle.ygg_syntax.specs.declared.tree.Block.{Block, roll-Block, map-Block, fold-Block}
use Rattle.ygg_syntax.specs.declared.tree.Stmt.TheOpen.{Stmt-F, Block-F}
use Rattle.ygg_syntax.specs.declared.tree.Stmt.TheFolds.{fold-Stmt, ind-Stmt, fold-roll-Stmt, fold-roll-Block}
use Rattle.ygg_meaning_laws.specs.Environments.{Name}
use Rattle.ygg_meaning_laws.specs.Progress.{Eval, Question}
use Rattle.ygg_meaning_laws.specs.Direct.{Handled, Direct, total, stmt_room, block_room, room_of, stmt_direct, block_direct, direct_of}

module _ (space : Name → ℕ) where
  abbrev N : Stmt → ℕ
  N = fold-Stmt ℕ ℕ (stmt_room space) (block_room space)

  abbrev N' : Block → ℕ
  N' = fold-Block ℕ ℕ (stmt_room space) (block_room space)

  module _ {S : Type 0} (eval : Eval) (handle : ℕ → Question → S → Handled S) where
    abbrev D : Stmt → Direct S
    D = direct_of eval space handle

    abbrev step : Stmt-F (Direct S) (Direct S) → Direct S
    step = stmt_direct eval space handle

    abbrev step' : Block-F (Direct S) (Direct S) → Direct S
    step' = block_direct eval space handle

    abbrev D' : Block → Direct S
    D' = fold-Block (Direct S) (Direct S) step step'

    abbrev St : Type 0
    St = (s : Stmt) × ((D s).room ≡ N s)

    abbrev Bl : Type 0
    Bl = (b : Block) × ((D' b).room ≡ N' b)

    stmt_case : (y : Stmt-F St Bl) →
        (step (map-Stmt Stmt Block (Direct S) (Direct S) D D' (map-Stmt St Bl Stmt Block (λ e. e.0) (λ e. e.0) y))).room
        ≡ stmt_room space (map-Stmt Stmt Block ℕ ℕ N N' (map-Stmt St Bl Stmt Block (λ e. e.0) (λ e. e.0) y))
    stmt_case (Stmt-F.Let x s) = refl
    stmt_case (Stmt-F.Assign x is s) = refl
    stmt_case (Stmt-F.If test first second) = ap (λ n. n + (D' second.0).room) first.1 ∙ ap (λ n. N' first.0 + n) second.1
    stmt_case (Stmt-F.For x w n each) = ap (λ m. n.value * m) each.1
    stmt_case (Stmt-F.Call f es) = refl

    rooms : (ss : List St) → total (map (λ d. d.room) (map D (map (λ e. e.0) ss))) ≡ total (map N (map (λ e. e.0) ss))
    rooms [] = refl
    rooms (s ∷ ss) = ap (λ n. n + total (map (λ d. d.room) (map D (map (λ e. e.0) ss)))) s.1 ∙ ap (λ n. N s.0 + n) (rooms ss)

    block_case : (y : Block-F St Bl) →
        (step' (map-Block Stmt Block (Direct S) (Direct S) D D' (map-Block St Bl Stmt Block (λ e. e.0) (λ e. e.0) y))).room
        ≡ block_room space (map-Block Stmt Block ℕ ℕ N N' (map-Block St Bl Stmt Block (λ e. e.0) (λ e. e.0) y))
    block_case y = rooms y.statements

    all_rooms : (s : Stmt) → (D s).room ≡ N s
    all_rooms =
        ind-Stmt (λ s. (D s).room ≡ N s) (λ b. (D' b).room ≡ N' b)
        (λ x y is. subst (λ d. d.room ≡ N (roll-Stmt x)) (sym (fold-roll-Stmt (Direct S) (Direct S) step step' x))
        (subst (λ n. (step (map-Stmt Stmt Block (Direct S) (Direct S) D D' x)).room ≡ n) (sym (fold-roll-Stmt ℕ ℕ (stmt_room space) (block_room space) x))
        (subst (λ z. (step (map-Stmt Stmt Block (Direct S) (Direct S) D D' z)).room ≡ stmt_room space (map-Stmt Stmt Block ℕ ℕ N N' z)) is (stmt_case y))))
        (λ x y is. subst (λ d. d.room ≡ N' (roll-Block x)) (sym (fold-roll-Block (Direct S) (Direct S) step step' x))
        (subst (λ n. (step' (map-Block Stmt Block (Direct S) (Direct S) D D' x)).room ≡ n) (sym (fold-roll-Block ℕ ℕ (stmt_room space) (block_room space) x))
        (subst (λ z. (step' (map-Block Stmt Block (Direct S) (Direct S) D D' z)).room ≡ block_room space (map-Block Stmt Block ℕ ℕ N N' z)) is (block_case y))))

    statements_room : (ss : List Stmt) → total (map (λ d. d.room) (map D ss)) ≡ total (map N ss)
    statements_room [] = refl
    statements_room (s ∷ ss) = ap (λ n. n + total (map (λ d. d.room) (map D ss))) (all_rooms s) ∙ ap (λ n. N s + n) (statements_room ss)

  -- a direct run has as many places as the block
  pub room_is : {S : Type 0} (eval : Eval) (handle : ℕ → Question → S → Handled S) (b : Block) →
      0 + total (map (λ d. d.room) (map (direct_of eval space handle) b.statements)) ≡ room_of space b
  room_is eval handle b = let h = statements_room eval handle b.statements in omega (arith, h)
