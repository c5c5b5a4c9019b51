-- How many places statements have, laid open by one layer.
use Rattle.std.proofs.Common.{◌≡◌, ◌≤◌, ◌<◌, ◌^◌, ℕ, ◌+◌, ◌*◌, List, map, length, drop, get_or, Option, Some, None, ◌⊎◌, inl, inr, sym, ap, ◌∙◌, subst, arith}
use Rattle.std.specs.Prelude.{SomeIff}
use Rattle.std.proofs.lemmas.Bool.{cases_lt}
use Rattle.std.proofs.lemmas.List.{drop_more, drop_all}
use Rattle.ygg_syntax.specs.declared.tree.Block.{Block, fold-Block, fold_out-Block}
use Rattle.ygg_syntax.specs.declared.tree.Expr.{Expr}
use Rattle.ygg_syntax.specs.declared.tree.Index.{Index}
use Rattle.ygg_syntax.specs.declared.tree.Name.{Name as TreeName}
use Rattle.ygg_syntax.specs.declared.tree.Numeral.{Numeral}
use Rattle.ygg_syntax.specs.declared.tree.Source.{Source}
use Rattle.ygg_syntax.specs.declared.tree.Stmt.{Stmt}
use Rattle.ygg_syntax.specs.declared.tree.Stmt.TheFolds.{fold-Stmt, fold-roll-Stmt}
use Rattle.ygg_syntax.specs.declared.tree.Stmt.TheOpen.{Stmt-F}
use Rattle.ygg_syntax.specs.declared.tree.Stmt.TheVariants as tree
use Rattle.ygg_meaning_laws.specs.ygg_meaning.Environments.{Name}
use Rattle.ygg_meaning_laws.specs.Direct.{total, source_space, stmt_room, block_room, room_of}
use Rattle.ygg_sym_runs.specs.Lower.{Counts}

module _ (space : Name → ℕ) where
  -- the places of a statement
  abbrev pub places : Stmt → ℕ
  places = fold-Stmt ℕ ℕ (stmt_room space) (block_room space)

  abbrev F' : Block → ℕ
  F' = fold-Block ℕ ℕ (stmt_room space) (block_room space)

  inside_is : (b : Block) → F' b ≡ room_of space b
  inside_is b = fold_out-Block ℕ ℕ (stmt_room space) (block_room space) b

  pub places_let : (t : Stmt) (x : TreeName) (s : Source) → t ≡ tree.Let x s → places t ≡ source_space space s
  places_let t x s is = ap places (is ∙ sym (tree.rolls-Let x s)) ∙ fold-roll-Stmt ℕ ℕ (stmt_room space) (block_room space) (Stmt-F.Let x s)

  pub places_assign : (t : Stmt) (x : TreeName) (is : List Index) (s : Source) → t ≡ tree.Assign x is s → places t ≡ source_space space s
  places_assign t x js s is =
      ap places (is ∙ sym (tree.rolls-Assign x js s)) ∙ fold-roll-Stmt ℕ ℕ (stmt_room space) (block_room space) (Stmt-F.Assign x js s)

  pub places_if : (t : Stmt) (test : Expr) (first second : Block) → t ≡ tree.If test first second → places t ≡ room_of space first + room_of space second
  places_if t test first second is =
      ap places (is ∙ sym (tree.rolls-If test first second)) ∙ fold-roll-Stmt ℕ ℕ (stmt_room space) (block_room space) (Stmt-F.If test first second)
      ∙ ap (λ p. p + F' second) (inside_is first) ∙ ap (λ p. room_of space first + p) (inside_is second)

  pub places_for : (t : Stmt) (x : TreeName) (w n : Numeral) (each : Block) → t ≡ tree.For x w n each → places t ≡ n.value * room_of space each
  places_for t x w n each is =
      ap places (is ∙ sym (tree.rolls-For x w n each)) ∙ fold-roll-Stmt ℕ ℕ (stmt_room space) (block_room space) (Stmt-F.For x w n each)
      ∙ ap (λ p. n.value * p) (inside_is each)

  pub places_call : (t : Stmt) (f : TreeName) (es : List Expr) → t ≡ tree.Call f es → places t ≡ space f.text
  places_call t f es is = ap places (is ∙ sym (tree.rolls-Call f es)) ∙ fold-roll-Stmt ℕ ℕ (stmt_room space) (block_room space) (Stmt-F.Call f es)

  -- the places of some statements and of the rest
  pub rest_places : (all : List Stmt) (i : ℕ) (t d : Stmt) → i < length all → t ≡ get_or all i d →
      total (map places (drop i all)) ≡ places t + total (map places (drop (i + 1) all))
  rest_places all i t d l e = ap (λ z. total (map places z)) (drop_more all i d l) ∙ ap (λ z. places z + total (map places (drop (i + 1) all))) (sym e)

  pub no_places : (all : List Stmt) (i : ℕ) → length all ≤ i → total (map places (drop i all)) ≡ 0
  no_places all i l = ap (λ z. total (map places z)) (drop_all i all l)

swapped : (m n : ℕ) → m * n ≡ n * m
swapped m n = omega arith

too_much : (p q : ℕ) → p ≡ q → (p < 2 ^ 64 → ⊥) → 2 ^ 64 ≤ q
too_much p q e h = go (cases_lt p (2 ^ 64)) where
  go : (p < 2 ^ 64) ⊎ (2 ^ 64 ≤ p) → 2 ^ 64 ≤ q
  go (inl l) = absurd (h l)
  go (inr l) = subst (λ k. 2 ^ 64 ≤ k) e l

-- a product of a count
pub counts_product : (r : Option ℕ) (a n m : ℕ) → SomeIff r (a * n < 2 ^ 64) (a * n) → a ≡ m → Counts (n * m) r
counts_product (Some k) a n m h e = h.1 ∙ ap (λ z. z * n) e ∙ swapped m n
counts_product None a n m h e = too_much (a * n) (n * m) (ap (λ z. z * n) e ∙ swapped m n) h

-- a count of what is as much
pub counts_as : (m n : ℕ) (r : Option ℕ) → m ≡ n → Counts m r → Counts n r
counts_as m n r e h = subst (λ k. Counts k r) e h

-- a count that is 2^64 or more is none
pub counts_none : (n : ℕ) (r : Option ℕ) → r ≡ None → 2 ^ 64 ≤ n → Counts n r
counts_none n r none l = subst (Counts n) (sym none) l
