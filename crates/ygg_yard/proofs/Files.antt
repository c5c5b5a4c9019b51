-- The file that is made derives from the tokens of its marks.
use Rattle.std.proofs.Common.{◌≡◌, ℕ, zero, suc, false, List, [], ◌∷◌, ◌++◌, map, codes, Some, refl, ap, ◌∙◌, append_assoc}
use Rattle.std.proofs.lemmas.List.{map-append}
use Rattle.ygg_base.specs.declared.token.Keyword.TheVariants as word
use Rattle.ygg_base.specs.declared.token.Symbol.TheVariants as sign
use Rattle.ygg_base.specs.declared.token.Keyword.{Keyword}
use Rattle.ygg_base.specs.declared.token.Mark.TheVariants as mark
use Rattle.ygg_base.specs.declared.token.Token.{Token}
use Rattle.ygg_syntax.specs.declared.grammar.BlockKind.TheVariants.{Plain, Impl}
use Rattle.ygg_value.specs.declared.operation.Op.TheVariants as op
use Rattle.ygg_syntax.specs.declared.tree.Place.{Place}
use Rattle.ygg_syntax.specs.declared.tree.Expr.TheVariants as expr
use Rattle.ygg_syntax.specs.Reading.{Reading, starts, same_mark, in_turn}
use Rattle.ygg_syntax.specs.Files.{operation, whole_file}
use Rattle.ygg_read.proofs.ExpressionPhrases.{reads_binary, reads_low, reads_variable}
use Rattle.ygg_read.proofs.Phrases.{reads_unwritten}
use Rattle.ygg_read.proofs.Files.{reads_no_crash_block}
use Rattle.ygg_yard.specs.Trees.{Places, name_at, unwritten, operation_made, operations_made, file_made}
use Rattle.ygg_yard.specs.Marks.{head_marks, operation_marks, operations_marks, tail_marks, made_marks}
use Rattle.ygg_yard.proofs.Standing.{stand, behind, stand_append}
use Rattle.ygg_yard.proofs.ReadOperations.{passed, took, opened, reads_operation}

-- where the operation of a number stands behind those before it
abbrev pub operation_at : (ℕ → Place) → ℕ → ℕ → Place
operation_at at number = behind (operations_marks number) at

-- the operations, and what comes after them
stood : (at : ℕ → Place) (number : ℕ) (rest : List Token) →
    stand at (operations_marks (suc number)) ++ rest
    ≡ stand at (operations_marks number) ++ (stand (operation_at at number) (operation_marks number) ++ rest)
stood at number rest =
    ap (λ (ts : List Token). ts ++ rest) (stand_append at (operations_marks number) (operation_marks number))
    ∙ append_assoc (stand at (operations_marks number)) (stand (operation_at at number) (operation_marks number)) rest

reads_operations : (at : ℕ → Place) (count : ℕ) (rest : List Token) (qs : List Reading) →
    in_turn (map operation (operations_made (operation_at at) count) ++ qs) (stand at (operations_marks count) ++ rest) ≡ in_turn qs rest
reads_operations at zero rest qs = refl
reads_operations at (suc number) rest qs =
    let before = operations_made (operation_at at) number in
    let this = operation_made (operation_at at number) number in
    ap (λ (rs : List Reading). in_turn (rs ++ qs) (stand at (operations_marks (suc number)) ++ rest)) (map-append operation before (this ∷ []))
    ∙ ap (λ (rs : List Reading). in_turn rs (stand at (operations_marks (suc number)) ++ rest)) (append_assoc (map operation before) (operation this ∷ []) qs)
    ∙ ap (in_turn (map operation before ++ (operation this ∷ qs))) (stood at number rest)
    ∙ reads_operations at number (stand (operation_at at number) (operation_marks number) ++ rest) (operation this ∷ qs)
    ∙ reads_operation (operation_at at number) number rest qs

-- what neither an operation nor what comes after them begins with
module _ (k : Keyword) (first : same_mark (mark.Keyword k) (mark.Keyword word.Op) ≡ false) where
  not_next : (at : ℕ → Place) (count : ℕ) (rest : List Token) → starts (mark.Keyword k) rest ≡ false →
      starts (mark.Keyword k) (stand at (operations_marks count) ++ rest) ≡ false
  not_next at zero rest h = h
  not_next at (suc number) rest h =
      ap (starts (mark.Keyword k)) (stood at number rest)
      ∙ not_next at number (stand (operation_at at number) (operation_marks number) ++ rest) first

module _ (head : ℕ → Place) (count : ℕ) where
  abbrev middle : ℕ → Place
  middle = behind (head_marks count) head

  abbrev last : ℕ → Place
  last = behind (operations_marks count) middle

  -- where its tokens stand, which stand one behind the other
  abbrev pub places : Places
  places = record { head = head; operation = operation_at middle; tail = last }

  abbrev operations : List Token
  operations = stand middle (operations_marks count)

  abbrev tail : List Token
  tail = stand last tail_marks

  tokens_are : stand head (made_marks count) ≡ stand head (head_marks count) ++ (operations ++ tail)
  tokens_are = stand_append head (head_marks count) (operations_marks count ++ tail_marks)
      ∙ ap (λ (ts : List Token). stand head (head_marks count) ++ ts) (stand_append middle (operations_marks count) tail_marks)

  no_start : starts (mark.Keyword word.Start) (operations ++ tail) ≡ false
  no_start = not_next word.Start refl middle count tail refl

  no_memory : starts (mark.Keyword word.Format) (operations ++ tail) ≡ false
  no_memory = not_next word.Format refl middle count tail refl

  whole : whole_file (file_made places count) (stand head (head_marks count) ++ (operations ++ tail)) ≡ in_turn [] []
  whole =
      passed (mark.Keyword word.Yggdrasil) (head 0) _ _ ∙ passed (mark.Num 1) (head 1) _ _ ∙ passed (mark.Symbol sign.Semicolon) (head 2) _ _
      ∙ opened _ _ _ ∙ passed (mark.Keyword word.Disk) (head 3) _ _ ∙ passed (mark.Keyword word.Sync) (head 4) _ _ ∙ took (mark.Num count) (head 5) _ _
      ∙ passed (mark.Keyword word.Of) (head 6) _ _ ∙ took (mark.Num 1) (head 7) _ _
      ∙ passed (mark.Keyword word.Of) (head 8) _ _ ∙ took (mark.Num 8) (head 9) _ _
      ∙ passed (mark.Symbol sign.Semicolon) (head 10) _ _
      ∙ opened _ _ _ ∙ opened _ _ _ ∙ opened _ _ _ ∙ took (mark.Keyword word.Layer) (head 11) _ _ ∙ took (mark.Name (codes "cells")) (head 12) _ _
      ∙ passed (mark.Symbol sign.BraceOpen) (head 13) _ _
      ∙ opened _ _ _ ∙ opened _ _ _ ∙ passed (mark.Keyword word.State) (head 14) _ _ ∙ opened _ _ _ ∙ took (mark.Name (codes "t")) (head 15) _ _
      ∙ passed (mark.Symbol sign.Colon) (head 16) _ _ ∙ opened _ _ _ ∙ passed (mark.Keyword word.Table) (head 17) _ _ ∙ took (mark.Num count) (head 18) _ _
      ∙ passed (mark.Keyword word.Of) (head 19) _ _ ∙ took (mark.Num 1) (head 20) _ _
      ∙ passed (mark.Keyword word.Of) (head 21) _ _ ∙ took (mark.Num 8) (head 22) _ _
      ∙ passed (mark.Symbol sign.Semicolon) (head 23) _ _
      ∙ reads_unwritten word.Start Plain unwritten (operations ++ tail) no_start refl _
      ∙ opened _ _ _ ∙ reads_unwritten word.Format Impl unwritten (operations ++ tail) no_memory refl _
      ∙ opened _ _ _ ∙ reads_operations middle count tail _
      ∙ reads_no_crash_block unwritten tail refl refl _
      ∙ opened _ _ _ ∙ reads_unwritten word.Recover Impl unwritten tail refl refl _
      ∙ opened _ _ _ ∙ passed (mark.Keyword word.Relate) (last 0) _ _
      ∙ reads_binary (last 1) (expr.Low (last 2) (name_at (codes "view") (last 4))) op.Eq (last 5) (expr.Variable (name_at (codes "t") (last 6))) _ _
      ∙ reads_low (last 2) (name_at (codes "view") (last 4)) _ _ ∙ passed (mark.Symbol sign.Dot) (last 3) _ _ ∙ took (mark.Name (codes "view")) (last 4) _ _
      ∙ took (mark.Symbol sign.Equal) (last 5) _ _ ∙ reads_variable (name_at (codes "t") (last 6)) _ _
      ∙ passed (mark.Symbol sign.RoundClose) (last 7) _ _ ∙ passed (mark.Symbol sign.Semicolon) (last 8) _ _
      ∙ opened _ _ _ ∙ opened _ _ _ ∙ opened _ _ _ ∙ passed (mark.Symbol sign.BraceClose) (last 9) _ _

  nothing_left : in_turn [] [] ≡ Some []
  unfolding in_turn
  nothing_left = refl

  pub derived : whole_file (file_made places count) (stand head (made_marks count)) ≡ Some []
  derived = ap (whole_file (file_made places count)) tokens_are ∙ whole ∙ nothing_left
