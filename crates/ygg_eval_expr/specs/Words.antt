-- Rows made of words.
use Rattle.std.specs.Prelude.{◌≡◌, ◌≤◌, List, [], ◌∷◌, map, length, All}
use Rattle.ygg_value.specs.Number.{Number, Digits}
use Rattle.ygg_value.specs.Words.{CanApply}
use Rattle.ygg_value.specs.Values.{word_in}
use Rattle.ygg_value.specs.declared.operation.Op.{Op}
use Rattle.ygg_value.specs.declared.operation.Op.TheVariants.{Eq, Ne}
use Rattle.ygg_value.specs.declared.row.Value.{Value}

-- a row of these words, with the width of the first
abbrev pub row_from : List Number → Digits
row_from [] = record { width = 0; words = [] }
row_from (w ∷ ws) = record { width = w.width; words = map (λ (n : Number). n.bits) (w ∷ ws) }

-- 1 to 64 words of one width
pub record AreOfRow (ws : List Number) : Type 0 where
  pub some : 1 ≤ length ws
  pub few : length ws ≤ 64
  pub alike : All (λ (w : Number). w.width ≡ (row_from ws).width) ws

-- equality is asked of any two values, each other operation of two words to which it may be applied
abbrev pub CanOperate : Op → Value → Value → Type 0
CanOperate Eq a b = Unit {0}
CanOperate Ne a b = Unit {0}
CanOperate op a b = CanApply op (word_in a) (word_in b)
