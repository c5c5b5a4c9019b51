-- Pairs of words that are to be compared.
use Rattle.std.specs.Prelude.{◌≡◌, ℕ, Bool, false, ◌==◌, ◌||◌, if◌then◌else◌, Option, Some, List, [], ◌∷◌, ◌++◌, All, length, slice_get}
use Rattle.ygg_shape_words.specs.ygg_bank.Nodes.{HasWidth}
use Rattle.ygg_shape_words.specs.ygg_bank.declared.node.Id.{Id}
use Rattle.ygg_shape_words.specs.ygg_bank.declared.node.Node.{Node}
use Rattle.ygg_shape_words.specs.ygg_bank.declared.node.Node.TheVariants.{Pick}
use Rattle.ygg_shape_words.specs.Forms.{WordsAlike}
use Rattle.ygg_shape_cells.specs.declared.pairs.Pair.{Pair}

abbrev pub pair : Id → Id → Pair
pair one two = record { one = one; two = two }

-- each pair is of two words of one width
abbrev pub PairsFit : List Node → List Pair → Type 0
PairsFit nodes = All (λ (p : Pair). WordsAlike nodes p.one p.two)

-- two words, unless they are one term
abbrev pub unequal : Id → Id → List Pair
unequal a b = if a.0 == b.0 then [] else pair a b ∷ []

-- the words at one place of two rows that are two terms
abbrev pub differing : List Id → List Id → List Pair
differing (a ∷ one) (b ∷ two) = unequal a b ++ differing one two
differing one two = []

-- whether a node is a pick on the test
abbrev pub is_pick_on : Id → Option Node → Bool
is_pick_on t (Some (Pick u x y)) = u.0 == t.0
is_pick_on t n = false

-- whether one of two words is a pick on the test
abbrev pub has_test : List Node → Id → Pair → Bool
has_test nodes t p = is_pick_on t (slice_get nodes p.one.0) || is_pick_on t (slice_get nodes p.two.0)

-- the word, at which this node stands, where the test has the value: of a pick on the test that side, and any other word itself
abbrev pub side : Id → Bool → Id → Option Node → Id
side t value a (Some (Pick u x y)) = if u.0 == t.0 then (if value then x else y) else a
side t value a n = a

abbrev pub side_at : List Node → Id → Bool → Id → Id
side_at nodes t value a = side t value a (slice_get nodes a.0)

-- of a pair that has the test, the words where it has the value, unless they are one term
abbrev pub sides_of : List Node → Id → Bool → Pair → List Pair
sides_of nodes t value p = if has_test nodes t p then unequal (side_at nodes t value p.one) (side_at nodes t value p.two) else []

-- the same of all pairs
abbrev pub sides : List Node → Id → Bool → List Pair → List Pair
sides nodes t value [] = []
sides nodes t value (p ∷ ps) = sides_of nodes t value p ++ sides nodes t value ps

-- a pair, unless it has the test
abbrev pub without_of : List Node → Id → Pair → List Pair
without_of nodes t p = if has_test nodes t p then [] else p ∷ []

-- the pairs that don't have the test
abbrev pub without : List Node → Id → List Pair → List Pair
without nodes t [] = []
without nodes t (p ∷ ps) = without_of nodes t p ++ without nodes t ps

-- two rows of as many words of one width
pub record RowsFit (nodes : List Node) (one two : List Id) : Type 0 where
  pub width : ℕ
  pub count : length one ≡ length two
  pub one_has : All (λ a. HasWidth nodes a width) one
  pub two_has : All (λ a. HasWidth nodes a width) two
