-- What a term is, as a sum of terms, where the digits of some tests are taken for granted.
use Rattle.std.specs.Prelude.{ℕ, Bool, false, ◌==◌, if◌then◌else◌, Option, Some, None, List, [], ◌∷◌, slice_get, All}
use Rattle.ygg_value.specs.Number.{Number}
use Rattle.ygg_value.specs.declared.operation.Op.{Op}
use Rattle.ygg_value.specs.declared.operation.Op.TheVariants.{Add, Sub, Mul, Eq}
use Rattle.ygg_shape_words.specs.ygg_bank.Making.{known_in}
use Rattle.ygg_shape_words.specs.ygg_bank.Nodes.{HasWidth}
use Rattle.ygg_shape_words.specs.ygg_bank.declared.node.Id.{Id}
use Rattle.ygg_shape_words.specs.ygg_bank.declared.node.Node.{Node}
use Rattle.ygg_shape_words.specs.ygg_bank.declared.node.Node.TheVariants.{Const, Bin, Not, Pick}
use Rattle.ygg_shape_sums.specs.declared.reading.Fact.{Fact}
use Rattle.ygg_shape_sums.specs.declared.reading.Decomposition.{Decomposition}
use Rattle.ygg_shape_sums.specs.declared.reading.Decomposition.TheVariants as reading
use Rattle.ygg_shape_sums.specs.declared.reading.TheConstants.{LESS_ONE}

-- a test and its digit
abbrev pub fact : Id → Bool → Fact
fact test digit = record { test = test; yes = digit }

-- of a term that is one constant, it is known that it isn't the other
abbrev pub differ : Option Number → Option Number → Option Bool
differ (Some k) (Some m) = if k.bits == m.bits then None else Some false
differ k m = None

-- what the second test is, where the first is 1: a term isn't equal to two constants
abbrev pub excluded : List Node → Option Node → Option Node → Option Bool
excluded nodes (Some (Bin Eq x k)) (Some (Bin Eq y m)) = if x.0 == y.0 then differ (known_in (slice_get nodes k.0)) (known_in (slice_get nodes m.0)) else None
excluded nodes m n = None

-- what a fact says of a test, where it says anything
abbrev pub said : List Node → Fact → Id → Option Bool
said nodes f t = if f.test.0 == t.0 then Some f.yes else if f.yes then excluded nodes (slice_get nodes f.test.0) (slice_get nodes t.0) else None

abbrev pub first_of : Option Bool → Option Bool → Option Bool
first_of (Some b) other = Some b
first_of None other = other

-- what the first fact that says anything says of a test
abbrev pub decided : List Node → List Fact → Id → Option Bool
decided nodes [] t = None
decided nodes (f ∷ fs) t = first_of (said nodes f t) (decided nodes fs t)

-- a sum, a difference, and a product by a constant
abbrev pub read_bin : Op → Id → Id → Option Number → Option Number → Decomposition
read_bin Add x y k m = reading.Both x 1 y
read_bin Sub x y k m = reading.Both x LESS_ONE y
read_bin Mul x y k (Some m) = reading.Times m.bits x 0
read_bin Mul x y (Some k) None = reading.Times k.bits y 0
read_bin op x y k m = reading.Whole

-- a pick whose test is decided is one of its words
abbrev pub read_pick : Id → Id → Option Bool → Decomposition
read_pick x y (Some b) = reading.Times 1 (if b then x else y) 0
read_pick x y None = reading.Whole

abbrev pub read : List Node → List Fact → Option Node → Decomposition
read nodes facts (Some (Const k)) = reading.Number k.bits
read nodes facts (Some (Bin op x y)) = read_bin op x y (known_in (slice_get nodes x.0)) (known_in (slice_get nodes y.0))
read nodes facts (Some (Not x)) = reading.Times LESS_ONE x LESS_ONE
read nodes facts (Some (Pick t x y)) = read_pick x y (decided nodes facts t)
read nodes facts n = reading.Whole

-- the terms that are named are words of this width
abbrev pub ReadingFits : List Node → ℕ → Decomposition → Type 0
ReadingFits nodes w (reading.Times m x n) = HasWidth nodes x w
ReadingFits nodes w (reading.Both x m y) = HasWidth nodes x w × HasWidth nodes y w
ReadingFits nodes w r = Unit {0}

-- the tests are single digits
abbrev pub FactsFit : List Node → List Fact → Type 0
FactsFit nodes = All (λ (f : Fact). HasWidth nodes f.test 1)
