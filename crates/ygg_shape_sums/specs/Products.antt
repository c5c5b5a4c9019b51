-- Sums of products of terms, each so many times, modulo 2 ^ 64.
use Rattle.std.specs.Prelude.{ℕ, Bool, true, false, ◌+◌, ◌*◌, ◌%◌, ◌^◌, ◌==◌, ◌&&◌, nat_lt, if◌then◌else◌, Option, None, List, [], ◌∷◌, ◌++◌, All}
use Rattle.std.specs.Prelude.{slice_get}
use Rattle.ygg_shape_words.specs.ygg_bank.Nodes.{HasWidth, Stands}
use Rattle.ygg_shape_words.specs.ygg_bank.declared.node.Id.{Id}
use Rattle.ygg_shape_words.specs.ygg_bank.declared.node.Node.{Node}
use Rattle.ygg_shape_sums.specs.Gathers.{test_in, first_id}

-- a product of terms, so many times: of its factors some were read, in the order of their places, and the rest are still to be
pub record Product : Type 0 where
  pub times : ℕ
  pub factors : List Id
  pub rest : List Id

-- a term so many times
abbrev pub single : ℕ → Id → Product
single times a = record { times = times; factors = []; rest = a ∷ [] }

-- a factor among those that were read
abbrev pub placed : Id → List Id → List Id
placed a [] = a ∷ []
placed a (b ∷ bs) = if nat_lt a.0 b.0 then a ∷ b ∷ bs else b ∷ placed a bs

-- the product so many times, with this rest and more factors that are still to be read
abbrev pub many : Product → ℕ → List Id → List Id → Product
many m k rest more = record { times = (m.times * k) % 2 ^ 64; factors = m.factors; rest = rest ++ more }

-- the product, a factor of which was read, with this rest
abbrev pub with_factor : Product → Id → List Id → Product
with_factor m a rest = record { times = m.times; factors = placed a m.factors; rest = rest }

-- whether two lists of factors are one
abbrev pub alike : List Id → List Id → Bool
alike [] [] = true
alike (a ∷ xs) (b ∷ bs) = a.0 == b.0 && alike xs bs
alike xs bs = false

-- the product so many times more
abbrev pub more_times : Product → ℕ → Product
more_times m k = record { times = (m.times + k) % 2 ^ 64; factors = m.factors; rest = m.rest }

-- a product that was read, among others: there once for all that have its factors
abbrev pub with_product : Product → List Product → List Product
with_product m [] = m ∷ []
with_product m (n ∷ ns) = if alike n.factors m.factors then more_times n m.times ∷ ns else n ∷ with_product m ns

-- whether all are there 0 times, at a width
abbrev pub all_gone : ℕ → List Product → Bool
all_gone w [] = true
all_gone w (p ∷ ps) = if p.times % 2 ^ w == 0 then all_gone w ps else false

-- the test of the first pick among factors
abbrev pub factor_test : List Node → List Id → Option Id
factor_test nodes [] = None
factor_test nodes (a ∷ xs) = first_id (test_in (slice_get nodes a.0)) (factor_test nodes xs)

-- the test of the first pick among the factors of a product that is there at all
abbrev pub product_test : List Node → ℕ → Product → Option Id
product_test nodes w p = if p.times % 2 ^ w == 0 then None else factor_test nodes p.factors

-- the test of the first pick among the factors of products
abbrev pub products_test : List Node → ℕ → List Product → Option Id
products_test nodes w [] = None
products_test nodes w (p ∷ ps) = first_id (product_test nodes w p) (products_test nodes w ps)

-- the terms are there
abbrev pub AllStand : List Node → List Id → Type 0
AllStand nodes = All (Stands nodes)

-- the factors are words of this width
pub record ProductFits (nodes : List Node) (w : ℕ) (p : Product) : Type 0 where
  pub factors : All (λ (a : Id). HasWidth nodes a w) p.factors
  pub rest : All (λ (a : Id). HasWidth nodes a w) p.rest

-- the factors are words of one width
pub record ProductsAlike (nodes : List Node) (ps : List Product) : Type 0 where
  pub width : ℕ
  pub fit : All (ProductFits nodes width) ps
