-- A sum of products, multiplied out.
use Rattle.std.specs.Global.{Global}
use Rattle.std.specs.Prelude.{◌≡◌, Vec, ℕ, zero, suc, ◌==◌, if◌then◌else◌, Option, Some, None, List, [], ◌∷◌, ◌++◌, slice_get}
use Rattle.ygg_value.specs.declared.operation.Op.TheVariants.{Mul}
use Rattle.ygg_shape_words.specs.ygg_bank.declared.node.Id.{Id}
use Rattle.ygg_shape_words.specs.ygg_bank.declared.node.Node.{Node}
use Rattle.ygg_shape_words.specs.ygg_bank.declared.node.Node.TheVariants.{Bin}
use Rattle.ygg_shape_sums.specs.Products.{Product, many, with_factor, with_product}
use Rattle.ygg_shape_sums.specs.Readings.{read}
use Rattle.ygg_shape_sums.specs.declared.reading.Fact.{Fact}
use Rattle.ygg_shape_sums.specs.declared.reading.Decomposition.{Decomposition}
use Rattle.ygg_shape_sums.specs.declared.reading.Decomposition.TheVariants as reading

-- the products that a product is, whose next factor is read as this and made by this node
abbrev pub spread : Product → Id → List Id → Decomposition → Option Node → List Product
spread m a rest (reading.Number n) c = many m n rest [] ∷ []
spread m a rest (reading.Times k x n) c = many m k rest (x ∷ []) ∷ many m n rest [] ∷ []
spread m a rest (reading.Both x k y) c = many m 1 rest (x ∷ []) ∷ many m k rest (y ∷ []) ∷ []
spread m a rest reading.Whole (Some (Bin Mul x y)) = many m 1 rest (x ∷ y ∷ []) ∷ []
spread m a rest reading.Whole c = with_factor m a rest ∷ []

-- the products that a product is, whose next factor is read; none where it is there 0 times
abbrev pub opened : List Node → List Fact → Product → List Id → List Product
opened nodes facts m [] = []
opened nodes facts m (a ∷ rest) =
    if m.times == 0 then [] else spread m a rest (read nodes facts (slice_get nodes a.0)) (slice_get nodes a.0)

-- a product all of whose factors were read, among others
abbrev pub taken : Product → List Id → List Product → List Product
taken m [] ps = with_product m ps
taken m (a ∷ rest) ps = ps

-- the products, multiplied out, beside others that were; nothing where that takes more steps than the first number says
unfoldable pub expanded : ℕ → List Node → List Fact → List Product → List Product → Option (List Product)
expanded zero nodes facts ms ps = None
expanded (suc fuel) nodes facts [] ps = Some ps
expanded (suc fuel) nodes facts (m ∷ ms) ps = expanded fuel nodes facts (ms ++ opened nodes facts m m.rest) (taken m m.rest ps)

-- these are the products that were found, or nothing was
abbrev pub AreFound : Option (List Product) → Option (Vec Product Global) → Type 0
AreFound want None = want ≡ None
AreFound want (Some list) = want ≡ Some list.items
