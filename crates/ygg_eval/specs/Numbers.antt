-- The layers of a file by number and by list are the same.
use Rattle.std.specs.Prelude.{◌≡◌, ℕ, length, ◌∷◌, ◌++◌, slice_get, Some}
use Rattle.ygg_syntax.specs.declared.tree.Layer.{Layer}
use Rattle.ygg_syntax.specs.declared.tree.File.{File}
use Rattle.ygg_meaning_laws.specs.ygg_meaning.Layer.{ClosedLayer}
use Rattle.ygg_meaning_laws.specs.ygg_meaning.Stack.{Layers, layers_of, below_of}
use Rattle.ygg_eval.specs.Layers.{closed_at, below_at}

-- it is the layer of the file with so many layers below it
pub record IsAt (f : File) (number : ℕ) (L : ClosedLayer) : Type 0 where
  pub layer : Layer
  pub there : slice_get f.layers number ≡ Some layer
  pub is : L ≡ closed_at f number layer

-- it stands in the list of the file's layers over so many others
pub record StandsOver (f : File) (number : ℕ) (L : ClosedLayer) : Type 0 where
  pub upper : Layers
  pub lower : Layers
  pub is : layers_of f ≡ upper ++ L ∷ lower
  pub counts : length lower ≡ number

-- each layer of the list is the one whose number is how many stand below it
abbrev pub ListedIsNumbered : Type 0
ListedIsNumbered = (f : File) (upper lower : Layers) (L : ClosedLayer) → layers_of f ≡ upper ++ L ∷ lower → IsAt f (length lower) L

-- each layer with a number stands in the list over so many others
abbrev pub NumberedIsListed : Type 0
NumberedIsListed = (f : File) (number : ℕ) (l : Layer) → slice_get f.layers number ≡ Some l → StandsOver f number (closed_at f number l)

-- what the next layer over the lower ones is specified over has their number
abbrev pub BelowIsNumbered : Type 0
BelowIsNumbered = (f : File) (upper lower : Layers) → layers_of f ≡ upper ++ lower → below_of f.disk lower ≡ below_at f (length lower)
