-- Every layer of a typed file is typed on what it is specified over.
use Rattle.std.specs.Prelude.{List, [], ◌∷◌}
use Rattle.ygg_syntax.specs.declared.tree.Def.{Def}
use Rattle.ygg_syntax.specs.declared.tree.DiskText.{DiskText}
use Rattle.ygg_syntax.specs.declared.tree.File.{File}
use Rattle.ygg_syntax.specs.Files.{IsDerived}
use Rattle.ygg_oblige_laws.specs.ygg_type_rules.Files.{IsTyped}
use Rattle.ygg_oblige_laws.specs.ygg_meaning.Stack.{Layers, below_of, layers_of}
use Rattle.ygg_oblige_laws.specs.LayerTerms.{LayerTyped}

-- each of some layers has no type error on what it is specified over
abbrev pub LayersTyped : List Def → DiskText → Layers → Type 0
LayersTyped defs disk [] = Unit {0}
LayersTyped defs disk (L ∷ lower) = LayerTyped defs (below_of disk lower) L × LayersTyped defs disk lower

-- the layers of a file in the grammar without a type error have none on what they are specified over
abbrev pub TypedLayers : Type 0
TypedLayers = (file : File) → ∥ IsDerived file ∥₁ → IsTyped file → LayersTyped file.defs file.disk (layers_of file)
