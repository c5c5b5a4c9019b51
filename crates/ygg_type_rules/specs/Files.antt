-- The type errors of a file.
use Rattle.std.specs.Prelude.{◌≡◌, ℕ, ◌+◌, ◌==◌, true, false, not, List, [], ◌∷◌, Option, Some, None, codes}
use Rattle.ygg_base.specs.declared.reason.Reason.TheVariants as reason
use Rattle.ygg_value.specs.declared.shape.Shape.{Shape}
use Rattle.ygg_value.specs.declared.shape.Shape.TheVariants.{Word}
use Rattle.ygg_base.specs.declared.geometry.DiskKind.TheVariants.{Sync, Async}
use Rattle.ygg_syntax.specs.declared.tree.DiskText.{DiskText}
use Rattle.ygg_syntax.specs.declared.tree.TypeText.TheVariants as text
use Rattle.ygg_syntax.specs.declared.tree.Layer.{Layer}
use Rattle.ygg_syntax.specs.declared.tree.File.{File}
use Rattle.ygg_syntax.specs.Weights.{Weights, weights_of}
use Rattle.ygg_type_rules.specs.Names.{Named, has, added}
use Rattle.ygg_type_rules.specs.declared.scope.Owner.TheVariants.{State}
use Rattle.ygg_type_rules.specs.declared.scope.Variable.{Variable}
use Rattle.ygg_type_rules.specs.declared.scope.Signature.{Signature}
use Rattle.ygg_type_rules.specs.TypeErrors.{TypeErrors, nothing, both, unless, listed}
use Rattle.ygg_type_rules.specs.Shapes.{row_shape, table_shape}
use Rattle.ygg_type_rules.specs.Definitions.{type_text_errors, definitions_errors, with_definitions}
use Rattle.ygg_type_rules.specs.Layers.{Known, Below, below_of, layer_scope, parts_errors}

-- a disk: its numbers are those of a table
abbrev pub disk_errors : DiskText → TypeErrors
disk_errors disk = type_text_errors (text.Table disk.rows disk.words disk.width)

-- the shape of an address
abbrev pub address : Option Shape
address = Some (Word 8)

-- the shape of a disk's rows
abbrev pub disk_row : DiskText → Option Shape
disk_row disk = row_shape disk.words.value disk.width.value

-- the operations of a disk: `read(at : word 8) -> row M of W`, `write(at : word 8, r : row M of W)` and `flush()`
abbrev pub disk_operations : DiskText → Named Signature
disk_operations disk =
    (codes "read", record { arguments = address ∷ []; answers = true; answer = disk_row disk })
    ∷ (codes "write", record { arguments = address ∷ disk_row disk ∷ []; answers = false; answer = None })
    ∷ (codes "flush", record { arguments = []; answers = false; answer = None })
    ∷ []

-- a table of a disk
abbrev pub disk_table : DiskText → Variable
disk_table disk = record { kind = State; shape = table_shape disk.rows.value disk.words.value disk.width.value }

-- the variables of a disk: `view`, and `stable` of an asynchronous one
abbrev pub disk_variables : DiskText → Named Variable
disk_variables disk = elim disk.kind [
  | Sync ↦ (codes "view", disk_table disk) ∷ []
  | Async ↦ (codes "view", disk_table disk) ∷ (codes "stable", disk_table disk) ∷ []
]

-- a disk as the first layer sees it
abbrev pub disk_below : DiskText → Below
disk_below disk = record { operations = disk_operations disk; variables = disk_variables disk }

-- a layer after layers of these names, on the machine below: `Twice` at a name that is taken, `Limit` at the `layer` of the ninth
abbrev pub layer_errors : Layer → Known → Named Signature → Below → Weights → TypeErrors
layer_errors l names defs below weights =
    both (unless (not (has l.name.text names)) reason.Twice l.name.place)
    (parts_errors l weights (layer_scope defs below l))

-- `Limit` at the `layer` of the ninth layer, where so many stand before this one
abbrev pub count_error : ℕ → Layer → TypeErrors
count_error before l = unless (not (before == 8)) reason.Limit l.place

-- layers in order, after so many layers of these names, the last of which is the machine below
abbrev pub layers_errors : List Layer → ℕ → Known → Named Signature → Below → Weights → TypeErrors
layers_errors [] before names defs below weights = nothing
layers_errors (l ∷ ls) before names defs below weights =
    both (count_error before l)
    (both (layer_errors l names defs below weights)
    (layers_errors ls (before + 1) (added l.name.text tt names) defs (below_of l) weights))

-- all type errors of a file
abbrev pub type_errors_of : File → TypeErrors
type_errors_of file =
    both (disk_errors file.disk)
    (both (definitions_errors file.defs [] [])
    (layers_errors file.layers 0 [] (with_definitions file.defs []) (disk_below file.disk) (weights_of file.defs)))

-- the file has no type error
abbrev pub IsTyped : File → Type 0
IsTyped file = listed (type_errors_of file) ≡ []
