-- Files without a type error, and the refusal of the others.
use Rattle.std.specs.Prelude.{◌≡◌, ℕ, ◌+◌, nat_le, Bool, ◌&&◌, if◌then◌else◌, List, [], ◌∷◌, length, slice_get, Option, Some, None}
use Rattle.std.specs.Str.{bytes_eq}
use Rattle.ygg_base.specs.declared.failure.Refusal.{Refusal}
use Rattle.ygg_base.specs.Reason.{refusal_at}
use Rattle.ygg_base.specs.declared.geometry.Geometry.{Geometry}
use Rattle.ygg_syntax.specs.declared.tree.DiskText.{DiskText}
use Rattle.ygg_syntax.specs.declared.tree.Operation.{Operation}
use Rattle.ygg_syntax.specs.declared.tree.Tick.{Tick}
use Rattle.ygg_syntax.specs.declared.tree.Layer.{Layer}
use Rattle.ygg_syntax.specs.declared.tree.File.{File}
use Rattle.ygg_type.specs.ygg_type_rules.declared.type_error.TypeError.{TypeError}
use Rattle.ygg_type.specs.ygg_type_rules.TypeErrors.{IsLeast, listed}
use Rattle.ygg_type.specs.ygg_type_rules.Files.{type_errors_of}

-- the refusal of a file: its least type error
abbrev pub IsFirstTypeError : File → Refusal → Type 0
IsFirstTypeError file r = (f : TypeError) × IsLeast f (listed (type_errors_of file))
    × (r ≡ refusal_at f.reason f.place.line f.place.column)

-- the kind of a disk and its size
abbrev pub geometry_of : DiskText → Geometry
geometry_of d = record { kind = d.kind; rows = d.rows.value; words = d.words.value; width = d.width.value }

-- the operations of the layer at a place, from the bottom one on
abbrev pub operations_at : List Layer → ℕ → List Operation
operations_at layers place = elim (slice_get layers place) [ None ↦ [] | Some l ↦ l.operations ]

-- its background steps
abbrev pub ticks_at : List Layer → ℕ → List Tick
ticks_at layers place = elim (slice_get layers place) [ None ↦ [] | Some l ↦ l.ticks ]

-- the place of the first operation of a name, where the first of these has this place
abbrev pub operation_place : ℕ → List Operation → List ℕ → Option ℕ
operation_place place [] name = None
operation_place place (o ∷ os) name = if bytes_eq o.name.text name then Some place else operation_place (place + 1) os name

-- the place of the first background step of a name, where the first of these has this place
abbrev pub tick_place : ℕ → List Tick → List ℕ → Option ℕ
tick_place place [] name = None
tick_place place (t ∷ ts) name = if bytes_eq t.name.text name then Some place else tick_place (place + 1) ts name

-- the layer's operations and background steps have places below 2 ^ 32
abbrev pub has_few : Layer → Bool
has_few l = nat_le (length l.operations) 4294967296 && nat_le (length l.ticks) 4294967296
