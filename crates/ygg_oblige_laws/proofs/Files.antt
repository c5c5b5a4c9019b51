-- The layers of a typed file, from the lowest up.
use Rattle.std.proofs.Common.{◌≡◌, ℕ, ◌+◌, true, ◌&&◌, not, List, [], ◌∷◌, refl}
use Rattle.std.specs.List.{list_all}
use Rattle.ygg_base.specs.declared.reason.Reason.TheVariants as reason
use Rattle.ygg_syntax.specs.declared.tree.Declared.{Declared}
use Rattle.ygg_syntax.specs.declared.tree.Def.{Def}
use Rattle.ygg_syntax.specs.declared.tree.DiskText.{DiskText}
use Rattle.ygg_syntax.specs.declared.tree.Layer.{Layer}
use Rattle.ygg_syntax.specs.declared.tree.File.{File}
use Rattle.ygg_syntax.specs.Files.{IsDerived}
use Rattle.ygg_oblige_laws.specs.ygg_syntax.Weights.{Weights, weights_of}
use Rattle.ygg_oblige_laws.specs.ygg_type_rules.Names.{has, added}
use Rattle.ygg_oblige_laws.specs.ygg_type_rules.TypeErrors.{none, unless}
use Rattle.ygg_oblige_laws.specs.ygg_type_rules.Definitions.{definitions_errors, with_definitions}
use Rattle.ygg_oblige_laws.specs.ygg_type_rules.Layers as typing
use Rattle.ygg_oblige_laws.specs.ygg_type_rules.Layers.{Known, Below, layer_scope, parts_errors}
use Rattle.ygg_oblige_laws.specs.ygg_type_rules.Files.{IsTyped, type_errors_of, disk_errors, disk_below, count_error, layer_errors, layers_errors}
use Rattle.ygg_oblige_laws.specs.ygg_meaning.Meaning.{functions_of}
use Rattle.ygg_oblige_laws.specs.ygg_meaning.Layer.{ClosedLayer}
use Rattle.ygg_oblige_laws.specs.ygg_meaning.Stack.{Layers, below_of, tables_of, layers_on, layers_of}
use Rattle.ygg_oblige_laws.specs.ygg_meaning_laws_proofs_Definitions.{MeetsAll, definitions_meet}
use Rattle.ygg_oblige_laws.specs.ygg_meaning_laws_proofs_Tests.{left as first_of, right as second_of}
use Rattle.ygg_oblige_laws.specs.ygg_meaning_laws.Kinds.{layer_keeps}
use Rattle.ygg_oblige_laws.specs.ygg_meaning_laws_proofs_TypeErrors.{none_listed}
use Rattle.ygg_oblige_laws.specs.ygg_meaning_laws_proofs_Operations.{added_all, operations_shaped}
use Rattle.ygg_oblige_laws.specs.ygg_meaning_laws_proofs_Typed.{IsTypedLayer, parts}
use Rattle.ygg_oblige_laws.specs.ygg_meaning_laws_proofs_Files.{on_disk}
use Rattle.ygg_oblige_laws.proofs.of_ygg_meaning_laws.Derived.{derived_kept}
use Rattle.ygg_oblige_laws.specs.Below.{lows_on, signatures_on}
use Rattle.ygg_oblige_laws.specs.Typed.{BelowTyped}
use Rattle.ygg_oblige_laws.specs.TypedLayers.{LayersTyped}
use Rattle.ygg_oblige_laws.proofs.Formulas.{IsBelow, disk_is_below, layer_is_below}
use Rattle.ygg_oblige_laws.proofs.Blocks.{own_typed, layer_typed}

module _ (defs : List Def) (weights : Weights) (disk : DiskText) (sound : none (definitions_errors defs [] []) ≡ true) where
  -- what the next layer stands on, as typing and as its specification know it
  record Ground (lower : Layers) (below : Below) (low : List Declared) : Type 0 where
    pub is : IsBelow below low
    pub low_is : low ≡ lows_on (below_of disk lower)
    pub operations : below.operations ≡ signatures_on (below_of disk lower)
    pub typed : BelowTyped defs (below_of disk lower)

  meets : MeetsAll (functions_of defs) (with_definitions defs [])
  meets = definitions_meet defs sound

  disk_ground : none (disk_errors disk) ≡ true → Ground [] (disk_below disk) (tables_of disk)
  disk_ground e = record {
    is = disk_is_below disk e (on_disk (functions_of defs) (with_definitions defs []) weights disk meets e).shaped;
    low_is = refl;
    operations = refl;
    typed = e;
  }

  layer_ground : (below : Below) (lower : Layers) (l : Layer) (low : List Declared) →
      IsTypedLayer (functions_of defs) (with_definitions defs []) below weights l →
      Ground (record { functions = functions_of defs; layer = l; low = low } ∷ lower) (typing.below_of l) l.state
  layer_ground below lower l low is =
      let scope = layer_scope (with_definitions defs []) below l in
      let p = parts (functions_of defs) (with_definitions defs []) below weights l is in
      record {
        is = layer_is_below l p.variables (operations_shaped l.operations l.crash weights scope p.operations p.operations_kept);
        low_is = refl;
        operations = added_all l.operations l.crash [] weights scope p.operations;
        typed = own_typed defs below weights l low is;
      }

  layers_typed : (ls : List Layer) (before : ℕ) (names : Known) (low : List Declared) (below : Below) (lower : Layers) →
      none (layers_errors ls before names (with_definitions defs []) below weights) ≡ true → list_all layer_keeps ls ≡ true →
      Ground lower below low → LayersTyped defs disk lower → LayersTyped defs disk (layers_on (functions_of defs) low ls lower)
  layers_typed [] before names low below lower e k g t = t
  layers_typed (l ∷ ls) before names low below lower e k g t =
      let named = with_definitions defs [] in
      let L : ClosedLayer = record { functions = functions_of defs; layer = l; low = low } in
      let name = none (unless (not (has l.name.text names)) reason.Twice l.name.place) in
      let here = none (layer_errors l names named below weights) in
      let others = none (layers_errors ls (before + 1) (added l.name.text tt names) named (typing.below_of l) weights) in
      let rest = second_of (none (count_error before l)) (here && others) e in
      let is : IsTypedLayer (functions_of defs) (with_definitions defs []) below weights l = record {
        typed = second_of name (none (parts_errors l weights (layer_scope named below l))) (first_of here others rest);
        kept = first_of (layer_keeps l) (list_all layer_keeps ls) k;
        meets = meets;
        shaped = g.is.shaped;
      } in
      layers_typed ls (before + 1) (added l.name.text tt names) l.state (typing.below_of l) (L ∷ lower) (second_of here others rest)
      (second_of (layer_keeps l) (list_all layer_keeps ls) k) (layer_ground below lower l low is)
      (layer_typed defs below weights l low is (below_of disk lower) g.operations sound g.typed g.low_is g.is, t)

pub typed_layers : (file : File) → ∥ IsDerived file ∥₁ → IsTyped file → LayersTyped file.defs file.disk (layers_of file)
typed_layers file derived typed =
    let disk = none (disk_errors file.disk) in
    let defs = none (definitions_errors file.defs [] []) in
    let layers = none (layers_errors file.layers 0 [] (with_definitions file.defs []) (disk_below file.disk) (weights_of file.defs)) in
    let e : none (type_errors_of file) ≡ true = none_listed (type_errors_of file) typed in
    let rest = second_of disk (defs && layers) e in
    let sound = first_of defs layers rest in
    layers_typed file.defs (weights_of file.defs) file.disk sound file.layers 0 [] (tables_of file.disk) (disk_below file.disk) []
    (second_of defs layers rest) (derived_kept file derived)
    (disk_ground file.defs (weights_of file.defs) file.disk sound (first_of disk (defs && layers) e)) tt
