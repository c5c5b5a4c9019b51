-- The layers of a typed file, one on another.
use Rattle.std.proofs.Common.{
  ◌≡◌,
  ℕ,
  ◌+◌,
  Bool,
  true,
  false,
  ◌&&◌,
  not,
  if◌then◌else◌,
  List,
  [],
  ◌∷◌,
  All,
  Option,
  Some,
  None,
  codes,
  refl,
  sym,
  ap,
  ◌∙◌,
  subst,
}
use Rattle.std.proofs.lemmas.List.Elements.{All-nil, All-cons}
use Rattle.std.specs.Str.{bytes_eq}
use Rattle.std.specs.List.{list_all}
use Rattle.ygg_base.specs.declared.reason.Reason.TheVariants as reason
use Rattle.ygg_value.specs.declared.shape.Shape.{Shape}
use Rattle.ygg_value.specs.declared.shape.Shape.TheVariants as shape
use Rattle.ygg_syntax.specs.declared.tree.DiskText.{DiskText}
use Rattle.ygg_syntax.specs.declared.tree.Declared.{Declared}
use Rattle.ygg_syntax.specs.declared.tree.Layer.{Layer}
use Rattle.ygg_syntax.specs.declared.tree.File.{File}
use Rattle.ygg_meaning_laws.specs.Weights.{Weights, weights_of}
use Rattle.ygg_meaning_laws.specs.ygg_type_rules.Names.{Named, has, added}
use Rattle.ygg_meaning_laws.specs.Signature.{Signature}
use Rattle.ygg_meaning_laws.specs.TypeErrors.{none, unless}
use Rattle.ygg_meaning_laws.specs.Definitions.{definitions_errors, with_definitions}
use Rattle.ygg_meaning_laws.specs.Layers.{Below, layer_scope, parts_errors, operation_signature, with_operations}
use Rattle.ygg_meaning_laws.specs.Layers as typing
use Rattle.ygg_meaning_laws.specs.Files.{IsTyped, type_errors_of, disk_errors, disk_row, disk_operations, disk_below, count_error, layer_errors, layers_errors}
use Rattle.ygg_meaning.specs.Meaning.{Functions, functions_of}
use Rattle.ygg_meaning.specs.Layer.{ClosedLayer}
use Rattle.ygg_meaning.specs.DiskMachine.{DiskMachine}
use Rattle.ygg_meaning.specs.Stack.{Layers, Over, tables_of, layers_on, layers_of}
use Rattle.ygg_meaning.specs.HistoryLaws.{Answered, AllAnswered}
use Rattle.ygg_meaning_laws.specs.Fitting.{IsShaped}
use Rattle.ygg_meaning_laws.proofs.Parameters.{same_fit}
use Rattle.ygg_meaning_laws.proofs.Definitions.{MeetsAll, definitions_meet}
use Rattle.ygg_meaning_laws.proofs.Sounds.{sound}
use Rattle.ygg_meaning_laws.proofs.Tests.{left as first_of, right as second_of}
use Rattle.ygg_meaning_laws.specs.Kinds.{layer_keeps, file_keeps}
use Rattle.ygg_meaning_laws.specs.Machines.{SpecAnswers}
use Rattle.ygg_meaning_laws.proofs.TypeErrors.{none_listed}
use Rattle.ygg_meaning_laws.proofs.ProgressSounds.{ExpressionsHave}
use Rattle.ygg_meaning_laws.proofs.Views.{LowerShaped}
use Rattle.ygg_meaning_laws.proofs.Operations.{find_operation, seen_operations, operations_shaped}
use Rattle.ygg_meaning_laws.proofs.Typed.{IsTypedLayer, parts}
use Rattle.ygg_meaning_laws.proofs.Specs.{spec_answers}
use Rattle.ygg_meaning_laws.proofs.Disks.{disk_row_is}
use Rattle.ygg_meaning_laws.proofs.Answering.{answered_on_spec, answered_on_disk}

-- typed expressions have values of their shapes
pub have : (functions : Functions) → ExpressionsHave functions
have functions e = (sound functions e).gives

-- the operations of a disk give answers of their shapes
disk_shaped : (d : DiskText) → none (disk_errors d) ≡ true → LowerShaped (disk_operations d)
disk_shaped d e name o h a = by_read (bytes_eq (codes "read") name) (bytes_eq (codes "write") name) (bytes_eq (codes "flush") name) h
  where
    silent : (ws : List (Option Shape)) → Some (record { arguments = ws; answers = false; answer = None }) ≡ Some o → IsShaped o.answer
    silent ws h = absurd (untrue (ap answering h ∙ a))
      where
        answering : Option Signature → Bool
        answering None = false
        answering (Some s) = s.answers

        untrue : false ≡ true → ⊥
        untrue h = cc

    by_read : (r w f : Bool)
        → (if r then Some (record { arguments = Some (shape.Word 8) ∷ []; answers = true; answer = disk_row d })
        else if w then Some (record { arguments = Some (shape.Word 8) ∷ disk_row d ∷ []; answers = false; answer = None })
        else if f then Some (record { arguments = []; answers = false; answer = None }) else None) ≡ Some o → IsShaped o.answer
    by_read true w f h = subst (λ (x : Signature). IsShaped x.answer) (signature_is _ o h)
        (let row = disk_row_is d e in record { shape = shape.Row d.words.value d.width.value; is = row.is; limits = row.limits })
      where
        signature_is : (a b : Signature) → Some a ≡ Some b → a ≡ b
        signature_is a b h = cc
    by_read false true f h = silent (Some (shape.Word 8) ∷ disk_row d ∷ []) h
    by_read false false true h = silent [] h
    by_read false false false h = absurd (cc)

-- what is known of layers up to some one
pub record Known (disk : DiskText) (layers : Layers) : Type 0 where
  pub answered : AllAnswered (DiskMachine disk) layers
  pub specs : All SpecAnswers layers

module _ (functions : Functions) (defs : Named Signature) (weights : Weights) (disk : DiskText) (meets : MeetsAll functions defs) where
  -- what the next layer stands on: its operations give answers of their shapes, and it answers each typed recovery
  pub record Ground (lower : Layers) (below : Below) : Type 0 where
    pub shaped : LowerShaped below.operations
    pub answered : (l : Layer) (low : List Declared) → IsTypedLayer functions defs below weights l →
        Answered (record { functions = functions; layer = l; low = low }) (Over (DiskMachine disk) lower)

  pub on_disk : none (disk_errors disk) ≡ true → Ground [] (disk_below disk)
  on_disk e = record {
    shaped = disk_shaped disk e;
    answered = λ l low is. answered_on_disk functions defs (disk_below disk) weights l low (have functions) is disk refl;
  }

  on_layer : (below : Below) (lower : Layers) (l : Layer) (low : List Declared) → IsTypedLayer functions defs below weights l →
      Ground (record { functions = functions; layer = l; low = low } ∷ lower) (typing.below_of l)
  on_layer below lower l low is =
      let p = parts functions defs below weights l is in
      let scope = layer_scope defs below l in
      let L : ClosedLayer = record { functions = functions; layer = l; low = low } in
      record {
        shaped = operations_shaped l.operations l.crash weights scope p.operations p.operations_kept;
        answered = λ l' low' is'. answered_on_spec functions defs (typing.below_of l) weights l' low' (have functions) is' L
            (spec_answers functions defs below weights l low (have functions) is)
            (λ name. seen_operations l.operations l.crash weights scope p.operations name)
            (λ name o args found fit. sym (same_fit o.arguments args scope
            (find_operation l.operations l.crash [] weights scope p.operations p.operations_kept name o found).arguments) ∙ fit);
      }

  pub all_known : (ls : List Layer) (before : ℕ) (names : typing.Known) (low : List Declared) (below : Below) (lower : Layers) →
      none (layers_errors ls before names defs below weights) ≡ true → list_all layer_keeps ls ≡ true
      → Ground lower below → Known disk lower → Known disk (layers_on functions low ls lower)
  all_known [] before names low below lower e k g d = d
  all_known (l ∷ ls) before names low below lower e k g d =
      let L : ClosedLayer = record { functions = functions; layer = l; low = low } in
      let name = none (unless (not (has l.name.text names)) reason.Twice l.name.place) in
      let here = none (layer_errors l names defs below weights) in
      let others = none (layers_errors ls (before + 1) (added l.name.text tt names) defs (typing.below_of l) weights) in
      let rest = second_of (none (count_error before l)) (here && others) e in
      let is : IsTypedLayer functions defs below weights l = record {
        typed = second_of name (none (parts_errors l weights (layer_scope defs below l))) (first_of here others rest);
        kept = first_of (layer_keeps l) (list_all layer_keeps ls) k;
        meets = meets;
        shaped = g.shaped;
      } in
      all_known ls (before + 1) (added l.name.text tt names) l.state (typing.below_of l) (L ∷ lower) (second_of here others rest)
      (second_of (layer_keeps l) (list_all layer_keeps ls) k)
      (on_layer below lower l low is)
      (record {
        answered = (g.answered l low is, d.answered);
        specs =
            All-cons SpecAnswers L lower (spec_answers functions defs below weights l low (have functions) is) d.specs;
      })

-- the parts of a typed file
pub file_known : (f : File) → file_keeps f ≡ true → IsTyped f → Known f.disk (layers_of f)
file_known f kept t =
    let disk = none (disk_errors f.disk) in
    let defs = none (definitions_errors f.defs [] []) in
    let layers = none (layers_errors f.layers 0 [] (with_definitions f.defs []) (disk_below f.disk) (weights_of f.defs)) in
    let e : none (type_errors_of f) ≡ true = none_listed (type_errors_of f) t in
    let rest = second_of disk (defs && layers) e in
    let meets = definitions_meet f.defs (first_of defs layers rest) in
    all_known (functions_of f.defs) (with_definitions f.defs []) (weights_of f.defs) f.disk meets f.layers 0 [] (tables_of f.disk) (disk_below f.disk)
    [] (second_of defs layers rest) kept
    (on_disk (functions_of f.defs) (with_definitions f.defs []) (weights_of f.defs) f.disk meets (first_of disk (defs && layers) e))
    (record { answered = tt; specs = All-nil SpecAnswers })
