-- What a layer is specified over, as it starts.
use Rattle.std.proofs.Common.{
  ◌≡◌,
  ℕ,
  zero,
  suc,
  ◌<◌,
  arith,
  get_or,
  length,
  true,
  ◌&&◌,
  List,
  [],
  ◌∷◌,
  slice_get,
  Option,
  Some,
  None,
  refl,
  sym,
  ap,
  ◌∙◌,
  subst,
}
use Rattle.ygg_base.specs.declared.geometry.DiskKind.{DiskKind}
use Rattle.ygg_base.specs.declared.geometry.DiskKind.TheVariants.{Sync, Async}
use Rattle.ygg_value.specs.declared.row.Value.{Value}
use Rattle.ygg_syntax.specs.declared.tree.Declared.{Declared}
use Rattle.ygg_syntax.specs.declared.tree.DiskText.{DiskText}
use Rattle.ygg_syntax.specs.declared.tree.Layer.{Layer}
use Rattle.ygg_syntax.specs.declared.tree.File.{File}
use Rattle.ygg_sched.specs.ygg_syntax.Weights.{weights_of}
use Rattle.ygg_sched.specs.ygg_type_rules.TypeErrors.{none}
use Rattle.ygg_sched.specs.ygg_type_rules.Definitions.{definitions_errors, with_definitions}
use Rattle.ygg_sched.specs.ygg_type_rules.Files.{disk_below, disk_errors, layers_errors, type_errors_of}
use Rattle.ygg_eval.specs.ygg_meaning_laws_proofs_Tests.{left}
use Rattle.ygg_eval.proofs.of_ygg_meaning_laws.Views.{AllTyped}
use Rattle.ygg_sched.specs.ygg_disk.Kinds.{model_of}
use Rattle.ygg_sched.specs.ygg_meaning.Environments.{bind}
use Rattle.ygg_sched.specs.ygg_meaning.Shapes.{values_fit}
use Rattle.ygg_sched.specs.ygg_meaning.Progress.{Answer}
use Rattle.ygg_sched.specs.ygg_meaning.Machine.{based}
use Rattle.ygg_sched.specs.ygg_meaning.DiskMachine.{tables_in, zeros_on}
use Rattle.ygg_sched.specs.ygg_meaning.Spec.{start_outcome}
use Rattle.ygg_sched.specs.ygg_meaning.Refines.{Below, OnDisk, OnSpec, machine_below}
use Rattle.ygg_sched.specs.ygg_meaning_proofs_Exact.{start_exact}
use Rattle.ygg_sched.specs.ygg_meaning.Stack.{tables_of, tables_of_kind}
use Rattle.ygg_eval.specs.Layers.{below_at, closed_at, machine_at, variables_at}
use Rattle.ygg_eval.proofs.OnDisk.{variables_zero}
use Rattle.ygg_eval.proofs.OnSpec.{layer_variables}
use Rattle.ygg_eval.specs.Zeros.{zero_values}
use Rattle.ygg_replay.proofs.Typing.{zeros_shaped}

tables_typed : (d : DiskText) (kind : DiskKind) → none (disk_errors d) ≡ true → AllTyped (tables_of_kind kind d)
tables_typed d Sync h = (h, tt)
tables_typed d Async h = (h, (h, tt))

tables_start : (d : DiskText) (kind : DiskKind) →
    bind (tables_of_kind kind d) (zero_values (tables_of_kind kind d)) ≡ tables_in kind ((model_of kind).start (zeros_on d))
tables_start d Sync = refl
tables_start d Async = refl

disk_fine : (file : File) → none (type_errors_of file) ≡ true → none (disk_errors file.disk) ≡ true
disk_fine file fine =
    let definitions = none (definitions_errors file.defs [] []) in
    let layers = none (layers_errors file.layers 0 [] (with_definitions file.defs []) (disk_below file.disk) (weights_of file.defs)) in
    left (none (disk_errors file.disk)) (definitions && layers) fine

-- the disk's tables of zeros have the declared shapes
pub disk_fits : (file : File) → none (type_errors_of file) ≡ true → (place : ℕ) → place ≡ 0 → (low : List Value) → low ≡ zero_values (tables_of file.disk) →
    values_fit (variables_at file place) low ≡ true
disk_fits file fine place lowest low are =
    ap (λ n. values_fit (variables_at file n) low) lowest ∙ (ap (λ ds. values_fit ds low) (variables_zero (tables_of file.disk) file.layers)
    ∙ (ap (values_fit (tables_of file.disk)) are ∙ zeros_shaped (tables_of file.disk) (tables_typed file.disk file.disk.kind (disk_fine file fine))))

-- and the disk starts with them
pub disk_starts : (file : File) (place : ℕ) → place ≡ 0 → (low : List Value) → low ≡ zero_values (tables_of file.disk) →
    (machine_at file place).Starts (based (bind (variables_at file place) low)) []
disk_starts file place lowest low are =
    subst (λ (n : ℕ). (machine_at file n).Starts (based (bind (variables_at file n) low)) []) (sym lowest) (
      bind (variables_at file 0) low,
      refl,
      refl,
      ap (λ ds. bind ds low) (variables_zero (tables_of file.disk) file.layers) ∙ (ap (bind (tables_of file.disk)) are
          ∙ tables_start file.disk file.disk.kind),
    )

below_is : (file : File) (place : ℕ) (l : Layer) → slice_get file.layers place ≡ Some l → below_at file (suc place) ≡ OnSpec (closed_at file place l)
below_is file place l h =
    ap (λ (x : Option Layer). elim x as (λ x. Below) [ None ↦ OnDisk file.disk | Some l ↦ OnSpec (closed_at file place l) ]) h

-- the specification of the layer below starts with what its `start` block gives
pub spec_starts : (file : File) (place : ℕ) (l : Layer) → slice_get file.layers place ≡ Some l → (number : ℕ) → suc place ≡ number →
    (low : List Value) (answer : Answer) (left : List Answer) →
    start_outcome (closed_at file place l) ≡ Some (record { vars = bind l.state low; answer = answer; left = left }) →
    (machine_at file number).Starts (based (bind (variables_at file number) low)) []
spec_starts file place l here number next low answer left gives =
    subst (λ (n : ℕ). (machine_at file n).Starts (based (bind (variables_at file n) low)) []) next
    (subst (λ (ds : List Declared). (machine_at file (suc place)).Starts (based (bind ds low)) [])
    (sym (layer_variables (tables_of file.disk) file.layers place l here))
    (subst (λ (b : Below). (machine_below b).Starts (based (bind l.state low)) []) (sym (below_is file place l here)) (
      refl,
      record {
        vars = bind l.state low;
        answer = answer;
        gives = start_exact (closed_at file place l) (record { vars = bind l.state low; answer = answer; left = left }) gives;
        to_is = refl;
      },
    )))

-- an element that is read
pub read : (xs : List Layer) (i : ℕ) (x : Layer) → i < length xs → x ≡ get_or xs i x → slice_get xs i ≡ Some x
read [] i x h e = absurd (omega arith)
read (y ∷ ys) zero x h e = ap (λ z. Some z) (sym e)
read (y ∷ ys) (suc i) x h e = read ys i x (omega arith) e
