-- Blocks of a typed file run as their direct runs.
use Rattle.std.proofs.Common.{◌≡◌, ℕ, zero, suc, Bool, true, List, [], ◌∷◌, ◌++◌, slice_get, Option, Some, None, refl, sym, ap, ◌∙◌, subst}
use Rattle.std.specs.List.{list_all}
use Rattle.ygg_syntax.specs.declared.tree.Block.{Block}
use Rattle.ygg_syntax.specs.declared.tree.Layer.{Layer}
use Rattle.ygg_syntax.specs.declared.tree.File.{File}
use Rattle.ygg_meaning_laws.specs.ygg_syntax.Weights.{weights_of}
use Rattle.ygg_meaning_laws.specs.ygg_type_rules.Names.{Named, look_up}
use Rattle.ygg_meaning_laws.specs.ygg_type_rules.declared.scope.Signature.{Signature}
use Rattle.ygg_meaning_laws.specs.ygg_type_rules.TypeErrors.{none}
use Rattle.ygg_meaning_laws.specs.ygg_type_rules.Definitions.{with_definitions}
use Rattle.ygg_meaning_laws.specs.ygg_type_rules.Layers.{layer_scope}
use Rattle.ygg_meaning_laws.specs.ygg_type_rules.Files.{IsTyped, type_errors_of, disk_errors}
use Rattle.ygg_meaning_laws.specs.ygg_meaning.Environments.{Env, bind}
use Rattle.ygg_meaning_laws.specs.ygg_meaning.Meaning.{functions_of}
use Rattle.ygg_meaning_laws.specs.ygg_meaning.Machine.{State, on}
use Rattle.ygg_meaning_laws.specs.ygg_meaning.Layer.{ClosedLayer}
use Rattle.ygg_meaning_laws.specs.ygg_meaning.Refines.{Below, OnDisk, OnSpec, machine_below}
use Rattle.ygg_meaning_laws.proofs.Parameters.{same_fit}
use Rattle.ygg_meaning_laws.proofs.Tests.{left as first_of}
use Rattle.ygg_meaning_laws.specs.Kinds.{keeps, layer_keeps}
use Rattle.ygg_meaning_laws.specs.Machines.{SpecAnswers}
use Rattle.ygg_meaning_laws.proofs.TypeErrors.{none_listed}
use Rattle.ygg_meaning_laws.proofs.Files.{have}
use Rattle.ygg_meaning_laws.proofs.Operations.{added_all, find_operation, seen_operations}
use Rattle.ygg_meaning_laws.proofs.Typed.{parts}
use Rattle.ygg_meaning_laws.proofs.Specs.{spec_answers}
use Rattle.ygg_eval.specs.Bodies.{variables_in, arguments_in}
use Rattle.ygg_eval.specs.Layers.{closed_at, below_at, signatures_of, signatures_at}
use Rattle.ygg_eval.proofs.Blocks.{block_typing, blocks_kept, layer_typing}
use Rattle.ygg_meaning_laws.specs.Acts.{noted_picks}
use Rattle.ygg_meaning_laws.specs.DirectLaws.{IsTypedBlock, RunsDirectly, FallsDirectly, Sees}
use Rattle.ygg_eval.specs.Files.{below_acts, IsStateBelow, DirectInFile}
use Rattle.ygg_meaning_laws.proofs.DirectTyped.{direct_on_disk, direct_on_spec}

layer_before : (ls : List Layer) (n : ℕ) (l : Layer) → slice_get ls (suc n) ≡ Some l → slice_get ls n ≡ None → ⊥
layer_before [] n l h g = absurd (cc)
layer_before (x ∷ ls) zero l h g = absurd (cc)
layer_before (x ∷ ls) (suc n) l h g = layer_before ls n l h g

module _ (past : Bool) (file : File) (kept : list_all layer_keeps file.layers ≡ true) (typed : IsTyped file) where
  -- a disk of a typed file has no type errors
  pub disk_fine : none (disk_errors file.disk) ≡ true
  disk_fine = first_of (none (disk_errors file.disk)) _ (none_listed (type_errors_of file) typed)

  -- a layer as the one above sees it
  pub layer_sees : (place : ℕ) (m : Layer) → slice_get file.layers place ≡ Some m → Sees (closed_at file place m) (signatures_of m.operations)
  layer_sees place m here =
      let at = layer_typing file kept typed place m here in
      let scope = layer_scope (with_definitions file.defs []) at.below m in
      let p = parts (functions_of file.defs) (with_definitions file.defs []) at.below (weights_of file.defs) m at.typed in
      record {
        seen = λ name. ap (look_up name) (sym (added_all m.operations m.crash [] (weights_of file.defs) scope p.operations))
            ∙ seen_operations m.operations m.crash (weights_of file.defs) scope p.operations name;
        fit = λ name o args found fit. sym (same_fit o.arguments args scope
            (find_operation m.operations m.crash [] (weights_of file.defs) scope p.operations p.operations_kept name o found).arguments) ∙ fit;
      }

  pub layer_answers : (place : ℕ) (m : Layer) → slice_get file.layers place ≡ Some m → SpecAnswers (closed_at file place m)
  layer_answers place m here =
      let at = layer_typing file kept typed place m here in
      spec_answers (functions_of file.defs) (with_definitions file.defs []) at.below (weights_of file.defs) m (closed_at file place m).low
      (have (functions_of file.defs)) at.typed

  module _ (b : Block) (args memory : Env) (lower : State Env) where
    abbrev Directly : ClosedLayer → Below → Type 0
    Directly L below =
        RunsDirectly noted_picks (machine_below below) L b args (on memory lower) past (below_acts past below)
        × FallsDirectly noted_picks (machine_below below) L b args (on memory lower) past (below_acts past below)

    -- whatever the layer stands on
    directly : (place : ℕ) (L : ClosedLayer) (l : Layer) → slice_get file.layers place ≡ Some l → IsTypedBlock L (signatures_at file place) b (memory ++ args) →
        IsStateBelow (below_at file place) lower → Directly L (below_at file place)
    directly zero L l here t good = direct_on_disk past file.disk L b args memory lower disk_fine t good
    directly (suc place) L l here t good = by_layer (slice_get file.layers place) refl t good
      where
        by_layer : (m : Option Layer) → slice_get file.layers place ≡ m →
            IsTypedBlock L (elim m as (λ m. Named Signature) [ None ↦ [] | Some m ↦ signatures_of m.operations ]) b (memory ++ args) →
            IsStateBelow (elim m as (λ m. Below) [ None ↦ OnDisk file.disk | Some m ↦ OnSpec (closed_at file place m) ]) lower →
            Directly L (elim m as (λ m. Below) [ None ↦ OnDisk file.disk | Some m ↦ OnSpec (closed_at file place m) ])
        by_layer None e t good = absurd (layer_before file.layers place l here e)
        by_layer (Some m) e t good =
            direct_on_spec past (closed_at file place m) L (signatures_of m.operations) b args memory lower (layer_answers place m e)
            (layer_sees place m e) t good

pub direct_in_file : DirectInFile
direct_in_file past file derived typed body l b is impl variables args variables_fit args_fit lower good =
    let kept = blocks_kept file derived in
    let t = block_typing file kept typed body l b is in
    directly past file kept typed b (bind (arguments_in l body.part body.number) args) (bind (variables_in l body.part) variables) lower body.layer
    (closed_at file body.layer l) l is.layer
    (record {
      scope = t.scope;
      shape = t.shape;
      lower_is = t.lower;
      agrees = t.agrees variables args variables_fit args_fit;
      without_errors = t.without_errors;
      kept = subst (λ k. keeps k b ≡ true) impl t.keeps;
    })
    good
