-- The parts of a typed layer.
use Rattle.std.proofs.Common.{◌≡◌, true, ◌&&◌, [], None}
use Rattle.std.specs.List.{list_all}
use Rattle.ygg_base.specs.declared.reason.Reason.TheVariants as reason
use Rattle.ygg_syntax.specs.declared.grammar.BlockKind.TheVariants.{Plain, Spec, Impl}
use Rattle.ygg_syntax.specs.declared.tree.Layer.{Layer}
use Rattle.ygg_meaning_laws.specs.Weights.{Weights}
use Rattle.ygg_meaning_laws.specs.ygg_type_rules.Names.{Named}
use Rattle.ygg_meaning_laws.specs.Visibility.TheVariants.{Specification, Implementation}
use Rattle.ygg_meaning_laws.specs.Signature.{Signature}
use Rattle.ygg_meaning_laws.specs.TypeErrors.{none, unless}
use Rattle.ygg_meaning_laws.specs.Limits.{picks_fit}
use Rattle.ygg_syntax.specs.Choices.{choices_of}
use Rattle.ygg_meaning_laws.specs.Scopes.{seen_as}
use Rattle.ygg_meaning_laws.specs.Statements.{block_errors}
use Rattle.ygg_meaning_laws.specs.Layers.{
  Below,
  layer_scope,
  declared_errors,
  blocks_errors,
  view_errors,
  operations_errors,
  ticks_errors,
  relations_errors,
  parts_errors,
}
use Rattle.ygg_meaning.specs.Meaning.{Functions}
use Rattle.ygg_meaning_laws.proofs.Definitions.{MeetsAll}
use Rattle.ygg_meaning_laws.proofs.Tests.{left as first_of, right as second_of}
use Rattle.ygg_meaning_laws.specs.Kinds.{keeps, operation_keeps, tick_keeps, layer_keeps}
use Rattle.ygg_meaning_laws.proofs.Views.{LayerVariables, layer_variables, LowerShaped}

-- a layer without type errors, whose blocks keep their kinds, over definitions and a machine below that keep what they say
pub record IsTypedLayer (functions : Functions) (defs : Named Signature) (below : Below) (weights : Weights) (l : Layer) : Type 0 where
  pub typed : none (parts_errors l weights (layer_scope defs below l)) ≡ true
  pub kept : layer_keeps l ≡ true
  pub meets : MeetsAll functions defs
  pub shaped : LowerShaped below.operations

-- its parts
pub record Parts (defs : Named Signature) (below : Below) (weights : Weights) (l : Layer) : Type 0 where
  pub variables : LayerVariables l
  pub start : none (block_errors l.start None (seen_as Specification (layer_scope defs below l))) ≡ true
  pub start_kept : keeps Plain l.start ≡ true
  pub crash : none (block_errors l.crash None (seen_as Specification (layer_scope defs below l))) ≡ true
  pub crash_kept : keeps Spec l.crash ≡ true
  pub recover : none (block_errors l.recover None (seen_as Implementation (layer_scope defs below l))) ≡ true
  pub recover_kept : keeps Impl l.recover ≡ true
  pub operations : none (operations_errors l.operations l.crash [] weights (layer_scope defs below l)) ≡ true
  pub operations_kept : list_all operation_keeps l.operations ≡ true

pub parts : (functions : Functions) (defs : Named Signature) (below : Below) (weights : Weights) (l : Layer) →
    IsTypedLayer functions defs below weights l → Parts defs below weights l
parts functions defs below weights l is =
    let scope = layer_scope defs below l in
    let declared = none (declared_errors l) in
    let blocks = none (blocks_errors l weights scope) in
    let operations = none (operations_errors l.operations l.crash [] weights scope) in
    let later = none (ticks_errors l.ticks [] weights scope) && none (relations_errors l weights scope) in
    let a = second_of declared (blocks && (operations && later)) is.typed in
    let b = first_of blocks (operations && later) a in
    let start = none (view_errors Specification l.start None weights scope) in
    let format = none (view_errors Implementation l.format None weights scope) in
    let crash = none (view_errors Specification l.crash None weights scope) in
    let picks = none (unless (picks_fit (choices_of l.crash)) reason.TooManyChoices l.crash_place) in
    let recover = none (view_errors Implementation l.recover None weights scope) in
    let c = second_of format (crash && (picks && recover)) (second_of start (format && (crash && (picks && recover))) b) in
    let k = first_of (keeps Plain l.start && keeps Impl l.format && list_all operation_keeps l.operations && keeps Spec l.crash
    && list_all tick_keeps l.ticks) (keeps Impl l.recover) is.kept in
    let m = first_of (keeps Plain l.start && keeps Impl l.format && list_all operation_keeps l.operations && keeps Spec l.crash)
    (list_all tick_keeps l.ticks) k in
    record {
      variables = layer_variables l (first_of declared (blocks && (operations && later)) is.typed);
      start = first_of (none (block_errors l.start None (seen_as Specification scope))) _ (first_of start (format && (crash && (picks && recover))) b);
      start_kept = first_of (keeps Plain l.start) (keeps Impl l.format)
          (first_of (keeps Plain l.start && keeps Impl l.format) (list_all operation_keeps l.operations)
          (first_of (keeps Plain l.start && keeps Impl l.format && list_all operation_keeps l.operations) (keeps Spec l.crash) m));
      crash = first_of (none (block_errors l.crash None (seen_as Specification scope))) _ (first_of crash (picks && recover) c);
      crash_kept = second_of (keeps Plain l.start && keeps Impl l.format && list_all operation_keeps l.operations) (keeps Spec l.crash) m;
      recover = first_of (none (block_errors l.recover None (seen_as Implementation scope))) _ (second_of picks recover (second_of crash (picks && recover) c));
      recover_kept = second_of (keeps Plain l.start && keeps Impl l.format && list_all operation_keeps l.operations && keeps Spec l.crash
          && list_all tick_keeps l.ticks) (keeps Impl l.recover) is.kept;
      operations = first_of operations later (second_of blocks (operations && later) a);
      operations_kept = second_of (keeps Plain l.start && keeps Impl l.format) (list_all operation_keeps l.operations)
          (first_of (keeps Plain l.start && keeps Impl l.format && list_all operation_keeps l.operations) (keeps Spec l.crash) m);
    }
