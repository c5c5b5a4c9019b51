use Rattle.std.proofs.Common.{◌≡◌, ◌+◌, ◌++◌, ◌∷◌, [], drop, sym, ap, ◌∙◌, append_assoc}
use Rattle.std.proofs.lemmas.List.{at_drop_more}
use Rattle.ygg_syntax.specs.declared.tree.Def.{Def}
use Rattle.ygg_type.specs.ygg_syntax.Weights.{weights_of, expr_weight}
use Rattle.ygg_type.specs.ygg_type_rules.TypeErrors.{first_after}
use Rattle.ygg_type.specs.ygg_type_rules.Definitions.{
  definition_errors,
  definitions_errors,
  definition_scope,
  with_definition,
  with_definitions,
}
use Rattle.ygg_type.proofs.definitions.definitions.Goals as goal

pub loop-def-preserved : goal.loop-def-preserved
loop-def-preserved c =
    let all = c.args.defs.now in
    let i = c.loop-def.def-index in
    let def = c.def-item.result in
    let here = c.loop-def-test.true in
    let before = c.loop-def.checker.first.type_error in
    let defs = c.loop-def.checker.defs in
    let weights = c.loop-def.weights in
    let left = drop (i + 1) all in
    let next = c.in_ok-next.ensures in
    let known : c.next.new.checker.defs ≡ with_definition def defs = ap (λ s. s.defs) next.scope in
    let own = λ (d : Def). definition_errors d (expr_weight (weights_of weights) d.body) defs in
    record {
      first =
          ap (λ found. first_after found (definitions_errors left c.next.new.weights c.next.new.checker.defs)) next.first
          ∙ ap (λ ws. first_after (first_after before (own def)) (definitions_errors left ws c.next.new.checker.defs)) next.weights
          ∙ ap (λ ds. first_after (first_after before (own def)) (definitions_errors left (weights ++ def ∷ []) ds)) known
          ∙ ap (λ d. first_after (first_after before (own d)) (definitions_errors left (weights ++ d ∷ []) (with_definition d defs))) c.def-item.is
          ∙ sym (at_drop_more (λ ds. first_after before (definitions_errors ds weights defs)) all i def here)
          ∙ c.loop-def.invariant.first;
      seen = next.scope ∙ sym (ap definition_scope known);
      defs =
          ap (with_definitions left) known
          ∙ ap (λ d. with_definitions left (with_definition d defs)) c.def-item.is
          ∙ sym (at_drop_more (λ ds. with_definitions ds defs) all i def here)
          ∙ c.loop-def.invariant.defs;
      weights =
          ap (λ ws. ws ++ left) next.weights
          ∙ append_assoc weights (def ∷ []) left
          ∙ ap (λ d. weights ++ d ∷ left) c.def-item.is
          ∙ sym (at_drop_more (λ ds. weights ++ ds) all i def here)
          ∙ c.loop-def.invariant.weights;
    }
