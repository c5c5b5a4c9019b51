use Rattle.std.proofs.Common.{◌∷◌, [], All, subst, sym, map, List}
use Rattle.std.proofs.lemmas.List.{map-append}
use Rattle.std.proofs.lemmas.List.Elements.{All-head, All-tail}
use Rattle.ygg_cnf.specs.declared.log.Step.{Step}
use Rattle.ygg_cnf.specs.Logs.{clause_of}
use Rattle.ygg_chain.specs.Places.{IsPlaced}
use Rattle.ygg_solver.specs.Names.{step_at}
use Rattle.ygg_solver.proofs.names.name_log.Goals as goal

pub name_step-requires : goal.name_step-requires
name_step-requires c =
    All-head (All (IsPlaced c.args.variables.now)) (clause_of c.in-Some.step) (map clause_of c.next.new.self.rest.items)
    (subst (λ (l : List Step). All (All (IsPlaced c.args.variables.now)) (map clause_of l)) c.in-Some.ensures.steps.0 c.loop-step.invariant.placed)

pub loop-step-preserved : goal.loop-step-preserved
loop-step-preserved c = record {
  named = rw (c.in_ok-push.ensures.ok, c.loop-step.invariant.named, c.in_ok-name_step.ensures)
      (sym (map-append (step_at c.args.variables.now) c.loop-step.yielded (c.in-Some.step ∷ [])));
  placed = All-tail (All (IsPlaced c.args.variables.now)) (clause_of c.in-Some.step) (map clause_of c.next.new.self.rest.items)
      (subst (λ (l : List Step). All (All (IsPlaced c.args.variables.now)) (map clause_of l)) c.in-Some.ensures.steps.0 c.loop-step.invariant.placed);
}
