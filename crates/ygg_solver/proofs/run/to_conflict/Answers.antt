use Rattle.std.proofs.Common.{◌≡◌, ◌<◌, ◌≤◌, ◌∙◌, arith, subst, sym, ap, refl, not}
use Rattle.ygg_cnf.specs.declared.lit.Lit.{Lit}
use Rattle.ygg_watch.proofs.PropagationLemmas.{variable_count_spreads, clauses_spreads}
use Rattle.ygg_watch.specs.Propagation.{Propagation, decided}
use Rattle.ygg_solver.proofs.LeftLemmas.{left, left_decided, left_spreads}
use Rattle.ygg_solver.proofs.ReadyLemmas.{ready_spreads, ready_decided}
use Rattle.ygg_solver.specs.Kept.{IsReady}
use Rattle.ygg_solver.proofs.run.to_conflict.Goals as goal

pub loop-id-smaller : goal.loop-id-smaller
loop-id-smaller g c =
    let state = g.P.Propagate.state in
    let le : left (state c.spread.new.self) ≤ left (state c.loop-id.propagation)
    = left_spreads (state c.loop-id.propagation) (state c.spread.new.self) c.spread.ensures.spreads in
    let some = c.in-Some.ensures.some in
    let variable_count : c.args.variable_count ≡ (state c.spread.new.self).variable_count
    = c.loop-id.invariant.variable_count ∙ variable_count_spreads (state c.loop-id.propagation) (state c.spread.new.self) c.spread.ensures.spreads in
    let lt : left (decided (state c.spread.new.self) (record { var = c.in-Some.var; negated = not c.phase-negated.result })) < left (state c.spread.new.self)
    = left_decided (state c.spread.new.self) (record { var = c.in-Some.var; negated = not c.phase-negated.result })
    (omega (arith, some.0, variable_count)) some.1 in
    subst (λ (p : Propagation). left p < left (state c.loop-id.propagation)) (sym c.decide.ensures) (omega (arith, le, lt))

pub returns-in-False-clause-ready : goal.returns-in-False-clause-ready
returns-in-False-clause-ready g c =
    ready_spreads (g.P.Propagate.state c.loop-id.propagation) (g.P.Propagate.state c.spread.new.self) c.loop-id.invariant.ready c.spread.ensures.spreads

pub returns-in-None-clause-ready : goal.returns-in-None-clause-ready
returns-in-None-clause-ready g c =
    ready_spreads (g.P.Propagate.state c.loop-id.propagation) (g.P.Propagate.state c.spread.new.self) c.loop-id.invariant.ready c.spread.ensures.spreads

pub loop-id-preserved : goal.loop-id-preserved
loop-id-preserved g c =
    let state = g.P.Propagate.state in
    let x : Lit = record { var = c.in-Some.var; negated = not c.phase-negated.result } in
    let some = c.in-Some.ensures.some in
    let now : Propagation = state c.spread.new.self in
    let variable_counts : (state c.loop-id.propagation).variable_count ≡ now.variable_count =
    variable_count_spreads (state c.loop-id.propagation) now c.spread.ensures.spreads in
    let clauses : (state c.loop-id.propagation).clauses ≡ now.clauses = clauses_spreads (state c.loop-id.propagation) now c.spread.ensures.spreads in
    let ready : IsReady now = ready_spreads (state c.loop-id.propagation) now c.loop-id.invariant.ready c.spread.ensures.spreads in
    let within : x.var < now.variable_count = omega (arith, some.0, variable_counts, c.loop-id.invariant.variable_count) in
    let after : IsReady (decided now x) = ready_decided now x within ready some.1 (c.in-Quiet.ensures.open refl) in
    record {
      variable_count = c.loop-id.invariant.variable_count ∙ (variable_counts ∙ ap (λ (p : Propagation). p.variable_count) (sym c.decide.ensures));
      ready = subst IsReady (sym c.decide.ensures) after;
      kept = ap (λ (p : Propagation). p.variable_count) c.decide.ensures ∙ (sym variable_counts ∙ c.loop-id.invariant.kept);
      same = ap (λ (p : Propagation). p.clauses) c.decide.ensures ∙ (sym clauses ∙ c.loop-id.invariant.same);
    }

pub returns-in-None-clause-model : goal.returns-in-None-clause-model
returns-in-None-clause-model g c = (c.in-Quiet.ensures.open refl, c.in-None.ensures.none)
