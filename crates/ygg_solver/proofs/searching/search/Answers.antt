use Rattle.std.proofs.Common.{◌≡◌, ◌<◌, ◌≤◌, ◌-◌, ◌∷◌, ℕ, length, All, List, [], ◌++◌, map, sym, subst, ap, ◌∙◌, arith, refl, inr, Contains, get_or}
use Rattle.std.proofs.Common.{length-append}
use Rattle.std.proofs.lemmas.List.Elements.{Contains-get_or, All-push}
use Rattle.ygg_cnf_set.specs.LiteralSet.{Fits}
use Rattle.ygg_cnf.specs.Derivations.{HasClause, DerivesClause}
use Rattle.ygg_cnf.specs.Logs.{Refutes, Derives, EachTeaches, Teaches, clause_of}
use Rattle.ygg_cnf.specs.declared.lit.Lit.{Lit}
use Rattle.ygg_cnf.specs.declared.log.Step.{Step}
use Rattle.ygg_cnf.specs.declared.log.Step.TheVariants.{Added}
use Rattle.ygg_solver.specs.Learning.{IsLastDecision, IsJump}
use Rattle.ygg_watch.specs.Propagation.{IsWithin, Propagation, with_clause, back_to}
use Rattle.ygg_cnf.proofs.LogLemmas.{map_push, all_back, derives_push, teaches_push, derives_as, ends_empty, learned_more}
use Rattle.ygg_solver.proofs.ModelLemmas.{satisfies_front, assigned_test}
use Rattle.ygg_solver.proofs.ReadyLemmas.{conflict_in, quiet_at, false_within, fits_within, ready_jump, jump_low, jump_or, decision_within, sound_in}
use Rattle.ygg_solver.specs.Kept.{IsReady}
use Rattle.ygg_watch.specs.Trail.{IsAt}
use Rattle.ygg_watch.specs.declared.entry.Entry.{Entry}
use Rattle.ygg_solver.proofs.searching.search.Goals as goal

pub refute-requires-clause-falses : goal.refute-requires-clause-falses
refute-requires-clause-falses g c =
    conflict_in (g.P.Propagate.state c.to_conflict.new.propagation) c.clauses-held.result.now c.trail-trail.result.now c.in-Some.conflict
    (sym c.clauses-held.ensures)
    (sym c.trail-trail.ensures) c.in-Some.ensures.conflict

pub returns-in_default-last_decision : goal.returns-in_default-last_decision
returns-in_default-last_decision g c =
    let given = (g.P.Propagate.state c.args.propagation.now).clauses in
    let log : List Step = c.loop-conflict.log in
    let step : Step = Added c.new.result c.from_vec.result in
    let d : DerivesClause (HasClause (given ++ map clause_of log)) c.from_vec.result c.new.result
    = derives_as _ c.clauses-held.result.now _ c.in_ok-chain.chain.items [] _
    (c.clauses-held.ensures ∙ (c.to_conflict.ensures.same ∙ c.loop-conflict.invariant.learned))
    (sym c.from_vec.ensures) (sym c.new.ensures) c.in_ok-chain.ensures in
    subst (λ (l : List Step). Refutes given l × ((length l ≤ c.args.budget) × All (IsWithin c.args.variable_count) (map clause_of l)))
    (sym c.in_ok-push.ensures.ok) (
      record {
        derives = derives_push given log step c.loop-conflict.invariant.derives d;
        empty = inr (ends_empty log c.new.result c.from_vec.result c.new.ensures);
      },
      (
        (let k = c.loop-conflict.invariant.left in omega (arith, length-append {A = Step}, k)),
        subst (All (IsWithin c.args.variable_count)) (sym (map_push log step))
            (All-push (IsWithin c.args.variable_count) (map clause_of log) c.new.result
            (all_back (IsWithin c.args.variable_count) given (map clause_of log)
            (subst (All (IsWithin c.args.variable_count)) c.loop-conflict.invariant.learned c.loop-conflict.invariant.variables))
            (subst (IsWithin c.args.variable_count) (sym c.new.ensures) (λ k d l. absurd (omega (arith, l))))),
      ),
    )

pub analyze-requires-clause-quiet : goal.analyze-requires-clause-quiet
analyze-requires-clause-quiet g c =
    quiet_at (g.P.Propagate.state c.to_conflict.new.propagation) c.clauses-held.result.now c.trail-trail.result.now c.in-Some-last_decision.start
    (sym c.clauses-held.ensures)
    (sym c.trail-trail.ensures) c.to_conflict.ensures.ready c.in-Some-last_decision.ensures

pub analyze-requires-clause-falses : goal.analyze-requires-clause-falses
analyze-requires-clause-falses g c =
    conflict_in (g.P.Propagate.state c.to_conflict.new.propagation) c.clauses-held.result.now c.trail-trail.result.now c.in-Some.conflict
    (sym c.clauses-held.ensures)
    (sym c.trail-trail.ensures) c.in-Some.ensures.conflict

pub add-requires : goal.add-requires
add-requires g c k d l =
    let clause : List Lit = c.in_ok-clause.field-0.clause in
    let y : Lit = get_or clause k d in
    subst (λ (p : Propagation). y.var < p.variable_count) (sym c.back.ensures)
    (false_within (g.P.Propagate.state c.to_conflict.new.propagation) c.trail-trail.result.now (length c.trail-trail.result.now) y
    (sym c.trail-trail.ensures) c.to_conflict.ensures.ready (c.in_ok-clause.ensures.falses y (Contains-get_or clause k d l)))

pub returns-then-len-budget : goal.returns-then-len-budget
returns-then-len-budget g c =
    let given = (g.P.Propagate.state c.args.propagation.now).clauses in
    let log : List Step = c.loop-conflict.log in
    let clause : List Lit = c.in_ok-clause.field-0.clause in
    let step : Step = Added clause c.from_vec-in-loop-conflict.result in
    let held : c.clauses-held.result.now ≡ given ++ map clause_of log = c.clauses-held.ensures
    ∙ (c.to_conflict.ensures.same ∙ c.loop-conflict.invariant.learned) in
    let d : DerivesClause (HasClause (given ++ map clause_of log)) c.from_vec-in-loop-conflict.result clause
    = derives_as _ c.clauses-held.result.now _ c.in_ok-clause.field-0.chain.items clause clause held
    (sym c.from_vec-in-loop-conflict.ensures) refl c.in_ok-clause.ensures.derived in (
      record {
        derives = subst (Derives given) (sym c.in_ok-push-2.ensures.ok)
            (derives_push given log step c.loop-conflict.invariant.derives d);
        count = sym c.len.ensures ∙ c.if-len-budget.true;
        teach = subst (EachTeaches given) (sym c.in_ok-push-2.ensures.ok)
            (teaches_push given log step c.loop-conflict.invariant.teach
            (subst (λ (l : List (List Lit)). Teaches l clause) held c.in_ok-clause.ensures.teaches));
      },
      subst (λ (l : List Step). All (IsWithin c.args.variable_count) (map clause_of l)) (sym c.in_ok-push-2.ensures.ok)
          (subst (All (IsWithin c.args.variable_count)) (sym (map_push log step))
          (All-push (IsWithin c.args.variable_count) (map clause_of log) clause
          (all_back (IsWithin c.args.variable_count) given (map clause_of log)
          (subst (All (IsWithin c.args.variable_count)) c.loop-conflict.invariant.learned c.loop-conflict.invariant.variables))
          (λ k d l. let y : Lit = get_or clause k d in
          let now : Propagation = g.P.Propagate.state c.to_conflict.new.propagation in
          let r : c.args.variable_count ≡ now.variable_count = c.loop-conflict.invariant.variable_count ∙ sym c.to_conflict.ensures.variable_count in
          let w : y.var < now.variable_count = false_within now c.trail-trail.result.now (length c.trail-trail.result.now) y
          (sym c.trail-trail.ensures) c.to_conflict.ensures.ready
          (c.in_ok-clause.ensures.falses y (Contains-get_or clause k d l)) in
          omega (arith, r, w)))),
    )

pub loop-conflict-preserved : goal.loop-conflict-preserved
loop-conflict-preserved g c =
    let state = g.P.Propagate.state in
    let given = (state c.args.propagation.now).clauses in
    let now : Propagation = state c.to_conflict.new.propagation in
    let log : List Step = c.loop-conflict.log in
    let clause : List Lit = c.in_ok-clause.field-0.clause in
    let step : Step = Added clause c.from_vec-in-loop-conflict.result in
    let learned : now.clauses ≡ given ++ map clause_of log = c.to_conflict.ensures.same ∙ c.loop-conflict.invariant.learned in
    let held : c.clauses-held.result.now ≡ given ++ map clause_of log = c.clauses-held.ensures ∙ learned in
    let d : DerivesClause (HasClause (given ++ map clause_of log)) c.from_vec-in-loop-conflict.result clause
    = derives_as _ c.clauses-held.result.now _ c.in_ok-clause.field-0.chain.items clause clause held
    (sym c.from_vec-in-loop-conflict.ensures) refl c.in_ok-clause.ensures.derived in
    let after : state c.add.new.self ≡ with_clause (back_to now c.level_after-level.result) clause
    = c.in_ok-add.ensures.ok ∙ ap (λ (p : Propagation). with_clause p clause) c.back.ensures in
    let count : c.args.variable_count ≡ now.variable_count = c.loop-conflict.invariant.variable_count ∙ sym c.to_conflict.ensures.variable_count in
    let within : (y : Lit) → Contains clause y → y.var < now.variable_count
    = λ y h. false_within now c.trail-trail.result.now (length c.trail-trail.result.now) y (sym c.trail-trail.ensures) c.to_conflict.ensures.ready
    (c.in_ok-clause.ensures.falses y h) in
    record {
      variable_count = count ∙ ap (λ (p : Propagation). p.variable_count) (sym after);
      ready = subst IsReady (sym after) (ready_jump now clause c.in-Some-last_decision.start c.level_after-level.result c.to_conflict.ensures.ready
          (subst (λ (t : List Entry). IsLastDecision t c.in-Some-last_decision.start) c.trail-trail.ensures c.in-Some-last_decision.ensures)
          (jump_or _ _ _ _ _ c.level_after-level.ensures
          (subst (λ (t : List Entry). IsJump t clause c.in-Some-last_decision.start c.in_ok-clause.field-0.level) c.trail-trail.ensures
          c.in_ok-clause.ensures.jump)));
      learned = learned_more given now.clauses _ log _ step clause learned (ap (λ (p : Propagation). p.clauses) after) c.in_ok-push-2.ensures.ok refl;
      fits = subst (λ (l : List (List Lit)). All (λ w. All (Fits (length c.analyze.new.seen)) w) l) (sym (ap (λ (p : Propagation). p.clauses) after))
          (All-push (λ w. All (Fits (length c.analyze.new.seen)) w) now.clauses clause
          (rw (c.to_conflict.ensures.same, c.analyze.auto.seen) c.loop-conflict.invariant.fits)
          (λ k d l. let m : length c.analyze.new.seen ≡ length c.args.seen.now = c.analyze.auto.seen ∙ c.loop-conflict.auto.seen in
          fits_within (length c.analyze.new.seen) now.variable_count (get_or clause k d) (within _ (Contains-get_or clause k d l))
          (omega (arith, count, m, c.requires.seen))));
      variables = subst (λ (l : List (List Lit)). All (λ w. All (λ (x : Lit). x.var < c.args.variable_count) w) l)
          (sym (ap (λ (p : Propagation). p.clauses) after))
          (All-push (λ w. All (λ (x : Lit). x.var < c.args.variable_count) w) now.clauses clause
          (rw c.to_conflict.ensures.same c.loop-conflict.invariant.variables)
          (λ k d l. let w = within (get_or clause k d) (Contains-get_or clause k d l) in omega (arith, count, w)));
      clear = c.in_ok-clause.ensures.clear;
      derives = subst (Derives given) (sym c.in_ok-push-2.ensures.ok) (derives_push given log step c.loop-conflict.invariant.derives d);
      teach = subst (EachTeaches given) (sym c.in_ok-push-2.ensures.ok)
          (teaches_push given log step c.loop-conflict.invariant.teach
          (subst (λ (l : List (List Lit)). Teaches l clause) held c.in_ok-clause.ensures.teaches));
      left = (let k = c.loop-conflict.invariant.left in let e = ap (λ (l : List Step). length l) c.in_ok-push-2.ensures.ok in
          omega (arith, length-append {A = Step}, k, e, c.len.ensures, c.if-len-budget.false));
    }

pub back-requires : goal.back-requires
back-requires g c =
    jump_low (g.P.Propagate.state c.to_conflict.new.propagation) c.in_ok-clause.field-0.clause c.in-Some-last_decision.start
    c.level_after-level.result c.to_conflict.ensures.ready
    (jump_or _ _ _ _ _ c.level_after-level.ensures (subst
    (λ (t : List Entry). IsJump t c.in_ok-clause.field-0.clause c.in-Some-last_decision.start c.in_ok-clause.field-0.level) c.trail-trail.ensures
    c.in_ok-clause.ensures.jump))

pub analyze-requires-clause-within : goal.analyze-requires-clause-within
analyze-requires-clause-within g c = decision_within c.trail-trail.result.now c.in-Some-last_decision.start c.in-Some-last_decision.ensures

pub returns-in_default : goal.returns-in_default
returns-in_default g c =
    let given = (g.P.Propagate.state c.args.propagation.now).clauses in
    let now : Propagation = g.P.Propagate.state c.to_conflict.new.propagation in
    let ready = c.to_conflict.ensures.ready in
    let model = c.in_default.ensures.model in
    let variable_count : c.args.variable_count ≡ now.variable_count = c.loop-conflict.invariant.variable_count ∙ sym c.to_conflict.ensures.variable_count in
    let held : now.clauses ≡ given ++ map clause_of c.loop-conflict.log
    = c.to_conflict.ensures.same ∙ c.loop-conflict.invariant.learned in (
      record { distinct = ready.sound.distinct; within = λ q e h. let w = ready.within q e h in omega (arith, w, variable_count) },
      satisfies_front now given (map clause_of c.loop-conflict.log) c.args.variable_count held ready
          (subst (λ (l : List (List Lit)). All (λ w. All (λ (x : Lit). x.var < c.args.variable_count) w) l) c.loop-conflict.invariant.learned
          c.loop-conflict.invariant.variables)
          model.0 (λ v l. assigned_test now.trail v (model.1 v l)),
    )

pub analyze-requires-clause-seen : goal.analyze-requires-clause-seen
analyze-requires-clause-seen g c q e h =
    let now : Propagation = g.P.Propagate.state c.to_conflict.new.propagation in
    let w : e.lit.var < now.variable_count = c.to_conflict.ensures.ready.within q e (subst (λ (t : List Entry). IsAt t q e) c.trail-trail.ensures h) in
    let r : c.args.variable_count ≡ now.variable_count = c.loop-conflict.invariant.variable_count ∙ sym c.to_conflict.ensures.variable_count in
    let m : length c.loop-conflict.seen ≡ length c.args.seen.now = c.loop-conflict.auto.seen in
    omega (arith, w, r, m, c.requires.seen)

-- one step more leaves fewer
fewer_left : (log after : List Step) (step : Step) (budget : ℕ) → length log < budget → after ≡ log ++ step ∷ [] → budget - length after < budget - length log
fewer_left log after step budget l e = rw e (simp length-append (omega arith))

pub loop-conflict-smaller : goal.loop-conflict-smaller
loop-conflict-smaller g c = fewer_left c.loop-conflict.log _ _ c.args.budget c.loop-conflict.invariant.left c.in_ok-push-2.ensures.ok

pub refute-requires-clause-sound : goal.refute-requires-clause-sound
refute-requires-clause-sound g c =
    sound_in (g.P.Propagate.state c.to_conflict.new.propagation) c.clauses-held.result.now c.trail-trail.result.now (sym c.clauses-held.ensures)
    (sym c.trail-trail.ensures) c.to_conflict.ensures.ready

pub analyze-requires-clause-sound : goal.analyze-requires-clause-sound
analyze-requires-clause-sound g c =
    sound_in (g.P.Propagate.state c.to_conflict.new.propagation) c.clauses-held.result.now c.trail-trail.result.now (sym c.clauses-held.ensures)
    (sym c.trail-trail.ensures) c.to_conflict.ensures.ready

pub refute-requires-clause-fits : goal.refute-requires-clause-fits
refute-requires-clause-fits g c =
    subst (λ (l : List (List Lit)). All (All (Fits (length c.loop-conflict.seen))) l) (sym (c.clauses-held.ensures ∙ c.to_conflict.ensures.same))
    c.loop-conflict.invariant.fits

pub analyze-requires-clause-fits : goal.analyze-requires-clause-fits
analyze-requires-clause-fits g c =
    subst (λ (l : List (List Lit)). All (All (Fits (length c.loop-conflict.seen))) l) (sym (c.clauses-held.ensures ∙ c.to_conflict.ensures.same))
    c.loop-conflict.invariant.fits
