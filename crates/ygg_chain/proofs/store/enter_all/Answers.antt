use Rattle.std.proofs.Common.{List, [], ◌∷◌, ◌++◌, All, sym, subst, ◌∙◌, ap}
use Rattle.std.proofs.lemmas.List.{append-nil, take_all}
use Rattle.ygg_cnf.specs.declared.lit.Lit.{Lit}
use Rattle.ygg_chain.specs.Places.{IsPlaced, clause_at}
use Rattle.ygg_chain.proofs.PlaceLemmas.{entered, grown, same_set, none_placed}
use Rattle.ygg_chain.proofs.store.enter_all.Goals as goal

pub loop-lit-preserved : goal.loop-lit-preserved
loop-lit-preserved c =
    let (more, grew) = c.enter.ensures.grows in
    let (placed, same) = entered c.loop-lit.variables c.enter.new.variables more grew c.loop-lit.entered.items c.args.clause.now c.loop-lit.lit-index _
    c.in_ok-placed.placed c.loop-lit-test.true c.loop-lit.invariant.placed c.loop-lit.invariant.same c.in_ok-placed.ensures.ok in
    let pushed = c.in_ok-push.ensures.items ∙ ap (λ x. c.loop-lit.entered.items ++ x ∷ []) c.of.ensures in
    record {
      placed = subst (λ (l : List Lit). All (IsPlaced c.enter.new.variables) l) (sym pushed) placed;
      same = ap (clause_at c.enter.new.variables) pushed ∙ same;
      grows = grown c.args.variables.now c.loop-lit.variables c.enter.new.variables c.loop-lit.invariant.grows c.enter.ensures.grows;
      distinct = c.enter.ensures.distinct;
      room = c.enter.ensures.room;
      seen = same_set c.args.seen.now.items c.loop-lit.seen.items c.enter.new.seen.items c.loop-lit.invariant.seen c.enter.ensures.seen;
    }

pub loop-lit-init : goal.loop-lit-init
loop-lit-init c = record {
  placed = subst (λ (l : List Lit). All (IsPlaced c.args.variables.now) l) (sym c.clear.ensures.items) (none_placed c.args.variables.now);
  same = ap (clause_at c.args.variables.now) c.clear.ensures.items;
  grows = ([], sym (append-nil c.args.variables.now));
  distinct = c.requires.distinct;
  room = c.requires.room;
  seen = λ y. ((λ m. m), (λ m. m));
}

pub enter-requires-clause-distinct : goal.enter-requires-clause-distinct
enter-requires-clause-distinct c = c.loop-lit.invariant.distinct

pub enter-requires-clause-room : goal.enter-requires-clause-room
enter-requires-clause-room c = c.loop-lit.invariant.room

pub of-requires : goal.of-requires
of-requires c = c.in_ok-placed.ensures.small

pub returns-in_err-placed-clause-grows : goal.returns-in_err-placed-clause-grows
returns-in_err-placed-clause-grows c =
    grown c.args.variables.now c.loop-lit.variables c.enter.new.variables c.loop-lit.invariant.grows c.enter.ensures.grows

pub returns-in_err-placed-clause-distinct : goal.returns-in_err-placed-clause-distinct
returns-in_err-placed-clause-distinct c = c.enter.ensures.distinct

pub returns-in_err-placed-clause-room : goal.returns-in_err-placed-clause-room
returns-in_err-placed-clause-room c = c.enter.ensures.room

pub returns-in_err-placed-clause-seen : goal.returns-in_err-placed-clause-seen
returns-in_err-placed-clause-seen c =
    same_set c.args.seen.now.items c.loop-lit.seen.items c.enter.new.seen.items c.loop-lit.invariant.seen c.enter.ensures.seen

pub returns-in_err-push-clause-grows : goal.returns-in_err-push-clause-grows
returns-in_err-push-clause-grows c =
    grown c.args.variables.now c.loop-lit.variables c.enter.new.variables c.loop-lit.invariant.grows c.enter.ensures.grows

pub returns-in_err-push-clause-distinct : goal.returns-in_err-push-clause-distinct
returns-in_err-push-clause-distinct c = c.enter.ensures.distinct

pub returns-in_err-push-clause-room : goal.returns-in_err-push-clause-room
returns-in_err-push-clause-room c = c.enter.ensures.room

pub returns-in_err-push-clause-seen : goal.returns-in_err-push-clause-seen
returns-in_err-push-clause-seen c =
    same_set c.args.seen.now.items c.loop-lit.seen.items c.enter.new.seen.items c.loop-lit.invariant.seen c.enter.ensures.seen

pub returns-clause-placed : goal.returns-clause-placed
returns-clause-placed c = c.loop-lit.invariant.placed

pub returns-clause-same : goal.returns-clause-same
returns-clause-same c = c.loop-lit.invariant.same ∙ take_all c.loop-lit.lit-index c.args.clause.now c.loop-lit-test.false

pub returns-clause-grows : goal.returns-clause-grows
returns-clause-grows c = c.loop-lit.invariant.grows

pub returns-clause-distinct : goal.returns-clause-distinct
returns-clause-distinct c = c.loop-lit.invariant.distinct

pub returns-clause-room : goal.returns-clause-room
returns-clause-room c = c.loop-lit.invariant.room

pub returns-clause-seen : goal.returns-clause-seen
returns-clause-seen c = c.loop-lit.invariant.seen
