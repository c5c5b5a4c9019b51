use Rattle.std.proofs.Common.{◌≡◌, [], ◌∷◌, ◌++◌, ap, subst, ◌∙◌, OnOk}
use Rattle.std.proofs.lemmas.List.{map-append}
use Rattle.std.proofs.lemmas.Result.{on_ok_weaker, on_err_weaker}
use Rattle.ygg_chain.specs.Places.{clause_at, clauses_at}
use Rattle.ygg_chain.proofs.PlaceLemmas.{kept_more, pushed_placed, on_err_always}
use Rattle.ygg_chain.proofs.checker.Checker.hold.Goals as goal

pub returns-in_err-enter_all-clause-err : goal.returns-in_err-enter_all-clause-err
returns-in_err-enter_all-clause-err c =
    let (more, grew) = c.enter_all.ensures.grows in
    let kept = kept_more c.self.inside.store.variables c.enter_all.new.variables more grew c.self.inside.store.clauses c.self.invariant.kept.placed in
    on_err_always c.from_residual.result (kept.1 ∙ c.self.view_is)

pub invariant_of-self-2 : goal.invariant_of-self-2
invariant_of-self-2 c =
    let (more, grew) = c.enter_all.ensures.grows in
    let kept = kept_more c.self.inside.store.variables c.enter_all.new.variables more grew c.self.inside.store.clauses c.self.invariant.kept.placed in
    let ok = subst (λ l. OnOk c.push.result (c.push.new.self ≡ c.self.inside.store.clauses ++ l ∷ [])) c.as_slice.ensures.value c.push.ensures.ok in
    record {
      kept = record {
        distinct = c.enter_all.ensures.distinct;
        placed = pushed_placed c.push.result c.enter_all.new.variables c.self.inside.store.clauses c.push.new.self c.enter_all.new.entered.items
            ok c.push.ensures.err kept.0 c.in_ok-enter_all.ensures.placed;
        room = c.enter_all.ensures.room;
      };
      clear = λ y. ((λ m. (c.self.invariant.clear y).0 ((c.enter_all.ensures.seen y).0 m)), (λ none. absurd none));
    }

pub returns-clause-ok : goal.returns-clause-ok
returns-clause-ok c =
    let (more, grew) = c.enter_all.ensures.grows in
    let kept = kept_more c.self.inside.store.variables c.enter_all.new.variables more grew c.self.inside.store.clauses c.self.invariant.kept.placed in
    let ok = subst (λ l. OnOk c.push.result (c.push.new.self ≡ c.self.inside.store.clauses ++ l ∷ [])) c.as_slice.ensures.value c.push.ensures.ok in
    on_ok_weaker c.push.result
    (λ e. ap (clauses_at c.enter_all.new.variables) e
    ∙ map-append (clause_at c.enter_all.new.variables) c.self.inside.store.clauses (c.enter_all.new.entered.items ∷ [])
    ∙ ap (λ l. l ++ clause_at c.enter_all.new.variables c.enter_all.new.entered.items ∷ []) (kept.1 ∙ c.self.view_is)
    ∙ ap (λ x. c.args.self.now ++ x ∷ []) c.in_ok-enter_all.ensures.same)
    ok

pub returns-clause-err : goal.returns-clause-err
returns-clause-err c =
    let (more, grew) = c.enter_all.ensures.grows in
    let kept = kept_more c.self.inside.store.variables c.enter_all.new.variables more grew c.self.inside.store.clauses c.self.invariant.kept.placed in
    on_err_weaker c.push.result (λ e. ap (clauses_at c.enter_all.new.variables) e ∙ kept.1 ∙ c.self.view_is) c.push.ensures.err

pub invariant_of-self : goal.invariant_of-self
invariant_of-self c =
    let (more, grew) = c.enter_all.ensures.grows in
    let kept = kept_more c.self.inside.store.variables c.enter_all.new.variables more grew c.self.inside.store.clauses c.self.invariant.kept.placed in
    record {
      kept = record { distinct = c.enter_all.ensures.distinct; placed = kept.0; room = c.enter_all.ensures.room };
      clear = λ y. ((λ m. (c.self.invariant.clear y).0 ((c.enter_all.ensures.seen y).0 m)), (λ none. absurd none));
    }
