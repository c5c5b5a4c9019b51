use Rattle.std.proofs.Common.{◌≡◌, List, ◌++◌, length, map, take, All, sym, ap, subst, ◌∙◌}
use Rattle.std.proofs.lemmas.List.{append-nil, map-append}
use Rattle.std.proofs.lemmas.List.Elements.{All-append, All-take}
use Rattle.std.proofs.lemmas.Result.{on_ok_weaker}
use Rattle.ygg_cnf.specs.declared.lit.Lit.{Lit}
use Rattle.ygg_cnf.specs.Patterns.{IsPattern, made}
use Rattle.ygg_cnf.specs.declared.pattern.Pattern.{Pattern}
use Rattle.ygg_chain.specs.Places.{IsPlaced, clause_at, clauses_at}
use Rattle.ygg_chain.proofs.PlaceLemmas.{kept_more}
use Rattle.ygg_chain.proofs.ArenaLemmas.{all_made_placed, all_made_at_places, patterns_fit}
use Rattle.ygg_chain.proofs.checker.Checker.hold_made.Goals as goal

pub push_made-requires : goal.push_made-requires
push_made-requires c =
    patterns_fit c.enter_all.new.variables c.as_slice.result.now c.enter_all.new.entered.items c.args.block.now c.args.patterns.now
    c.as_slice.ensures.value c.in_ok-enter_all.ensures.same c.requires

-- the patterns are of the block that is kept
fit : (c : goal.After-push_made) → All (IsPattern (length c.as_slice.result.now)) c.args.patterns.now
fit c =
    patterns_fit c.enter_all.new.variables c.as_slice.result.now c.enter_all.new.entered.items c.args.block.now c.args.patterns.now
    c.as_slice.ensures.value c.in_ok-enter_all.ensures.same c.requires

pub invariant_of-self-2 : goal.invariant_of-self-2
invariant_of-self-2 c =
    let (more, grew) = c.enter_all.ensures.grows in
    let kept = kept_more c.self.inside.store.variables c.enter_all.new.variables more grew c.self.inside.store.clauses c.self.invariant.kept.placed in
    let block : List Lit = c.as_slice.result.now in
    let (count, some) = c.push_made.ensures.some in
    let placed : All (IsPlaced c.enter_all.new.variables) block =
    subst (All (IsPlaced c.enter_all.new.variables)) (sym c.as_slice.ensures.value) c.in_ok-enter_all.ensures.placed in
    record {
      kept = record {
        distinct = c.enter_all.ensures.distinct;
        placed = subst (All (All (IsPlaced c.enter_all.new.variables))) (sym some)
            (All-append (All (IsPlaced c.enter_all.new.variables)) c.self.inside.store.clauses (map (made block) (take count c.args.patterns.now)) kept.0
            (all_made_placed c.enter_all.new.variables block placed (take count c.args.patterns.now)
            (All-take (IsPattern (length block)) count c.args.patterns.now (fit c))));
        room = c.enter_all.ensures.room;
      };
      clear = λ y. ((λ m. (c.self.invariant.clear y).0 ((c.enter_all.ensures.seen y).0 m)), (λ none. absurd none));
    }

-- what is held where so many clauses have come
held_more : (c : goal.After-push_made) (ps : List Pattern) → All (IsPattern (length c.as_slice.result.now)) ps →
    c.push_made.new.self ≡ c.self.inside.store.clauses ++ map (made c.as_slice.result.now) ps →
    clauses_at c.enter_all.new.variables c.push_made.new.self ≡ c.args.self.now ++ map (made c.args.block.now) ps
held_more c ps fit e =
    let (more, grew) = c.enter_all.ensures.grows in
    let kept = kept_more c.self.inside.store.variables c.enter_all.new.variables more grew c.self.inside.store.clauses c.self.invariant.kept.placed in
    let block : List Lit = c.as_slice.result.now in
    ap (clauses_at c.enter_all.new.variables) e
    ∙ map-append (clause_at c.enter_all.new.variables) c.self.inside.store.clauses (map (made block) ps)
    ∙ ap (λ l. l ++ map (clause_at c.enter_all.new.variables) (map (made block) ps)) (kept.1 ∙ c.self.view_is)
    ∙ ap (λ l. c.args.self.now ++ l) (all_made_at_places c.enter_all.new.variables block ps fit
    ∙ ap (λ b. map (made b) ps) (ap (clause_at c.enter_all.new.variables) c.as_slice.ensures.value ∙ c.in_ok-enter_all.ensures.same))

pub returns-in_err-enter_all-clause-some : goal.returns-in_err-enter_all-clause-some
returns-in_err-enter_all-clause-some c =
    let (more, grew) = c.enter_all.ensures.grows in
    let kept = kept_more c.self.inside.store.variables c.enter_all.new.variables more grew c.self.inside.store.clauses c.self.invariant.kept.placed in
    (0, kept.1 ∙ c.self.view_is ∙ sym (append-nil c.args.self.now))

pub returns-clause-ok : goal.returns-clause-ok
returns-clause-ok c = on_ok_weaker c.push_made.result (held_more c c.args.patterns.now (fit c)) c.push_made.ensures.ok

pub returns-clause-some : goal.returns-clause-some
returns-clause-some c =
    let (count, some) = c.push_made.ensures.some in
    (count, held_more c (take count c.args.patterns.now) (All-take (IsPattern (length c.as_slice.result.now)) count c.args.patterns.now (fit c)) some)

pub invariant_of-self : goal.invariant_of-self
invariant_of-self c =
    let (more, grew) = c.enter_all.ensures.grows in
    let kept = kept_more c.self.inside.store.variables c.enter_all.new.variables more grew c.self.inside.store.clauses c.self.invariant.kept.placed in
    record {
      kept = record { distinct = c.enter_all.ensures.distinct; placed = kept.0; room = c.enter_all.ensures.room };
      clear = λ y. ((λ m. (c.self.invariant.clear y).0 ((c.enter_all.ensures.seen y).0 m)), (λ none. absurd none));
    }
