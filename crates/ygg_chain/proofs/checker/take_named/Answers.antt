use Rattle.std.proofs.Common.{sym, ◌∙◌}
use Rattle.std.proofs.lemmas.Bool.{false≢true}
use Rattle.ygg_chain.proofs.HeldLemmas.{take_more_named, none_more_named, none_less_named, named_front, named_all}
use Rattle.ygg_chain.proofs.checker.take_named.Goals as goal
use Rattle.ygg_chain.proofs.checker.take_named.Goals.{then-take_numbered, else-take_numbered}

pub loop-id-preserved : goal.loop-id-preserved
loop-id-preserved c =
    let more = none_more_named c.args.store.now.clauses c.args.chain.now c.loop-id.id-index c.loop-id-test.true c.args.seen.now c.loop-id.seen
    c.take_numbered.new.seen c.loop-id.invariant.taken in
    let less = none_less_named c.args.store.now.clauses c.args.chain.now c.loop-id.id-index c.loop-id-test.true c.args.seen.now c.loop-id.seen
    c.take_numbered.new.seen c.loop-id.invariant.taken in
    record {
      none = elim c.if-take_numbered.branch [
        | then-take_numbered w ↦ rw w.none-is (
          (λ t. more (c.loop-id.invariant.none.0 t) (c.take_numbered.ensures.answer.0 w.if-take_numbered.true)),
          (λ all. c.loop-id.invariant.none.1 (less all).0),
        )
        | else-take_numbered w ↦ rw w.none-is (
          (λ t. absurd (false≢true (sym w.if-take_numbered.false ∙ t))),
          (λ all. c.take_numbered.ensures.answer.1 (less all).1),
        )
      ];
      taken = take_more_named c.args.store.now.clauses c.args.chain.now c.loop-id.id-index c.loop-id-test.true c.args.seen.now c.loop-id.seen
          c.take_numbered.new.seen c.loop-id.invariant.taken c.take_numbered.ensures.taken;
    }

pub returns-clause-answer : goal.returns-clause-answer
returns-clause-answer c = (
  (λ t y m named. c.loop-id.invariant.none.0 t y m (named_all c.args.store.now.clauses c.args.chain.now c.loop-id.id-index y c.loop-id-test.false named)),
  (λ all. c.loop-id.invariant.none.1 (λ y m named. all y m (named_front c.args.store.now.clauses c.args.chain.now c.loop-id.id-index y named))),
)

pub returns-clause-taken : goal.returns-clause-taken
returns-clause-taken c y = (
  (λ m. let p = (c.loop-id.invariant.taken y).0 m in
      (p.0, λ named. p.1 (named_all c.args.store.now.clauses c.args.chain.now c.loop-id.id-index y c.loop-id-test.false named))),
  (λ p. (c.loop-id.invariant.taken y).1
      (p.0, λ named. p.1 (named_front c.args.store.now.clauses c.args.chain.now c.loop-id.id-index y named))),
)
