use Rattle.std.proofs.Common.{sym, ◌∙◌}
use Rattle.std.proofs.lemmas.Bool.{false≢true}
use Rattle.ygg_chain.proofs.CountLemmas.{empty_counted}
use Rattle.ygg_chain.proofs.checker.judge.Goals as goal

pub returns-then-resolved-clause-answer : goal.returns-then-resolved-clause-answer
returns-then-resolved-clause-answer c =
    let exact = c.resolve_chain-resolved.ensures.exact c.args.clause.now in
    ((λ t. exact.1 (c.if-resolved.true, c.take_set-same.ensures.answer.0 t)), (λ d. c.take_set-same.ensures.answer.1 (exact.0 d).1))

pub returns-else-resolved-clause-answer : goal.returns-else-resolved-clause-answer
returns-else-resolved-clause-answer c =
    ((λ t. absurd (false≢true (sym c.if-resolved.false ∙ t))), (λ d. ((c.resolve_chain-resolved.ensures.exact c.args.clause.now).0 d).0))

pub resolve_chain-resolved-requires-clause-counted : goal.resolve_chain-resolved-requires-clause-counted
resolve_chain-resolved-requires-clause-counted c = empty_counted c.args.seen.now c.requires.clear
