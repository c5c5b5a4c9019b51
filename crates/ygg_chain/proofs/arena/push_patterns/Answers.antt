use Rattle.std.proofs.Common.{◌++◌, map, ap, sym, ◌∙◌}
use Rattle.std.proofs.lemmas.List.{append-nil, take_all}
use Rattle.ygg_chain.specs.Arena.{made_at}
use Rattle.ygg_chain.proofs.ArenaLemmas.{more_mapped}
use Rattle.ygg_chain.proofs.arena.push_patterns.Goals as goal

pub loop-pattern-init : goal.loop-pattern-init
loop-pattern-init c = sym (append-nil c.args.stored.now.items)

pub returns-in_err-push-clause-some : goal.returns-in_err-push-clause-some
returns-in_err-push-clause-some c = (c.loop-pattern.pattern-index, c.in_err-push.ensures.items ∙ c.loop-pattern.invariant)

pub loop-pattern-preserved : goal.loop-pattern-preserved
loop-pattern-preserved c =
    more_mapped (made_at c.args.from) c.args.patterns.now c.loop-pattern.pattern-index _ c.args.stored.now.items c.loop-pattern.stored.items
    c.push.new.self.items c.loop-pattern-test.true c.loop-pattern.invariant c.in_ok-push.ensures.items

pub returns-clause-ok : goal.returns-clause-ok
returns-clause-ok c =
    c.loop-pattern.invariant
    ∙ ap (λ l. c.args.stored.now.items ++ map (made_at c.args.from) l) (take_all c.loop-pattern.pattern-index c.args.patterns.now c.loop-pattern-test.false)

pub returns-clause-some : goal.returns-clause-some
returns-clause-some c = (c.loop-pattern.pattern-index, c.loop-pattern.invariant)
