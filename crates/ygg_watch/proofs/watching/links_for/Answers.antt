use Rattle.std.proofs.Common.{All, ◌<◌, arith, List, [], take, get_or, subst}
use Rattle.std.proofs.lemmas.List.{take_more, take_all}
use Rattle.std.proofs.lemmas.List.Elements.{All-get_or}
use Rattle.ygg_cnf.specs.declared.lit.Lit.{Lit}
use Rattle.ygg_watch.proofs.StepLemmas.{live_added, live_none}
use Rattle.ygg_watch.specs.State.{IsLive}
use Rattle.ygg_watch.proofs.watching.links_for.Goals as goal

pub loop-preserved : goal.loop-preserved
loop-preserved c =
    let clauses : List (List Lit) = c.args.clauses.now in
    let clause : List Lit = get_or clauses c.loop.counter [] in
    rw (take_more clauses c.loop.counter [] c.loop-test.true, c.in_ok-add.ensures.watched, c.in_ok-add.ensures.next, c.in_ok-add.ensures.firsts)
    (live_added (take c.loop.counter clauses) c.loop.links.watched c.loop.links.next c.loop.links.firsts [] c.args.variable_count [] 0 0 clause
    c.loop.invariant (omega arith)
    (All-get_or (All (λ (x : Lit). x.var < c.args.variable_count)) clauses c.loop.counter [] c.loop-test.true c.requires.within))

pub loop-init : goal.loop-init
loop-init c =
    let e = c.in_ok-links.ensures in rw (e.watched, e.next, e.firsts) (live_none c.args.variable_count)

pub returns : goal.returns
returns c =
    subst (λ (l : List (List Lit)). IsLive l c.loop.links.watched c.loop.links.next c.loop.links.firsts [] [] c.args.variable_count [] 0 0)
    (take_all c.loop.counter c.args.clauses.now c.loop-test.false) c.loop.invariant
