use Rattle.std.proofs.Common.{◌++◌, ◌∷◌, [], ap, ◌∙◌, arith}
use Rattle.ygg_cnf_set.specs.Codes.{lit_at}
use Rattle.ygg_watch.proofs.LinkLemmas.{two_more, two_longer}
use Rattle.ygg_watch.specs.Links.{Linked}
use Rattle.ygg_watch.specs.Lists.{no_lit}
use Rattle.ygg_watch.specs.declared.links.WatchNode.{WatchNode}
use Rattle.ygg_watch.proofs.links.Links.add.Goals as goal

pub returns-clause-watched : goal.returns-clause-watched
returns-clause-watched c =
    two_more (λ (n : WatchNode). lit_at n.code) c.self.inside.nodes.items _ _ _ _ c.in_ok-reserve.ensures.items c.push_reserved.ensures.items
    c.push_reserved-2.ensures.items ∙ ap (λ (z : Linked). z.watched ++ no_lit ∷ no_lit ∷ []) c.self.view_is

pub returns-clause-next : goal.returns-clause-next
returns-clause-next c =
    two_more (λ (n : WatchNode). n.next) c.self.inside.nodes.items _ _ _ _ c.in_ok-reserve.ensures.items c.push_reserved.ensures.items
    c.push_reserved-2.ensures.items ∙ ap (λ (z : Linked). z.next ++ 0 ∷ 0 ∷ []) c.self.view_is

pub returns-clause-firsts : goal.returns-clause-firsts
returns-clause-firsts c = ap (λ (z : Linked). z.firsts) c.self.view_is

pub invariant_of-self-2 : goal.invariant_of-self-2
invariant_of-self-2 c =
    let more = two_longer c.self.inside.nodes.items _ _ _ _ c.in_ok-reserve.ensures.items c.push_reserved.ensures.items c.push_reserved-2.ensures.items in
    let few = c.if-len.false in let e = c.len.ensures in let len = c.self.inside.nodes.ok.0 in (omega (arith, more, few, e, len), c.self.invariant.1)
