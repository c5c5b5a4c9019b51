use Rattle.std.proofs.Common.{◌<◌, length, length-set, map, set, get_or, ap, ◌∙◌, ◌+◌, refl, arith}
use Rattle.std.proofs.lemmas.List.{length-map, map-set, get_or_read}
use Rattle.ygg_watch.proofs.LinkLemmas.{kept_at}
use Rattle.ygg_cnf_set.specs.Codes.{lit_at}
use Rattle.ygg_watch.specs.Links.{Linked}
use Rattle.ygg_watch.specs.declared.links.WatchNode.{WatchNode}
use Rattle.ygg_watch.proofs.links.Links.link.Goals as goal

pub returns-clause-watched : goal.returns-clause-watched
returns-clause-watched c =
    let nodes = c.self.inside.nodes.items in
    let r : c.args.node < length (map (λ (n : WatchNode). n.next) nodes) = rw (← c.self.view_is) at c.requires.node in
    let l : c.args.node < length nodes = rw length-map at r in
    kept_at (λ (n : WatchNode). lit_at n.code) nodes c.args.node c.index-now.result.now _ l c.index-now.ensures refl
    ∙ ap (λ (z : Linked). z.watched) c.self.view_is

pub returns-clause-next : goal.returns-clause-next
returns-clause-next c =
    let r : c.args.code < length c.self.inside.firsts.items = rw (← c.self.view_is) at c.requires.code in
    map-set (λ (n : WatchNode). n.next) c.self.inside.nodes.items c.args.node _
    ∙ (ap (set _ c.args.node) (get_or_read c.self.inside.firsts.items c.args.code _ r c.index.ensures 0)
    ∙ ap (λ (z : Linked). set z.next c.args.node (get_or z.firsts c.args.code 0)) c.self.view_is)

pub index-now-requires : goal.index-now-requires
index-now-requires c =
    let nodes = c.self.inside.nodes in
    let r : c.args.node < length (map (λ (n : WatchNode). n.next) nodes.items) = rw (← c.self.view_is) at c.requires.node in
    let l : c.args.node < length nodes.items = rw length-map at r in let len = nodes.ok.0 in omega (arith, l, len)

pub index_mut-requires : goal.index_mut-requires
index_mut-requires c =
    let nodes = c.self.inside.nodes in
    let r : c.args.node < length (map (λ (n : WatchNode). n.next) nodes.items) = rw (← c.self.view_is) at c.requires.node in
    let l : c.args.node < length nodes.items = rw length-map at r in let len = nodes.ok.0 in omega (arith, l, len)

pub overflow_cast-node : goal.overflow_cast-node
overflow_cast-node c =
    let nodes = c.self.inside.nodes in
    let r : c.args.node < length (map (λ (n : WatchNode). n.next) nodes.items) = rw (← c.self.view_is) at c.requires.node in
    let l : c.args.node < length nodes.items = rw length-map at r in let few = c.self.invariant.0 in omega (arith, l, few)

pub invariant_of-self : goal.invariant_of-self
invariant_of-self c = (rw length-set c.self.invariant.0, rw length-set c.self.invariant.1)

pub returns-clause-firsts : goal.returns-clause-firsts
returns-clause-firsts c = ap (λ (z : Linked). set z.firsts c.args.code (c.args.node + 1)) c.self.view_is

pub index-requires : goal.index-requires
index-requires c =
    let r : c.args.code < length c.self.inside.firsts.items = rw (← c.self.view_is) at c.requires.code in
    let len = c.self.inside.firsts.ok.0 in omega (arith, r, len)

pub index_mut-requires-2 : goal.index_mut-requires-2
index_mut-requires-2 c =
    let r : c.args.code < length c.self.inside.firsts.items = rw (← c.self.view_is) at c.requires.code in
    let len = c.self.inside.firsts.ok.0 in omega (arith, r, len)
