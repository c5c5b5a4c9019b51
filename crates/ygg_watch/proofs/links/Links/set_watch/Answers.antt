use Rattle.std.proofs.Common.{◌≡◌, ◌<◌, length, length-set, map, set, ap, ◌∙◌, refl, arith}
use Rattle.std.proofs.lemmas.List.{length-map, map-set}
use Rattle.ygg_watch.proofs.LinkLemmas.{kept_at, literal_back, node_here}
use Rattle.ygg_cnf_set.specs.Codes.{lit_at}
use Rattle.ygg_watch.specs.Links.{Linked}
use Rattle.ygg_watch.specs.declared.links.WatchNode.{WatchNode}
use Rattle.ygg_watch.proofs.links.Links.set_watch.Goals as goal

pub returns-clause-watched : goal.returns-clause-watched
returns-clause-watched c =
    let nodes = c.self.inside.nodes.items in
    map-set (λ (n : WatchNode). lit_at n.code) nodes c.args.node _
    ∙ (ap (set _ c.args.node) (ap lit_at c.code.ensures ∙ literal_back c.args.lit)
    ∙ ap (λ (z : Linked). set z.watched c.args.node c.args.lit) c.self.view_is)

pub returns-clause-next : goal.returns-clause-next
returns-clause-next c =
    let nodes = c.self.inside.nodes.items in
    let r : c.args.node < length (map (λ (n : WatchNode). lit_at n.code) nodes) = rw (← c.self.view_is) at c.requires.node in
    let l : c.args.node < length nodes = rw length-map at r in
    kept_at (λ (n : WatchNode). n.next) nodes c.args.node c.index-now.result.now _ l c.index-now.ensures refl
    ∙ ap (λ (z : Linked). z.next) c.self.view_is

pub index-now-requires : goal.index-now-requires
index-now-requires c =
    let l = node_here c.self.inside.nodes.items c.self.inside.firsts.items c.args.self.now c.args.node c.self.view_is c.requires.node in
    let len = c.self.inside.nodes.ok.0 in omega (arith, l, len)

pub index_mut-requires : goal.index_mut-requires
index_mut-requires c =
    let l = node_here c.self.inside.nodes.items c.self.inside.firsts.items c.args.self.now c.args.node c.self.view_is c.requires.node in
    let len = c.self.inside.nodes.ok.0 in omega (arith, l, len)

pub overflow_cast-code : goal.overflow_cast-code
overflow_cast-code c =
    let f : length c.self.inside.firsts.items ≡ length c.args.self.now.firsts = ap (λ (z : Linked). length z.firsts) c.self.view_is in
    let e = c.code.ensures in let r = c.requires.fits in let few = c.self.invariant.1 in omega (arith, f, e, r, few)

pub returns-clause-firsts : goal.returns-clause-firsts
returns-clause-firsts c = ap (λ (z : Linked). z.firsts) c.self.view_is

pub invariant_of-self : goal.invariant_of-self
invariant_of-self c = (rw length-set c.self.invariant.0, c.self.invariant.1)
