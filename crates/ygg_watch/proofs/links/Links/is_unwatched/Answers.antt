use Rattle.std.proofs.Common.{◌≡◌, ◌+◌, ◌*◌, sym, ◌∙◌, arith}
use Rattle.ygg_watch.proofs.LinkLemmas.{node_here, watch_read, same_when}
use Rattle.ygg_watch.specs.Lists.{lit_of}
use Rattle.ygg_watch.proofs.links.Links.is_unwatched.Goals as goal

pub overflow_mul-at : goal.overflow_mul-at
overflow_mul-at c =
    let l = node_here c.self.inside.nodes.items c.self.inside.firsts.items c.args.self.now (2 * c.args.at + 1) c.self.view_is c.requires in
    let few = c.self.invariant.0 in omega (arith, l, few)

pub index-first-requires : goal.index-first-requires
index-first-requires c =
    let l = node_here c.self.inside.nodes.items c.self.inside.firsts.items c.args.self.now (2 * c.args.at + 1) c.self.view_is c.requires in
    let len = c.self.inside.nodes.ok.0 in omega (arith, l, len)

pub overflow_add-at : goal.overflow_add-at
overflow_add-at c =
    let l = node_here c.self.inside.nodes.items c.self.inside.firsts.items c.args.self.now (2 * c.args.at + 1) c.self.view_is c.requires in
    let few = c.self.invariant.0 in omega (arith, l, few)

pub index-second-requires : goal.index-second-requires
index-second-requires c =
    let l = node_here c.self.inside.nodes.items c.self.inside.firsts.items c.args.self.now (2 * c.args.at + 1) c.self.view_is c.requires in
    let len = c.self.inside.nodes.ok.0 in omega (arith, l, len)

pub returns : goal.returns
returns c =
    let within = c.requires in
    let first : c.lit_at.result ≡ lit_of c.args.self.now.watched (2 * c.args.at)
    = watch_read c.self.inside.nodes.items c.self.inside.firsts.items c.args.self.now (2 * c.args.at) c.index-first.result.now _ c.self.view_is
    (omega (arith, within)) c.index-first.ensures c.lit_at.ensures in
    let second : c.lit_at-2.result ≡ lit_of c.args.self.now.watched (2 * c.args.at + 1)
    = watch_read c.self.inside.nodes.items c.self.inside.firsts.items c.args.self.now (2 * c.args.at + 1) c.index-second.result.now _ c.self.view_is
    within c.index-second.ensures c.lit_at-2.ensures in
    let eq = same_when c.lit_at.result c.lit_at-2.result c.eq.result c.eq.ensures in (λ t. sym first ∙ (eq.0 t ∙ second), λ e. eq.1 (first ∙ (e ∙ sym second)))
