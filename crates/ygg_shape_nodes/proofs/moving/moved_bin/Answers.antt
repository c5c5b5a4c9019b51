use Rattle.std.proofs.Common.{Some, ap, ◌∙◌}
use Rattle.ygg_shape_nodes.proofs.Moved.{words_stand}
use Rattle.ygg_shape_nodes.proofs.moving.moved_bin.Goals as goal

pub node-requires : goal.node-requires
node-requires c =
    let n = c.in-Pick-Const in
    (words_stand c.args.bank.now c.args.a n.test n.yes n.no c.requires.bank.ordered (c.requires.first ∙ ap (λ z. Some z) n.is-0)).0

pub node-requires-then-is_moved : goal.node-requires-then-is_moved
node-requires-then-is_moved c =
    let n = c.in-Pick-Const in
    (words_stand c.args.bank.now c.args.a n.test n.yes n.no c.requires.bank.ordered (c.requires.first ∙ ap (λ z. Some z) n.is-0)).1

pub node-requires-then-is_moved-2 : goal.node-requires-then-is_moved-2
node-requires-then-is_moved-2 c =
    let n = c.in-Const-Pick in
    (words_stand c.args.bank.now c.args.b n.test n.yes n.no c.requires.bank.ordered (c.requires.second ∙ ap (λ z. Some z) n.is-1)).0

pub node-requires-then-is_moved-2-2 : goal.node-requires-then-is_moved-2-2
node-requires-then-is_moved-2-2 c =
    let n = c.in-Const-Pick in
    (words_stand c.args.bank.now c.args.b n.test n.yes n.no c.requires.bank.ordered (c.requires.second ∙ ap (λ z. Some z) n.is-1)).1
