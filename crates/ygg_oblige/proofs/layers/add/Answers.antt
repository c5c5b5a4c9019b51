use Rattle.std.proofs.Common.{refl}
use Rattle.ygg_oblige.specs.Makers.{starting_of}
use Rattle.ygg_oblige_list.specs.InCode.{obligation_of}
use Rattle.ygg_oblige.specs.Numbering.{numbers_in}
use Rattle.ygg_oblige.proofs.Asking.{asked_one}
use Rattle.ygg_oblige.proofs.Going.{added_one}
use Rattle.ygg_oblige.proofs.KnownSo.{known_shapes, known_typed}
use Rattle.ygg_oblige.proofs.layers.add.Goals as goal

pub numbers_of-requires : goal.numbers_of-requires
numbers_of-requires g c =
    let m = c.args.maker.now in known_shapes (g.B.Book.kinds m.book.now) m.layer m.below (obligation_of c.args.asked.obligation) c.requires.known

pub term-requires-clause-typed : goal.term-requires-clause-typed
term-requires-clause-typed g c =
    let m = c.args.maker.now in known_typed (g.B.Book.kinds m.book.now) m.layer m.below (obligation_of c.args.asked.obligation) c.requires.known

pub term-requires-clause-tick : goal.term-requires-clause-tick
term-requires-clause-tick g c = c.requires.known.tick

pub returns : goal.returns
returns g c =
    let m = c.args.maker.now in
    let e = c.in_ok-term.ensures in
    let a = added_one (g.B.Book.kinds m.book.now) m.layer m.below (starting_of c.args.s.now) (obligation_of c.args.asked.obligation) c.args.start
    (numbers_in c.in_ok-n.n) c.args.bank.now c.term.new.bank c.args.all.now c.push.new.self _ c.in_ok-n.ensures e.nodes e.id c.in_ok-name.ensures
    c.len-listed.ensures c.requires.placed c.in_ok-push.ensures.ok e.grows e.bank in
    let asked = asked_one c.args.place m.layer.layer.now (obligation_of c.args.asked.obligation) c.args.all.now c.push.new.self _ c.in_ok-push.ensures.ok
    refl c.kind_of.ensures c.requires.number in
    record { nodes = a.nodes; terms = a.terms; names = a.names; next = a.next_is; grows = a.grows; bank = a.is_bank; placed = a.placed; asked = asked }
