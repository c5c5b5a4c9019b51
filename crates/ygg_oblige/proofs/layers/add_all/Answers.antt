use Rattle.std.proofs.Common.{◌+◌, List, drop, ap, subst, sym, arith, rules}
use Rattle.std.specs.Prelude.{All}
use Rattle.std.proofs.Math.ListN.{drop_of_length-le}
use Rattle.std.proofs.lemmas.List.Elements.{All-head}
use Rattle.ygg_oblige_laws.specs.ygg_meaning.Obligations.{Obligation}
use Rattle.ygg_oblige.proofs.Left.{rest_is}
use Rattle.ygg_oblige.specs.Makers.{starting_of}
use Rattle.ygg_oblige_list.specs.InCode.{obligation_of}
use Rattle.ygg_oblige.specs.Adding.{KnownAt}
use Rattle.ygg_oblige_list.specs.Listing.{IsNumberIn, asked_in}
use Rattle.ygg_oblige_list.specs.declared.listing.Asked.{Asked}
use Rattle.ygg_oblige.proofs.Asking.{AsksOn, asks_begun, asks_done, asks_on}
use Rattle.ygg_oblige.proofs.Going.{Going, going_on, gone_all}
use Rattle.ygg_oblige.proofs.layers.add_all.Goals as goal

pub add-requires-clause-known : goal.add-requires-clause-known
add-requires-clause-known g c =
    let m = c.args.maker.now in
    let known = KnownAt (g.B.Book.kinds m.book.now) m.layer m.below in
    let asked = c.args.asked.now in
    let i = c.loop-each.each-index in
    All-head known (obligation_of c.each-item.result.obligation) (asked_in (drop (i + 1) asked))
    (subst (All known) (ap asked_in (rest_is asked i c.each-item.result _ c.loop-each-test.true c.each-item.is)) c.loop-each.invariant.going.known)

pub add-requires-clause-number : goal.add-requires-clause-number
add-requires-clause-number g c =
    let l = (c.args.maker.now).layer.layer.now in
    let item = c.each-item.result in
    subst (λ (a : Asked). IsNumberIn l (obligation_of a.obligation) a.number) (sym c.each-item.is)
    (c.requires.numbered c.loop-each.each-index item c.loop-each-test.true)

pub loop-each-init : goal.loop-each-init
loop-each-init g c = record {
  going = search rules;
  asks = asks_begun c.args.place (c.args.maker.now).layer.layer.now (asked_in c.args.asked.now) c.args.all.now;
}

pub loop-each-preserved : goal.loop-each-preserved
loop-each-preserved g c =
    let m = c.args.maker.now in
    let kinds = g.B.Book.kinds m.book.now in
    let S = starting_of c.args.s.now in
    let asked = c.args.asked.now in
    let i = c.loop-each.each-index in
    let o = obligation_of c.each-item.result.obligation in
    let left = asked_in (drop (i + 1) asked) in
    let begun = c.args.start in
    let e = c.in_ok-next.ensures in
    let rest = ap asked_in (rest_is asked i c.each-item.result _ c.loop-each-test.true c.each-item.is) in
    record {
      going =
          going_on kinds m.layer m.below S c.requires.site.layer (asked_in asked) begun c.args.bank.now c.args.all.now o left c.loop-each.next
          c.loop-each.bank c.loop-each.all c.in_ok-next.next c.add.new.bank c.add.new.all
          (subst (λ (z : List Obligation). Going kinds m.layer m.below S (asked_in asked) begun c.args.bank.now c.args.all.now z c.loop-each.next
          c.loop-each.bank c.loop-each.all) rest c.loop-each.invariant.going)
          (record { nodes = e.nodes; terms = e.terms; names = e.names; next_is = e.next; placed = e.placed; grows = e.grows; is_bank = e.bank });
      asks =
          asks_on c.args.place m.layer.layer.now (asked_in asked) c.args.all.now o left c.loop-each.all c.add.new.all
          (subst (λ (z : List Obligation). AsksOn c.args.place m.layer.layer.now (asked_in asked) c.args.all.now z c.loop-each.all) rest
          c.loop-each.invariant.asks) e.asked;
    }

pub returns : goal.returns
returns g c =
    let m = c.args.maker.now in
    let kinds = g.B.Book.kinds m.book.now in
    let asked = c.args.asked.now in
    let i = c.loop-each.each-index in
    let none = ap asked_in (drop_of_length-le asked (omega arith)) in
    let done = gone_all kinds m.layer m.below (starting_of c.args.s.now) (asked_in asked) c.args.start c.args.bank.now c.args.all.now
    (asked_in (drop i asked)) c.loop-each.next c.loop-each.bank c.loop-each.all none c.loop-each.invariant.going in
    record {
      nodes = done.nodes;
      terms = done.terms;
      names = done.names;
      next = done.after;
      bank = c.loop-each.invariant.going.is_bank;
      placed = done.placed;
      asked =
          asks_done c.args.place m.layer.layer.now (asked_in asked) c.args.all.now (asked_in (drop i asked)) c.loop-each.all none c.loop-each.invariant.asks;
    }
