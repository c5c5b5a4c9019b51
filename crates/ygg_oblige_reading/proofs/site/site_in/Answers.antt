use Rattle.std.proofs.Common.{take, refl, sym, ap, ◌∙◌, subst}
use Rattle.std.specs.Prelude.{All}
use Rattle.std.proofs.lemmas.List.Elements.{All-take}
use Rattle.ygg_oblige_list.specs.ygg_meaning.Obligations.{obligations_of}
use Rattle.ygg_oblige_list.specs.InCode.{obligation_of}
use Rattle.ygg_oblige_list.specs.declared.listing.Asked.{Asked}
use Rattle.ygg_oblige.specs.Sites.{below_in}
use Rattle.ygg_oblige.specs.ygg_sym_spec.Layers.{closed}
use Rattle.ygg_oblige.specs.ygg_oblige_laws.Numbers.{numbers_of}
use Rattle.ygg_oblige.specs.Adding.{after_at}
use Rattle.ygg_oblige_reading.specs.Listing.{ArgumentsKept}
use Rattle.ygg_oblige_reading.proofs.Listed.{before, here, stands}
use Rattle.ygg_oblige_reading.proofs.NumbersAfter.{arguments_kept, item_of}
use Rattle.ygg_oblige_reading.proofs.site.site_in.Goals as goal

pub number_after-requires : goal.number_after-requires
number_after-requires g c =
    let m = c.args.maker.now in
    let os = obligations_of m.layer.layer.now in
    subst (All ArgumentsKept) (sym (before c.args.asked.now os c.args.place c.requires.asked))
    (All-take ArgumentsKept c.args.place os (arguments_kept (g.B.Book.kinds m.book.now) m.layer m.below c.requires.site.layer))

pub numbers_of-requires : goal.numbers_of-requires
numbers_of-requires g c =
    let m = c.args.maker.now in
    let os = obligations_of m.layer.layer.now in
    let one : Asked = c.index-asked-place.result in
    item_of ArgumentsKept os c.args.place (obligation_of one.obligation)
    (arguments_kept (g.B.Book.kinds m.book.now) m.layer m.below c.requires.site.layer)
    (here m.layer.layer.now c.args.asked.now c.args.place one c.requires.there c.index-asked-place.is os c.requires.asked)

pub returns : goal.returns
returns g c =
    let m = c.args.maker.now in
    let l = m.layer.layer.now in
    let kinds = g.B.Book.kinds m.book.now in
    let os = obligations_of l in
    let one : Asked = c.index-asked-place.result in
    let front = before c.args.asked.now os c.args.place c.requires.asked in
    record {
      layer_is = refl;
      place_is = refl;
      low_is = refl;
      listed = here l c.args.asked.now c.args.place one c.requires.there c.index-asked-place.is os c.requires.asked;
      stands = stands l c.args.asked.now c.args.place one c.requires.there c.index-asked-place.is c.requires.numbered;
      states_is = refl;
      numbers = c.in_ok-numbers.ensures
          ∙ ap (numbers_of (below_in m.below) (closed m.layer) (obligation_of one.obligation))
          (c.in_ok-start.ensures ∙ ap (λ xs. after_at kinds m.layer m.below xs c.in_ok-first.first) front
          ∙ ap (after_at kinds m.layer m.below (take c.args.place os)) c.in_ok-first.ensures);
    }
