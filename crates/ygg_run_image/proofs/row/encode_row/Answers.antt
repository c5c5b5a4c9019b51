use Rattle.std.proofs.Common.{◌≡◌, ◌<◌, ◌^◌, length, get_or, ap, subst, ◌∙◌, arith}
use Rattle.std.specs.Prelude.{slice_get, unwrap_or}
use Rattle.std.proofs.lemmas.List.Elements.{All-from_get_or}
use Rattle.std.proofs.lemmas.Option.{unwrap_or-slice_get}
use Rattle.ygg_value.specs.Number.{Number}
use Rattle.ygg_run_image.proofs.ImageRows.{begun-step, fits-next}
use Rattle.ygg_run_image.proofs.row.encode_row.Goals as goal

pub loop-place-preserved : goal.loop-place-preserved
loop-place-preserved c =
    let g = c.args.geometry in
    let words = c.args.row.now.words in
    let place = c.loop-place.place in
    let less : place < length words = omega (arith, c.loop-place-test.true, c.loop-place.auto.place-end, c.requires.row.words) in
    let bits : c.word.inside.bits ≡ get_or words place 0 =
    ap (λ (w : Number). w.bits) (c.word.view_is ∙ c.row_read-word.ensures)
    ∙ ap (λ at. unwrap_or (slice_get words at) 0) c.place_of.ensures
    ∙ unwrap_or-slice_get words place 0 in
    let width : c.word.inside.width ≡ g.width = ap (λ (w : Number). w.width) (c.word.view_is ∙ c.row_read-word.ensures) ∙ c.requires.row.width in
    let fits : get_or words place 0 < 2 ^ g.width = subst (λ n. n < 2 ^ g.width) bits (subst (λ w. c.word.inside.bits < 2 ^ w) width c.word.invariant.fits) in (
      c.put_number.ensures
          ∙ begun-step g words place c.word_size-size.result c.word.inside.bits c.loop-place.block c.word_size-size.ensures.bytes
          bits c.loop-place.invariant.0 less,
      fits-next words place (2 ^ g.width) c.loop-place.invariant.1 fits,
    )

pub returns-clause-words : goal.returns-clause-words
returns-clause-words c =
    let g = c.args.geometry in
    let words = c.args.row.now.words in
    record {
      many = c.requires.row.words;
      fits = All-from_get_or (λ n. n < 2 ^ g.width) words 0
          (λ i h. c.loop-place.invariant.1 i (omega (arith, h, c.loop-place-test.false, c.loop-place.auto.place-end, c.requires.row.words)));
    }
