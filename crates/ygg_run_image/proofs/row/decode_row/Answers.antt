use Rattle.std.proofs.Common.{◌≡◌, ap, ◌∙◌, arith}
use Rattle.ygg_value.specs.Number.{Digits}
use Rattle.ygg_run_image.specs.Image.{words_in}
use Rattle.ygg_run_image.proofs.ImageRows.{read-all}
use Rattle.ygg_run_image.proofs.row.decode_row.Goals as goal

pub returns : goal.returns
returns c =
    let g = c.args.geometry in
    let row : Digits = c.loop-place.row in
    let (width, many, each) = c.loop-place.invariant in
    let words : row.words ≡ words_in g c.args.block.now =
    read-all g c.args.block.now row.words many (λ place h. each place (omega (arith, h, c.loop-place-test.false, c.loop-place.auto.place-end))) in
    ap (λ w. record { width = w; words = row.words }) width ∙ ap (λ ws. record { width = g.width; words = ws }) words
