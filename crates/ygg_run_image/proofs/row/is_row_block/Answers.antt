use Rattle.std.proofs.Common.{◌≡◌, refl, sym, ap, subst, ◌∙◌}
use Rattle.ygg_value.specs.Number.{Digits}
use Rattle.ygg_disk.specs.Rows.{IsDiskRow}
use Rattle.ygg_run_image.specs.Image.{row_block, words_in}
use Rattle.ygg_run_image.proofs.ImageRows.{row_block-is, row_block-words, words-are}
use Rattle.ygg_run_image.proofs.row.is_row_block.Goals as goal

pub encode_row-requires-clause-row : goal.encode_row-requires-clause-row
encode_row-requires-clause-row c =
    subst (IsDiskRow c.args.geometry) (sym c.decode_row.ensures) (record { width = refl; words = (words-are c.args.geometry c.args.block.now).many })

pub returns-clause-judged : goal.returns-clause-judged
returns-clause-judged c =
    let g = c.args.geometry in
    let block = c.args.block.now in
    let again : c.encode_row.new.block ≡ row_block g (words_in g block) =
    c.encode_row.ensures.block ∙ ap (λ (r : Digits). row_block g r.words) c.decode_row.ensures in (
      λ equal. row_block-is g block (sym again ∙ sym (c.are_equal.ensures.0 equal)),
      λ is. c.are_equal.ensures.1 (sym (row_block-words g block is) ∙ sym again),
    )
