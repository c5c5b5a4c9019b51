use Rattle.std.proofs.Common.{◌+◌, ◌<◌, ◌∙◌, arith, below_more}
use Rattle.ygg_base.specs.Devices.{block_at}
use Rattle.ygg_run_image.specs.Image.{block_bytes, image_bytes}
use Rattle.ygg_run_image.specs.Judged.{IsRowBlock}
use Rattle.ygg_run_image.specs.Mounting.{AreRowsJudged}
use Rattle.ygg_run_image.proofs.JudgedBlocks.{shown_still, handed, rows_refused}
use Rattle.ygg_run_image.proofs.judging.judge_rows.Goals as goal

pub returns-in_err-judge_row-clause-judged : goal.returns-in_err-judge_row-clause-judged
returns-in_err-judge_row-clause-judged g c = λ image shown.
    let geometry = c.args.geometry in
    let within : c.loop-place.place < geometry.rows = omega (arith, c.loop-place-test.true, c.loop-place.invariant.end) in
    let e = c.in_err-judge_row.field-0.0 in
    let row = c.in_err-judge_row.ensures.judged image
    (shown_still (g.D.Device.images c.args.device.now) (g.D.Device.images c.loop-place.device) (g.D.Device.attached c.args.device.now)
    (g.D.Device.attached c.loop-place.device) (image_bytes geometry) image c.loop-place.invariant.kept c.loop-place.invariant.still shown) in
    handed (AreRowsJudged geometry image.view) e c.from_residual.result c.from_residual.ensures.1
    (rows_refused geometry c.loop-place.place image.view e within row)

pub loop-place-preserved : goal.loop-place-preserved
loop-place-preserved g c =
    let geometry = c.args.geometry in
    record {
      end = c.loop-place.invariant.end;
      block = c.in_ok-judge_row.ensures.block;
      row = c.in_ok-judge_row.ensures.row;
      spare = c.in_ok-judge_row.ensures.spare;
      kept = c.in_ok-judge_row.ensures.kept ∙ c.loop-place.invariant.kept;
      still = c.in_ok-judge_row.ensures.still ∙ c.loop-place.invariant.still;
      later = omega (arith, c.in_ok-judge_row.ensures.later, c.loop-place.invariant.later);
      rows = λ image shown.
          below_more (λ k. IsRowBlock geometry (block_at (block_bytes geometry) (k + 1) image.view)) c.loop-place.place
          (c.loop-place.invariant.rows image shown)
          (c.in_ok-judge_row.ensures.judged image
          (shown_still (g.D.Device.images c.args.device.now) (g.D.Device.images c.loop-place.device) (g.D.Device.attached c.args.device.now)
          (g.D.Device.attached c.loop-place.device) (image_bytes geometry) image c.loop-place.invariant.kept c.loop-place.invariant.still shown));
    }

pub returns-clause-judged : goal.returns-clause-judged
returns-clause-judged g c = λ image shown k within. c.loop-place.invariant.rows image shown k (omega (arith, within, c.loop-place-test.false))
