use Rattle.std.proofs.Common.{◌≡◌, ◌+◌, ◌*◌, ◌≤◌, length, sym, ap, ◌∙◌, arith}
use Rattle.std.proofs.lemmas.Bool.{false≢true}
use Rattle.ygg_run_image.specs.Image.{block_bytes, image_bytes}
use Rattle.ygg_run_image.proofs.ImageJudging.{sealed-by, sized-by, sized-to}
use Rattle.ygg_run_image.proofs.header.judge_header.Goals as goal

pub returns-then-not-is_sized : goal.returns-then-not-is_sized
returns-then-not-is_sized c = λ image begins.
    let g = c.args.geometry in
    let enough : block_bytes g ≤ c.args.bytes = omega (arith, c.if-bytes-size.false, c.block_size-size.ensures.bytes) in
    let long : block_bytes g ≤ length image = omega (arith, enough, begins.0) in
    let front = begins.1 enough in (
      sealed-by g c.args.block.now image long front (c.is_sealed.ensures.0 c.if-not-is_sealed.false),
      λ other. false≢true (sym c.if-not-is_sized.true ∙ c.is_sized.ensures.1 (sized-to g c.args.block.now image long front other)),
    )

pub returns-then-bytes-geometry : goal.returns-then-bytes-geometry
returns-then-bytes-geometry c = λ image begins.
    let g = c.args.geometry in
    let enough : block_bytes g ≤ c.args.bytes = omega (arith, c.if-bytes-size.false, c.block_size-size.ensures.bytes) in
    let long : block_bytes g ≤ length image = omega (arith, enough, begins.0) in
    let front = begins.1 enough in
    let same : (g.rows + 1) * c.block_size-size.result ≡ image_bytes g = ap (λ n. (g.rows + 1) * n) c.block_size-size.ensures.bytes in (
      sealed-by g c.args.block.now image long front (c.is_sealed.ensures.0 c.if-not-is_sealed.false),
      λ other. c.if-bytes-geometry.true (sym begins.0 ∙ other.whole ∙ sym same),
    )

pub returns : goal.returns
returns c = λ image begins.
    let g = c.args.geometry in
    let enough : block_bytes g ≤ c.args.bytes = omega (arith, c.if-bytes-size.false, c.block_size-size.ensures.bytes) in
    let long : block_bytes g ≤ length image = omega (arith, enough, begins.0) in
    let front = begins.1 enough in
    let same : (g.rows + 1) * c.block_size-size.result ≡ image_bytes g = ap (λ n. (g.rows + 1) * n) c.block_size-size.ensures.bytes in (
      sealed-by g c.args.block.now image long front (c.is_sealed.ensures.0 c.if-not-is_sealed.false),
      sized-by g c.args.block.now image long front (c.is_sized.ensures.0 c.if-not-is_sized.false) (begins.0 ∙ c.if-bytes-geometry.false ∙ same),
    )
