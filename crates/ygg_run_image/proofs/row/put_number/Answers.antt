use Rattle.std.proofs.Common.{◌≡◌, ◌+◌, ◌-◌, ◌++◌, length, take, drop, sym, ap, ◌∙◌, arith}
use Rattle.std.proofs.lemmas.List.{append_assoc, drop-drop, length-drop, length-take-le}
use Rattle.std.specs.Int.{bytes_high_first}
use Rattle.ygg_run_image.proofs.row.put_number.Goals as goal

pub returns : goal.returns
returns c =
    let size = c.args.size in
    let start = c.args.start in
    let block = c.args.block.now in
    let bytes = bytes_high_first size c.args.number in
    let few : start + size - start ≡ size = omega arith in
    let long : length (take (start + size - start) (drop start block)) ≡ size =
    length-take-le (start + size - start) (drop start block) (omega (arith, few, length-drop start block, c.requires.fits)) ∙ few in
    let filled = c.fill_number.ensures ∙ ap (λ n. bytes_high_first n c.args.number) long in
    let behind : drop (start + size - start) (drop start block) ≡ drop (start + size) block =
    ap (λ n. drop n (drop start block)) few ∙ drop-drop size start block in
    ap (λ new. take start block ++ (new ++ drop (start + size - start) (drop start block))) filled
    ∙ ap (λ rest. take start block ++ (bytes ++ rest)) behind
    ∙ sym (append_assoc (take start block) bytes (drop (start + size) block))
