use Rattle.std.proofs.Common.{◌∙◌, ◌++◌, ap, codes}
use Rattle.ygg_yard.proofs.Parts.{seven_parts}
use Rattle.ygg_yard.proofs.generator.push_with.Goals as goal

pub returns : goal.returns
returns c =
    let digits = c.args.digits.now in
    c.in_ok-push_parts.ensures
    ∙ ap (λ text. c.args.text.now ++ text) (seven_parts (codes "  op put_") digits (codes "(v : word 8) spec {\n    t[") digits
    (codes ":8] = row(v);\n  } impl {\n    call write(") digits (codes ":8, row(v));\n  }\n"))
