use Rattle.std.proofs.Common.{◌∙◌, codes}
use Rattle.ygg_yard.proofs.Parts.{five_parts}
use Rattle.ygg_yard.proofs.generator.begun_with.Goals as goal

pub returns : goal.returns
returns c =
    let digits = c.args.digits.now in
    c.in_ok-push_parts.ensures
    ∙ five_parts _ (codes "yggdrasil 1;\ndisk sync ") digits (codes " of 1 of 8;\nlayer cells {\n  state t : table ") digits (codes " of 1 of 8;\n")
    c.new-text.ensures
