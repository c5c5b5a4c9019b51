use Rattle.std.proofs.Common.{List, [], ◌∷◌, ◌++◌, ap, ◌∙◌, append_assoc}
use Rattle.ygg_base.specs.declared.token.Keyword.TheVariants as word
use Rattle.ygg_base.specs.declared.token.Symbol.TheVariants as sign
use Rattle.ygg_base.specs.declared.token.Mark.{Mark}
use Rattle.ygg_base.specs.declared.token.Mark.TheVariants as mark
use Rattle.ygg_print.specs.PrintedFiles.{disk_printed}
use Rattle.ygg_print.proofs.layers.head.Goals as goal

pub returns : goal.returns
returns c =
    c.in_ok-disk.ensures ∙ ap (λ (x : List Mark). x ++ disk_printed c.args.found.now) c.in_ok-tokens.ensures
    ∙ append_assoc c.args.printer.now (mark.Keyword word.Yggdrasil ∷ mark.Num 1 ∷ mark.Symbol sign.Semicolon ∷ []) (disk_printed c.args.found.now)
