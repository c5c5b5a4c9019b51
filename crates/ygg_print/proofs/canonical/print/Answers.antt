use Rattle.std.proofs.Common.{◌≡◌, ap, ◌∙◌, rules}
use Rattle.std.proofs.lemmas.Result.{IfOk-weaker}
use Rattle.ygg_print.specs.PrintedFiles.{file_printed}
use Rattle.ygg_print.specs.Layout.{layout}
use Rattle.ygg_print.specs.Canonical.{IsReadAgain}
use Rattle.ygg_print.proofs.Reread.{text_again}
use Rattle.ygg_print.proofs.canonical.print.Goals as goal

pub returns-clause-again : goal.returns-clause-again
returns-clause-again c =
    let marks : c.as_slice.result.now ≡ file_printed c.args.file.now = search rules in
    IfOk-weaker c.lay_out.result (λ text. text ≡ layout c.as_slice.result.now) (λ text. IsReadAgain text c.args.file.now)
    (λ text e. text_again c.args.file.now text (e ∙ ap layout marks)) c.lay_out.ensures
