use Rattle.ygg_top.proofs.Printed.{is_printed}
use Rattle.ygg_top.proofs.print_command.canonical.Goals as goal

pub returns : goal.returns
returns c bytes is =
    is_printed bytes c.in_ok-text.text c.args.typed.now.file c.file.result.now c.tokens_are_marks.ensures is c.file.ensures.same
    c.in_ok-text.ensures.text c.in_ok-text.ensures.again
