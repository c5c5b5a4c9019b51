use Rattle.ygg_top_command.proofs.Budgets.{parsed, unparsed, is_text}
use Rattle.ygg_top_command.proofs.words.number_in.Goals as goal

pub returns-in-Ok-parse : goal.returns-in-Ok-parse
returns-in-Ok-parse c n small e = parsed c.args.word.now c.in-Ok.text.now n c.in-Ok-parse.number small e c.in-Ok.ensures.cases.0 c.in-Ok-parse.ensures.value.0

pub returns-in-Err-parse : goal.returns-in-Err-parse
returns-in-Err-parse c n small e = absurd (unparsed c.args.word.now c.in-Ok.text.now n small e c.in-Ok.ensures.cases.0 c.in-Err-parse.ensures.value.0)

pub returns-in-Err : goal.returns-in-Err
returns-in-Err c n small e = absurd (c.in-Err.ensures.cases.0 (is_text c.args.word.now n small e))
