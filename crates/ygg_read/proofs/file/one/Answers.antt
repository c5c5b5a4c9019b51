use Rattle.std.proofs.Common.{◌≡◌, true, false, rules}
use Rattle.ygg_base.specs.declared.token.Mark.TheVariants as mark
use Rattle.ygg_syntax.specs.Reading.{starts}
use Rattle.ygg_read.proofs.ExpressionPhrases.{reads_mark}
use Rattle.ygg_read.proofs.Stopped.{goes_token, stopped}
use Rattle.ygg_read.proofs.Answered.{on_some, if_none}
use Rattle.ygg_read.proofs.Files.{one_comes, some_number}
use Rattle.ygg_read.proofs.file.one.Goals as goal

pub returns-then-not-is_one-clause-refused : goal.returns-then-not-is_one-clause-refused
returns-then-not-is_one-clause-refused c = stopped (mark.Num 1) c.args.reader.now (let h : starts (mark.Num 1) c.args.reader.now ≡ false = search rules in h)

pub returns-clause-reads : goal.returns-clause-reads
returns-clause-reads c =
    let h : starts (mark.Num 1) c.args.reader.now ≡ true = search rules in
    on_some c.number.result _ _ (λ n taken. reads_mark (mark.Num 1) n.place _ _ (one_comes n.value n.place _ _ taken h)) c.number.ensures.taken

pub returns-clause-goes : goal.returns-clause-goes
returns-clause-goes c =
    let h : starts (mark.Num 1) c.args.reader.now ≡ true = search rules in
    on_some c.number.result _ _ (λ n taken. goes_token (mark.Num 1) n.place _ _ (one_comes n.value n.place _ _ taken h)) c.number.ensures.taken

pub returns-clause-refused : goal.returns-clause-refused
returns-clause-refused c =
    let h : starts (mark.Num 1) c.args.reader.now ≡ true = search rules in
    if_none c.number.result _ _ (λ other. absurd (some_number _ h other)) c.number.ensures.other
