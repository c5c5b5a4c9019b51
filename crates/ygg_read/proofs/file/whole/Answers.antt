use Rattle.std.proofs.Common.{◌≡◌, ◌==◌, true, false, [], length, sym, ◌∙◌}
use Rattle.ygg_syntax.specs.Files.{whole_file}
use Rattle.ygg_read.proofs.Files.{reads_all, left_over, none_left}
use Rattle.ygg_read.proofs.file.whole.Goals as goal

pub returns-then-not-ends-clause-refused : goal.returns-then-not-ends-clause-refused
returns-then-not-ends-clause-refused c =
    let gone = rw c.in-Some.is at c.in_ok-file.ensures.goes in
    let some : (length c.file.new.reader == 0) ≡ false = sym c.ends.ensures ∙ c.if-not-ends.true in
    gone [] ∙ left_over c.file.new.reader some

pub returns-clause-derives : goal.returns-clause-derives
returns-clause-derives c =
    let read = rw c.in-Some.is at c.in_ok-file.ensures.reads in
    let none : (length c.file.new.reader == 0) ≡ true = sym c.ends.ensures ∙ c.if-not-ends.false in
    record { derives = reads_all (whole_file c.in-Some.file) c.args.reader.now c.file.new.reader read (none_left c.file.new.reader none) }
