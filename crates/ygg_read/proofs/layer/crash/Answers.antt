use Rattle.std.proofs.Common.{◌∷◌, ◌∙◌, sym, ap}
use Rattle.ygg_syntax.specs.Reading.{in_turn}
use Rattle.ygg_syntax.specs.Files.{crash_block}
use Rattle.ygg_syntax.specs.Pending.{perhaps, outcome}
use Rattle.ygg_syntax.specs.Pending as pending
use Rattle.ygg_read.proofs.ClaimParts.{begins_perhaps}
use Rattle.ygg_read.proofs.Files.{reads_crash, reads_no_crash_block}
use Rattle.ygg_read.proofs.Stopped.{left_out}
use Rattle.ygg_read.proofs.layer.crash.Goals as goal

pub returns-in_default-clause-reads : goal.returns-in_default-clause-reads
returns-in_default-clause-reads c =
    λ qs. reads_no_crash_block c.unwritten.result c.args.reader.now c.in_default.ensures.other c.unwritten.ensures qs
    ∙ ap (in_turn qs) (sym c.in_default.ensures.left)

pub returns-in_default-clause-goes : goal.returns-in_default-clause-goes
returns-in_default-clause-goes c =
    λ qs. left_out pending.crash_block c.args.reader.now c.in_default.ensures.other qs ∙ ap (outcome qs) (sym c.in_default.ensures.left)

pub returns-in-Ok-None-clause-refused : goal.returns-in-Ok-None-clause-refused
returns-in-Ok-None-clause-refused c =
    let stopped = rw c.in-Ok-None.field-0-is at c.in-Ok-None.ensures.refused in
    λ qs. ap (outcome (perhaps pending.crash_block ∷ qs)) c.in-Some.ensures.taken
    ∙ begins_perhaps pending.crash_block c.in-Some.place c.keyword.new.self qs ∙ stopped qs

pub returns-clause-reads : goal.returns-clause-reads
returns-clause-reads c =
    let first = rw c.in-Ok-Some.field-0-is at c.in-Ok-Some.ensures.reads in
    λ qs. ap (in_turn (crash_block c.in-Some.place c.in-Ok-Some.part ∷ qs)) c.in-Some.ensures.taken
    ∙ reads_crash c.in-Some.place c.in-Ok-Some.part c.keyword.new.self qs ∙ first qs

pub returns-clause-goes : goal.returns-clause-goes
returns-clause-goes c =
    let gone = rw c.in-Ok-Some.field-0-is at c.in-Ok-Some.ensures.goes in
    λ qs. ap (outcome (perhaps pending.crash_block ∷ qs)) c.in-Some.ensures.taken
    ∙ begins_perhaps pending.crash_block c.in-Some.place c.keyword.new.self qs ∙ gone qs
