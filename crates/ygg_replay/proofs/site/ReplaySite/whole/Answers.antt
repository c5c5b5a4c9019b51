use Rattle.std.proofs.Common.{true}
use Rattle.ygg_replay.proofs.Recovering.{whole_from}
use Rattle.ygg_replay.proofs.site.ReplaySite.whole.Goals as goal

pub returns-clause-ran : goal.returns-clause-ran
returns-clause-ran c = λ b h.
    whole_from c.args.self.now c.args.schedule.now b _
    (record { answer = c.in_ok-answer.answer; memory = c.run.new.memory; lower = c.run.new.lower; side = true })
    c.in_ok-memory.memory c.in_ok-lower.lower.values c.in_ok-memory.ensures c.in_ok-lower.ensures.values (c.in_ok-answer.ensures.ran b h)
