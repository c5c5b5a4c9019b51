use Rattle.ygg_oblige_schedule.proofs.reader.EnvironmentReader.scheduled.Goals as goal

pub returns : goal.returns
returns c = cc (c.in_ok-name.ensures)
