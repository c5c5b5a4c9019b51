use Rattle.ygg_oblige_schedule.proofs.Falling.{fell}
use Rattle.ygg_oblige_schedule.proofs.reader.EnvironmentReader.cut.Goals as goal

pub returns : goal.returns
returns c =
    λ l b is. fell c.args.self.now c.args.block c.args.args.now c.args.memory c.args.low l b _ c.choices.ensures c.choices-2.ensures c.choices-3.ensures
    c.in_ok-front.front.fallen (c.in_ok-front.ensures.fronted l b is).falls
