use Rattle.std.proofs.Common.{List, subst}
use Rattle.ygg_oblige.specs.ygg_bank.Nodes.{IsBank}
use Rattle.ygg_oblige.specs.ygg_bank.Values.{InputsFit, inputs_of}
use Rattle.ygg_oblige.specs.ygg_bank.declared.node.Node.{Node}
use Rattle.ygg_oblige_schedule.proofs.ChoiceNoting.{if_ok}
use Rattle.ygg_oblige_reading.proofs.Exactly.{at_zero}
use Rattle.ygg_oblige_reading.proofs.reading.schedule.Goals as goal

pub schedule_at-requires-clause-there : goal.schedule_at-requires-clause-there
schedule_at-requires-clause-there g c = c.requires.made.there

pub schedule_at-requires-clause-fit : goal.schedule_at-requires-clause-fit
schedule_at-requires-clause-fit g c =
    let same = c.requires.made.nodes_are in
    record {
      bank = subst (λ (nodes : List Node). IsBank nodes) same c.requires.made.bank;
      numbers = subst (λ (nodes : List Node). InputsFit (inputs_of c.args.env.now) nodes) same c.requires.fit;
    }

pub returns-clause-exact : goal.returns-clause-exact
returns-clause-exact g c =
    if_ok c.schedule_at.result c.schedule_at.ensures.exact (λ x h.
    at_zero (g.B.Book.kinds c.args.book.now) c.args.typed.now.file (inputs_of c.args.env.now) c.args.bank.now c.args.obligation.now c.requires.made x h)
