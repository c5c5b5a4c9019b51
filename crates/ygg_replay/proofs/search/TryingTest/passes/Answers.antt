use Rattle.std.proofs.Common.{◌∙◌, sym}
use Rattle.ygg_replay.proofs.Asked.{if_ok}
use Rattle.ygg_replay.proofs.Tried.{most_is, passes_is}
use Rattle.ygg_replay.proofs.search.TryingTest.passes.Goals as goal

pub passes-requires-clause-here : goal.passes-requires-clause-here
passes-requires-clause-here c = c.requires.ready.here

pub passes-requires-clause-can : goal.passes-requires-clause-can
passes-requires-clause-can c = c.requires.ready.can

pub passes-requires-clause-all : goal.passes-requires-clause-all
passes-requires-clause-all c = λ o is. c.requires.count ∙ most_is c.args.self.now.site.now c.args.self.now.trial o is

pub returns : goal.returns
returns c =
    let s = c.args.self.now.site.now in
    let t = c.args.self.now.trial in
    let can = c.requires.ready.can in
    if_ok _ _ c.passes.result c.passes.ensures
    (λ answer h. h can.obligation can.is ∙ sym (passes_is s t can.obligation can.is c.args.picks.now))
