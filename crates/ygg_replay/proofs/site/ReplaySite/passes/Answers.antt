use Rattle.std.proofs.Common.{sym, ◌∙◌}
use Rattle.ygg_replay.specs.Passing.{agreeing}
use Rattle.ygg_replay.proofs.Agreeing.{passing_is, plain_kind, sided_kind}
use Rattle.ygg_replay.proofs.Asked.{if_ok}
use Rattle.ygg_replay.proofs.site.ReplaySite.passes.Goals as goal

pub returns-in-Init : goal.returns-in-Init
returns-in-Init c =
    let s = c.args.self.now in
    let t = c.args.trial in
    if_ok _ _ c.agrees.result c.agrees.ensures
    (λ x h o is. h o is ∙ sym (passing_is s t c.args.picks.now o is ∙ plain_kind t.case.kind (agreeing s t o c.args.picks.now) t.end.now.side c.in-Init.is))

pub returns-then-trial : goal.returns-then-trial
returns-then-trial c =
    let s = c.args.self.now in
    let t = c.args.trial in
    if_ok _ _ c.agrees-then-trial.result c.agrees-then-trial.ensures
    (λ x h o is. h o is ∙ sym (passing_is s t c.args.picks.now o is
    ∙ sided_kind t.case.kind (agreeing s t o c.args.picks.now) t.end.now.side c.in-Cut.is c.if-trial.true))
