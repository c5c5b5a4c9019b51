use Rattle.std.proofs.Common.{◌≡◌, ℕ, [], ◌∙◌, sym, subst}
use Rattle.ygg_replay_search.specs.Searching.{IsFirstAfter}
use Rattle.ygg_replay.specs.Passing.{passing_asked}
use Rattle.ygg_replay.proofs.Asked.{if_ok}
use Rattle.ygg_replay.proofs.Tried.{first_is, most_is}
use Rattle.ygg_replay.proofs.site.ReplaySite.first_passing.Goals as goal

pub first_passing-requires-clause-ready : goal.first_passing-requires-clause-ready
first_passing-requires-clause-ready c = record { here = c.requires.here; can = c.requires.can }

pub first_passing-requires-clause-count : goal.first_passing-requires-clause-count
first_passing-requires-clause-count c =
    let can = c.requires.can in
    c.in_ok-most.ensures can.obligation can.is ∙ sym (most_is c.args.self.now c.args.trial can.obligation can.is)

pub returns : goal.returns
returns c =
    let s = c.args.self.now in
    let t = c.args.trial in
    let can = c.requires.can in
    let counted = c.in_ok-most.ensures can.obligation can.is ∙ sym (most_is s t can.obligation can.is) in
    if_ok _ _ c.first_passing.result c.first_passing.ensures
    (λ found h o is. first_is s t o is found (subst (λ (n : ℕ). IsFirstAfter n (passing_asked s t) [] found) counted h))
