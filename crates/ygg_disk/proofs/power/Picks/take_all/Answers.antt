use Rattle.std.proofs.Common.{◌≡◌, length, sym, ap, ◌∙◌, subst, arith}
use Rattle.ygg_disk.specs.Power.{after_pick, Takes}
use Rattle.ygg_disk.proofs.Taking.{after_picks, after_more, all_taken}
use Rattle.ygg_disk.proofs.power.Picks.take_all.Goals as goal

pub loop-preserved : goal.loop-preserved
loop-preserved c = c.take.ensures ∙ ap after_pick c.loop.invariant ∙ sym (after_more c.loop.index c.args.self.now)

pub returns : goal.returns
returns c =
    let all : c.loop.index ≡ length c.args.picks.now = omega arith in
    let is = c.loop.invariant ∙ ap (λ n. after_picks n c.args.self.now) all in
    subst (Takes c.args.picks.now c.args.self.now) (sym is) (all_taken c.args.picks.now c.args.self.now c.requires)
