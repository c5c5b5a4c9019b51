use Rattle.std.proofs.Common.{None, refl}
use Rattle.ygg_syntax.specs.declared.tree.Block.{Block}
use Rattle.ygg_replay.specs.ygg_meaning.Environments.{bind}
use Rattle.ygg_oblige_schedule.specs.ygg_eval.Bodies.{arguments_in}
use Rattle.ygg_oblige_given.specs.ygg_oblige_laws.Schedules.{whole_from}
use Rattle.ygg_oblige_schedule.specs.Here.{below_of, inputs_of, layer_of, numbers_of}
use Rattle.ygg_oblige_schedule.specs.Schedules.{IsRead, OfBlock, given_here}
use Rattle.ygg_oblige_schedule.proofs.Means.{has_stand, read_from, read_so}
use Rattle.ygg_oblige_schedule.proofs.reader.EnvironmentReader.whole.Goals as goal

pub returns : goal.returns
returns c =
    let r = c.args.self.now in
    let l = r.site.layer.now in
    let block = c.args.block in
    let s = given_here r in
    let stand = c.in_ok-stand.ensures in
    let want = λ (b : Block).
    whole_from (below_of r) (layer_of r) (inputs_of r) (numbers_of r) b s (bind (arguments_in l block.part block.number) c.args.args) c.args.args in
    read_from r c.in_ok-stand.stand c.args.args (record { stop = None; picks = c.in_ok-picks.picks; wake = c.no_picks.result }) c.no_picks-2.result
    c.scheduled.result (λ x. OfBlock r block (λ b. IsRead r (want b) x)) c.scheduled.ensures (λ b is.
    read_so r (want b) _ refl (has_stand r _ stand (want b) refl refl refl) refl tt refl (c.in_ok-picks.ensures b is) c.no_picks.ensures c.no_picks-2.ensures)
