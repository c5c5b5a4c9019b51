use Rattle.std.proofs.Common.{◌≡◌, ◌∙◌, true, List, ap}
use Rattle.ygg_syntax.specs.declared.tree.Declared.{Declared}
use Rattle.ygg_replay.specs.ygg_meaning.Environments.{bind}
use Rattle.ygg_replay.specs.ygg_meaning.Shapes.{values_fit}
use Rattle.ygg_oblige_schedule.specs.ygg_eval.Bodies.{variables_in}
use Rattle.ygg_oblige_schedule.specs.ygg_eval.Layers.{variables_at}
use Rattle.ygg_oblige_schedule.specs.Here.{file_of, low_env}
use Rattle.ygg_oblige_schedule.specs.Schedules.{given_here}
use Rattle.ygg_oblige_schedule.proofs.Falling.{memory_of}
use Rattle.ygg_oblige_schedule.proofs.Means.{picks_are}
use Rattle.ygg_eval_places.proofs.ChoiceNoting.{if_ok}
use Rattle.ygg_oblige_schedule.proofs.reader.EnvironmentReader.whole_picks.Goals as goal

pub run-requires-clause-run : goal.run-requires-clause-run
run-requires-clause-run c =
    let r = c.args.self.now in
    let l = r.site.layer.now in
    let block = c.args.block in
    let has = c.requires.block in
    let memory : values_fit (variables_in l block.part) c.in_ok-memory.memory ≡ true =
    ap (λ (ds : List Declared). values_fit ds c.in_ok-memory.memory) (memory_of l block.part has.kind) ∙ ap (values_fit l.memory) c.in_ok-memory.ensures
    ∙ c.requires.stand.memory_fits in
    record {
      kind = has.kind;
      block = record {
        layer = l;
        block = has.body;
        is = record { layer = c.requires.here.here; block = has.there };
        arguments_fit = has.fit;
        variables_fit = memory;
      };
    }

pub run-requires-clause-low : goal.run-requires-clause-low
run-requires-clause-low c =
    let r = c.args.self.now in
    ap (values_fit (variables_at (file_of r) r.site.place)) c.in_ok-low.ensures ∙ c.requires.stand.low_fits

pub returns : goal.returns
returns c =
    let r = c.args.self.now in
    let l = r.site.layer.now in
    let s = given_here r in
    let stand = c.requires.stand in
    if_ok c.run.result c.run.ensures (λ p h b is.
    picks_are r c.args.block c.args.args.now c.in_ok-memory.memory c.in_ok-low.low s.memory s.low c.requires.block.kind
    (ap (bind l.memory) c.in_ok-memory.ensures ∙ stand.memory_is) (ap (low_env r) c.in_ok-low.ensures ∙ stand.low_is) b is _ p (h))
