use Rattle.std.proofs.Common.{◌∙◌, ℕ, Bool, ap}
use Rattle.ygg_eval_places.specs.ygg_sym_laws.Fronts.{run_picks}
use Rattle.ygg_oblige_schedule.specs.Here.{below_of, low_env}
use Rattle.ygg_oblige_schedule.specs.Runs.{args_env, layer_at, memory_env}
use Rattle.ygg_oblige_schedule.proofs.reader.EnvironmentReader.run.Goals as goal

pub returns : goal.returns
returns c =
    let r = c.args.self.now in
    let block = c.args.block in
    let args = c.args.args.now in
    let memory = c.args.memory in
    let low = c.args.low in
    λ l b is. (c.in_ok-front.ensures.fronted l b is).picks
    ∙ ap (λ (bits : ℕ → Bool). run_picks (below_of r) (layer_at r block args memory low l) b (memory_env r block args memory low l)
    (args_env r block args memory low l) (low_env r low) bits) c.choices.ensures
