use Rattle.std.proofs.Common.{◌∙◌, sym, ap}
use Rattle.ygg_replay.specs.ygg_meaning.Environments.{Env}
use Rattle.ygg_replay.specs.ygg_meaning.Shapes.{env_fits}
use Rattle.ygg_oblige_schedule.specs.ygg_eval_proofs_Blocks.{bind_fits}
use Rattle.ygg_oblige_given.specs.Tables.{given_values}
use Rattle.ygg_oblige_given.proofs.Bound.{bound_given}
use Rattle.ygg_oblige_schedule.specs.Here.{inputs_of, numbers_of}
use Rattle.ygg_oblige_schedule.proofs.reader.EnvironmentReader.arguments.Goals as goal

pub values-requires-clause-fit : goal.values-requires-clause-fit
values-requires-clause-fit c =
    let r = c.args.self.now in
    let first = (numbers_of r).args in
    let ds = c.args.declared.now in
    ap (λ (env : Env). env_fits ds env) (sym (bound_given (inputs_of r) first ds)) ∙ bind_fits ds (given_values (inputs_of r) first ds) c.requires.fit
