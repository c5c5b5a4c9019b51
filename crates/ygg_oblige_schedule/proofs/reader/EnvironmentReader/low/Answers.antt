use Rattle.std.proofs.Common.{◌∙◌, List, sym, ap}
use Rattle.ygg_syntax.specs.declared.tree.Declared.{Declared}
use Rattle.ygg_replay.specs.ygg_meaning.Environments.{bind}
use Rattle.ygg_replay.specs.ygg_meaning.Shapes.{values_fit}
use Rattle.ygg_oblige_schedule.specs.ygg_eval.Layers.{variables_at}
use Rattle.ygg_oblige_given.specs.ygg_oblige_laws.Inputs.{given_env}
use Rattle.ygg_oblige_schedule.specs.Here.{file_of, inputs_of}
use Rattle.ygg_oblige_schedule.proofs.Stands.{fits_at}
use Rattle.ygg_eval_places.proofs.ChoiceNoting.{if_ok}
use Rattle.ygg_oblige_schedule.proofs.reader.EnvironmentReader.low.Goals as goal

pub values-requires-clause-fit : goal.values-requires-clause-fit
values-requires-clause-fit c =
    let r = c.args.self.now in
    fits_at (inputs_of r) r.site.low.now _ c.in_ok-from.from _ c.requires.here.low_is c.in_ok-from.ensures c.requires.fit

pub returns-clause-fits : goal.returns-clause-fits
returns-clause-fits c =
    if_ok c.values.result c.values.ensures.fits (λ xs h. ap (λ (ds : List Declared). values_fit ds xs) (sym c.requires.here.low_is) ∙ h)

pub returns-clause-is : goal.returns-clause-is
returns-clause-is c =
    let r = c.args.self.now in
    let low = variables_at (file_of r) r.site.place in
    if_ok c.values.result c.values.ensures.bound (λ xs h.
    ap (λ (ds : List Declared). bind ds xs) (sym c.requires.here.low_is) ∙ h
    ∙ ap (λ (ds : List Declared). given_env (inputs_of r) c.in_ok-from.from ds) c.requires.here.low_is
    ∙ ap (λ n. given_env (inputs_of r) n low) c.in_ok-from.ensures)
