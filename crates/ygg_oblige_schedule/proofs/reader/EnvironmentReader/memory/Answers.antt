use Rattle.std.proofs.Common.{◌≡◌, ◌∙◌, true, List, sym, ap, subst}
use Rattle.ygg_syntax.specs.declared.tree.Declared.{Declared}
use Rattle.ygg_replay.specs.ygg_meaning.Environments.{bind}
use Rattle.ygg_replay.specs.ygg_meaning.Shapes.{env_fits, values_fit}
use Rattle.ygg_oblige_given.specs.ygg_oblige_laws.Inputs.{given_env}
use Rattle.ygg_oblige_given.specs.ygg_oblige_laws.LayerTerms.{ShapesKept}
use Rattle.ygg_oblige_schedule.specs.Here.{inputs_of}
use Rattle.ygg_eval_places.proofs.ChoiceNoting.{if_ok}
use Rattle.ygg_oblige_schedule.proofs.reader.EnvironmentReader.memory.Goals as goal

pub values-requires-clause-shapes : goal.values-requires-clause-shapes
values-requires-clause-shapes c = subst ShapesKept (sym c.as_slice-declared.ensures) c.requires.kept

pub values-requires-clause-fit : goal.values-requires-clause-fit
values-requires-clause-fit c =
    let r = c.args.self.now in
    subst (λ (ds : List Declared). env_fits ds (given_env (inputs_of r) c.args.from ds) ≡ true) (sym c.as_slice-declared.ensures) c.requires.fit

pub returns-clause-fits : goal.returns-clause-fits
returns-clause-fits c =
    if_ok c.values.result c.values.ensures.fits (λ xs h. ap (λ (ds : List Declared). values_fit ds xs) (sym c.as_slice-declared.ensures) ∙ h)

pub returns-clause-is : goal.returns-clause-is
returns-clause-is c =
    let r = c.args.self.now in
    if_ok c.values.result c.values.ensures.bound (λ xs h.
    subst (λ (ds : List Declared). bind ds xs ≡ given_env (inputs_of r) c.args.from ds) c.as_slice-declared.ensures h)
