use Rattle.std.proofs.Common.{◌∙◌, ap, refl, []}
use Rattle.ygg_replay.specs.ygg_meaning.Environments.{Env}
use Rattle.ygg_replay.specs.ygg_meaning.Shapes.{values_fit}
use Rattle.ygg_eval_places.specs.ygg_sym_runs.Laws.{picked_by}
use Rattle.ygg_eval_places.specs.ygg_sym_laws.Fronts.{run_picks}
use Rattle.ygg_oblige_schedule.specs.Here.{below_of, inputs_of, layer_of, low_env}
use Rattle.ygg_eval_places.proofs.ChoiceNoting.{if_ok}
use Rattle.ygg_oblige_schedule.proofs.reader.EnvironmentReader.wake.Goals as goal

pub run-requires-clause-run : goal.run-requires-clause-run
run-requires-clause-run c =
    let r = c.args.self.now in
    let l = r.site.layer.now in record {
      kind = refl;
      block = record {
        layer = l;
        block = l.recover;
        is = record { layer = c.requires.here.here; block = refl };
        arguments_fit = ap (values_fit []) c.new-none.ensures;
        variables_fit = c.in_ok-memory.ensures.fits;
      };
    }

pub returns : goal.returns
returns c =
    let r = c.args.self.now in
    let l = r.site.layer.now in
    if_ok c.run.result c.run.ensures (λ picks h.
    h l l.recover (record { layer = c.requires.here.here; block = refl })
    ∙ ap (λ (m : Env). run_picks (below_of r) (layer_of r) l.recover m [] (low_env r c.args.low) (picked_by (inputs_of r) c.args.first))
    c.in_ok-memory.ensures.is)
