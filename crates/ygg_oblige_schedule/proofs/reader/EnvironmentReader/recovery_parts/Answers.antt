use Rattle.std.proofs.Common.{◌∙◌, [], refl, ap}
use Rattle.ygg_replay.specs.ygg_meaning.Shapes.{values_fit, zeros_of}
use Rattle.ygg_oblige_schedule.specs.ygg_eval.Bodies.{IsBlock}
use Rattle.ygg_oblige_schedule.specs.ygg_eval.Layers.{variables_at}
use Rattle.ygg_oblige_schedule.specs.ygg_eval.declared.body.Part.TheVariants as part
use Rattle.ygg_oblige_schedule.specs.Here.{body_of, file_of, low_env}
use Rattle.ygg_oblige_schedule.proofs.Means.{parts_are}
use Rattle.ygg_eval_places.proofs.ChoiceNoting.{if_ok}
use Rattle.ygg_oblige_schedule.proofs.reader.EnvironmentReader.recovery_parts.Goals as goal

pub cut_parts-requires-clause-run : goal.cut_parts-requires-clause-run
cut_parts-requires-clause-run c =
    let r = c.args.self.now in
    let l = r.site.layer.now in record {
      kind = refl;
      block = record {
        layer = l;
        block = l.recover;
        is = record { layer = c.requires.here.here; block = refl };
        arguments_fit = ap (values_fit []) c.none-none.ensures;
        variables_fit = c.in_ok-memory.ensures.fits;
      };
    }

pub cut_parts-requires-clause-low : goal.cut_parts-requires-clause-low
cut_parts-requires-clause-low c =
    let r = c.args.self.now in ap (values_fit (variables_at (file_of r) r.site.place)) c.in_ok-below.ensures ∙ c.requires.low

pub returns : goal.returns
returns c =
    let r = c.args.self.now in
    let l = r.site.layer.now in
    let is : IsBlock (file_of r) (body_of r (record { part = part.Recover; number = 0 })) l l.recover = record { layer = c.requires.here.here; block = refl } in
    if_ok c.cut_parts.result c.cut_parts.ensures (λ p h.
    parts_are r _ c.none-none.result c.in_ok-memory.memory c.in_ok-below.below (zeros_of l.memory) (low_env r c.args.low.now) refl c.in_ok-memory.ensures.is
    (ap (low_env r) c.in_ok-below.ensures) l.recover is p (h l.recover is))
