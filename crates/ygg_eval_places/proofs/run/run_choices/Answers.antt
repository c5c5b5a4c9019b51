use Rattle.ygg_eval_places.proofs.ChoiceNoting.{block_chose, if_ok}
use Rattle.ygg_eval_places.proofs.run.run_choices.Goals as goal

pub returns : goal.returns
returns c = record {
  chose = if_ok c.run_places.result c.run_places.ensures.walked
      (λ answer walked. block_chose c.args.typed.now.file
      (record { typed = c.args.typed; number = c.args.body.layer; choices = c.args.choices }) c.args.body c.args.args.now c.args.values.now answer
      c.run_places.new.values c.args.picks.now c.run_places.new.state walked);
}
