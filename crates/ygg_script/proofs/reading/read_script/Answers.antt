use Rattle.ygg_script.proofs.Fitted.{fitting, few}
use Rattle.ygg_script.proofs.reading.read_script.Goals as goal

pub returns-clause-fits : goal.returns-clause-fits
returns-clause-fits c = fitting c.args.typed.now.file c.args.text.now c.script_in.result c.script_in.ensures

pub returns-clause-few : goal.returns-clause-few
returns-clause-few c = few c.args.typed.now.file c.args.text.now c.script_in.result c.script_in.ensures
