use Rattle.ygg_cnf.proofs.Running.{run_from, run_within}
use Rattle.ygg_cnf.specs.Runs.{spot_in}
use Rattle.ygg_cnf.proofs.reader.StepReader.run_on.Goals as goal

pub returns-in-Some : goal.returns-in-Some
returns-in-Some c =
    run_within c.args.piece.now c.args.self.now.clause _ c.args.self.now.chain c.in_ok-run.run'.count c.args.self.now.spot _ (spot_in c.in-Some.part)
    (spot_in c.in_ok-run.run'.part) c.in-Some.ensures c.spot_in-self.ensures (c.in_ok-run.ensures c.args.self.now.chain)

pub returns : goal.returns
returns c =
    run_from c.args.piece.now c.args.self.now.clause c.args.self.now.chain _ c.in-Some-number_at.number c.in_ok-run-2.run'.number c.in_ok-run-2.run'.count
    c.args.self.now.spot _ c.in-Some-number_at.ensures c.spot_of-self.ensures (c.in_ok-run-2.ensures c.args.self.now.clause)
