use Rattle.std.proofs.Common.{refl}
use Rattle.std.proofs.lemmas.Result.{IfOk-weaker}
use Rattle.ygg_cert.proofs.Logged.{run_turns, none_turns}
use Rattle.ygg_cert.proofs.log.LogReading.run_on.Goals as goal

pub returns-in-Step-clause-within : goal.returns-in-Step-clause-within
returns-in-Step-clause-within c = IfOk-weaker c.run_on.result _ _ (λ count run. run.within) c.run_on.ensures

pub returns-in-Step-clause-turns : goal.returns-in-Step-clause-turns
returns-in-Step-clause-turns c before was =
    IfOk-weaker c.run_on.result _ _
    (λ count run. run_turns c.args.self.now _ before c.args.piece.now count c.in-Step.is was refl refl refl c.in-Step.is run)
    c.run_on.ensures

pub returns-in-Begin-clause-turns : goal.returns-in-Begin-clause-turns
returns-in-Begin-clause-turns c before was = none_turns c.args.self.now before c.args.piece.now was

pub returns-in-Closing-clause-turns : goal.returns-in-Closing-clause-turns
returns-in-Closing-clause-turns c before was = none_turns c.args.self.now before c.args.piece.now was
