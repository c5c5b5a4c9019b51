use Rattle.std.proofs.Common.{[], ◌∷◌, ◌++◌, refl}
use Rattle.std.proofs.lemmas.Result.{IfOk-weaker}
use Rattle.ygg_cert.specs.declared.log.LogLine.TheVariants as line
use Rattle.ygg_cert.proofs.Logged.{turns_more, turns_wrong, adds_turns}
use Rattle.ygg_cert.proofs.log.LogReading.read_step.Goals as goal

pub returns-in-More : goal.returns-in-More
returns-in-More c before was =
    let heard = rw c.in-More.is at (c.in_ok-read.ensures before was.line) in
    turns_more c.args.self.now _ before c.args.byte was refl refl refl refl heard

pub returns-in-Wrong : goal.returns-in-Wrong
returns-in-Wrong c before was =
    let heard = rw c.in-Wrong.is at (c.in_ok-read.ensures before was.line) in
    turns_wrong c.args.self.now (before ++ c.args.byte ∷ []) was.other heard

pub returns-in-Whole : goal.returns-in-Whole
returns-in-Whole c before was =
    let heard = rw c.in-Whole.is at (c.in_ok-read.ensures before was.line) in
    IfOk-weaker c.add.result _ _
    (λ h adds.
    adds_turns c.args.self.now
    (record {
      name = c.args.self.now.name;
      checker = c.args.self.now.checker;
      held = c.args.self.now.held;
      at = line.Step;
      step = c.read.new.self;
    })
    c.add.new.self (before ++ c.args.byte ∷ []) h refl refl heard.0 heard.1 adds)
    (c.add.ensures was.counted)
