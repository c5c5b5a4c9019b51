use Rattle.std.proofs.Common.{inl, refl}
use Rattle.ygg_eval.specs.declared.body.Part.TheVariants as part
use Rattle.ygg_machine.proofs.Fields.{format_cut_as, format_done_as, done_stands_as, done_serves_as}
use Rattle.ygg_machine.proofs.floor.FloorTower.format.Goals as goal

pub returns-then-was_cut-clause-ends : goal.returns-then-was_cut-clause-ends
returns-then-was_cut-clause-ends g c =
    format_cut_as g.W.Lower.means g.W.Tower.rooted g.W.Tower.stands g.met.W.Lower.keeps g.met.W.Tower.stacks c.args.typed.now.file c.self.inside.memory
    c.self.inside.below
    c.format-ended.new.self c.args.self.now c.self.view_is c.args.power.now c.format-ended.new.power c.requires.stands c.format-ended.ensures.stands
    _ (c.was_cut.ensures.cut c.if-was_cut.true) c.format-ended.ensures.ends

pub returns-clause-ends : goal.returns-clause-ends
returns-clause-ends g c =
    format_done_as g.W.Lower.means g.W.Tower.rooted g.W.Tower.stands g.met.W.Lower.keeps g.met.W.Tower.stacks c.args.typed.now.file c.self.inside.memory
    c.self.inside.below
    c.format-ended.new.self c.args.self.now c.self.view_is c.args.power.now c.format-ended.new.power c.requires.stands c.format-ended.ensures.stands
    _ (c.was_cut.ensures.whole c.if-was_cut.false) _
    (record { machine = c.begin.new.self; power = c.begin.new.power }) c.format-ended.ensures.ends c.begin.ensures.began

pub returns-clause-serves : goal.returns-clause-serves
returns-clause-serves g c =
    done_serves_as g.W.Lower.means g.W.Tower.rooted g.W.Tower.stands g.met.W.Lower.keeps g.met.W.Tower.stacks c.args.typed.now.file c.self.inside.memory
    c.self.inside.below
    c.format-ended.new.self c.args.self.now c.self.view_is c.args.power.now c.format-ended.new.power c.requires.stands c.format-ended.ensures.stands
    _ (c.was_cut.ensures.whole c.if-was_cut.false) _
    (record { machine = c.begin.new.self; power = c.begin.new.power }) part.Format (inl refl) c.begin.ensures.began c.begin.ensures.serves

pub returns-clause-stands : goal.returns-clause-stands
returns-clause-stands g c =
    done_stands_as g.W.Lower.means g.W.Tower.rooted g.W.Tower.stands g.met.W.Lower.keeps g.met.W.Tower.stacks c.args.typed.now.file c.self.inside.memory
    c.self.inside.below
    c.format-ended.new.self c.args.self.now c.self.view_is c.args.power.now c.format-ended.new.power c.requires.stands c.format-ended.ensures.stands
    _ (c.was_cut.ensures.whole c.if-was_cut.false) _
    (record { machine = c.begin.new.self; power = c.begin.new.power }) part.Format (inl refl) c.begin.ensures.began
