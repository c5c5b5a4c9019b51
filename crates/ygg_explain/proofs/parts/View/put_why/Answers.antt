use Rattle.std.proofs.Common.{[], sym, append-nil}
use Rattle.ygg_explain.specs.Parts.{uncompared}
use Rattle.ygg_explain.proofs.Adding.{on_ok}
use Rattle.ygg_explain.proofs.Telling.{why_compared}
use Rattle.ygg_explain.proofs.parts.View.put_why.Goals as goal

pub returns-in_ok-b-in-Some : goal.returns-in_ok-b-in-Some
returns-in_ok-b-in-Some c =
    let (first, at, o, is, compares) = rw c.in-Some.is at c.comparison.ensures in
    on_ok c.put_sides.result
    (why_compared c.args.self.now c.args.e.now c.in-Some.a.now c.in-Some.b.now c.in_ok-a-in-Some.a c.in_ok-b-in-Some.b c.args.out.now c.put_sides.new.out
    first at o is compares c.in_ok-a-in-Some.ensures c.in_ok-b-in-Some.ensures) c.put_sides.ensures

pub returns-in-None : goal.returns-in-None
returns-in-None c =
    record { text = []; like = uncompared (rw c.in-None.is at c.comparison.ensures); added = sym (append-nil c.args.out.now) }
