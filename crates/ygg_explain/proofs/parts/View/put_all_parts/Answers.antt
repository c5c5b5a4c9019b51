use Rattle.std.proofs.Common.{◌+◌, drop, arith}
use Rattle.ygg_explain.proofs.Telling.{all_told, drop_here, drop_none, one_told}
use Rattle.ygg_explain.proofs.parts.View.put_all_parts.Goals as goal

pub loop-e-preserved : goal.loop-e-preserved
loop-e-preserved c =
    let es = c.args.es.now in
    let i = c.loop-e.e-index in
    let e = c.e-item.result in
    one_told c.args.self.now c.args.wanted c.args.which.now es (drop i es) (drop (i + 1) es) e c.args.out.now c.loop-e.out c.put_parts.new.out
    c.loop-e.invariant (drop_here es i e c.loop-e-test.true c.e-item.is) c.in_ok-put_parts.ensures

pub returns : goal.returns
returns c =
    let es = c.args.es.now in
    let i = c.loop-e.e-index in
    all_told c.args.self.now c.args.wanted c.args.which.now es (drop i es) c.args.out.now c.loop-e.out c.loop-e.invariant
    (drop_none es i (λ before. let past = c.loop-e-test.false in omega arith))
