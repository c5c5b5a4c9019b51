use Rattle.std.proofs.Common.{◌≡◌, ◌+◌, List, refl, ap, subst, ◌∙◌, arith}
use Rattle.std.proofs.lemmas.Option.{slice_get_read}
use Rattle.ygg_certify.specs.ygg_bank.declared.node.Node.{Node}
use Rattle.ygg_top.specs.Findings.{IsFound, IsKept, first_kept}
use Rattle.ygg_top.proofs.Reporting.{none_reported, one_reported, unreported_since}
use Rattle.ygg_top.proofs.verdict.report_all.Goals as goal

pub loop-o-init : goal.loop-o-init
loop-o-init g c = record {
  place = refl;
  same = refl;
  later = omega arith;
  reported = none_reported c.args.bank.now c.args.budget c.args.all.now (g.K.Sink.taken c.args.sink.now) _ refl refl;
}

pub returns-in-Err-clause-stopped : goal.returns-in-Err-clause-stopped
returns-in-Err-clause-stopped g c =
    let i = c.loop-o.invariant in
    record {
      count = c.loop-o.o-index;
      middle = g.K.Sink.taken c.loop-o.sink;
      summary = c.loop-o.summary;
      reported = i.reported;
      next = c.o-item.result;
      is = slice_get_read c.args.all.now _ c.loop-o.o-index c.o-item.result refl c.loop-o-test.true c.o-item.is;
      unreported =
          unreported_since c.args.bank.now c.loop-o.bank c.o-item.result.term c.o-item.result.name c.args.budget (g.K.Sink.taken c.loop-o.sink)
          (g.K.Sink.taken c.report.new.sink) (g.K.Sink.faults c.args.sink.now) (g.K.Sink.faults c.loop-o.sink) (g.K.Sink.faults c.report.new.sink)
          c.in-Err.status i.same i.later c.in-Err.ensures.unreported;
    }

pub loop-o-preserved : goal.loop-o-preserved
loop-o-preserved g c =
    let i = c.loop-o.invariant in
    let f = c.in-Ok.finding in
    let o = c.o-item.result in
    let here = slice_get_read c.args.all.now _ c.loop-o.o-index o refl c.loop-o-test.true c.o-item.is in
    let found = subst (λ (ns : List Node). IsFound ns o.term c.args.budget f.verdict) i.same c.in-Ok.ensures.found in
    let kept = subst (λ (ns : List Node). IsKept ns o.term f.verdict f.env) i.same c.in-Ok.ensures.kept in
    let refuted = subst (λ n. c.counted-summary.result.refuted ≡ first_kept c.loop-o.summary.refuted f.env n) i.place c.counted-summary.ensures.refuted in
    record {
      place = ap (λ n. n + 1) i.place;
      same = c.report.ensures.same ∙ i.same;
      later = let l = i.later in let m = c.report.ensures.later in omega (arith, l, m);
      reported =
          one_reported c.args.bank.now c.args.budget c.args.all.now (g.K.Sink.taken c.args.sink.now) (g.K.Sink.taken c.loop-o.sink)
          (g.K.Sink.taken c.report.new.sink) c.loop-o.o-index c.loop-o.summary c.counted-summary.result o f.verdict f.env i.reported here found kept
          c.in-Ok.ensures.put refuted c.counted-summary.ensures.spent;
    }
