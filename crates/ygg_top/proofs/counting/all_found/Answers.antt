use Rattle.std.proofs.Common.{List, [], ◌∷◌, refl, subst, ap, sym, ◌∙◌, arith, length}
use Rattle.std.specs.Prelude.{slice_get}
use Rattle.std.proofs.lemmas.List.{length-append}
use Rattle.std.proofs.lemmas.Option.{slice_get_read}
use Rattle.ygg_certify.specs.ygg_bank.declared.node.Node.{Node}
use Rattle.ygg_oblige_reading.specs.Obligations.{terms_in}
use Rattle.ygg_top.specs.ygg_report.declared.verdict.Verdict.{Verdict}
use Rattle.ygg_top.specs.Findings.{IsFound, AreFound}
use Rattle.ygg_top.specs.ygg_top_command.Words.{usual_budget}
use Rattle.ygg_top.proofs.Reporting.{found_more}
use Rattle.ygg_top.proofs.counting.all_found.Goals as goal

pub loop-o-preserved : goal.loop-o-preserved
loop-o-preserved g c =
    let i = c.loop-o.invariant in
    let v = c.in_ok-finding.finding.verdict in
    let vs = c.loop-o.verdicts in
    let here = slice_get_read c.args.all.now _ c.loop-o.o-index c.o-item.result refl c.loop-o-test.true c.o-item.is in
    let found = subst (λ (ns : List Node). IsFound ns c.o-item.result.term usual_budget v) i.same c.in_ok-finding.ensures.found in
    let pushed = c.in_ok-push.ensures.ok in
    record {
      each = ap length pushed ∙ length-append vs (v ∷ []) ∙ (let e = i.each in omega (arith, e));
      same = c.found.ensures.same ∙ i.same;
      found =
          subst (λ (xs : List Verdict). AreFound c.args.bank.now usual_budget (terms_in c.args.all.now) xs) (sym pushed)
          (found_more c.args.bank.now usual_budget c.args.all.now vs c.o-item.result v i.found (ap (slice_get c.args.all.now) i.each ∙ here) found);
    }
