use Rattle.std.proofs.Common.{◌+◌, List, take, sym, subst, ◌∙◌}
use Rattle.std.proofs.lemmas.List.{take_all}
use Rattle.ygg_certify.specs.ygg_bank.declared.node.Node.{Node}
use Rattle.ygg_oblige.specs.Obligations.{names_in, terms_in}
use Rattle.ygg_oblige.specs.declared.obligation.Obligation.{Obligation}
use Rattle.ygg_certify.specs.declared.finding.Finding.{Finding}
use Rattle.ygg_certify.specs.Findings.{IsFinding}
use Rattle.ygg_certify.specs.Certifying.{AreFound}
use Rattle.ygg_certify.proofs.Certified.{found_more}
use Rattle.ygg_certify.proofs.certifying.find_all.Goals as goal

pub loop-o-preserved : goal.loop-o-preserved
loop-o-preserved g c =
    let i = c.loop-o.invariant in
    let o = c.o-item.result in
    let f = c.in_ok-finding.finding in
    let found = subst (λ (ns : List Node). IsFinding ns c.args.budget o.name o.term f) i.same c.in_ok-finding.ensures.found in
    record {
      same = c.find.ensures.same ∙ i.same;
      found =
          subst (λ (xs : List Finding). AreFound c.args.bank.now c.args.budget (names_in (take (c.loop-o.o-index + 1) c.args.all.now))
          (terms_in (take (c.loop-o.o-index + 1) c.args.all.now)) xs) (sym c.in_ok-push.ensures.ok)
          (found_more c.args.bank.now c.args.budget c.args.all.now c.loop-o.o-index o c.loop-o.findings f c.loop-o-test.true c.o-item.is i.found found);
    }

pub returns-clause-found : goal.returns-clause-found
returns-clause-found g c =
    subst (λ (xs : List Obligation). AreFound c.args.bank.now c.args.budget (names_in xs) (terms_in xs) c.loop-o.findings)
    (take_all c.loop-o.o-index c.args.all.now c.loop-o-test.false) c.loop-o.invariant.found
