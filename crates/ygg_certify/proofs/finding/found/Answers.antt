use Rattle.std.proofs.Common.{ℕ, ◌<◌, ◌^◌, List, length, ap, refl, subst, ◌∙◌}
use Rattle.std.specs.Prelude.{All}
use Rattle.ygg_cert.specs.ygg_cnf.declared.lit.Lit.{Lit}
use Rattle.ygg_cert.specs.ygg_cnf.Logs.{Refutes}
use Rattle.ygg_cert.specs.ygg_cnf.Steps.{IsLiteral}
use Rattle.ygg_decide.specs.declared.deciding.Decided.{Decided}
use Rattle.ygg_decide.specs.Deciding.{IsDecided}
use Rattle.ygg_decide.specs.ygg_gates.Groups.{Translated}
use Rattle.ygg_certify.proofs.Standing.{log_found, spent_found}
use Rattle.ygg_certify.proofs.finding.found.Goals as goal
use Rattle.ygg_certify.proofs.finding.found.Goals.{in-Valid+in_ok-shorten-in-Valid, in-Fails, in-Spent}

pub returns : goal.returns
returns c =
    let t = c.in_ok-blasted.blasted in
    let is = c.in_ok-blasted.ensures.form in
    let these = c.as_slice.ensures ∙ c.clauses.ensures in
    let may = subst (λ (cs : List (List Lit)). All (All IsLiteral) cs) these c.count-clauses.ensures.may in
    let few = subst (λ (n : ℕ). n < 2 ^ 63) (c.count-clauses.ensures.count ∙ ap length these) c.count-clauses.ensures.few in
    record {
      named = refl;
      counted = c.count-clauses.ensures.count ∙ ap length these ∙ ap (λ (u : Translated). length u.clauses) is;
      found = elim c.match-decided-2.branch [
        | in-Valid+in_ok-shorten-in-Valid w ↦
            rw w.outcome-is
            (log_found c.steps_may.ensures c.args.bank.now c.args.term c.args.budget t w.in_ok-shorten-in-Valid.field-0 is may few c.ranges.budget.fits
            (subst (λ (cs : List (List Lit)). Refutes cs w.in_ok-shorten-in-Valid.field-0) w.clauses-in-Valid.ensures w.in_ok-shorten-in-Valid.ensures.refutes)
            w.in_ok-shorten-in-Valid.ensures.budget)
        | in-Fails w ↦ rw w.outcome-is (subst (λ (d : Decided). IsDecided c.args.bank.now c.args.term c.args.budget d) w.in-Fails.is c.requires.decided)
        | in-Spent w ↦ rw w.outcome-is (spent_found c.args.bank.now c.args.term c.args.budget c.args.decided _ w.in-Spent.is c.requires.decided)
      ];
    }
