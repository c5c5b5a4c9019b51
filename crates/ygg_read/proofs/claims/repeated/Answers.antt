use Rattle.std.proofs.Common.{◌∙◌, sym, ap, length, rules, arith}
use Rattle.ygg_syntax.specs.Reading.{in_turn}
use Rattle.ygg_syntax.specs.Files.{claim}
use Rattle.ygg_syntax.specs.Pending.{outcome}
use Rattle.ygg_read.specs.LayerParts.{rest_of_claim}
use Rattle.ygg_read.proofs.ClaimLists.{none_read, one_more, all_read, all_gone, one_stops}
use Rattle.ygg_read.proofs.claims.repeated.Goals as goal

pub loop-all-init : goal.loop-all-init
loop-all-init c = none_read _ _ _ _ _ (search rules)

pub loop-all-preserved : goal.loop-all-preserved
loop-all-preserved c =
    let step = rw c.in-Some-2.is at c.in_ok-more.ensures.read in
    let reads = rw step.1.0 at c.rest_of_claim.ensures.reads in
    let goes = rw step.1.0 at c.rest_of_claim.ensures.goes in
    let shorter = rw step.1.0 at c.rest_of_claim.ensures.shorter in
    one_more (claim c.args.keyword) c.args.keyword rest_of_claim _ c.loop-all.reader c.keyword.new.self c.rest_of_claim.new.reader c.loop-all.all
    c.in-Some-2.more step.0
    c.in-Some.field-0 c.loop-all.invariant c.in-Some.ensures.taken (reads c.args.keyword c.in-Some.field-0) goes shorter step.1.1

pub loop-all-smaller : goal.loop-all-smaller
loop-all-smaller c =
    let step = rw c.in-Some-2.is at c.in_ok-more.ensures.read in
    let shorter = rw step.1.0 at c.rest_of_claim.ensures.shorter in
    omega (arith, shorter, ap length c.in-Some.ensures.taken)

pub returns-in_default-2-clause-refused : goal.returns-in_default-2-clause-refused
returns-in_default-2-clause-refused c =
    let none = rw c.in_default-2.is at c.in_ok-more.ensures.refused in
    let stopped = rw none at c.rest_of_claim.ensures.refused in
    λ p b o. one_stops (claim c.args.keyword) c.args.keyword rest_of_claim _ c.loop-all.reader c.keyword.new.self c.rest_of_claim.new.reader
    c.loop-all.all c.in-Some.field-0
    c.loop-all.invariant c.in-Some.ensures.taken stopped p b o

pub returns-clause-reads : goal.returns-clause-reads
returns-clause-reads c =
    λ qs. all_read (claim c.args.keyword) c.args.keyword rest_of_claim _ c.loop-all.reader c.loop-all.all c.loop-all.invariant qs
    ∙ ap (in_turn qs) (sym c.in_default.ensures.left)

pub returns-clause-goes : goal.returns-clause-goes
returns-clause-goes c =
    λ p b o qs. all_gone (claim c.args.keyword) c.args.keyword rest_of_claim _ c.loop-all.reader c.loop-all.all c.loop-all.invariant
    c.in_default.ensures.other p b o qs ∙ ap (outcome qs) (sym c.in_default.ensures.left)
