use Rattle.std.proofs.Common.{sym}
use Rattle.ygg_sched.specs.Sites.{site_in}
use Rattle.ygg_sched.proofs.naming.case_named.Goals as goal

pub returns-in_ok-case-in-Some : goal.returns-in_ok-case-in-Some
returns-in_ok-case-in-Some c = record { site = site_in c.in-Some.claim; named = sym c.in-Some.ensures.named; is = c.in_ok-case-in-Some.ensures }
