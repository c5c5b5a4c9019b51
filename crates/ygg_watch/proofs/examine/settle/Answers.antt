use Rattle.std.proofs.Common.{List, Contains, sym, subst, ◌∙◌}
use Rattle.std.proofs.lemmas.Option.{same_Some}
use Rattle.ygg_cnf.specs.declared.lit.Lit.{Lit}
use Rattle.ygg_watch.proofs.WatchLemmas.{clause_within}
use Rattle.ygg_watch.proofs.StepLemmas.{is_held, has_watches}
use Rattle.ygg_watch.proofs.examine.settle.Goals as goal

pub is_unwatched-requires : goal.is_unwatched-requires
is_unwatched-requires c = has_watches c.args.seen c.requires.here.0 c.requires.live c.requires.here.1.0

pub returns-then-not-is_unwatched : goal.returns-then-not-is_unwatched
returns-then-not-is_unwatched c = record { live = c.requires.live }

pub lits_of-requires : goal.lits_of-requires
lits_of-requires c = is_held c.args.seen c.requires.here.0 c.requires.live c.requires.here.1.0

pub second-requires : goal.second-requires
second-requires c = clause_within c.args.clauses.now c.args.trail.now.variable_count c.args.seen c.lits_of.result.now c.requires.live.variables
    c.lits_of.ensures

pub attach-requires-clause-live : goal.attach-requires-clause-live
attach-requires-clause-live c = c.requires.live

pub attach-requires-clause-free : goal.attach-requires-clause-free
attach-requires-clause-free c = c.is_unwatched.ensures.0 c.if-not-is_unwatched.false

pub attach-requires-clause-pair : goal.attach-requires-clause-pair
attach-requires-clause-pair c =
    let (clause, (is, has)) = c.requires.here in
    let same = same_Some c.lits_of.result.now clause (sym c.lits_of.ensures ∙ is) in
    let other = subst (λ (w : List Lit). Contains w c.in-Some.other) same c.in-Some.ensures.0 in
    (clause, (is, (has, (other, λ e. c.in-Some.ensures.1 (sym e)))))

pub returns-in-Some : goal.returns-in-Some
returns-in-Some c = record { live = c.attach.ensures.live }

pub returns-in_default : goal.returns-in_default
returns-in_default c = record { live = c.requires.live }
