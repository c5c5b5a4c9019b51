use Rattle.std.proofs.Common.{◌≡◌, ◌<◌, ◌*◌, ◌+◌, ◌++◌, ◌∷◌, List, [], length, sym, subst, ◌∙◌, arith, Some, refl, Contains}
use Rattle.std.proofs.lemmas.Option.{same_Some}
use Rattle.ygg_cnf.specs.declared.lit.Lit.{Lit}
use Rattle.ygg_watch.proofs.StatusLemmas.{spreads_none, step_spreads, state_same, not_false}
use Rattle.ygg_watch.specs.Status.{state_of}
use Rattle.ygg_watch.specs.Propagation.{IsFalse}
use Rattle.ygg_watch.proofs.AssignmentLemmas.{at_last}
use Rattle.ygg_watch.specs.declared.entry.Entry.{Entry}
use Rattle.ygg_watch.proofs.WatchLemmas.{clause_within, lit_within, has_clause, live_push, framed_push, watched_satisfied, watched_loose}
use Rattle.ygg_watch.proofs.StepLemmas.{watched_standing, attached_linked, first_lit, second_lit, fine_or_false, fine_or_stuck}
use Rattle.ygg_watch.specs.State.{IsLive}
use Rattle.ygg_watch.specs.Watching.{IsWatchedAt}
use Rattle.ygg_watch.proofs.examine.examine.Goals as goal

pub returns-then-stands-clause-fine : goal.returns-then-stands-clause-fine
returns-then-stands-clause-fine c _ clause is =
    watched_standing c.args.links.now.watched c.args.trail.now.entries.items c.args.trail.now.variable_count c.args.frames.now c.args.head c.args.seen
    clause
    c.args.trail.now.trail c.requires.live.framed (c.stands.ensures c.if-stands.true)

pub status_of-requires : goal.status_of-requires
status_of-requires c = clause_within c.args.clauses.now c.args.trail.now.variable_count c.args.seen c.lits_of.result.now c.requires.live.variables
    c.lits_of.ensures

pub push-requires-clause-within : goal.push-requires-clause-within
push-requires-clause-within c = lit_within c.args.clauses.now c.args.trail.now.variable_count c.args.seen c.lits_of.result.now c.in-Unit.lit
    c.requires.live.variables c.lits_of.ensures c.in-Unit.ensures.0

pub returns-in-False-clause-conflict : goal.returns-in-False-clause-conflict
returns-in-False-clause-conflict c _ = (
  c.lits_of.result.now,
  (has_clause c.args.clauses.now c.args.seen c.lits_of.result.now c.lits_of.ensures, c.in-False.ensures),
)

pub returns-in-Unit-clause-live : goal.returns-in-Unit-clause-live
returns-in-Unit-clause-live c =
    subst (λ m. IsLive c.args.clauses.now c.settle-in-Unit.new.links.watched c.settle-in-Unit.new.links.next c.settle-in-Unit.new.links.firsts
    [] c.push.new.self.entries.items m c.args.frames.now c.args.head c.args.seen) (sym c.push.ensures.variable_count)
    (live_push c.args.clauses.now c.settle-in-Unit.new.links.watched c.settle-in-Unit.new.links.next c.settle-in-Unit.new.links.firsts
    [] c.args.trail.now.entries.items c.push.new.self.entries.items c.args.trail.now.variable_count c.args.frames.now c.args.head c.args.seen _
    c.settle-in-Unit.ensures.live c.push.ensures.entries)

pub returns-in-Unit-clause-fine : goal.returns-in-Unit-clause-fine
returns-in-Unit-clause-fine c _ clause is =
    let lits : List Lit = c.lits_of.result.now in
    let same : lits ≡ clause = same_Some lits clause (sym c.lits_of.ensures ∙ is) in
    let e : Entry = record { lit = c.in-Unit.lit; level = length c.args.trail.now.starts.items; reason = Some (c.args.seen + 1) } in
    subst (λ (t : List Entry). IsWatchedAt c.settle-in-Unit.new.links.watched t c.args.frames.now c.args.head c.args.seen clause) (sym
    c.push.ensures.entries)
    (watched_satisfied c.settle-in-Unit.new.links.watched (c.args.trail.now.entries.items ++ e ∷ []) c.args.frames.now c.args.head c.args.seen clause
    c.in-Unit.lit
    (framed_push c.args.trail.now.entries.items c.args.frames.now c.args.head c.args.seen e c.requires.live.framed)
    (subst (λ (w : List Lit). Contains w c.in-Unit.lit) same c.in-Unit.ensures.0)
    (length c.args.trail.now.entries.items, (e, (at_last c.args.trail.now.entries.items e, refl))))

pub returns-in-Unit-clause-spreads : goal.returns-in-Unit-clause-spreads
returns-in-Unit-clause-spreads c =
    step_spreads (state_of c.args.clauses.now c.args.trail.now) (state_of c.args.clauses.now c.args.trail.now)
    (c.args.seen + 1) c.in-Unit.lit c.lits_of.result.now (spreads_none (state_of c.args.clauses.now c.args.trail.now))
    (has_clause c.args.clauses.now c.args.seen c.lits_of.result.now c.lits_of.ensures) c.in-Unit.ensures
    (lit_within c.args.clauses.now c.args.trail.now.variable_count c.args.seen c.lits_of.result.now c.in-Unit.lit c.requires.live.variables
    c.lits_of.ensures
    c.in-Unit.ensures.0) (state_of c.args.clauses.now c.push.new.self)
    (state_same c.args.clauses.now _ _ _ _ _ _ _ c.push.ensures.entries c.push.ensures.starts c.push.ensures.variable_count)

pub returns-else-not-is_unwatched-clause-fine : goal.returns-else-not-is_unwatched-clause-fine
returns-else-not-is_unwatched-clause-fine c _ clause is =
    let o = c.in-Open.ensures in
    let w : List Lit = c.args.links.now.watched in
    let l : 2 * c.args.seen + 1 < length w = let a = c.requires.at in let b = c.requires.live.watched_size in omega (arith, a, b) in
    let trail = c.args.trail.now.entries.items in
    subst (λ (z : List Lit). IsWatchedAt z trail c.args.frames.now c.args.head c.args.seen clause) (sym c.attach.ensures.watched)
    (watched_loose _ trail c.args.frames.now c.args.head c.args.seen clause (attached_linked w c.args.seen c.in-Open.lit c.in-Open.other l o.1.1.0)
    (λ f. not_false trail c.in-Open.lit o.1.1.1.0 (subst (IsFalse trail) (first_lit w c.args.seen c.in-Open.lit c.in-Open.other l) f))
    (λ f. not_false trail c.in-Open.other o.1.1.1.1 (subst (IsFalse trail) (second_lit w c.args.seen c.in-Open.lit c.in-Open.other l) f)))

pub push-requires-clause-reason : goal.push-requires-clause-reason
push-requires-clause-reason c =
    let few = c.len.ensures.few in let is = c.len.ensures.len in let size = c.requires.live.watched_size in let at = c.requires.at in
    (omega arith, omega (arith, few, is, size, at))

pub stands-requires-clause-member : goal.stands-requires-clause-member
stands-requires-clause-member c = c.requires.live.member

pub stands-requires-clause-size : goal.stands-requires-clause-size
stands-requires-clause-size c = c.requires.live.watched_size

pub stands-requires-clause-variables : goal.stands-requires-clause-variables
stands-requires-clause-variables c = c.requires.live.variables

pub returns-then-stands-clause-live : goal.returns-then-stands-clause-live
returns-then-stands-clause-live c = c.requires.live

pub returns-then-stands-clause-conflict : goal.returns-then-stands-clause-conflict
returns-then-stands-clause-conflict c e = absurd (fine_or_false e)

pub returns-then-stands-clause-spreads : goal.returns-then-stands-clause-spreads
returns-then-stands-clause-spreads c = spreads_none (state_of c.args.clauses.now c.args.trail.now)

pub settle-requires-clause-live : goal.settle-requires-clause-live
settle-requires-clause-live c = c.requires.live

pub settle-requires-clause-here : goal.settle-requires-clause-here
settle-requires-clause-here c = (c.lits_of.result.now, (c.lits_of.ensures, c.in-True.ensures.0))

pub settle-requires-in-Unit-clause-live : goal.settle-requires-in-Unit-clause-live
settle-requires-in-Unit-clause-live c = c.requires.live

pub settle-requires-in-Unit-clause-here : goal.settle-requires-in-Unit-clause-here
settle-requires-in-Unit-clause-here c = (c.lits_of.result.now, (c.lits_of.ensures, c.in-Unit.ensures.0))

pub overflow_add-seen : goal.overflow_add-seen
overflow_add-seen c =
    let few = c.len.ensures.few in let is = c.len.ensures.len in let size = c.requires.live.watched_size in let at = c.requires.at in
    omega (arith, few, is, size, at)

pub push-requires-clause-fresh : goal.push-requires-clause-fresh
push-requires-clause-fresh c = c.in-Unit.ensures.1.0

pub is_unwatched-requires : goal.is_unwatched-requires
is_unwatched-requires c = let size = c.requires.live.watched_size in let at = c.requires.at in omega (arith, size, at)

pub returns-then-not-is_unwatched-clause-live : goal.returns-then-not-is_unwatched-clause-live
returns-then-not-is_unwatched-clause-live c = c.requires.live

pub returns-then-not-is_unwatched-clause-fine : goal.returns-then-not-is_unwatched-clause-fine
returns-then-not-is_unwatched-clause-fine c e = absurd (fine_or_stuck (sym e))

pub attach-requires-clause-live : goal.attach-requires-clause-live
attach-requires-clause-live c = c.requires.live

pub attach-requires-clause-free : goal.attach-requires-clause-free
attach-requires-clause-free c = c.is_unwatched.ensures.0 c.if-not-is_unwatched.false

pub attach-requires-clause-pair : goal.attach-requires-clause-pair
attach-requires-clause-pair c = let o = c.in-Open.ensures in (c.lits_of.result.now, (c.lits_of.ensures, (o.0, (o.1.0, o.1.1.0))))

pub returns-in-False-clause-live : goal.returns-in-False-clause-live
returns-in-False-clause-live c = c.requires.live

pub returns-in-False-clause-fine : goal.returns-in-False-clause-fine
returns-in-False-clause-fine c e = absurd (fine_or_false (sym e))

pub returns-in-False-clause-spreads : goal.returns-in-False-clause-spreads
returns-in-False-clause-spreads c = spreads_none (state_of c.args.clauses.now c.args.trail.now)

pub returns-in-True-clause-live : goal.returns-in-True-clause-live
returns-in-True-clause-live c = c.settle.ensures.live

pub returns-in-True-clause-fine : goal.returns-in-True-clause-fine
returns-in-True-clause-fine c _ clause is =
    let same : ◌≡◌ {A = List Lit} c.lits_of.result.now clause = same_Some c.lits_of.result.now clause (sym c.lits_of.ensures ∙ is) in
    watched_satisfied c.settle.new.links.watched c.args.trail.now.entries.items c.args.frames.now c.args.head c.args.seen clause c.in-True.lit
    c.requires.live.framed (subst (λ (w : List Lit). Contains w c.in-True.lit) same c.in-True.ensures.0) c.in-True.ensures.1

pub returns-in-True-clause-conflict : goal.returns-in-True-clause-conflict
returns-in-True-clause-conflict c e = absurd (fine_or_false e)

pub returns-in-True-clause-spreads : goal.returns-in-True-clause-spreads
returns-in-True-clause-spreads c = spreads_none (state_of c.args.clauses.now c.args.trail.now)

pub returns-in-Unit-clause-conflict : goal.returns-in-Unit-clause-conflict
returns-in-Unit-clause-conflict c e = absurd (fine_or_false e)

pub returns-else-not-is_unwatched-clause-live : goal.returns-else-not-is_unwatched-clause-live
returns-else-not-is_unwatched-clause-live c = c.attach.ensures.live

pub stands-requires-clause-at : goal.stands-requires-clause-at
stands-requires-clause-at c = c.requires.at

pub lits_of-requires : goal.lits_of-requires
lits_of-requires c = c.requires.at

pub returns-then-stands-clause-starts : goal.returns-then-stands-clause-starts
returns-then-stands-clause-starts c = refl

pub returns-then-stands-clause-variable_count : goal.returns-then-stands-clause-variable_count
returns-then-stands-clause-variable_count c = refl

pub returns-then-not-is_unwatched-clause-starts : goal.returns-then-not-is_unwatched-clause-starts
returns-then-not-is_unwatched-clause-starts c = refl

pub returns-in-False-clause-starts : goal.returns-in-False-clause-starts
returns-in-False-clause-starts c = refl

pub returns-in-False-clause-variable_count : goal.returns-in-False-clause-variable_count
returns-in-False-clause-variable_count c = refl

pub returns-in-True-clause-starts : goal.returns-in-True-clause-starts
returns-in-True-clause-starts c = refl

pub returns-in-True-clause-variable_count : goal.returns-in-True-clause-variable_count
returns-in-True-clause-variable_count c = refl

pub returns-in-Unit-clause-starts : goal.returns-in-Unit-clause-starts
returns-in-Unit-clause-starts c = c.push.ensures.starts

pub returns-in-Unit-clause-variable_count : goal.returns-in-Unit-clause-variable_count
returns-in-Unit-clause-variable_count c = c.push.ensures.variable_count

pub returns-else-not-is_unwatched-clause-starts : goal.returns-else-not-is_unwatched-clause-starts
returns-else-not-is_unwatched-clause-starts c = refl
