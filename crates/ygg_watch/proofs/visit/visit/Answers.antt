use Rattle.std.proofs.Common.{◌≡◌, ◌<◌, ◌-◌, ℕ, List, [], length, get_or, sym, subst, ap, ◌∙◌, arith, length-set, Contains, refl}
use Rattle.ygg_cnf_set.specs.LiteralSet.{code_of}
use Rattle.ygg_cnf.specs.Literals.{complement}
use Rattle.ygg_cnf.specs.declared.lit.Lit.{Lit}
use Rattle.ygg_watch.proofs.StatusLemmas.{spreads_none, step_spreads, state_same}
use Rattle.ygg_watch.specs.Status.{state_of}
use Rattle.ygg_watch.specs.Propagation.{Spreads}
use Rattle.ygg_watch.proofs.AssignmentLemmas.{fits_below}
use Rattle.ygg_watch.specs.Trail.{IsAt, IsOnTrail}
use Rattle.ygg_watch.specs.declared.assignments.Assignments.{Assignments}
use Rattle.ygg_watch.specs.declared.entry.Entry.{Entry}
use Rattle.ygg_watch.proofs.LinkLemmas.{next_linked, firsts_linked}
use Rattle.ygg_watch.proofs.ListLemmas.{walk, walk_pending, sibling_within}
use Rattle.ygg_watch.proofs.WatchLemmas.{
  IsNode,
  node_of,
  visit_begins,
  visit_ends,
  after_same,
  put_ready,
  live_back,
  entry_push,
  other_here,
  clause_within,
  lit_within,
  has_clause,
  false_at,
  IsAfter,
  after_keep,
  after_move,
  after_imply,
}
use Rattle.ygg_watch.proofs.visit.visit.Goals.{in-Keep, in-Move, in-Imply}
use Rattle.ygg_watch.specs.Links.{Linked}
use Rattle.ygg_watch.specs.Lists.{lit_of, sibling, IsLists}
use Rattle.ygg_watch.specs.Watching.{IsDone}
use Rattle.ygg_watch.proofs.visit.visit.Goals as goal

pub loop-at-init : goal.loop-at-init
loop-at-init c =
    let code : c.code-code_now.result ≡ code_of c.args.lit = c.code-code_now.ensures.code in
    let entry = c.requires.entry in
    let below : entry.0.lit.var < c.args.trail.now.variable_count = c.args.trail.now.trail.within c.args.head entry.0 entry.1.0 in
    let same : entry.0.lit.var ≡ c.args.lit.var = ap (λ (z : Lit). z.var) entry.1.1 in
    let fits : code_of c.args.lit < length c.args.links.now.firsts =
    fits_below c.args.lit c.args.trail.now.variable_count (length c.args.links.now.firsts) (omega (arith, below, same)) c.requires.live.firsts_size in
    let within : c.code-code_now.result < length c.args.links.now.firsts = omega (arith, fits, code) in
    record {
      pending = rw (c.take_first-at.ensures.watched, c.take_first-at.ensures.next) (visit_begins c.args.clauses.now c.args.links.now.watched
          c.args.links.now.next c.args.links.now.firsts c.take_first-at.new.self.firsts
          c.args.trail.now.entries.items c.args.trail.now.variable_count c.args.frames.now c.args.head c.args.seen
          c.code-code_now.result c.take_first-at.result c.requires.live within c.take_first-at.ensures.first c.take_first-at.ensures.firsts);
      entry = c.requires.entry;
      spreads = spreads_none (state_of c.args.clauses.now c.args.trail.now);
      starts = refl;
      variable_count = refl;
      code = code;
      code_within = rw c.take_first-at.ensures.firsts (rw length-set within);
    }

pub next-at-requires : goal.next-at-requires
next-at-requires c =
    let n : IsNode c.args.clauses.now c.loop-at.links.watched c.loop-at.links.next c.loop-at.links.firsts c.loop-at.trail.entries.items
    c.loop-at.trail.variable_count
    c.args.frames.now c.args.head c.args.seen c.code-code_now.result c.loop-at.at (length c.loop-at.invariant.pending.0)
    = node_of c.args.clauses.now c.loop-at.links.watched c.loop-at.links.next c.loop-at.links.firsts c.loop-at.trail.entries.items
    c.loop-at.trail.variable_count
    c.args.frames.now c.args.head c.args.seen c.code-code_now.result c.loop-at.at
    c.loop-at.invariant.pending.0 c.loop-at.invariant.pending.1.0 c.loop-at.invariant.pending.1.1.0 c.loop-at.invariant.pending.1.1.1
    c.loop-at-test.true in
    let o = n.own.0 in let size = n.live.watched_size in let next_size = n.live.next_size in
    omega (arith, o, size, next_size)

pub watch-other-requires : goal.watch-other-requires
watch-other-requires c =
    let n : IsNode c.args.clauses.now c.loop-at.links.watched c.loop-at.links.next c.loop-at.links.firsts c.loop-at.trail.entries.items
    c.loop-at.trail.variable_count
    c.args.frames.now c.args.head c.args.seen c.code-code_now.result c.loop-at.at (length c.loop-at.invariant.pending.0)
    = node_of c.args.clauses.now c.loop-at.links.watched c.loop-at.links.next c.loop-at.links.firsts c.loop-at.trail.entries.items
    c.loop-at.trail.variable_count
    c.args.frames.now c.args.head c.args.seen c.code-code_now.result c.loop-at.at
    c.loop-at.invariant.pending.0 c.loop-at.invariant.pending.1.0 c.loop-at.invariant.pending.1.1.0 c.loop-at.invariant.pending.1.1.1
    c.loop-at-test.true in
    let o = n.own.0 in let size = n.live.watched_size in let next_size = n.live.next_size in
    let w = sibling_within (c.loop-at.at - 1) (length c.args.clauses.now) (omega (arith, o, size)) in let e = c.sibling_of.ensures in omega (
      arith,
      w,
      e,
      size,
    )

pub held_clause-requires : goal.held_clause-requires
held_clause-requires c =
    let n : IsNode c.args.clauses.now c.loop-at.links.watched c.loop-at.links.next c.loop-at.links.firsts c.loop-at.trail.entries.items
    c.loop-at.trail.variable_count
    c.args.frames.now c.args.head c.args.seen c.code-code_now.result c.loop-at.at (length c.loop-at.invariant.pending.0)
    = node_of c.args.clauses.now c.loop-at.links.watched c.loop-at.links.next c.loop-at.links.firsts c.loop-at.trail.entries.items
    c.loop-at.trail.variable_count
    c.args.frames.now c.args.head c.args.seen c.code-code_now.result c.loop-at.at
    c.loop-at.invariant.pending.0 c.loop-at.invariant.pending.1.0 c.loop-at.invariant.pending.1.1.0 c.loop-at.invariant.pending.1.1.1
    c.loop-at-test.true in
    let o = n.own.0 in let size = n.live.watched_size in let next_size = n.live.next_size in
    omega (arith, o, size)

pub judge-requires-clause-within : goal.judge-requires-clause-within
judge-requires-clause-within c =
    let n : IsNode c.args.clauses.now c.loop-at.links.watched c.loop-at.links.next c.loop-at.links.firsts c.loop-at.trail.entries.items
    c.loop-at.trail.variable_count
    c.args.frames.now c.args.head c.args.seen c.code-code_now.result c.loop-at.at (length c.loop-at.invariant.pending.0)
    = node_of c.args.clauses.now c.loop-at.links.watched c.loop-at.links.next c.loop-at.links.firsts c.loop-at.trail.entries.items
    c.loop-at.trail.variable_count
    c.args.frames.now c.args.head c.args.seen c.code-code_now.result c.loop-at.at
    c.loop-at.invariant.pending.0 c.loop-at.invariant.pending.1.0 c.loop-at.invariant.pending.1.1.0 c.loop-at.invariant.pending.1.1.1
    c.loop-at-test.true in
    let o = n.own.0 in let size = n.live.watched_size in let next_size = n.live.next_size in
    clause_within c.args.clauses.now c.loop-at.trail.variable_count _ c.held_clause.result.now n.live.variables c.held_clause.ensures

pub judge-requires-clause-here : goal.judge-requires-clause-here
judge-requires-clause-here c =
    let n : IsNode c.args.clauses.now c.loop-at.links.watched c.loop-at.links.next c.loop-at.links.firsts c.loop-at.trail.entries.items
    c.loop-at.trail.variable_count
    c.args.frames.now c.args.head c.args.seen c.code-code_now.result c.loop-at.at (length c.loop-at.invariant.pending.0)
    = node_of c.args.clauses.now c.loop-at.links.watched c.loop-at.links.next c.loop-at.links.firsts c.loop-at.trail.entries.items
    c.loop-at.trail.variable_count
    c.args.frames.now c.args.head c.args.seen c.code-code_now.result c.loop-at.at
    c.loop-at.invariant.pending.0 c.loop-at.invariant.pending.1.0 c.loop-at.invariant.pending.1.1.0 c.loop-at.invariant.pending.1.1.1
    c.loop-at-test.true in
    let o = n.own.0 in let size = n.live.watched_size in let next_size = n.live.next_size in
    let other : c.watch-other.result ≡ lit_of c.loop-at.links.watched (sibling (c.loop-at.at - 1)) = c.watch-other.ensures
    ∙ ap (lit_of c.loop-at.links.watched) c.sibling_of.ensures in
    let here : Contains c.held_clause.result.now (lit_of c.loop-at.links.watched (sibling (c.loop-at.at - 1)))
    = other_here c.args.clauses.now c.loop-at.links.watched (c.loop-at.at - 1) c.code-code_now.result c.held_clause.result.now size n.live.member n.own
    c.held_clause.ensures in
    subst (λ (z : Lit). Contains c.held_clause.result.now z) (sym other) here

pub set_watch-requires : goal.set_watch-requires
set_watch-requires c =
    let n : IsNode c.args.clauses.now c.loop-at.links.watched c.loop-at.links.next c.loop-at.links.firsts c.loop-at.trail.entries.items
    c.loop-at.trail.variable_count
    c.args.frames.now c.args.head c.args.seen c.code-code_now.result c.loop-at.at (length c.loop-at.invariant.pending.0)
    = node_of c.args.clauses.now c.loop-at.links.watched c.loop-at.links.next c.loop-at.links.firsts c.loop-at.trail.entries.items
    c.loop-at.trail.variable_count
    c.args.frames.now c.args.head c.args.seen c.code-code_now.result c.loop-at.at
    c.loop-at.invariant.pending.0 c.loop-at.invariant.pending.1.0 c.loop-at.invariant.pending.1.1.0 c.loop-at.invariant.pending.1.1.1
    c.loop-at-test.true in
    let o = n.own.0 in let size = n.live.watched_size in let next_size = n.live.next_size in
    record {
      node = o;
      fits = fits_below c.in-Move.lit c.loop-at.trail.variable_count (length c.loop-at.links.firsts)
          (lit_within c.args.clauses.now c.loop-at.trail.variable_count _ c.held_clause.result.now c.in-Move.lit n.live.variables c.held_clause.ensures
          c.in-Move.ensures.0) n.live.firsts_size;
    }

pub code-to-requires : goal.code-to-requires
code-to-requires c =
    let n : IsNode c.args.clauses.now c.loop-at.links.watched c.loop-at.links.next c.loop-at.links.firsts c.loop-at.trail.entries.items
    c.loop-at.trail.variable_count
    c.args.frames.now c.args.head c.args.seen c.code-code_now.result c.loop-at.at (length c.loop-at.invariant.pending.0)
    = node_of c.args.clauses.now c.loop-at.links.watched c.loop-at.links.next c.loop-at.links.firsts c.loop-at.trail.entries.items
    c.loop-at.trail.variable_count
    c.args.frames.now c.args.head c.args.seen c.code-code_now.result c.loop-at.at
    c.loop-at.invariant.pending.0 c.loop-at.invariant.pending.1.0 c.loop-at.invariant.pending.1.1.0 c.loop-at.invariant.pending.1.1.1
    c.loop-at-test.true in
    let o = n.own.0 in let size = n.live.watched_size in let next_size = n.live.next_size in
    lit_within c.args.clauses.now c.loop-at.trail.variable_count _ c.held_clause.result.now c.in-Move.lit n.live.variables c.held_clause.ensures
    c.in-Move.ensures.0

pub push-requires-clause-within : goal.push-requires-clause-within
push-requires-clause-within c =
    let n : IsNode c.args.clauses.now c.loop-at.links.watched c.loop-at.links.next c.loop-at.links.firsts c.loop-at.trail.entries.items
    c.loop-at.trail.variable_count
    c.args.frames.now c.args.head c.args.seen c.code-code_now.result c.loop-at.at (length c.loop-at.invariant.pending.0)
    = node_of c.args.clauses.now c.loop-at.links.watched c.loop-at.links.next c.loop-at.links.firsts c.loop-at.trail.entries.items
    c.loop-at.trail.variable_count
    c.args.frames.now c.args.head c.args.seen c.code-code_now.result c.loop-at.at
    c.loop-at.invariant.pending.0 c.loop-at.invariant.pending.1.0 c.loop-at.invariant.pending.1.1.0 c.loop-at.invariant.pending.1.1.1
    c.loop-at-test.true in
    let o = n.own.0 in let size = n.live.watched_size in let next_size = n.live.next_size in
    let other : c.watch-other.result ≡ lit_of c.loop-at.links.watched (sibling (c.loop-at.at - 1)) = c.watch-other.ensures
    ∙ ap (lit_of c.loop-at.links.watched) c.sibling_of.ensures in
    let here : Contains c.held_clause.result.now (lit_of c.loop-at.links.watched (sibling (c.loop-at.at - 1)))
    = other_here c.args.clauses.now c.loop-at.links.watched (c.loop-at.at - 1) c.code-code_now.result c.held_clause.result.now size n.live.member n.own
    c.held_clause.ensures in
    subst (λ (z : Lit). z.var < c.loop-at.trail.variable_count) (sym other)
    (lit_within c.args.clauses.now c.loop-at.trail.variable_count _ c.held_clause.result.now _ n.live.variables c.held_clause.ensures here)

pub push-requires-clause-reason : goal.push-requires-clause-reason
push-requires-clause-reason c = let w = c.next-at.ensures.within in (omega (arith, w), omega (arith, w))

pub link-requires-in-loop-at-clause-node : goal.link-requires-in-loop-at-clause-node
link-requires-in-loop-at-clause-node c =
    let n : IsNode c.args.clauses.now c.loop-at.links.watched c.loop-at.links.next c.loop-at.links.firsts c.loop-at.trail.entries.items
    c.loop-at.trail.variable_count
    c.args.frames.now c.args.head c.args.seen c.code-code_now.result c.loop-at.at (length c.loop-at.invariant.pending.0)
    = node_of c.args.clauses.now c.loop-at.links.watched c.loop-at.links.next c.loop-at.links.firsts c.loop-at.trail.entries.items
    c.loop-at.trail.variable_count
    c.args.frames.now c.args.head c.args.seen c.code-code_now.result c.loop-at.at
    c.loop-at.invariant.pending.0 c.loop-at.invariant.pending.1.0 c.loop-at.invariant.pending.1.1.0 c.loop-at.invariant.pending.1.1.1
    c.loop-at-test.true in
    let o = n.own.0 in let size = n.live.watched_size in let next_size = n.live.next_size in
    elim c.match-judge.branch [
      | in-Keep w ↦ rw w.links-is (omega (arith, o, size, next_size))
      | in-Move w ↦ rw (w.links-is, w.set_start.ensures, w.set_watch.ensures.next) (omega (arith, o, size, next_size))
      | in-Imply w ↦ rw w.links-is (omega (arith, o, size, next_size))
    ]

pub link-requires-clause-node : goal.link-requires-clause-node
link-requires-clause-node c =
    let n : IsNode c.args.clauses.now c.loop-at.links.watched c.loop-at.links.next c.loop-at.links.firsts c.loop-at.trail.entries.items
    c.loop-at.trail.variable_count
    c.args.frames.now c.args.head c.args.seen c.code-code_now.result c.loop-at.at (length c.loop-at.invariant.pending.0)
    = node_of c.args.clauses.now c.loop-at.links.watched c.loop-at.links.next c.loop-at.links.firsts c.loop-at.trail.entries.items
    c.loop-at.trail.variable_count
    c.args.frames.now c.args.head c.args.seen c.code-code_now.result c.loop-at.at
    c.loop-at.invariant.pending.0 c.loop-at.invariant.pending.1.0 c.loop-at.invariant.pending.1.1.0 c.loop-at.invariant.pending.1.1.1
    c.loop-at-test.true in
    let o = n.own.0 in let size = n.live.watched_size in let next_size = n.live.next_size in
    omega (arith, o, size, next_size)

pub put_back-requires-clause-pending : goal.put_back-requires-clause-pending
put_back-requires-clause-pending c =
    let n : IsNode c.args.clauses.now c.loop-at.links.watched c.loop-at.links.next c.loop-at.links.firsts c.loop-at.trail.entries.items
    c.loop-at.trail.variable_count
    c.args.frames.now c.args.head c.args.seen c.code-code_now.result c.loop-at.at (length c.loop-at.invariant.pending.0)
    = node_of c.args.clauses.now c.loop-at.links.watched c.loop-at.links.next c.loop-at.links.firsts c.loop-at.trail.entries.items
    c.loop-at.trail.variable_count
    c.args.frames.now c.args.head c.args.seen c.code-code_now.result c.loop-at.at
    c.loop-at.invariant.pending.0 c.loop-at.invariant.pending.1.0 c.loop-at.invariant.pending.1.1.0 c.loop-at.invariant.pending.1.1.1
    c.loop-at-test.true in
    let o = n.own.0 in let size = n.live.watched_size in let next_size = n.live.next_size in
    rw c.link.ensures.watched (put_ready c.args.clauses.now c.loop-at.links.watched c.loop-at.links.next c.loop-at.links.firsts
    c.loop-at.trail.entries.items c.loop-at.trail.variable_count
    c.args.frames.now c.args.head c.args.seen c.code-code_now.result c.loop-at.at
    c.next-at.result (length c.loop-at.invariant.pending.0) c.link.new.self.next c.link.new.self.firsts n c.loop-at.invariant.code_within
    c.link.ensures.next
    c.link.ensures.firsts c.next-at.ensures.next)

pub put_back-requires-clause-size : goal.put_back-requires-clause-size
put_back-requires-clause-size c =
    let n : IsNode c.args.clauses.now c.loop-at.links.watched c.loop-at.links.next c.loop-at.links.firsts c.loop-at.trail.entries.items
    c.loop-at.trail.variable_count
    c.args.frames.now c.args.head c.args.seen c.code-code_now.result c.loop-at.at (length c.loop-at.invariant.pending.0)
    = node_of c.args.clauses.now c.loop-at.links.watched c.loop-at.links.next c.loop-at.links.firsts c.loop-at.trail.entries.items
    c.loop-at.trail.variable_count
    c.args.frames.now c.args.head c.args.seen c.code-code_now.result c.loop-at.at
    c.loop-at.invariant.pending.0 c.loop-at.invariant.pending.1.0 c.loop-at.invariant.pending.1.1.0 c.loop-at.invariant.pending.1.1.1
    c.loop-at-test.true in
    let o = n.own.0 in let size = n.live.watched_size in let next_size = n.live.next_size in
    rw (c.link.ensures.watched, c.link.ensures.next) (omega (
      arith,
      size,
      next_size,
      length-set c.loop-at.links.next (c.loop-at.at - 1) (get_or
          c.loop-at.links.firsts c.code-code_now.result 0),
    ))

pub returns-in-False-clause-live : goal.returns-in-False-clause-live
returns-in-False-clause-live c =
    let n : IsNode c.args.clauses.now c.loop-at.links.watched c.loop-at.links.next c.loop-at.links.firsts c.loop-at.trail.entries.items
    c.loop-at.trail.variable_count
    c.args.frames.now c.args.head c.args.seen c.code-code_now.result c.loop-at.at (length c.loop-at.invariant.pending.0)
    = node_of c.args.clauses.now c.loop-at.links.watched c.loop-at.links.next c.loop-at.links.firsts c.loop-at.trail.entries.items
    c.loop-at.trail.variable_count
    c.args.frames.now c.args.head c.args.seen c.code-code_now.result c.loop-at.at
    c.loop-at.invariant.pending.0 c.loop-at.invariant.pending.1.0 c.loop-at.invariant.pending.1.1.0 c.loop-at.invariant.pending.1.1.1
    c.loop-at-test.true in
    let o = n.own.0 in let size = n.live.watched_size in let next_size = n.live.next_size in
    rw (c.put_back.ensures.watched, c.link.ensures.watched) (live_back c.args.clauses.now c.loop-at.links.watched c.loop-at.links.next
    c.loop-at.links.firsts _ c.loop-at.trail.entries.items c.loop-at.trail.variable_count
    c.args.frames.now c.args.head c.args.seen c.put_back.new.links.next c.put_back.new.links.firsts
    n.live (c.put_back.ensures.next ∙ (ap (λ (l : List ℕ). length l) c.link.ensures.next ∙ length-set c.loop-at.links.next _ _))
    (c.put_back.ensures.firsts ∙ (ap (λ (l : List ℕ). length l) c.link.ensures.firsts ∙ length-set c.loop-at.links.firsts _ _))
    (subst (λ (w : List Lit). IsLists c.put_back.new.links.next w c.put_back.new.links.firsts []) (c.put_back.ensures.watched ∙
    c.link.ensures.watched) c.put_back.ensures.lists))

pub returns-clause-live : goal.returns-clause-live
returns-clause-live c =
    (visit_ends c.args.clauses.now c.loop-at.links.watched c.loop-at.links.next c.loop-at.links.firsts c.loop-at.trail.entries.items
    c.loop-at.trail.variable_count
    c.args.frames.now c.args.head c.args.seen c.code-code_now.result c.loop-at.at
    c.loop-at.invariant.pending c.loop-at-test.false).0

pub returns-clause-done : goal.returns-clause-done
returns-clause-done c =
    subst (λ m. IsDone c.loop-at.links.watched c.loop-at.trail.entries.items m []) c.loop-at.invariant.code
    (visit_ends c.args.clauses.now c.loop-at.links.watched c.loop-at.links.next c.loop-at.links.firsts c.loop-at.trail.entries.items
    c.loop-at.trail.variable_count
    c.args.frames.now c.args.head c.args.seen c.code-code_now.result c.loop-at.at
    c.loop-at.invariant.pending c.loop-at-test.false).1

pub returns-in-False-clause-found : goal.returns-in-False-clause-found
returns-in-False-clause-found c =
    (c.held_clause.result.now, (has_clause c.args.clauses.now _ c.held_clause.result.now c.held_clause.ensures, c.in-False.ensures))

-- the node that is looked at, and what holds of the watches once it is linked again
node_now : (c : goal.After-link-in-loop-at) →
    IsNode c.args.clauses.now c.loop-at.links.watched c.loop-at.links.next c.loop-at.links.firsts c.loop-at.trail.entries.items
    c.loop-at.trail.variable_count
    c.args.frames.now c.args.head c.args.seen c.code-code_now.result c.loop-at.at (length c.loop-at.invariant.pending.0)
node_now c =
    node_of c.args.clauses.now c.loop-at.links.watched c.loop-at.links.next c.loop-at.links.firsts c.loop-at.trail.entries.items
    c.loop-at.trail.variable_count
    c.args.frames.now c.args.head c.args.seen c.code-code_now.result c.loop-at.at
    c.loop-at.invariant.pending.0 c.loop-at.invariant.pending.1.0 c.loop-at.invariant.pending.1.1.0 c.loop-at.invariant.pending.1.1.1
    c.loop-at-test.true

after_now : (c : goal.After-link-in-loop-at) →
    IsAfter c.args.clauses.now c.link-in-loop-at.new.self.watched c.link-in-loop-at.new.self.next c.link-in-loop-at.new.self.firsts
    c.match-judge.trail.entries.items c.match-judge.trail.variable_count c.args.frames.now c.args.head c.args.seen c.code-code_now.result
    c.next-at.result (length c.loop-at.invariant.pending.0)
after_now c =
    let n = node_now c in
    let other : c.watch-other.result ≡ lit_of c.loop-at.links.watched (sibling (c.loop-at.at - 1)) = c.watch-other.ensures
    ∙ ap (lit_of c.loop-at.links.watched) c.sibling_of.ensures in
    elim c.match-judge.branch [
      | in-Keep w ↦ after_same c.args.clauses.now _ c.link-in-loop-at.new.self.watched _ c.link-in-loop-at.new.self.next _
          c.link-in-loop-at.new.self.firsts _
          c.match-judge.trail.entries.items _ c.match-judge.trail.variable_count c.args.frames.now c.args.head c.args.seen c.code-code_now.result _
          c.next-at.result (length c.loop-at.invariant.pending.0) (c.link-in-loop-at.ensures.watched ∙ ap (λ (l : Linked). l.watched) w.links-is)
          (next_linked c.match-judge.links c.loop-at.links _ _ _ _ c.link-in-loop-at.ensures.next (ap (λ (l : Linked). l.next) w.links-is)
          (ap (λ (l : Linked). l.firsts) w.links-is) w.to-is)
          (firsts_linked c.match-judge.links c.loop-at.links _ _ _ _ c.link-in-loop-at.ensures.firsts (ap (λ (l : Linked). l.firsts) w.links-is) w.to-is)
          (ap (λ (t : Assignments). t.entries.items) w.trail-is) (ap (λ (t : Assignments). t.variable_count) w.trail-is) c.next-at.ensures.next
          (after_keep c.args.clauses.now c.loop-at.links.watched c.loop-at.links.next c.loop-at.links.firsts c.loop-at.trail.entries.items
          c.loop-at.trail.variable_count
          c.args.frames.now c.args.head c.args.seen c.code-code_now.result c.loop-at.at
          (length c.loop-at.invariant.pending.0) n c.loop-at.invariant.code_within
          (subst (IsOnTrail c.loop-at.trail.entries.items) other (rw w.in-Keep.is at c.judge.ensures)))
      | in-Move w ↦ (let judged = rw w.in-Move.is at c.judge.ensures in
          let v : w.in-Move.lit.var < c.loop-at.trail.variable_count =
          lit_within c.args.clauses.now c.loop-at.trail.variable_count _ c.held_clause.result.now w.in-Move.lit n.live.variables c.held_clause.ensures
          judged.0 in
          after_same c.args.clauses.now _ c.link-in-loop-at.new.self.watched _ c.link-in-loop-at.new.self.next _ c.link-in-loop-at.new.self.firsts _
          c.match-judge.trail.entries.items _ c.match-judge.trail.variable_count c.args.frames.now c.args.head c.args.seen c.code-code_now.result _
          c.next-at.result (length c.loop-at.invariant.pending.0) (c.link-in-loop-at.ensures.watched ∙ (ap (λ (l : Linked). l.watched) (w.links-is ∙
          w.set_start.ensures) ∙
          w.set_watch.ensures.watched))
          (next_linked c.match-judge.links c.loop-at.links _ _ _ _ c.link-in-loop-at.ensures.next
          (ap (λ (l : Linked). l.next) (w.links-is ∙ w.set_start.ensures) ∙ w.set_watch.ensures.next)
          (ap (λ (l : Linked). l.firsts) (w.links-is ∙ w.set_start.ensures) ∙ w.set_watch.ensures.firsts) (w.to-is ∙ w.code-to.ensures.code))
          (firsts_linked c.match-judge.links c.loop-at.links _ _ _ _ c.link-in-loop-at.ensures.firsts
          (ap (λ (l : Linked). l.firsts) (w.links-is ∙ w.set_start.ensures) ∙ w.set_watch.ensures.firsts) (w.to-is ∙ w.code-to.ensures.code))
          (ap (λ (t : Assignments). t.entries.items) w.trail-is) (ap (λ (t : Assignments). t.variable_count) w.trail-is) c.next-at.ensures.next
          (after_move c.args.clauses.now c.loop-at.links.watched c.loop-at.links.next c.loop-at.links.firsts c.loop-at.trail.entries.items
          c.loop-at.trail.variable_count
          c.args.frames.now c.args.head c.args.seen c.code-code_now.result c.loop-at.at
          (length c.loop-at.invariant.pending.0) w.in-Move.lit c.held_clause.result.now n c.loop-at.trail.trail
          (fits_below w.in-Move.lit c.loop-at.trail.variable_count (length c.loop-at.links.firsts) v n.live.firsts_size)
          (false_at c.loop-at.links.watched c.loop-at.trail.entries.items c.code-code_now.result
          (c.loop-at.at - 1) c.args.lit c.args.head c.loop-at.invariant.code n.own c.loop-at.invariant.entry)
          judged.1.1 (λ e. judged.1.0 (e ∙ sym other)) c.held_clause.ensures judged.0))
      | in-Imply w ↦ after_same c.args.clauses.now _ c.link-in-loop-at.new.self.watched _ c.link-in-loop-at.new.self.next _
          c.link-in-loop-at.new.self.firsts _
          c.match-judge.trail.entries.items _ c.match-judge.trail.variable_count c.args.frames.now c.args.head c.args.seen c.code-code_now.result _
          c.next-at.result (length c.loop-at.invariant.pending.0) (c.link-in-loop-at.ensures.watched ∙ ap (λ (l : Linked). l.watched) w.links-is)
          (next_linked c.match-judge.links c.loop-at.links _ _ _ _ c.link-in-loop-at.ensures.next (ap (λ (l : Linked). l.next) w.links-is)
          (ap (λ (l : Linked). l.firsts) w.links-is) w.to-is)
          (firsts_linked c.match-judge.links c.loop-at.links _ _ _ _ c.link-in-loop-at.ensures.firsts (ap (λ (l : Linked). l.firsts) w.links-is)
          w.to-is) refl
          (ap (λ (t : Assignments). t.variable_count) w.trail-is ∙ w.push.ensures.variable_count) c.next-at.ensures.next
          (after_imply c.args.clauses.now c.loop-at.links.watched c.loop-at.links.next c.loop-at.links.firsts c.loop-at.trail.entries.items
          c.match-judge.trail.entries.items c.loop-at.trail.variable_count c.args.frames.now c.args.head c.args.seen c.code-code_now.result c.loop-at.at
          (length c.loop-at.invariant.pending.0) _ n c.loop-at.invariant.code_within
          (ap (λ (t : Assignments). t.entries.items) w.trail-is ∙ w.push.ensures.entries) other)
    ]

pub loop-at-preserved : goal.loop-at-preserved
loop-at-preserved c =
    let n = node_now c in
    let size = n.live.watched_size in
    let other : c.watch-other.result ≡ lit_of c.loop-at.links.watched (sibling (c.loop-at.at - 1)) = c.watch-other.ensures
    ∙ ap (lit_of c.loop-at.links.watched) c.sibling_of.ensures in
    let here : Contains c.held_clause.result.now (lit_of c.loop-at.links.watched (sibling (c.loop-at.at - 1)))
    = other_here c.args.clauses.now c.loop-at.links.watched (c.loop-at.at - 1) c.code-code_now.result c.held_clause.result.now size n.live.member n.own
    c.held_clause.ensures in
    let after = after_now c in
    let counts : c.match-judge.trail.variable_count ≡ c.loop-at.trail.variable_count
    = elim c.match-judge.branch [
      | in-Keep w ↦ ap (λ (t : Assignments). t.variable_count) w.trail-is
      | in-Move w ↦ ap (λ (t : Assignments). t.variable_count) w.trail-is
      | in-Imply w ↦ ap (λ (t : Assignments). t.variable_count) w.trail-is ∙ w.push.ensures.variable_count
    ] in
    let entry : (d : Entry) × (IsAt c.match-judge.trail.entries.items c.args.head d × (d.lit ≡ complement c.args.lit))
    = elim c.match-judge.branch [
      | in-Keep w ↦ subst (λ (t : Assignments). (d : Entry) × (IsAt t.entries.items c.args.head d × (d.lit ≡ complement c.args.lit)))
          (sym w.trail-is) c.loop-at.invariant.entry
      | in-Move w ↦ subst (λ (t : Assignments). (d : Entry) × (IsAt t.entries.items c.args.head d × (d.lit ≡ complement c.args.lit)))
          (sym w.trail-is) c.loop-at.invariant.entry
      | in-Imply w ↦ entry_push c.loop-at.trail.entries.items c.match-judge.trail.entries.items c.args.head c.args.lit _
          (ap (λ (t : Assignments). t.entries.items) w.trail-is ∙ w.push.ensures.entries) c.loop-at.invariant.entry
    ] in
    let spreads : Spreads (state_of c.args.clauses.now c.args.trail.now) (state_of c.args.clauses.now c.match-judge.trail)
    = elim c.match-judge.branch [
      | in-Keep w ↦ subst (λ (t : Assignments). Spreads (state_of c.args.clauses.now c.args.trail.now) (state_of c.args.clauses.now t))
          (sym w.trail-is) c.loop-at.invariant.spreads
      | in-Move w ↦ subst (λ (t : Assignments). Spreads (state_of c.args.clauses.now c.args.trail.now) (state_of c.args.clauses.now t))
          (sym w.trail-is) c.loop-at.invariant.spreads
      | in-Imply w ↦ (let judged = rw w.in-Imply.is at c.judge.ensures in
          let have : Contains c.held_clause.result.now c.watch-other.result = subst (λ (z : Lit). Contains c.held_clause.result.now z) (sym other) here in
          step_spreads (state_of c.args.clauses.now c.args.trail.now)
          (state_of c.args.clauses.now c.loop-at.trail) _ c.watch-other.result c.held_clause.result.now c.loop-at.invariant.spreads
          (has_clause c.args.clauses.now _ c.held_clause.result.now c.held_clause.ensures) (have, (judged.0, judged.1))
          (lit_within c.args.clauses.now c.loop-at.trail.variable_count _ c.held_clause.result.now _ n.live.variables c.held_clause.ensures have)
          (state_of c.args.clauses.now c.match-judge.trail)
          (ap (λ (t : Assignments). state_of c.args.clauses.now t) w.trail-is
          ∙ state_same c.args.clauses.now _ _ _ _ _ _ _ w.push.ensures.entries w.push.ensures.starts w.push.ensures.variable_count))
    ] in
    record {
      pending = (after.rest, (after.pending, (after.live, after.done)));
      entry = entry;
      spreads = spreads;
      starts = elim c.match-judge.branch [
        | in-Keep w ↦ ap (λ (t : Assignments). t.starts.items) w.trail-is ∙ c.loop-at.invariant.starts
        | in-Move w ↦ ap (λ (t : Assignments). t.starts.items) w.trail-is ∙ c.loop-at.invariant.starts
        | in-Imply w ↦ ap (λ (t : Assignments). t.starts.items) w.trail-is ∙ (w.push.ensures.starts ∙ c.loop-at.invariant.starts)
      ];
      variable_count = elim c.match-judge.branch [
        | in-Keep w ↦ ap (λ (t : Assignments). t.variable_count) w.trail-is ∙ c.loop-at.invariant.variable_count
        | in-Move w ↦ ap (λ (t : Assignments). t.variable_count) w.trail-is ∙ c.loop-at.invariant.variable_count
        | in-Imply w ↦ ap (λ (t : Assignments). t.variable_count) w.trail-is ∙ (w.push.ensures.variable_count ∙ c.loop-at.invariant.variable_count)
      ];
      code = c.loop-at.invariant.code;
      code_within = let a = c.loop-at.invariant.code_within in let b = after.live.firsts_size in let d = n.live.firsts_size in
          omega (arith, a, b, d, counts);
    }

pub loop-at-smaller : goal.loop-at-smaller
loop-at-smaller c =
    let n = node_now c in
    let size = n.live.watched_size in let next_size = n.live.next_size in
    let after = after_now c in
    let before : walk (length c.loop-at.links.next) c.loop-at.links.next c.loop-at.at ≡ length c.loop-at.invariant.pending.0
    = walk_pending c.loop-at.links.next c.loop-at.links.watched c.loop-at.at c.code-code_now.result c.loop-at.invariant.pending.0
    (omega (arith, size, next_size)) c.loop-at.invariant.pending.1.0 in
    let size2 = after.live.watched_size in let next_size2 = after.live.next_size in
    let now : walk (length c.link-in-loop-at.new.self.next) c.link-in-loop-at.new.self.next c.next-at.result ≡ length after.rest
    = walk_pending c.link-in-loop-at.new.self.next c.link-in-loop-at.new.self.watched c.next-at.result c.code-code_now.result after.rest
    (omega (arith, size2, next_size2)) after.pending in
    let less = after.counted in omega (arith, before, now, less)

pub code-code_now-requires : goal.code-code_now-requires
code-code_now-requires c =
    let entry = c.requires.entry in
    let below : entry.0.lit.var < c.args.trail.now.variable_count = c.args.trail.now.trail.within c.args.head entry.0 entry.1.0 in
    let same : entry.0.lit.var ≡ c.args.lit.var = ap (λ (z : Lit). z.var) entry.1.1 in omega (arith, below, same)

pub push-requires-clause-fresh : goal.push-requires-clause-fresh
push-requires-clause-fresh c = c.in-Imply.ensures.0

pub link-requires-in-loop-at-clause-code : goal.link-requires-in-loop-at-clause-code
link-requires-in-loop-at-clause-code c = elim c.match-judge.branch [
  | in-Keep w ↦ rw (w.links-is, w.to-is) c.loop-at.invariant.code_within
  | in-Move w ↦ rw (w.links-is, w.set_start.ensures, w.set_watch.ensures.firsts, w.to-is)
      (let size = c.loop-at.invariant.pending.1.1.0.firsts_size in let within = w.code-to.ensures.within in omega (arith, size, within))
  | in-Imply w ↦ rw (w.links-is, w.to-is) c.loop-at.invariant.code_within
]

pub put_back-requires-clause-code : goal.put_back-requires-clause-code
put_back-requires-clause-code c = rw (c.link.ensures.firsts, length-set) c.loop-at.invariant.code_within
