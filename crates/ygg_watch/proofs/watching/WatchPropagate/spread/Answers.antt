use Rattle.std.proofs.Common.{◌+◌, ◌≡◌, ◌≤◌, ℕ, length, arith, sym, ap, subst, List, [], ◌∙◌, refl, All}
use Rattle.ygg_cnf.specs.declared.lit.Lit.{Lit}
use Rattle.ygg_watch.proofs.PropagationLemmas.{variable_count_spreads}
use Rattle.ygg_watch.specs.Status.{state_of}
use Rattle.ygg_watch.specs.Propagation.{Propagation, Spreads}
use Rattle.ygg_watch.specs.Trail.{IsQuietBefore}
use Rattle.ygg_watch.proofs.WatchLemmas.{quiet_of}
use Rattle.ygg_watch.proofs.StepLemmas.{closed, live_as, live_spread, spreads_on}
use Rattle.ygg_watch.proofs.watching.WatchPropagate.spread.Goals.{in-Some, in-None}
use Rattle.ygg_watch.proofs.StatusLemmas.{quiet_exact, conflict_exact, quiet_or_false, one_false}
use Rattle.ygg_watch.specs.Propagation.{IsConflict, IsWithin}
use Rattle.ygg_watch.proofs.watching.WatchPropagate.spread.Goals as goal

pub invariant_of-self-in-Stuck : goal.invariant_of-self-in-Stuck
invariant_of-self-in-Stuck c =
    let i = c.self.inside in let v = c.self.invariant in
    let variable_count : c.examine_all.new.trail.variable_count ≡ c.spread.new.trail.variable_count =
    variable_count_spreads (state_of c.as_slice-in-Stuck.result.now c.examine_all.new.trail)
    (state_of c.as_slice-in-Stuck.result.now c.spread.new.trail) c.spread.ensures.spreads in
    closed i.clauses.items c.as_slice.result.now c.examine_all.new.links.watched c.examine_all.new.links.next c.examine_all.new.links.firsts
    c.spread.new.trail.entries.items c.spread.new.trail.starts.items c.spread.new.trail.variable_count i.frames.items c.as_slice-2.result.now _ i.head
    c.examine_all.new.seen
    (live_spread c.as_slice.result.now c.examine_all.new.links.watched c.examine_all.new.links.next c.examine_all.new.links.firsts []
    (state_of c.as_slice-in-Stuck.result.now c.examine_all.new.trail) (state_of c.as_slice-in-Stuck.result.now c.spread.new.trail)
    c.as_slice-2.result.now i.head c.examine_all.new.seen c.examine_all.ensures.live c.spread.ensures.spreads)
    c.as_slice.ensures.value c.as_slice-2.ensures.value
    (v.levels ∙ ap (λ (z : List ℕ). length z) (sym (c.spread.ensures.starts ∙ c.examine_all.ensures.starts)))
    (let m = v.capacity_is in let r = c.examine_all.ensures.variable_count in omega (arith, m, r, variable_count)) c.examine_all.ensures.within

pub returns-in-Stuck-clause-spreads : goal.returns-in-Stuck-clause-spreads
returns-in-Stuck-clause-spreads c =
    let i = c.self.inside in
    let given : c.as_slice.result.now ≡ i.clauses.items = c.as_slice.ensures.value in
    let first : Spreads (state_of i.clauses.items i.trail) (state_of i.clauses.items c.examine_all.new.trail)
    = subst (λ (z : List (List Lit)). Spreads (state_of z i.trail) (state_of z c.examine_all.new.trail)) given c.examine_all.ensures.spreads in
    let second : Spreads (state_of i.clauses.items c.examine_all.new.trail) (state_of i.clauses.items c.spread.new.trail)
    = subst (λ (z : List (List Lit)). Spreads (state_of z c.examine_all.new.trail) (state_of z c.spread.new.trail)) c.as_slice-in-Stuck.ensures.value
    c.spread.ensures.spreads in
    subst (λ (p : Propagation). Spreads p (state_of i.clauses.items c.spread.new.trail)) c.self.view_is
    (spreads_on (state_of i.clauses.items i.trail) (state_of i.clauses.items c.examine_all.new.trail)
    (state_of i.clauses.items c.spread.new.trail) first second)

pub returns-in-Stuck-clause-open : goal.returns-in-Stuck-clause-open
returns-in-Stuck-clause-open c q =
    subst (λ (l : List (List Lit)). IsQuietBefore l c.spread.new.trail.entries.items (length c.spread.new.trail.entries.items))
    c.as_slice-in-Stuck.ensures.value (c.spread.ensures.quiet q)

pub visit_all-requires : goal.visit_all-requires
visit_all-requires c =
    let i = c.self.inside in let v = c.self.invariant in
    record {
      live = live_as c.as_slice.result.now c.as_slice-3.result.now c.examine_all.new.links.watched c.examine_all.new.links.next
          c.examine_all.new.links.firsts
          c.examine_all.new.trail.entries.items c.examine_all.new.trail.variable_count c.as_slice-2.result.now c.as_slice-4.result.now i.head
          c.examine_all.new.seen c.examine_all.ensures.live
          (c.as_slice-3.ensures.value ∙ sym c.as_slice.ensures.value)
          (c.as_slice-4.ensures.value ∙ sym c.as_slice-2.ensures.value);
    }

pub invariant_of-self-2 : goal.invariant_of-self-2
invariant_of-self-2 c =
    let i = c.self.inside in let v = c.self.invariant in
    closed i.clauses.items c.as_slice-3.result.now c.visit_all.new.links.watched c.visit_all.new.links.next c.visit_all.new.links.firsts
    c.visit_all.new.trail.entries.items c.visit_all.new.trail.starts.items c.visit_all.new.trail.variable_count i.frames.items c.as_slice-4.result.now _
    c.visit_all.new.head c.examine_all.new.seen
    c.visit_all.ensures.live c.as_slice-3.ensures.value c.as_slice-4.ensures.value
    (v.levels ∙ ap (λ (z : List ℕ). length z) (sym (c.visit_all.ensures.starts ∙ c.examine_all.ensures.starts)))
    (let m = v.capacity_is in let r = c.examine_all.ensures.variable_count in let r2 = c.visit_all.ensures.variable_count in omega (arith, m, r, r2))
    (subst (λ (z : List (List Lit)). c.examine_all.new.seen ≤ length z)
    (c.as_slice.ensures.value ∙ sym c.as_slice-3.ensures.value) c.examine_all.ensures.within)

pub returns-clause-spreads : goal.returns-clause-spreads
returns-clause-spreads c =
    let i = c.self.inside in
    let given : c.as_slice.result.now ≡ i.clauses.items = c.as_slice.ensures.value in
    let first : Spreads (state_of i.clauses.items i.trail) (state_of i.clauses.items c.examine_all.new.trail)
    = subst (λ (z : List (List Lit)). Spreads (state_of z i.trail) (state_of z c.examine_all.new.trail)) given c.examine_all.ensures.spreads in
    let second : Spreads (state_of i.clauses.items c.examine_all.new.trail) (state_of i.clauses.items c.visit_all.new.trail)
    = subst (λ (z : List (List Lit)). Spreads (state_of z c.examine_all.new.trail) (state_of z c.visit_all.new.trail)) c.as_slice-3.ensures.value
    c.visit_all.ensures.spreads in
    subst (λ (p : Propagation). Spreads p (state_of i.clauses.items c.visit_all.new.trail)) c.self.view_is
    (spreads_on (state_of i.clauses.items i.trail) (state_of i.clauses.items c.examine_all.new.trail)
    (state_of i.clauses.items c.visit_all.new.trail) first second)

pub returns-clause-open : goal.returns-clause-open
returns-clause-open c q =
    let v = c.visit_all.ensures.live in
    subst (λ (l : List (List Lit)). IsQuietBefore l c.visit_all.new.trail.entries.items (length c.visit_all.new.trail.entries.items))
    c.as_slice-3.ensures.value
    (elim c.match-visit_all.branch [
      | in-Some w ↦ absurd (let e = sym w.result-is ∙ q in cc)
      | in-None w ↦ quiet_of c.as_slice-3.result.now c.visit_all.new.links.watched c.visit_all.new.trail.entries.items c.as_slice-4.result.now
          c.visit_all.new.head c.examine_all.new.seen v.watched_size v.member
          (rw w.in-None.is at c.visit_all.ensures.done)
          (subst (λ (z : List (List Lit)). length z ≤ c.examine_all.new.seen) (c.as_slice.ensures.value ∙ sym c.as_slice-3.ensures.value)
          (c.in-Fine.ensures.fine refl)) v.watching
    ])

pub returns-in-False-clause-quiet : goal.returns-in-False-clause-quiet
returns-in-False-clause-quiet c =
    let i = c.self.inside in let trail = c.examine_all.new.trail.entries.items in
    conflict_exact i.clauses.items trail _ (c.examine_all.new.seen + 1) refl
    (subst (λ (l : List (List Lit)). IsConflict l trail (c.examine_all.new.seen + 1)) c.as_slice.ensures.value (c.in-False.ensures.conflict refl))

pub returns-in-Stuck-clause-quiet : goal.returns-in-Stuck-clause-quiet
returns-in-Stuck-clause-quiet c =
    let i = c.self.inside in let trail = c.spread.new.trail.entries.items in
    quiet_exact i.clauses.items trail c.spread.new.trail.variable_count c.spread.result c.spread.new.trail.trail (returns-in-Stuck-clause-open c)
    (λ id e. subst (λ (l : List (List Lit)). IsConflict l trail id) c.as_slice-in-Stuck.ensures.value (c.spread.ensures.found id e))

pub returns-clause-quiet : goal.returns-clause-quiet
returns-clause-quiet c =
    let i = c.self.inside in let trail = c.visit_all.new.trail.entries.items in
    elim c.match-visit_all.branch [
      | in-Some w ↦ conflict_exact i.clauses.items trail c.match-visit_all.result w.in-Some.id w.result-is
          (subst (λ (l : List (List Lit)). IsConflict l trail w.in-Some.id) c.as_slice-3.ensures.value (rw w.in-Some.is at c.visit_all.ensures.found))
      | in-None w ↦ quiet_exact i.clauses.items trail c.visit_all.new.trail.variable_count c.match-visit_all.result c.visit_all.new.trail.trail
          (returns-clause-open c)
          (λ id e. absurd (let both = sym w.result-is ∙ e in cc))
    ]

pub spread-requires-clause-few : goal.spread-requires-clause-few
spread-requires-clause-few c =
    let few = c.len.ensures.few in let is = c.len.ensures.len in let size = c.examine_all.ensures.live.watched_size in
    let same = ap (λ (l : List (List Lit)). length l) (c.as_slice-in-Stuck.ensures.value ∙ sym c.as_slice.ensures.value) in
    omega (arith, few, is, size, same)

pub examine_all-requires-clause-live : goal.examine_all-requires-clause-live
examine_all-requires-clause-live c =
    let i = c.self.inside in
    live_as i.clauses.items c.as_slice.result.now i.links.watched i.links.next i.links.firsts i.trail.entries.items i.trail.variable_count i.frames.items
    c.as_slice-2.result.now i.head i.seen c.self.invariant.live c.as_slice.ensures.value c.as_slice-2.ensures.value

pub examine_all-requires-clause-within : goal.examine_all-requires-clause-within
examine_all-requires-clause-within c =
    subst (λ (l : List (List Lit)). c.self.inside.seen ≤ length l) (sym c.as_slice.ensures.value) c.self.invariant.seen_within

pub invariant_of-self : goal.invariant_of-self
invariant_of-self c =
    let i = c.self.inside in let v = c.self.invariant in
    closed i.clauses.items c.as_slice.result.now c.examine_all.new.links.watched c.examine_all.new.links.next c.examine_all.new.links.firsts
    c.examine_all.new.trail.entries.items c.examine_all.new.trail.starts.items c.examine_all.new.trail.variable_count i.frames.items c.as_slice-2.result.now _
    i.head c.examine_all.new.seen c.examine_all.ensures.live c.as_slice.ensures.value c.as_slice-2.ensures.value
    (v.levels ∙ ap (λ (z : List ℕ). length z) (sym c.examine_all.ensures.starts))
    (let m = v.capacity_is in let r = c.examine_all.ensures.variable_count in omega (arith, m, r)) c.examine_all.ensures.within

pub returns-in-False-clause-spreads : goal.returns-in-False-clause-spreads
returns-in-False-clause-spreads c =
    let i = c.self.inside in
    subst (λ (p : Propagation). Spreads p (state_of i.clauses.items c.examine_all.new.trail)) c.self.view_is
    (subst (λ (z : List (List Lit)). Spreads (state_of z i.trail) (state_of z c.examine_all.new.trail)) c.as_slice.ensures.value c.examine_all.ensures.spreads)

pub returns-in-False-clause-open : goal.returns-in-False-clause-open
returns-in-False-clause-open c e = absurd (quiet_or_false (c.examine_all.new.seen + 1) (sym e))

pub returns-in-False-clause-found : goal.returns-in-False-clause-found
returns-in-False-clause-found c id e =
    let trail = c.examine_all.new.trail.entries.items in
    subst (IsConflict c.self.inside.clauses.items trail) (one_false (c.examine_all.new.seen + 1) id e)
    (subst (λ (l : List (List Lit)). IsConflict l trail (c.examine_all.new.seen + 1)) c.as_slice.ensures.value (c.in-False.ensures.conflict refl))

pub spread-requires-clause-within : goal.spread-requires-clause-within
spread-requires-clause-within c =
    subst (λ (l : List (List Lit)). All (IsWithin c.examine_all.new.trail.variable_count) l)
    (c.as_slice.ensures.value ∙ sym c.as_slice-in-Stuck.ensures.value) c.examine_all.ensures.live.variables

pub returns-in-Stuck-clause-found : goal.returns-in-Stuck-clause-found
returns-in-Stuck-clause-found c id e =
    subst (λ (l : List (List Lit)). IsConflict l c.spread.new.trail.entries.items id) c.as_slice-in-Stuck.ensures.value (c.spread.ensures.found id e)

pub returns-clause-found : goal.returns-clause-found
returns-clause-found c id e =
    let i = c.self.inside in let trail = c.visit_all.new.trail.entries.items in
    elim c.match-visit_all.branch [
      | in-Some w ↦ subst (IsConflict i.clauses.items trail) (one_false w.in-Some.id id (sym w.result-is ∙ e))
          (subst (λ (l : List (List Lit)). IsConflict l trail w.in-Some.id) c.as_slice-3.ensures.value (rw w.in-Some.is at c.visit_all.ensures.found))
      | in-None w ↦ absurd (quiet_or_false id (sym w.result-is ∙ e))
    ]
