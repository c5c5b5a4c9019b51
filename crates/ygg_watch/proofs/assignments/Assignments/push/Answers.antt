use Rattle.std.proofs.Common.{◌≡◌, refl, ◌∙◌, length, arith, sym, ap, subst, List, Bool, ◌⊎◌}
use Rattle.ygg_cnf_set.specs.LiteralSet.{InSet, IsSetOf}
use Rattle.ygg_watch.proofs.AssignmentLemmas.{has_place, trail_push, levelled_push, levels_within, kept_pushed}
use Rattle.ygg_watch.specs.Assignments.{IsTrail, IsLevelled}
use Rattle.ygg_watch.specs.declared.entry.Entry.{Entry}
use Rattle.ygg_watch.proofs.assignments.Assignments.push.Goals as goal

pub push_reserved-requires : goal.push_reserved-requires
push_reserved-requires c =
    let p = has_place c.args.self.now.entries.items (record { lit = c.args.lit; level = length c.args.self.now.starts.items; reason = c.args.reason })
    c.args.self.now.variable_count
    c.args.self.now.trail c.requires.fresh c.requires.within in
    let k = c.args.self.now.entries.ok in let r = c.args.self.now.reserved in omega (arith, p, k, r)

pub of-requires-clause-level : goal.of-requires-clause-level
of-requires-clause-level c =
    let p = has_place c.args.self.now.entries.items (record { lit = c.args.lit; level = 0; reason = c.args.reason }) c.args.self.now.variable_count
    c.args.self.now.trail c.requires.fresh c.requires.within in
    let w = levels_within c.args.self.now.entries.items c.args.self.now.starts.items c.args.self.now.levelled in
    let k = c.args.self.now.starts.ok in let s = c.args.self.now.small in let e = c.len-level.ensures in omega (arith, p, w, k, s, e)

pub overflow_cast-place : goal.overflow_cast-place
overflow_cast-place c =
    let p = has_place c.args.self.now.entries.items (record { lit = c.args.lit; level = 0; reason = c.args.reason }) c.args.self.now.variable_count
    c.args.self.now.trail c.requires.fresh c.requires.within in
    let k = c.args.self.now.entries.ok in let s = c.args.self.now.small in let e = c.len-place.ensures in omega (arith, p, k, s, e)

pub invariant_of-self-clause-trail : goal.invariant_of-self-clause-trail
invariant_of-self-clause-trail c =
    subst (λ (t : List Entry). IsTrail t c.args.self.now.variable_count) (sym (rw c.of.ensures at c.push_reserved.ensures.items))
    (trail_push c.args.self.now.entries.items _ c.args.self.now.variable_count c.args.self.now.trail c.requires.fresh c.requires.within)

pub invariant_of-self-clause-levelled : goal.invariant_of-self-clause-levelled
invariant_of-self-clause-levelled c =
    subst (λ (t : List Entry). IsLevelled t c.args.self.now.starts.items) (sym (rw c.of.ensures at c.push_reserved.ensures.items))
    (levelled_push c.args.self.now.entries.items c.args.self.now.starts.items _ c.args.self.now.levelled
    (let k = c.args.self.now.starts.ok in let e = c.len-level.ensures in omega (arith, k, e)))

pub invariant_of-self-clause-kept : goal.invariant_of-self-clause-kept
invariant_of-self-clause-kept c =
    kept_pushed c.args.self.now.entries.items _ _ c.args.self.now.truth.items _ c.args.self.now.places.items c.args.self.now.variable_count _ _
    c.args.self.now.kept c.requires.fresh c.requires.within
    (c.insert.auto.seen ∙ ap (λ (l : List Bool). length l) c.as_mut_slice.ensures.value) c.args.self.now.truth.ok.0
    (subst (λ (l : List Bool). IsSetOf c.insert.new.seen (λ y. InSet l y ⊎ (y ≡ c.args.lit))) c.as_mut_slice.ensures.value c.insert.ensures)
    (rw c.of.ensures at c.push_reserved.ensures.items) (let k = c.args.self.now.entries.ok in let e = c.len-place.ensures in omega (arith, k, e))

pub of-requires-clause-lit : goal.of-requires-clause-lit
of-requires-clause-lit c = let w = c.requires.within in let s = c.args.self.now.small in omega (arith, w, s)

pub of-requires-clause-reason : goal.of-requires-clause-reason
of-requires-clause-reason c = c.requires.reason

pub insert-requires : goal.insert-requires
insert-requires c =
    rw c.as_mut_slice.ensures.value (let s = c.args.self.now.kept.size in let w = c.requires.within in omega (arith, s, w))

pub index_mut-requires : goal.index_mut-requires
index_mut-requires c =
    let s = c.args.self.now.kept.places_size in let k = c.args.self.now.places.ok.0 in let w = c.requires.within in omega (arith, s, k, w)

pub returns-clause-entries : goal.returns-clause-entries
returns-clause-entries c = rw (c.push_reserved.ensures.items, c.of.ensures, c.len-level.ensures, c.args.self.now.starts.ok.0) refl
