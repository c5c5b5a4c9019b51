use Rattle.std.proofs.Common.{◌≡◌, ◌<◌, ◌∙◌, length, arith, sym, ap, subst, List, Bool, take, get_or}
use Rattle.ygg_cnf_set.specs.LiteralSet.{IsSetOf}
use Rattle.ygg_watch.proofs.AssignmentLemmas.{read_is, fits_at, seen_of, trail_take, levelled_take, kept_cut, at_start, keep_all}
use Rattle.ygg_watch.specs.Assignments.{IsTrail}
use Rattle.ygg_watch.specs.Trail.{IsOnTrail}
use Rattle.ygg_watch.specs.declared.entry.Entry.{Entry}
use Rattle.ygg_watch.proofs.assignments.Assignments.back.Goals as goal

pub cut-requires-clause-place : goal.cut-requires-clause-place
cut-requires-clause-place c =
    let below : c.args.level < length c.args.self.now.starts.items = let k = c.args.self.now.starts.ok in let e = c.len.ensures in let l =
    c.if-level-len.true in omega (arith, k, e, l) in
    let start : c.index-start.result.now ≡ get_or c.args.self.now.starts.items c.args.level 0 =
    read_is c.args.self.now.starts.items c.args.level _ below c.index-start.ensures in
    let w = c.args.self.now.levelled.within c.args.level below in omega (arith, w, start)

pub cut-requires-clause-fits : goal.cut-requires-clause-fits
cut-requires-clause-fits c q e h =
    fits_at c.args.self.now.entries.items c.args.self.now.variable_count _ c.args.self.now.trail
    (ap (λ (l : List Bool). length l) c.as_mut_slice.ensures.value ∙ c.args.self.now.kept.size) q e h

pub cut-requires-clause-seen : goal.cut-requires-clause-seen
cut-requires-clause-seen c =
    subst (λ (l : List Bool). IsSetOf l (IsOnTrail c.args.self.now.entries.items)) (sym c.as_mut_slice.ensures.value)
    (seen_of c.args.self.now.entries.items c.args.self.now.truth.items c.args.self.now.places.items c.args.self.now.variable_count c.args.self.now.kept)

pub invariant_of-self-clause-trail : goal.invariant_of-self-clause-trail
invariant_of-self-clause-trail c = subst (λ (t : List Entry). IsTrail t c.args.self.now.variable_count) (sym c.cut.ensures.entries)
    (trail_take c.args.self.now.entries.items _ c.args.self.now.variable_count c.args.self.now.trail)

pub invariant_of-self-clause-levelled : goal.invariant_of-self-clause-levelled
invariant_of-self-clause-levelled c =
    let below : c.args.level < length c.args.self.now.starts.items = let k = c.args.self.now.starts.ok in let e = c.len.ensures in let l =
    c.if-level-len.true in omega (arith, k, e, l) in
    let start : c.index-start.result.now ≡ get_or c.args.self.now.starts.items c.args.level 0 =
    read_is c.args.self.now.starts.items c.args.level _ below c.index-start.ensures in
    rw (c.cut.ensures.entries, start, c.truncate.ensures.items)
    (levelled_take c.args.self.now.entries.items c.args.self.now.starts.items c.args.level c.args.self.now.levelled below)

pub invariant_of-self-clause-kept : goal.invariant_of-self-clause-kept
invariant_of-self-clause-kept c =
    kept_cut c.args.self.now.entries.items _ _ c.args.self.now.truth.items _ c.args.self.now.places.items c.args.self.now.variable_count _ c.args.self.now.kept
    (c.cut.auto.truth ∙ ap (λ (l : List Bool). length l) c.as_mut_slice.ensures.value) c.args.self.now.truth.ok.0 c.cut.ensures.seen c.cut.ensures.entries

pub returns-then-level-len-clause-entries : goal.returns-then-level-len-clause-entries
returns-then-level-len-clause-entries c =
    let below : c.args.level < length c.args.self.now.starts.items = let k = c.args.self.now.starts.ok in let e = c.len.ensures in let l =
    c.if-level-len.true in omega (arith, k, e, l) in
    let start : c.index-start.result.now ≡ get_or c.args.self.now.starts.items c.args.level 0 =
    read_is c.args.self.now.starts.items c.args.level _ below c.index-start.ensures in
    c.cut.ensures.entries ∙ (ap (λ n. take n c.args.self.now.entries.items) start
    ∙ sym (at_start c.args.self.now.entries.items c.args.self.now.starts.items c.args.level c.args.self.now.levelled below))

pub returns-else-level-len-clause-entries : goal.returns-else-level-len-clause-entries
returns-else-level-len-clause-entries c =
    let same : c.args.level ≡ length c.args.self.now.starts.items = let k = c.args.self.now.starts.ok in let e = c.len.ensures in let l =
    c.if-level-len.false in omega (arith, k, e, l, c.requires) in
    sym (keep_all c.args.level c.args.self.now.entries.items (λ q e h. let low = c.args.self.now.levelled.low q e h in omega (arith, low, same)))
