use Rattle.std.proofs.Common.{◌≡◌, ◌∙◌, length, arith, sym, ap, subst, List, ◌++◌, ◌∷◌, [], length-append}
use Rattle.ygg_cnf_set.specs.LiteralSet.{IsSetOf}
use Rattle.ygg_watch.proofs.AssignmentLemmas.{cut_step, seen_pop, distinct_front, fits_front, front_take, at_last}
use Rattle.ygg_watch.specs.Trail.{IsAt, IsOnTrail}
use Rattle.ygg_watch.specs.declared.entry.Entry.{Entry}
use Rattle.ygg_watch.proofs.assignments.cut.Goals as goal

pub remove-requires : goal.remove-requires
remove-requires c =
    rw c.entry.ensures (let now : List Entry = c.loop-entries.entries.items in
    let next : List Entry = c.take_last-entry.new.self.items in
    fits_front now c.args.entries.now.items (length c.loop-entries.truth) c.loop-entries.invariant.items
    (λ q e h. let f = c.requires.fits q e h in let s = c.loop-entries.invariant.size in omega (arith, f, s)) (length next) c.take_last-entry.result
    (subst (λ (t : List Entry). IsAt t (length next) c.take_last-entry.result) (sym c.take_last-entry.ensures.items) (at_last next c.take_last-entry.result)))

pub loop-entries-preserved : goal.loop-entries-preserved
loop-entries-preserved c =
    let now : List Entry = c.loop-entries.entries.items in
    let next : List Entry = c.take_last-entry.new.self.items in
    let more = ap (λ (t : List Entry). length t) c.take_last-entry.ensures.items in
    record {
      items = cut_step now next c.args.entries.now.items c.take_last-entry.result c.take_last-entry.ensures.items c.loop-entries.invariant.items;
      place = let l = c.loop-entries-test.true in let k = c.loop-entries.entries.ok in let e = c.len.ensures in
          omega (arith, more, l, k, e, length-append {A = Entry});
      size = c.remove.auto.seen ∙ c.loop-entries.invariant.size;
      capacity = c.take_last-entry.ensures.capacity ∙ c.loop-entries.invariant.capacity;
      seen = seen_pop next c.loop-entries.truth c.remove.new.seen c.take_last-entry.result
          (distinct_front (next ++ c.take_last-entry.result ∷ []) c.args.entries.now.items
          (subst (λ (t : List Entry). (rest : List Entry) × (t ++ rest ≡ c.args.entries.now.items)) c.take_last-entry.ensures.items
          c.loop-entries.invariant.items) c.requires.distinct)
          (subst (λ (t : List Entry). IsSetOf c.loop-entries.truth (IsOnTrail t)) c.take_last-entry.ensures.items c.loop-entries.invariant.seen)
          (rw c.entry.ensures at c.remove.ensures);
    }

pub returns-clause-entries : goal.returns-clause-entries
returns-clause-entries c =
    let l = c.loop-entries-test.false in let k = c.loop-entries.entries.ok in let p = c.loop-entries.invariant.place in
    let e = c.len.ensures in
    front_take c.loop-entries.entries.items c.loop-entries.invariant.items.0 c.args.entries.now.items c.args.place c.loop-entries.invariant.items.1
    (omega (arith, l, k, p, e))
