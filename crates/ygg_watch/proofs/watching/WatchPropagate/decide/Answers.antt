use Rattle.std.proofs.Common.{length, arith, sym, ap, subst, List, [], None, length-append}
use Rattle.ygg_watch.proofs.AssignmentLemmas.{has_place, levels_within}
use Rattle.ygg_watch.proofs.StepLemmas.{live_decided}
use Rattle.ygg_watch.specs.State.{IsLive}
use Rattle.ygg_watch.specs.declared.frame.Checkpoint.{Checkpoint}
use Rattle.ygg_watch.proofs.watching.WatchPropagate.decide.Goals as goal

pub push_reserved-requires : goal.push_reserved-requires
push_reserved-requires c =
    let a = c.self.inside.trail in
    let r = rw (← c.self.view_is) at c.requires in
    let p = has_place a.entries.items (record { lit = c.args.lit; level = 0; reason = None }) a.variable_count a.trail r.fresh r.variable_count in
    let w = levels_within a.entries.items a.starts.items a.levelled in
    let k = c.self.inside.frames.ok in let l = c.self.invariant.levels in let m = c.self.invariant.capacity_is in omega (arith, p, w, k, l, m)

pub invariant_of-self : goal.invariant_of-self
invariant_of-self c =
    let i = c.self.inside in let v = c.self.invariant in
    let l = v.levels in let more = ap (λ (z : List Checkpoint). length z) c.push_reserved.ensures.items in
    record {
      live = subst (λ m. IsLive i.clauses.items i.links.watched i.links.next i.links.firsts
          [] c.decide.new.self.entries.items m c.push_reserved.new.self.items i.head i.seen) (sym c.decide.ensures.variable_count)
          (live_decided i.clauses.items i.links.watched i.links.next i.links.firsts i.trail.entries.items c.decide.new.self.entries.items
          i.trail.variable_count
          i.frames.items c.push_reserved.new.self.items i.head i.seen _ v.live
          (λ q d h. let w = i.trail.levelled.low q d h in omega (arith, w, l)) c.decide.ensures.entries c.push_reserved.ensures.items);
      levels = let s = c.decide.ensures.starts in omega (arith, more, s, l, length-append {A = Checkpoint});
      capacity_is = let m = v.capacity_is in let e = c.push_reserved.ensures.capacity in let r = c.decide.ensures.variable_count in omega (arith, m, e, r);
      seen_within = v.seen_within;
    }
