use Rattle.std.proofs.Common.{refl, arith}
use Rattle.ygg_watch.proofs.watching.Watch.over.Goals as goal

pub links_for-requires-clause-small : goal.links_for-requires-clause-small
links_for-requires-clause-small c = c.in_ok-trail.trail.small

pub links_for-requires-clause-within : goal.links_for-requires-clause-within
links_for-requires-clause-within c = rw (c.as_slice.ensures.value, c.in_ok-trail.ensures.variable_count) c.requires

pub invariant_of-result : goal.invariant_of-result
invariant_of-result c =
    let frames = c.in_ok-frames.ensures in let trail = c.in_ok-trail.ensures in
    record {
      live = rw (trail.entries, frames.items, ← c.as_slice.ensures.value) c.in_ok-links.ensures;
      levels = rw (frames.items, trail.starts) refl;
      capacity_is = let room = frames.capacity in let is = trail.variable_count in omega (arith, room, is);
      seen_within = omega arith;
    }

pub returns-clause-fresh : goal.returns-clause-fresh
returns-clause-fresh c =
    let trail = c.in_ok-trail.ensures in
    record { held = refl; empty = trail.entries; closed = rw trail.starts refl; within = rw trail.variable_count c.requires }
