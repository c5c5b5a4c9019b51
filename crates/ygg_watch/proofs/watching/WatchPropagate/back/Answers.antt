use Rattle.std.proofs.Common.{◌≡◌, ◌<◌, length, arith, sym, ap, subst, List, [], ◌∙◌, length-take}
use Rattle.ygg_watch.proofs.StepLemmas.{live_gone_back, frame_is, back_same}
use Rattle.ygg_watch.specs.State.{IsLive}
use Rattle.ygg_watch.specs.Watching.{frame_of}
use Rattle.ygg_watch.specs.declared.frame.Checkpoint.{Checkpoint}
use Rattle.ygg_watch.proofs.watching.WatchPropagate.back.Goals as goal

pub invariant_of-self : goal.invariant_of-self
invariant_of-self c =
    let i = c.self.inside in let v = c.self.invariant in
    let below : c.args.level < length i.frames.items = let a = c.if-at-len.true in let b = c.len.ensures in let k = i.frames.ok in omega (
      arith,
      a,
      b,
      k,
    ) in
    let frame : c.index-frame.result.now ≡ frame_of i.frames.items c.args.level =
    frame_is i.frames.items c.args.level c.index-frame.result.now below c.index-frame.ensures in
    let live : IsLive i.clauses.items i.links.watched i.links.next i.links.firsts
    [] c.back.new.self.entries.items i.trail.variable_count c.truncate.new.self.items (frame_of i.frames.items c.args.level).head
    (frame_of i.frames.items c.args.level).seen
    = live_gone_back i.clauses.items i.links.watched i.links.next i.links.firsts i.trail.entries.items c.back.new.self.entries.items
    i.trail.starts.items i.trail.variable_count i.frames.items c.truncate.new.self.items i.head i.seen c.args.level
    v.live i.trail.levelled v.levels below c.back.ensures.entries c.truncate.ensures.items in
    let count : length c.truncate.new.self.items ≡ c.args.level = ap (λ (z : List Checkpoint). length z) c.truncate.ensures.items
    ∙ simp length-take (omega (arith, below)) in
    record {
      live = subst (λ m. IsLive i.clauses.items i.links.watched i.links.next i.links.firsts
          [] c.back.new.self.entries.items m c.truncate.new.self.items c.index-frame.result.now.head c.index-frame.result.now.seen)
          (sym c.back.ensures.variable_count)
          (subst (λ (f : Checkpoint). IsLive i.clauses.items i.links.watched i.links.next i.links.firsts
          [] c.back.new.self.entries.items i.trail.variable_count c.truncate.new.self.items f.head f.seen) (sym frame) live);
      levels = let s = c.back.ensures.starts in omega (arith, count, s);
      capacity_is = let m = v.capacity_is in let e = c.truncate.ensures.capacity in let r = c.back.ensures.variable_count in omega (arith, m, e, r);
      seen_within = let s = v.live.framed.seens c.args.level below in let w = v.seen_within in let e = ap (λ (f : Checkpoint). f.seen) frame in
          omega (arith, s, w, e);
    }

pub returns-else-at-len : goal.returns-else-at-len
returns-else-at-len c =
    let i = c.self.inside in let v = c.self.invariant in
    let r = rw (← c.self.view_is) at c.requires in
    let same : c.args.level ≡ length i.trail.starts.items = let a = c.if-at-len.false in let b = c.len.ensures in let k = i.frames.ok in let l =
    v.levels in omega (arith, a, b, k, l, r) in
    rw (← c.self.view_is) (back_same i.clauses.items i.trail.entries.items i.trail.starts.items i.trail.variable_count c.args.level i.trail.levelled same)
