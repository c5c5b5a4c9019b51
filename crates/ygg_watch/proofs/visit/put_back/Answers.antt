use Rattle.std.proofs.Common.{◌≡◌, ◌-◌, ℕ, List, length, get_or, length-set, sym, subst, ◌∙◌, arith}
use Rattle.ygg_watch.proofs.ListLemmas.{walk, walk_pending, node_within, put_step, put_end}
use Rattle.ygg_watch.specs.Lists.{IsPending}
use Rattle.ygg_watch.proofs.visit.put_back.Goals as goal

pub next-at-requires : goal.next-at-requires
next-at-requires c =
    let p = c.loop-at.invariant.pending in let w = node_within c.loop-at.links.next c.loop-at.links.watched c.loop-at.at c.args.code p.0 p.1.0
    c.loop-at-test.true in
    let s = c.loop-at.invariant.size in omega (arith, w, s)

pub link-requires-clause-node : goal.link-requires-clause-node
link-requires-clause-node c =
    let p = c.loop-at.invariant.pending in let w = node_within c.loop-at.links.next c.loop-at.links.watched c.loop-at.at c.args.code p.0 p.1.0
    c.loop-at-test.true in
    let s = c.loop-at.invariant.size in omega (arith, w, s)

pub loop-at-preserved : goal.loop-at-preserved
loop-at-preserved c =
    let p = c.loop-at.invariant.pending in
    let s = put_step c.loop-at.links.next c.loop-at.links.watched c.loop-at.links.firsts c.loop-at.at c.args.code p.0 p.1.0 p.1.1 c.loop-at-test.true
    c.loop-at.invariant.size c.loop-at.invariant.code in
    let next : length c.link.new.self.next ≡ length c.loop-at.links.next = rw c.link.ensures.next (length-set c.loop-at.links.next _ _) in
    let firsts : length c.link.new.self.firsts ≡ length c.loop-at.links.firsts = rw c.link.ensures.firsts (length-set c.loop-at.links.firsts _ _) in
    record {
      pending = (
        s.0,
        (
          rw (c.next-at.ensures.next, c.link.ensures.next, c.link.ensures.watched) s.1.1.0,
          rw (c.link.ensures.next, c.link.ensures.watched, c.link.ensures.firsts) s.1.1.1,
        ),
      );
      size = rw c.link.ensures.watched (c.loop-at.invariant.size ∙ sym next);
      code = let a = c.loop-at.invariant.code in omega (arith, a, firsts);
      watched = c.link.ensures.watched ∙ c.loop-at.invariant.watched;
      next = next ∙ c.loop-at.invariant.next;
      firsts = firsts ∙ c.loop-at.invariant.firsts;
    }

pub loop-at-smaller : goal.loop-at-smaller
loop-at-smaller c =
    let p = c.loop-at.invariant.pending in
    let s = put_step c.loop-at.links.next c.loop-at.links.watched c.loop-at.links.firsts c.loop-at.at c.args.code p.0 p.1.0 p.1.1 c.loop-at-test.true
    c.loop-at.invariant.size c.loop-at.invariant.code in
    let before : walk (length c.loop-at.links.next) c.loop-at.links.next c.loop-at.at ≡ length p.0 =
    walk_pending c.loop-at.links.next c.loop-at.links.watched c.loop-at.at c.args.code p.0 c.loop-at.invariant.size p.1.0 in
    let after : walk (length c.link.new.self.next) c.link.new.self.next (get_or c.loop-at.links.next (c.loop-at.at - 1) 0) ≡ length s.0
    = walk_pending c.link.new.self.next c.loop-at.links.watched _ c.args.code s.0 (rw c.link.ensures.next (c.loop-at.invariant.size ∙ sym (length-set
    c.loop-at.links.next _ _)))
    (subst (λ (n : List ℕ). IsPending n c.loop-at.links.watched (get_or c.loop-at.links.next (c.loop-at.at - 1) 0) c.args.code s.0) (sym
    c.link.ensures.next) s.1.1.0) in
    let less = s.1.0 in rw c.next-at.ensures.next (omega (arith, before, after, less))

pub returns-clause-lists : goal.returns-clause-lists
returns-clause-lists c = put_end c.loop-at.links.next c.loop-at.links.watched c.loop-at.links.firsts c.loop-at.at c.args.code
    c.loop-at.invariant.pending c.loop-at-test.false
