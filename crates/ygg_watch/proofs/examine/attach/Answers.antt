use Rattle.std.proofs.Common.{◌≡◌, ◌<◌, ◌*◌, ◌+◌, List, ℕ, [], length, length-set, get_or, set, sym, subst, ap, ◌∙◌, arith, refl}
use Rattle.ygg_cnf_set.specs.LiteralSet.{code_of}
use Rattle.ygg_cnf.specs.declared.lit.Lit.{Lit}
use Rattle.ygg_watch.proofs.StepLemmas.{live_attached, is_held, has_watches, has_nodes, has_variable, has_list}
use Rattle.ygg_watch.specs.State.{IsLive}
use Rattle.ygg_watch.proofs.examine.attach.Goals as goal

pub returns-clause-live : goal.returns-clause-live
returns-clause-live c =
    let pair = c.requires.pair in
    let size : length c.args.links.now.firsts ≡ 2 * c.args.trail.now.variable_count = c.requires.live.firsts_size in
    let fx : code_of c.args.first < length c.args.links.now.firsts = let a = c.code-code_first.ensures.code in let b = c.code-code_first.ensures.within in
    omega (arith, a, b, size) in
    let fy : code_of c.args.other < length c.args.links.now.firsts = let a = c.code-code_other.ensures.code in let b = c.code-code_other.ensures.within in
    omega (arith, a, b, size) in
    let cx = c.code-code_first.ensures.code in let cy = c.code-code_other.ensures.code in
    let next : c.link-2.new.self.next ≡ set (set c.args.links.now.next (2 * c.args.seen) (get_or c.args.links.now.firsts (code_of c.args.first) 0))
    (2 * c.args.seen + 1) (get_or (set c.args.links.now.firsts (code_of c.args.first) (2 * c.args.seen + 1)) (code_of c.args.other) 0)
    = rw (
      c.link-2.ensures.next,
      c.link.ensures.next,
      c.link.ensures.firsts,
      c.set_watch-2.ensures.next,
      c.set_watch-2.ensures.firsts,
      c.set_watch.ensures.next,
      c.set_watch.ensures.firsts,
      cx,
      cy,
    ) refl in
    let firsts : c.link-2.new.self.firsts ≡ set (set c.args.links.now.firsts (code_of c.args.first) (2 * c.args.seen + 1)) (code_of c.args.other) (2 *
    c.args.seen + 1 + 1)
    = rw (c.link-2.ensures.firsts, c.link.ensures.firsts, c.set_watch-2.ensures.firsts, c.set_watch.ensures.firsts, cx, cy) refl in
    subst (λ (w : List Lit). IsLive c.args.clauses.now w c.link-2.new.self.next c.link-2.new.self.firsts
    [] c.args.trail.now.entries.items c.args.trail.now.variable_count c.args.frames.now c.args.head c.args.seen)
    (sym (c.link-2.ensures.watched ∙ (c.link.ensures.watched ∙ (c.set_watch-2.ensures.watched
    ∙ ap (λ (w : List Lit). set w (2 * c.args.seen + 1) c.args.other) c.set_watch.ensures.watched))))
    (live_attached c.args.clauses.now c.args.links.now.watched c.args.links.now.next c.args.links.now.firsts c.args.trail.now.entries.items
    c.args.trail.now.variable_count
    c.args.frames.now c.args.head c.args.seen c.args.first c.args.other
    pair.0 c.requires.live c.requires.free pair.1.0 pair.1.1.0 pair.1.1.1.0 pair.1.1.1.1 fx fy c.link-2.new.self.next c.link-2.new.self.firsts next firsts)

pub set_watch-requires-clause-node : goal.set_watch-requires-clause-node
set_watch-requires-clause-node c = let l = has_watches c.args.seen c.requires.pair.0 c.requires.live c.requires.pair.1.0 in omega (arith, l)

pub set_watch-requires-clause-fits : goal.set_watch-requires-clause-fits
set_watch-requires-clause-fits c = let pair = c.requires.pair in has_list c.args.seen pair.0 c.requires.live pair.1.0 c.args.first pair.1.1.0

pub set_watch-requires-2-clause-node : goal.set_watch-requires-2-clause-node
set_watch-requires-2-clause-node c =
    let l = has_watches c.args.seen c.requires.pair.0 c.requires.live c.requires.pair.1.0 in
    subst (λ (w : List Lit). 2 * c.args.seen + 1 < length w) (sym c.set_watch.ensures.watched)
    (rw (length-set c.args.links.now.watched (2 * c.args.seen) c.args.first) l)

pub set_watch-requires-2-clause-fits : goal.set_watch-requires-2-clause-fits
set_watch-requires-2-clause-fits c =
    let pair = c.requires.pair in
    subst (λ (w : List ℕ). code_of c.args.other < length w) (sym c.set_watch.ensures.firsts)
    (has_list c.args.seen pair.0 c.requires.live pair.1.0 c.args.other pair.1.1.1.0)

pub code-code_first-requires : goal.code-code_first-requires
code-code_first-requires c = let pair = c.requires.pair in has_variable c.args.seen pair.0 c.requires.live pair.1.0 c.args.first pair.1.1.0

pub code-code_other-requires : goal.code-code_other-requires
code-code_other-requires c = let pair = c.requires.pair in has_variable c.args.seen pair.0 c.requires.live pair.1.0 c.args.other pair.1.1.1.0

pub link-requires-clause-node : goal.link-requires-clause-node
link-requires-clause-node c =
    let l = has_nodes c.args.seen c.requires.pair.0 c.requires.live c.requires.pair.1.0 in
    subst (λ (w : List ℕ). 2 * c.args.seen < length w) (sym (c.set_watch-2.ensures.next ∙ c.set_watch.ensures.next)) (omega (arith, l))

pub link-requires-clause-code : goal.link-requires-clause-code
link-requires-clause-code c =
    subst (λ (w : List ℕ). c.code-code_first.result < length w) (sym (c.set_watch-2.ensures.firsts ∙ c.set_watch.ensures.firsts))
    (let l = c.code-code_first.ensures.within in let size = c.requires.live.firsts_size in omega (arith, l, size))

pub link-requires-2-clause-node : goal.link-requires-2-clause-node
link-requires-2-clause-node c =
    let l = has_nodes c.args.seen c.requires.pair.0 c.requires.live c.requires.pair.1.0 in
    subst (λ (w : List ℕ). 2 * c.args.seen + 1 < length w) (sym c.link.ensures.next)
    (rw (length-set c.set_watch-2.new.self.next (2 * c.args.seen) (get_or c.set_watch-2.new.self.firsts c.code-code_first.result 0))
    (subst (λ (w : List ℕ). 2 * c.args.seen + 1 < length w) (sym (c.set_watch-2.ensures.next ∙ c.set_watch.ensures.next)) l))

pub link-requires-2-clause-code : goal.link-requires-2-clause-code
link-requires-2-clause-code c =
    subst (λ (w : List ℕ). c.code-code_other.result < length w) (sym c.link.ensures.firsts)
    (rw (length-set c.set_watch-2.new.self.firsts c.code-code_first.result (2 * c.args.seen + 1))
    (subst (λ (w : List ℕ). c.code-code_other.result < length w) (sym (c.set_watch-2.ensures.firsts ∙ c.set_watch.ensures.firsts))
    (let l = c.code-code_other.ensures.within in let size = c.requires.live.firsts_size in omega (arith, l, size))))

pub returns-clause-watched : goal.returns-clause-watched
returns-clause-watched c = c.link-2.ensures.watched ∙ (c.link.ensures.watched ∙ (c.set_watch-2.ensures.watched
    ∙ ap (λ (w : List Lit). set w (2 * c.args.seen + 1) c.args.other) c.set_watch.ensures.watched))

pub overflow_mul-seen : goal.overflow_mul-seen
overflow_mul-seen c =
    let few = c.well_formed.0.1 in let l = is_held c.args.seen c.requires.pair.0 c.requires.live c.requires.pair.1.0 in omega (arith, few, l)

pub overflow_mul-seen-2 : goal.overflow_mul-seen-2
overflow_mul-seen-2 c =
    let few = c.well_formed.0.1 in let l = is_held c.args.seen c.requires.pair.0 c.requires.live c.requires.pair.1.0 in omega (arith, few, l)

pub overflow_add-seen : goal.overflow_add-seen
overflow_add-seen c =
    let few = c.well_formed.0.1 in let l = is_held c.args.seen c.requires.pair.0 c.requires.live c.requires.pair.1.0 in omega (arith, few, l)

pub overflow_mul-seen-3 : goal.overflow_mul-seen-3
overflow_mul-seen-3 c =
    let few = c.well_formed.0.1 in let l = is_held c.args.seen c.requires.pair.0 c.requires.live c.requires.pair.1.0 in omega (arith, few, l)

pub overflow_mul-seen-4 : goal.overflow_mul-seen-4
overflow_mul-seen-4 c =
    let few = c.well_formed.0.1 in let l = is_held c.args.seen c.requires.pair.0 c.requires.live c.requires.pair.1.0 in omega (arith, few, l)

pub overflow_add-seen-2 : goal.overflow_add-seen-2
overflow_add-seen-2 c =
    let few = c.well_formed.0.1 in let l = is_held c.args.seen c.requires.pair.0 c.requires.live c.requires.pair.1.0 in omega (arith, few, l)
