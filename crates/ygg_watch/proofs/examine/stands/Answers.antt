use Rattle.std.proofs.Common.{◌≡◌, true, not, ap, ◌≢◌, ◌<◌, ◌*◌, ◌+◌, sym, subst, ◌∙◌, arith, inl, inr}
use Rattle.std.proofs.lemmas.Bool.{false≢true}
use Rattle.ygg_cnf.specs.declared.lit.Lit.{Lit}
use Rattle.ygg_watch.specs.Trail.{IsOnTrail}
use Rattle.ygg_watch.proofs.StepLemmas.{watch_within, linked_from, linked_second}
use Rattle.ygg_watch.proofs.examine.stands.Goals.{then-is_true-via-then-is_true, then-is_true-via-else-is_true+then-is_true-2}
use Rattle.ygg_watch.specs.Lists.{lit_of}
use Rattle.ygg_watch.specs.Propagation.{IsFalse}
use Rattle.ygg_watch.proofs.examine.stands.Goals as goal

pub is_true-requires : goal.is_true-requires
is_true-requires c =
    let differ : lit_of c.args.links.now.watched (2 * c.args.at) ≢ lit_of c.args.links.now.watched (2 * c.args.at + 1)
    = λ e. false≢true (sym c.if-is_unwatched.false ∙ c.is_unwatched.ensures.1 e) in
    let size = c.requires.size in let at = c.requires.at in
    let first : c.watch-first.result.var < c.args.trail.now.variable_count
    = subst (λ (z : Lit). z.var < c.args.trail.now.variable_count) (sym c.watch-first.ensures)
    (watch_within c.args.clauses.now c.args.links.now.watched c.args.trail.now.variable_count (2 * c.args.at) c.requires.variables c.requires.member size
    (omega (arith, size, at)) (linked_from c.args.links.now.watched c.args.at differ)) in first

pub is_true-requires-else-is_true : goal.is_true-requires-else-is_true
is_true-requires-else-is_true c =
    let differ : lit_of c.args.links.now.watched (2 * c.args.at) ≢ lit_of c.args.links.now.watched (2 * c.args.at + 1)
    = λ e. false≢true (sym c.if-is_unwatched.false ∙ c.is_unwatched.ensures.1 e) in
    let size = c.requires.size in let at = c.requires.at in
    let other : c.watch-other.result.var < c.args.trail.now.variable_count
    = subst (λ (z : Lit). z.var < c.args.trail.now.variable_count) (sym c.watch-other.ensures)
    (watch_within c.args.clauses.now c.args.links.now.watched c.args.trail.now.variable_count (2 * c.args.at + 1) c.requires.variables c.requires.member size
    (omega (arith, size, at)) (linked_second c.args.links.now.watched c.args.at differ)) in other

pub is_false-requires : goal.is_false-requires
is_false-requires c =
    let differ : lit_of c.args.links.now.watched (2 * c.args.at) ≢ lit_of c.args.links.now.watched (2 * c.args.at + 1)
    = λ e. false≢true (sym c.if-is_unwatched.false ∙ c.is_unwatched.ensures.1 e) in
    let size = c.requires.size in let at = c.requires.at in
    let first : c.watch-first.result.var < c.args.trail.now.variable_count
    = subst (λ (z : Lit). z.var < c.args.trail.now.variable_count) (sym c.watch-first.ensures)
    (watch_within c.args.clauses.now c.args.links.now.watched c.args.trail.now.variable_count (2 * c.args.at) c.requires.variables c.requires.member size
    (omega (arith, size, at)) (linked_from c.args.links.now.watched c.args.at differ)) in first

pub is_false-requires-then-not-is_false : goal.is_false-requires-then-not-is_false
is_false-requires-then-not-is_false c =
    let differ : lit_of c.args.links.now.watched (2 * c.args.at) ≢ lit_of c.args.links.now.watched (2 * c.args.at + 1)
    = λ e. false≢true (sym c.if-is_unwatched.false ∙ c.is_unwatched.ensures.1 e) in
    let size = c.requires.size in let at = c.requires.at in
    let other : c.watch-other.result.var < c.args.trail.now.variable_count
    = subst (λ (z : Lit). z.var < c.args.trail.now.variable_count) (sym c.watch-other.ensures)
    (watch_within c.args.clauses.now c.args.links.now.watched c.args.trail.now.variable_count (2 * c.args.at + 1) c.requires.variables c.requires.member size
    (omega (arith, size, at)) (linked_second c.args.links.now.watched c.args.at differ)) in other

pub returns-then-is_true : goal.returns-then-is_true
returns-then-is_true c _ =
    let differ : lit_of c.args.links.now.watched (2 * c.args.at) ≢ lit_of c.args.links.now.watched (2 * c.args.at + 1)
    = λ e. false≢true (sym c.if-is_unwatched.false ∙ c.is_unwatched.ensures.1 e) in
    let size = c.requires.size in let at = c.requires.at in
    let trail = c.args.trail.now.entries.items in (
      linked_from c.args.links.now.watched c.args.at differ,
      inr (elim c.then-is_true.branch [
        | then-is_true-via-then-is_true w ↦ inl (subst (IsOnTrail trail) c.watch-first.ensures (c.is_true.ensures.0 w.if-is_true.true))
        | then-is_true-via-else-is_true+then-is_true-2 w ↦ inr
            (subst (IsOnTrail trail) c.watch-other.ensures (w.is_true-else-is_true.ensures.0 w.if-is_true-2.true))
      ]),
    )

pub watch-first-requires : goal.watch-first-requires
watch-first-requires c = let size = c.requires.size in let at = c.requires.at in omega (arith, size, at)

pub watch-other-requires : goal.watch-other-requires
watch-other-requires c = let size = c.requires.size in let at = c.requires.at in omega (arith, size, at)

pub returns-then-not-is_false : goal.returns-then-not-is_false
returns-then-not-is_false c t =
    let differ : lit_of c.args.links.now.watched (2 * c.args.at) ≢ lit_of c.args.links.now.watched (2 * c.args.at + 1)
    = λ e. false≢true (sym c.if-is_unwatched.false ∙ c.is_unwatched.ensures.1 e) in
    let trail = c.args.trail.now.entries.items in (
      linked_from c.args.links.now.watched c.args.at differ,
      inl (
        λ f. false≢true (sym c.if-not-is_false.true ∙ c.is_false.ensures.1 (subst (IsFalse trail) (sym c.watch-first.ensures) f)),
        λ f. (let e : c.is_false-then-not-is_false.result ≡ true
            = c.is_false-then-not-is_false.ensures.1 (subst (IsFalse trail) (sym c.watch-other.ensures) f) in false≢true (sym (ap not e) ∙ t)),
      ),
    )

pub returns-else-not-is_false : goal.returns-else-not-is_false
returns-else-not-is_false c t = absurd (false≢true (sym (ap not c.if-not-is_false.false) ∙ t))
