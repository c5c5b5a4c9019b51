use Rattle.std.proofs.Common.{ℕ, List, Contains, sym, subst, arith, length-append}
use Rattle.ygg_chain.proofs.TableLemmas.{distinct_indexed, place_stands, last_stands, absent}
use Rattle.ygg_chain.proofs.places.Variables.enter.Goals as goal
use Rattle.ygg_chain.proofs.places.Variables.enter.Goals.{in-Some, in-None+in_ok-place-in-None}

pub returns-in_err-place-in-None-clause-distinct : goal.returns-in_err-place-in-None-clause-distinct
returns-in_err-place-in-None-clause-distinct c =
    rw (c.in_err-place-in-None.ensures.err, sym c.self.view_is)
    (distinct_indexed c.self.inside.places c.self.inside.order.items c.self.invariant.0)

pub returns-clause-ok : goal.returns-clause-ok
returns-clause-ok c = elim c.match-get.branch [
  | in-Some w ↦ rw (w.self-is, w.place-is, sym c.self.view_is)
      (place_stands c.self.inside.places c.self.inside.order.items c.self.invariant.0 c.args.lit w.in-Some.place (sym w.in-Some.ensures))
  | in-None+in_ok-place-in-None w ↦
      rw (w.self-is, w.place-is, w.in_ok-place-in-None.ensures.place, w.in_ok-place-in-None.ensures.ok) (last_stands c.args.self.now c.args.lit)
]

pub returns-clause-distinct : goal.returns-clause-distinct
returns-clause-distinct c = elim c.match-get.branch [
  | in-Some w ↦ rw (w.self-is, sym c.self.view_is) (distinct_indexed c.self.inside.places c.self.inside.order.items c.self.invariant.0)
  | in-None+in_ok-place-in-None w ↦ rw w.self-is w.in_ok-place-in-None.ensures.distinct
]

pub returns-clause-small : goal.returns-clause-small
returns-clause-small c = elim c.match-get.branch [
  | in-Some w ↦ rw w.place-is (
      let (inside, at) = (c.self.invariant.0 c.args.lit.var w.in-Some.place).0 (sym w.in-Some.ensures) in
      let few = c.self.invariant.1 in
      omega (arith, inside, few)
      )
  | in-None+in_ok-place-in-None w ↦ rw w.place-is w.in_ok-place-in-None.ensures.small
]

pub add-requires : goal.add-requires
add-requires c has =
    absent c.self.inside.places c.self.inside.order.items c.self.invariant.0 c.args.lit.var (sym c.in-None.ensures)
    (subst (λ (l : List ℕ). Contains l c.args.lit.var) (sym c.self.view_is) has)

pub returns-clause-one : goal.returns-clause-one
returns-clause-one c = elim c.match-get.branch [
  | in-Some w ↦ rw w.self-is (omega arith)
  | in-None+in_ok-place-in-None w ↦ rw (w.self-is, w.in_ok-place-in-None.ensures.ok) (simp length-append (omega arith))
]
