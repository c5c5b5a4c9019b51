use Rattle.std.proofs.Common.{◌≡◌, ◌∙◌, sym, subst, inl, inr, arith, refl, get_or, ℕ, zero, suc, false, List, []}
use Rattle.std.proofs.lemmas.List.{take_all}
use Rattle.std.proofs.lemmas.Result.{IfOk-from_err}
use Rattle.std.proofs.lemmas.Option.{get_or_from_slice_get, slice_get-get_or}
use Rattle.ygg_cnf.specs.Literals.{truth_of}
use Rattle.ygg_watch.specs.declared.entry.Entry.{Entry}
use Rattle.ygg_watch.specs.Trail.{IsAt}
use Rattle.ygg_solver.specs.Names.{GivesValues}
use Rattle.ygg_solver.proofs.NameLemmas.{not_false, not_true, values_kept, values_set}
use Rattle.ygg_solver.proofs.names.assignment_of.Goals as goal
use Rattle.ygg_solver.proofs.names.assignment_of.Goals.{
  then-variable-gt0+then-not-entry+in_ok-set_true,
  else-variable-gt0,
  else-variable-gt0-via-then-variable-gt0+else-not-entry,
  else-variable-gt0-via-else-variable-gt0,
}

-- no values are all false
none_true : (v : ℕ) → truth_of [] v ≡ false
none_true zero = refl
none_true (suc v) = refl

pub loop-entry-init : goal.loop-entry-init
loop-entry-init c place = rw c.new-values.ensures.items (λ l positive. none_true _)

pub variable-variable-requires : goal.variable-variable-requires
variable-variable-requires c =
    let i = c.loop-entry.entry-index in
    c.requires.trail.within i c.entry-entry.result
    (rw (c.entry-entry.ensures ∙ c.entry-item.is) (slice_get-get_or c.args.trail.now i c.entry-item.result c.loop-entry-test.true))

pub returns-in_err-set_true : goal.returns-in_err-set_true
returns-in_err-set_true c = IfOk-from_err c.from_residual.result (GivesValues c.args.variables.now c.args.trail.now) c.from_residual.ensures.0

pub loop-entry-preserved : goal.loop-entry-preserved
loop-entry-preserved c =
    let variables = c.args.variables.now in
    let trail = c.args.trail.now in
    let i = c.loop-entry.entry-index in
    let e : Entry = c.entry-entry.result in
    let at : IsAt trail i e = rw (c.entry-entry.ensures ∙ c.entry-item.is) (slice_get-get_or trail i c.entry-item.result c.loop-entry-test.true) in
    let name : get_or variables e.lit.var 0 ≡ c.variable-variable.result =
    get_or_from_slice_get variables e.lit.var c.variable-variable.result 0 c.variable-variable.ensures in
    elim c.if-variable-gt0.branch [
      | then-variable-gt0+then-not-entry+in_ok-set_true w ↦ rw w.values-is
          (values_set variables c.requires.distinct trail c.requires.trail i e c.loop-entry.values.items w.set_true.new.values.items
          c.variable-variable.result at c.loop-entry.invariant
          (not_true _ w.if-not-entry.true) (sym name) w.in_ok-set_true.ensures.here w.in_ok-set_true.ensures.others)
      | else-variable-gt0 w ↦ rw w.values-is (elim w.else-variable-gt0.branch [
        | else-variable-gt0-via-then-variable-gt0+else-not-entry v ↦
            values_kept variables c.requires.distinct trail c.requires.trail i e c.loop-entry.values.items at c.loop-entry.invariant
            (inl (not_false _ v.if-not-entry.false))
        | else-variable-gt0-via-else-variable-gt0 v ↦
            values_kept variables c.requires.distinct trail c.requires.trail i e c.loop-entry.values.items at c.loop-entry.invariant
            (inr (let none = v.if-variable-gt0.false in omega (arith, name, none)))
      ])
    ]

pub returns : goal.returns
returns c =
    rw c.from_vec.ensures
    (subst (λ (t : List Entry). GivesValues c.args.variables.now t c.loop-entry.values.items)
    (take_all c.loop-entry.entry-index c.args.trail.now c.loop-entry-test.false) c.loop-entry.invariant)
