use Rattle.std.proofs.Common.{subst, sym, ◌∙◌, List, length, arith, All, Contains}
use Rattle.std.proofs.lemmas.List.{take_all}
use Rattle.std.proofs.lemmas.List.Elements.{All-more, All-get_or}
use Rattle.ygg_cnf.specs.Logs.{IsOpen}
use Rattle.ygg_cnf.specs.declared.lit.Lit.{Lit}
use Rattle.ygg_watch.proofs.StatusLemmas.{open_true, open_loose}
use Rattle.ygg_watch.proofs.WatchLemmas.{has_read}
use Rattle.ygg_watch.specs.Propagation.{IsWithin, IsFalse}
use Rattle.ygg_watch.specs.Status.{IsUnit}
use Rattle.ygg_watch.proofs.spreading.scan.Goals.{in-True, in-Open}
use Rattle.ygg_watch.specs.Trail.{assigned_before}
use Rattle.ygg_watch.proofs.spreading.scan.Goals as goal

pub loop-at-preserved : goal.loop-at-preserved
loop-at-preserved c =
    let trail = c.args.trail.now.entries.items in
    let clause : List Lit = c.index-clauses-at.result in
    let open_now : IsOpen (assigned_before trail (length trail)) clause =
    elim c.match-status_of.branch [
      | in-True w ↦ let s = rw w.in-True.is at c.status_of.ensures in
          subst (λ (l : List Lit). IsOpen (assigned_before trail (length trail)) l) c.as_slice.ensures (open_true c.as_slice.result.now trail _ s.0 s.1)
      | in-Open w ↦ let s = rw w.in-Open.is at c.status_of.ensures in
          subst (λ (l : List Lit). IsOpen (assigned_before trail (length trail)) l) c.as_slice.ensures (open_loose c.as_slice.result.now trail _ _ s)
    ] in
    All-more (IsOpen (assigned_before trail (length trail))) c.args.clauses.now c.loop-at.at clause c.loop-at-test.true c.loop-at.invariant
    (rw (← c.index-clauses-at.is) open_now)

pub returns : goal.returns
returns c = let trail = c.args.trail.now.entries.items in
    let all = take_all c.loop-at.at c.args.clauses.now c.loop-at-test.false in
    subst (λ (l : List (List Lit)). All (IsOpen (assigned_before trail (length trail))) l) all c.loop-at.invariant

pub status_of-requires : goal.status_of-requires
status_of-requires c =
    subst (IsWithin c.args.trail.now.variable_count) (sym (c.as_slice.ensures ∙ c.index-clauses-at.is))
    (All-get_or (IsWithin c.args.trail.now.variable_count) c.args.clauses.now c.loop-at.at c.index-clauses-at.result c.loop-at-test.true c.requires)

pub offset_bounds-clauses-at : goal.offset_bounds-clauses-at
offset_bounds-clauses-at c = let few = c.well_formed.0.1 in let l = c.loop-at-test.true in omega (arith, few, l)

pub overflow_add-result : goal.overflow_add-result
overflow_add-result c = let few = c.well_formed.0.1 in let l = c.loop-at-test.true in omega (arith, few, l)

pub overflow_add-result-in-Unit : goal.overflow_add-result-in-Unit
overflow_add-result-in-Unit c = let few = c.well_formed.0.1 in let l = c.loop-at-test.true in omega (arith, few, l)

pub returns-in-False : goal.returns-in-False
returns-in-False c = (
  c.index-clauses-at.result,
  (
    has_read c.args.clauses.now c.loop-at.at c.index-clauses-at.result c.loop-at-test.true c.index-clauses-at.is,
    subst (λ (w : List Lit). (y : Lit) → Contains w y → IsFalse c.args.trail.now.entries.items y) c.as_slice.ensures c.in-False.ensures,
  ),
)

pub returns-in-Unit : goal.returns-in-Unit
returns-in-Unit c = (
  c.index-clauses-at.result,
  (
    has_read c.args.clauses.now c.loop-at.at c.index-clauses-at.result c.loop-at-test.true c.index-clauses-at.is,
    subst (λ (w : List Lit). IsUnit w c.args.trail.now.entries.items c.in-Unit.lit) c.as_slice.ensures c.in-Unit.ensures,
  ),
)
