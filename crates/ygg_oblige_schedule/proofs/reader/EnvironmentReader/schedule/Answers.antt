use Rattle.std.proofs.Common.{◌≡◌, ◌∙◌, true, List, IfOk, sym, ap, subst}
use Rattle.ygg_syntax.specs.declared.tree.Declared.{Declared}
use Rattle.ygg_replay.specs.ygg_meaning.Obligations.{Init, CallOf, CutOf, TickOf, CutTickOf, Idle, Again}
use Rattle.ygg_replay.specs.ygg_meaning.Obligations as meaning
use Rattle.ygg_replay.specs.ygg_meaning.Shapes.{values_fit}
use Rattle.ygg_oblige_given.specs.ygg_oblige_laws.LayerTerms.{ShapesKept}
use Rattle.ygg_oblige_list.specs.InCode.{obligation_of}
use Rattle.ygg_oblige_given.specs.Tables.{given_values}
use Rattle.ygg_eval_places.proofs.ChoiceNoting.{if_ok}
use Rattle.ygg_oblige_schedule.specs.Here.{inputs_of, numbers_of}
use Rattle.ygg_oblige_schedule.specs.Schedules.{IsRead}
use Rattle.ygg_oblige_schedule.proofs.EachKind.{
  call_fits,
  call_read,
  cut_fits,
  cut_read,
  cut_tick_read,
  has_background,
  has_implementation,
  kept_at,
  named_at,
  shaped_at,
  stands_at,
  tick_read,
}
use Rattle.ygg_oblige_schedule.proofs.reader.EnvironmentReader.schedule.Goals as goal

pub arguments-requires-clause-kept : goal.arguments-requires-clause-kept
arguments-requires-clause-kept c =
    let r = c.args.self.now in
    subst ShapesKept (sym c.as_slice.ensures) (kept_at r c.requires.stands (CallOf c.in-Call.operation.now) (ap obligation_of c.in-Call.is))

pub arguments-requires-clause-fit : goal.arguments-requires-clause-fit
arguments-requires-clause-fit c =
    let r = c.args.self.now in
    subst (λ (ds : List Declared). values_fit ds (given_values (inputs_of r) (numbers_of r).args ds) ≡ true) (sym c.as_slice.ensures)
    (call_fits r c.requires.stands c.requires.fit c.in-Call.operation.now (ap obligation_of c.in-Call.is)).1

pub whole-requires-clause-fit : goal.whole-requires-clause-fit
whole-requires-clause-fit c =
    (call_fits c.args.self.now c.requires.stands c.requires.fit c.in-Call.operation.now (ap obligation_of c.in-Call.is)).0

pub whole-requires-clause-block : goal.whole-requires-clause-block
whole-requires-clause-block c =
    let r = c.args.self.now in
    let o = c.in-Call.operation.now in
    let e = ap obligation_of c.in-Call.is in
    let args = c.in_ok-args-in-Call.ensures ∙ ap (given_values (inputs_of r) (numbers_of r).args) c.as_slice.ensures in
    has_implementation r o c.in_ok-args-in-Call.args (stands_at r c.requires.stands (CallOf o) e)
    (ap (values_fit o.arguments) args ∙ (call_fits r c.requires.stands c.requires.fit o e).1)

pub arguments-requires-in-Cut-clause-kept : goal.arguments-requires-in-Cut-clause-kept
arguments-requires-in-Cut-clause-kept c =
    let r = c.args.self.now in
    subst ShapesKept (sym c.as_slice-in-Cut.ensures) (kept_at r c.requires.stands (CutOf c.in-Cut.operation.now) (ap obligation_of c.in-Cut.is))

pub arguments-requires-in-Cut-clause-fit : goal.arguments-requires-in-Cut-clause-fit
arguments-requires-in-Cut-clause-fit c =
    let r = c.args.self.now in
    subst (λ (ds : List Declared). values_fit ds (given_values (inputs_of r) (numbers_of r).args ds) ≡ true) (sym c.as_slice-in-Cut.ensures)
    (cut_fits r c.requires.stands c.requires.fit c.in-Cut.operation.now (ap obligation_of c.in-Cut.is)).1

pub fallen-requires-clause-fit : goal.fallen-requires-clause-fit
fallen-requires-clause-fit c =
    (cut_fits c.args.self.now c.requires.stands c.requires.fit c.in-Cut.operation.now (ap obligation_of c.in-Cut.is)).0

pub fallen-requires-clause-block : goal.fallen-requires-clause-block
fallen-requires-clause-block c =
    let r = c.args.self.now in
    let o = c.in-Cut.operation.now in
    let e = ap obligation_of c.in-Cut.is in
    let args = c.in_ok-args-in-Cut.ensures ∙ ap (given_values (inputs_of r) (numbers_of r).args) c.as_slice-in-Cut.ensures in
    has_implementation r o c.in_ok-args-in-Cut.args (stands_at r c.requires.stands (CutOf o) e)
    (ap (values_fit o.arguments) args ∙ (cut_fits r c.requires.stands c.requires.fit o e).1)

pub whole-requires-in-Tick-clause-fit : goal.whole-requires-in-Tick-clause-fit
whole-requires-in-Tick-clause-fit c = shaped_at c.args.self.now c.requires.stands (TickOf _) (ap obligation_of c.in-Tick.is) c.requires.fit

pub whole-requires-in-Tick-clause-block : goal.whole-requires-in-Tick-clause-block
whole-requires-in-Tick-clause-block c =
    let r = c.args.self.now in
    has_background r _ _ (stands_at r c.requires.stands (TickOf _) (ap obligation_of c.in-Tick.is)) c.none.ensures

pub fallen-requires-in-CutTick-clause-fit : goal.fallen-requires-in-CutTick-clause-fit
fallen-requires-in-CutTick-clause-fit c = shaped_at c.args.self.now c.requires.stands (CutTickOf _) (ap obligation_of c.in-CutTick.is) c.requires.fit

pub fallen-requires-in-CutTick-clause-block : goal.fallen-requires-in-CutTick-clause-block
fallen-requires-in-CutTick-clause-block c =
    let r = c.args.self.now in
    has_background r _ _ (stands_at r c.requires.stands (CutTickOf _) (ap obligation_of c.in-CutTick.is)) c.none-in-CutTick.ensures

pub idle-requires-clause-fit : goal.idle-requires-clause-fit
idle-requires-clause-fit c = shaped_at c.args.self.now c.requires.stands Idle (ap obligation_of c.in-Idle.is) c.requires.fit

pub again-requires-clause-fit : goal.again-requires-clause-fit
again-requires-clause-fit c = shaped_at c.args.self.now c.requires.stands Again (ap obligation_of c.in-Again.is) c.requires.fit

pub returns-in-Init : goal.returns-in-Init
returns-in-Init c =
    let r = c.args.self.now in
    subst (λ (w : meaning.Schedule). IfOk c.formatting.result (IsRead r w)) (named_at r c.requires.stands Init (ap obligation_of c.in-Init.is))
    c.formatting.ensures

pub returns-in_ok-args-in-Call : goal.returns-in_ok-args-in-Call
returns-in_ok-args-in-Call c =
    let r = c.args.self.now in
    let args = c.in_ok-args-in-Call.ensures ∙ ap (given_values (inputs_of r) (numbers_of r).args) c.as_slice.ensures in
    if_ok c.whole.result c.whole.ensures (λ x h.
    call_read r c.requires.here c.requires.stands x c.in-Call.operation.now c.in_ok-args-in-Call.args (ap obligation_of c.in-Call.is) args h)

pub returns-in_ok-args-in-Cut : goal.returns-in_ok-args-in-Cut
returns-in_ok-args-in-Cut c =
    let r = c.args.self.now in
    let args = c.in_ok-args-in-Cut.ensures ∙ ap (given_values (inputs_of r) (numbers_of r).args) c.as_slice-in-Cut.ensures in
    if_ok c.fallen.result c.fallen.ensures (λ x h.
    cut_read r c.requires.here c.requires.stands x c.in-Cut.operation.now c.in_ok-args-in-Cut.args (ap obligation_of c.in-Cut.is) args h)

pub returns-in-Tick : goal.returns-in-Tick
returns-in-Tick c =
    let r = c.args.self.now in
    if_ok c.whole-in-Tick.result c.whole-in-Tick.ensures (λ x h.
    tick_read r c.requires.here c.requires.stands x _ c.none.result (ap obligation_of c.in-Tick.is) c.none.ensures h)

pub returns-in-CutTick : goal.returns-in-CutTick
returns-in-CutTick c =
    let r = c.args.self.now in
    if_ok c.fallen-in-CutTick.result c.fallen-in-CutTick.ensures (λ x h.
    cut_tick_read r c.requires.here c.requires.stands x _ c.none-in-CutTick.result (ap obligation_of c.in-CutTick.is) c.none-in-CutTick.ensures h)

pub returns-in-Idle : goal.returns-in-Idle
returns-in-Idle c =
    let r = c.args.self.now in
    subst (λ (w : meaning.Schedule). IfOk c.idle.result (IsRead r w)) (named_at r c.requires.stands Idle (ap obligation_of c.in-Idle.is)) c.idle.ensures

pub returns-in-Again : goal.returns-in-Again
returns-in-Again c =
    let r = c.args.self.now in
    subst (λ (w : meaning.Schedule). IfOk c.again.result (IsRead r w)) (named_at r c.requires.stands Again (ap obligation_of c.in-Again.is)) c.again.ensures
