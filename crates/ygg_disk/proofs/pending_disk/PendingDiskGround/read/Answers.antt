use Rattle.std.proofs.Common.{rules, All, sym, ◌≡◌, List, [], Some, refl, ap, ◌∙◌, subst}
use Rattle.ygg_value.specs.Number.{Digits}
use Rattle.ygg_value.specs.Values.{table_read}
use Rattle.ygg_disk.proofs.Ended.{begins_as, answer_unnamed, starved_named, starved, down_either, either_named, pending_whole, pending_cut, pending_stopped}
use Rattle.ygg_disk.specs.Disk.{Read}
use Rattle.ygg_disk.specs.Marked.{MarkedCache, cache_of}
use Rattle.ygg_disk.specs.Meanings.{pending_meaning}
use Rattle.ygg_disk.specs.Pending.{applied}
use Rattle.ygg_disk.specs.Rows.{IsDiskRow}
use Rattle.ygg_disk.specs.Size.{row_shape}
use Rattle.ygg_disk.specs.Waiting.{marked}
use Rattle.ygg_value.specs.declared.shape.Shape.TheVariants as shape
use Rattle.ygg_disk.specs.declared.fate.Fate.TheVariants as fate
use Rattle.ygg_disk.specs.declared.waiting.Waiting.{Waiting}
use Rattle.ygg_disk.proofs.pending_disk.PendingDiskGround.read.Goals as goal

pub returns-in_err-row-clause-turn : goal.returns-in_err-row-clause-turn
returns-in_err-row-clause-turn c =
    starved pending_meaning (Read c.args.at.bits) c.args.self.now c.args.self.now c.args.power.now c.args.power.now c.from_residual.result
    c.from_residual.ensures.0 refl refl

pub returns-in_err-row-clause-down : goal.returns-in_err-row-clause-down
returns-in_err-row-clause-down c = starved_named c.args.power.now c.from_residual.result c.from_residual.ensures.0

pub returns-in_err-begin-clause-turn : goal.returns-in_err-begin-clause-turn
returns-in_err-begin-clause-turn c =
    starved pending_meaning (Read c.args.at.bits) c.args.self.now c.args.self.now c.args.power.now c.begin.new.self c.from_residual-in_err-begin.result
    c.from_residual-in_err-begin.ensures.0 refl c.in_err-begin.ensures

pub returns-in_err-begin-clause-down : goal.returns-in_err-begin-clause-down
returns-in_err-begin-clause-down c = starved_named c.args.power.now c.from_residual-in_err-begin.result c.from_residual-in_err-begin.ensures.0

pub returns-in-Whole-clause-turn : goal.returns-in-Whole-clause-turn
returns-in-Whole-clause-turn c =
    let b = begins_as (Read c.args.at.bits) [] [] c.args.power.now c.begin.new.self c.in_ok-begin.field-0 fate.Whole c.in-Whole.is c.in_ok-begin.ensures in
    let is = ap (λ (ws : List Waiting). record { stable = c.self.inside.stable; writes = marked ws }) c.as_slice-waiting.ensures.value ∙ c.self.view_is in
    let e = subst (λ (m : MarkedCache). c.in_ok-row.row ≡ table_read (applied (cache_of m).pending m.stable) c.args.at.bits) is c.in_ok-row.ensures.value in
    pending_whole (Read c.args.at.bits) c.args.self.now c.args.self.now c.args.power.now c.begin.new.self [] (Some c.in_ok-row.row)
    ((ap (λ (r : Digits). Some r) e, refl), (refl, refl)) b.1

pub returns-in-Whole-clause-down : goal.returns-in-Whole-clause-down
returns-in-Whole-clause-down c =
    let b = begins_as (Read c.args.at.bits) [] [] c.args.power.now c.begin.new.self c.in_ok-begin.field-0 fate.Whole c.in-Whole.is c.in_ok-begin.ensures in
    answer_unnamed c.args.power.now _ b.0

pub read_through-requires-clause-size : goal.read_through-requires-clause-size
read_through-requires-clause-size c = c.self.invariant.0

pub read_through-requires-clause-fits : goal.read_through-requires-clause-fits
read_through-requires-clause-fits c =
    subst (λ (ws : List Waiting). All (λ (w : Waiting). IsDiskRow c.self.inside.geometry w.row) ws) (sym c.as_slice-waiting.ensures.value) c.self.invariant.1

pub returns-in-Whole-clause-answer : goal.returns-in-Whole-clause-answer
returns-in-Whole-clause-answer c =
    let fits = c.in_ok-row.ensures.shape in
    let size = c.self.invariant.0 in
    ap (λ n. shape.Row n c.in_ok-row.row.width) (fits.words ∙ sym size.words) ∙ ap (λ n. shape.Row c.self.inside.stable.words n) (fits.width ∙ sym size.width)
    ∙ ap (λ (m : MarkedCache). row_shape m.stable) c.self.view_is

pub returns-in-Within : goal.returns-in-Within
returns-in-Within c = record {
  turn = down_either pending_meaning (Read c.args.at.bits) c.args.self.now c.fall.new.self c.args.power.now c.begin.new.self [] [] c.in_ok-begin.field-0
      c.in-Within.is c.in_ok-begin.ensures
      (pending_cut (Read c.args.at.bits) c.args.self.now c.fall.new.self c.args.power.now c.begin.new.self []
      (c.fall.ensures.loses.0, (refl, c.fall.ensures.lost)))
      (pending_stopped (Read c.args.at.bits) c.args.self.now c.fall.new.self c.args.power.now c.begin.new.self c.fall.ensures.loses);
  down = either_named (Read c.args.at.bits) [] [] c.args.power.now c.begin.new.self c.in_ok-begin.field-0 c.in-Within.is c.in_ok-begin.ensures;
  answer = tt;
  row = c.fall.ensures.row;
  later = search rules;
}
