use Rattle.std.proofs.Common.{All}
use Rattle.std.proofs.lemmas.List.Elements.{All-push}
use Rattle.ygg_disk.proofs.Copying.{row_of, disk_row}
use Rattle.ygg_disk.specs.Rows.{IsDiskRow}
use Rattle.ygg_disk.specs.Size.{row_shape}
use Rattle.ygg_value.specs.Number.{Digits}
use Rattle.std.proofs.Common.{List, [], ◌∷◌, refl, sym, ap, ◌∙◌, subst}
use Rattle.ygg_disk.proofs.Ended.{
  begins_as,
  done_unnamed,
  within_named,
  before_named,
  starved_named,
  down_within,
  down_before,
  starved,
  pending_cut,
  pending_stopped,
}
use Rattle.ygg_disk.specs.Disk.{Write}
use Rattle.ygg_disk.specs.declared.fate.Fate.TheVariants as fate
use Rattle.ygg_disk.specs.Meanings.{pending_meaning}
use Rattle.ygg_disk.specs.Marked.{MarkedCache, marked_falls, marked_loses}
use Rattle.ygg_disk.specs.Waiting.{marked}
use Rattle.ygg_disk.specs.declared.waiting.Waiting.{Waiting}
use Rattle.ygg_disk.proofs.Marks.{calls_marked, with_waiting}
use Rattle.ygg_disk.proofs.pending_disk.PendingDiskGround.write.Goals as goal

pub returns-in-Whole-clause-turn : goal.returns-in-Whole-clause-turn
returns-in-Whole-clause-turn c =
    let b = begins_as (Write c.args.at.bits c.args.row.now) (c.peek-kept.result ∷ []) (c.peek-kept.result ∷ []) c.args.power.now c.begin_write.new.self
    c.in_ok-begin_write.field-0 fate.Whole c.in-Whole.is c.in_ok-begin_write.ensures in record {
      picks = c.peek-kept.result ∷ [];
      step = calls_marked c.peek-kept.result c.args.self.now _ c.args.at.bits c.args.row.now
          (with_waiting c.self.inside.stable c.self.inside.waiting.items c.room_for.new.waiting.items c.wait.new.waiting.items c.args.self.now _
          c.peek-kept.result
          c.args.at.bits
          c.args.row.now c.room_for.ensures.items c.self.view_is c.wait.ensures.marked
          (ap (λ (r : Digits). record { write = record { at = c.args.at.bits; row = r }; kept = c.peek-kept.result }) c.in_ok-copy.ensures.copy));
      told = refl;
      leaves = b.1;
    }

pub returns-in_err-begin_write-clause-turn : goal.returns-in_err-begin_write-clause-turn
returns-in_err-begin_write-clause-turn c =
    let e = ap (λ (ws : List Waiting). record { stable = c.self.inside.stable; writes = marked ws }) c.room_for.ensures.items ∙ c.self.view_is in
    starved pending_meaning (Write c.args.at.bits c.args.row.now) c.args.self.now _ c.args.power.now c.begin_write.new.self
    c.from_residual-in_err-begin_write.result c.from_residual-in_err-begin_write.ensures.0 e c.in_err-begin_write.ensures

pub returns-in_err-begin_write-clause-down : goal.returns-in_err-begin_write-clause-down
returns-in_err-begin_write-clause-down c = starved_named c.args.power.now c.from_residual-in_err-begin_write.result c.from_residual-in_err-begin_write.ensures.0

pub returns-in-Whole-clause-down : goal.returns-in-Whole-clause-down
returns-in-Whole-clause-down c =
    let b = begins_as (Write c.args.at.bits c.args.row.now) (c.peek-kept.result ∷ []) (c.peek-kept.result ∷ []) c.args.power.now c.begin_write.new.self
    c.in_ok-begin_write.field-0 fate.Whole c.in-Whole.is c.in_ok-begin_write.ensures in
    done_unnamed c.args.power.now b.0

pub returns-in-Within-clause-turn : goal.returns-in-Within-clause-turn
returns-in-Within-clause-turn c =
    let b = begins_as (Write c.args.at.bits c.args.row.now) (c.peek-kept.result ∷ []) (c.peek-kept.result ∷ []) c.args.power.now c.begin_write.new.self
    c.in_ok-begin_write.field-0 fate.Within c.in-Within.is c.in_ok-begin_write.ensures in
    let e = ap (λ (ws : List Waiting). record { stable = c.self.inside.stable; writes = marked ws }) c.room_for.ensures.items ∙ c.self.view_is in
    down_within pending_meaning (Write c.args.at.bits c.args.row.now) c.args.self.now c.fall_within.new.self c.args.power.now c.begin_write.new.self b.0
    (pending_cut (Write c.args.at.bits c.args.row.now) c.args.self.now c.fall_within.new.self c.args.power.now c.begin_write.new.self (c.peek-kept.result ∷ [])
    (subst (λ (m : MarkedCache). marked_falls m (Write c.args.at.bits c.args.row.now) (c.peek-kept.result ∷ []) c.fall_within.new.self) e
    c.fall_within.ensures.falls) b.1)

pub returns-in-Within-clause-down : goal.returns-in-Within-clause-down
returns-in-Within-clause-down c =
    let b = begins_as (Write c.args.at.bits c.args.row.now) (c.peek-kept.result ∷ []) (c.peek-kept.result ∷ []) c.args.power.now c.begin_write.new.self
    c.in_ok-begin_write.field-0 fate.Within c.in-Within.is c.in_ok-begin_write.ensures in
    within_named c.args.power.now b.0

pub returns-in-Before-clause-turn : goal.returns-in-Before-clause-turn
returns-in-Before-clause-turn c =
    let b = begins_as (Write c.args.at.bits c.args.row.now) (c.peek-kept.result ∷ []) (c.peek-kept.result ∷ []) c.args.power.now c.begin_write.new.self
    c.in_ok-begin_write.field-0 fate.Before c.in-Before.is c.in_ok-begin_write.ensures in
    let e = ap (λ (ws : List Waiting). record { stable = c.self.inside.stable; writes = marked ws }) c.room_for.ensures.items ∙ c.self.view_is in
    down_before pending_meaning (Write c.args.at.bits c.args.row.now) c.args.self.now c.fall.new.self c.args.power.now c.begin_write.new.self b.0
    (pending_stopped (Write c.args.at.bits c.args.row.now) c.args.self.now c.fall.new.self c.args.power.now c.begin_write.new.self
    (subst (λ (m : MarkedCache). marked_loses m c.fall.new.self) e c.fall.ensures.loses) b.1)

pub returns-in-Before-clause-down : goal.returns-in-Before-clause-down
returns-in-Before-clause-down c =
    let b = begins_as (Write c.args.at.bits c.args.row.now) (c.peek-kept.result ∷ []) (c.peek-kept.result ∷ []) c.args.power.now c.begin_write.new.self
    c.in_ok-begin_write.field-0 fate.Before c.in-Before.is c.in_ok-begin_write.ensures in
    before_named c.args.power.now b.0

pub invariant_of-self : goal.invariant_of-self
invariant_of-self c =
    let waits = subst (λ (ws : List Waiting). All (λ (w : Waiting). IsDiskRow c.self.inside.geometry w.row) ws) (sym c.room_for.ensures.items)
    c.self.invariant.1 in
    (c.self.invariant.0, waits)

pub returns-in_err-copy-clause-turn : goal.returns-in_err-copy-clause-turn
returns-in_err-copy-clause-turn c =
    let e = ap (λ (ws : List Waiting). record { stable = c.self.inside.stable; writes = marked ws }) c.room_for.ensures.items ∙ c.self.view_is in
    starved pending_meaning (Write c.args.at.bits c.args.row.now) c.args.self.now _ c.args.power.now c.args.power.now c.from_residual.result
    c.from_residual.ensures.0 e refl

pub returns-in_err-copy-clause-down : goal.returns-in_err-copy-clause-down
returns-in_err-copy-clause-down c = starved_named c.args.power.now c.from_residual.result c.from_residual.ensures.0

pub invariant_of-self-in_err-begin_write : goal.invariant_of-self-in_err-begin_write
invariant_of-self-in_err-begin_write c =
    let waits = subst (λ (ws : List Waiting). All (λ (w : Waiting). IsDiskRow c.self.inside.geometry w.row) ws) (sym c.room_for.ensures.items)
    c.self.invariant.1 in
    (c.self.invariant.0, waits)

pub wait-requires : goal.wait-requires
wait-requires c = c.in_ok-copy.ensures.room

pub invariant_of-self-in-Whole : goal.invariant_of-self-in-Whole
invariant_of-self-in-Whole c =
    let waits = subst (λ (ws : List Waiting). All (λ (w : Waiting). IsDiskRow c.self.inside.geometry w.row) ws) (sym c.room_for.ensures.items)
    c.self.invariant.1 in
    let P : Waiting → Type 0 = λ w. IsDiskRow c.self.inside.geometry w.row in
    let fits = row_of c.self.inside.stable c.args.row.now (c.requires.row ∙ sym (ap (λ (m : MarkedCache). row_shape m.stable) c.self.view_is)) in (
      c.self.invariant.0,
      subst (λ (ws : List Waiting). All P ws) (sym c.wait.ensures.items)
          (All-push P c.room_for.new.waiting.items _ waits
          (disk_row c.self.inside.geometry c.self.inside.stable c.args.row.now c.in_ok-copy.copy c.self.invariant.0 fits c.in_ok-copy.ensures.copy)),
    )

pub invariant_of-self-in-Within : goal.invariant_of-self-in-Within
invariant_of-self-in-Within c =
    let waits = subst (λ (ws : List Waiting). All (λ (w : Waiting). IsDiskRow c.self.inside.geometry w.row) ws) (sym c.room_for.ensures.items)
    c.self.invariant.1 in
    (c.self.invariant.0, waits)

pub invariant_of-self-in-Before : goal.invariant_of-self-in-Before
invariant_of-self-in-Before c =
    let waits = subst (λ (ws : List Waiting). All (λ (w : Waiting). IsDiskRow c.self.inside.geometry w.row) ws) (sym c.room_for.ensures.items)
    c.self.invariant.1 in
    (c.self.invariant.0, waits)

pub fall_within-requires : goal.fall_within-requires
fall_within-requires c = row_of c.self.inside.stable c.args.row.now (c.requires.row ∙ sym (ap (λ (m : MarkedCache). row_shape m.stable) c.self.view_is))

pub returns-in-Whole-clause-row : goal.returns-in-Whole-clause-row
returns-in-Whole-clause-row c = ap (λ (m : MarkedCache). row_shape m.stable) c.self.view_is

pub returns-in-Within-clause-row : goal.returns-in-Within-clause-row
returns-in-Within-clause-row c = c.fall_within.ensures.row ∙ ap (λ (m : MarkedCache). row_shape m.stable) c.self.view_is

pub returns-in-Before-clause-row : goal.returns-in-Before-clause-row
returns-in-Before-clause-row c = c.fall.ensures.row ∙ ap (λ (m : MarkedCache). row_shape m.stable) c.self.view_is

pub returns-in_err-copy-clause-row : goal.returns-in_err-copy-clause-row
returns-in_err-copy-clause-row c = ap (λ (m : MarkedCache). row_shape m.stable) c.self.view_is

pub returns-in_err-begin_write-clause-row : goal.returns-in_err-begin_write-clause-row
returns-in_err-begin_write-clause-row c = ap (λ (m : MarkedCache). row_shape m.stable) c.self.view_is
