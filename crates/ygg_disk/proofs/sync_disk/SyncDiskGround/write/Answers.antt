use Rattle.std.proofs.Common.{◌≡◌, [], ◌∷◌, refl, sym, ap, ◌∙◌, subst}
use Rattle.ygg_disk.proofs.Ended.{
  begins_as,
  done_unnamed,
  within_named,
  before_named,
  starved_named,
  down_within,
  down_before,
  starved,
  disk_whole,
  disk_cut,
  disk_stopped,
}
use Rattle.ygg_disk.specs.Disk.{Write}
use Rattle.ygg_disk.specs.declared.fate.Fate.TheVariants as fate
use Rattle.std.proofs.Common.{Bool, true, false, if◌then◌else◌, ℕ, None}
use Rattle.ygg_base.specs.declared.geometry.DiskKind.TheVariants.{Sync}
use Rattle.ygg_value.specs.Number.{Digits, Grid}
use Rattle.ygg_value.specs.Values.{table_write}
use Rattle.ygg_disk.proofs.Copying.{size_written, row_of}
use Rattle.ygg_disk.specs.Meanings.{disk_meaning}
use Rattle.ygg_disk.specs.Size.{row_shape}
use Rattle.ygg_disk.proofs.sync_disk.SyncDiskGround.write.Goals.{then-kept, else-kept}
use Rattle.ygg_disk.proofs.sync_disk.SyncDiskGround.write.Goals as goal

-- a row that is written where its pick says so
row_kept : (kept : Bool) (view view' : Grid) (at : ℕ) (row : Digits) → view' ≡ (if kept then table_write view at row else view) →
    row_shape view' ≡ row_shape view
row_kept true view view' at row e = ap row_shape e
row_kept false view view' at row e = ap row_shape e

after_kept : (c : goal.Joined-kept) →
    c.if-kept.self ≡ (if c.peek-kept.result then table_write c.args.self.now c.args.at.bits c.args.row.now else c.args.self.now)
after_kept c = elim c.if-kept.branch [
  | then-kept w ↦
      rw w.if-kept.true (w.self-is
      ∙ subst (λ (v : Grid). w.table_write-then-kept.new.table ≡ table_write v c.args.at.bits c.args.row.now) c.self.view_is
      w.table_write-then-kept.ensures.value)
  | else-kept w ↦ rw w.if-kept.false w.self-is
]

pub returns-in_err-begin_write-clause-turn : goal.returns-in_err-begin_write-clause-turn
returns-in_err-begin_write-clause-turn c =
    starved (disk_meaning Sync) (Write c.args.at.bits c.args.row.now) c.args.self.now c.args.self.now c.args.power.now c.begin_write.new.self
    c.from_residual.result c.from_residual.ensures.0 refl c.in_err-begin_write.ensures

pub returns-in_err-begin_write-clause-down : goal.returns-in_err-begin_write-clause-down
returns-in_err-begin_write-clause-down c = starved_named c.args.power.now c.from_residual.result c.from_residual.ensures.0

pub invariant_of-self : goal.invariant_of-self
invariant_of-self c =
    size_written c.self.inside.geometry c.self.inside.view c.table_write.new.table c.args.at.bits c.args.row.now c.self.invariant c.table_write.ensures.value

pub invariant_of-self-then-kept : goal.invariant_of-self-then-kept
invariant_of-self-then-kept c =
    size_written c.self.inside.geometry c.self.inside.view c.table_write-then-kept.new.table c.args.at.bits c.args.row.now c.self.invariant
    c.table_write-then-kept.ensures.value

pub returns-in-Whole-clause-turn : goal.returns-in-Whole-clause-turn
returns-in-Whole-clause-turn c =
    let b = begins_as (Write c.args.at.bits c.args.row.now) [] (c.peek-kept.result ∷ []) c.args.power.now c.begin_write.new.self c.in_ok-begin_write.field-0
    fate.Whole c.in-Whole.is c.in_ok-begin_write.ensures in
    let e = subst (λ (v : Grid). c.table_write.new.table ≡ table_write v c.args.at.bits c.args.row.now) c.self.view_is c.table_write.ensures.value in
    disk_whole Sync (Write c.args.at.bits c.args.row.now) c.args.self.now c.table_write.new.table c.args.power.now c.begin_write.new.self [] None
    (refl, refl, e) b.1

pub returns-in-Whole-clause-down : goal.returns-in-Whole-clause-down
returns-in-Whole-clause-down c =
    let b = begins_as (Write c.args.at.bits c.args.row.now) [] (c.peek-kept.result ∷ []) c.args.power.now c.begin_write.new.self c.in_ok-begin_write.field-0
    fate.Whole c.in-Whole.is c.in_ok-begin_write.ensures in
    done_unnamed c.args.power.now b.0

pub returns-in-Whole-clause-row : goal.returns-in-Whole-clause-row
returns-in-Whole-clause-row c =
    let e = subst (λ (v : Grid). c.table_write.new.table ≡ table_write v c.args.at.bits c.args.row.now) c.self.view_is c.table_write.ensures.value in
    ap row_shape e

pub returns-after-kept-clause-turn : goal.returns-after-kept-clause-turn
returns-after-kept-clause-turn c =
    let b = begins_as (Write c.args.at.bits c.args.row.now) [] (c.peek-kept.result ∷ []) c.args.power.now c.begin_write.new.self c.in_ok-begin_write.field-0
    fate.Within c.in-Within.is c.in_ok-begin_write.ensures in
    down_within (disk_meaning Sync) (Write c.args.at.bits c.args.row.now) c.args.self.now c.if-kept.self c.args.power.now c.begin_write.new.self b.0
    (disk_cut Sync (Write c.args.at.bits c.args.row.now) c.args.self.now c.if-kept.self c.args.power.now c.begin_write.new.self (c.peek-kept.result ∷ [])
    (c.peek-kept.result, refl, after_kept c) b.1)

pub returns-after-kept-clause-down : goal.returns-after-kept-clause-down
returns-after-kept-clause-down c =
    let b = begins_as (Write c.args.at.bits c.args.row.now) [] (c.peek-kept.result ∷ []) c.args.power.now c.begin_write.new.self c.in_ok-begin_write.field-0
    fate.Within c.in-Within.is c.in_ok-begin_write.ensures in
    within_named c.args.power.now b.0

pub returns-after-kept-clause-row : goal.returns-after-kept-clause-row
returns-after-kept-clause-row c =
    row_kept c.peek-kept.result c.args.self.now c.if-kept.self c.args.at.bits c.args.row.now (after_kept c)

pub returns-in-Before-clause-turn : goal.returns-in-Before-clause-turn
returns-in-Before-clause-turn c =
    let b = begins_as (Write c.args.at.bits c.args.row.now) [] (c.peek-kept.result ∷ []) c.args.power.now c.begin_write.new.self c.in_ok-begin_write.field-0
    fate.Before c.in-Before.is c.in_ok-begin_write.ensures in
    down_before (disk_meaning Sync) (Write c.args.at.bits c.args.row.now) c.args.self.now c.args.self.now c.args.power.now c.begin_write.new.self b.0
    (disk_stopped Sync (Write c.args.at.bits c.args.row.now) c.args.self.now c.args.self.now c.args.power.now c.begin_write.new.self refl b.1)

pub returns-in-Before-clause-down : goal.returns-in-Before-clause-down
returns-in-Before-clause-down c =
    let b = begins_as (Write c.args.at.bits c.args.row.now) [] (c.peek-kept.result ∷ []) c.args.power.now c.begin_write.new.self c.in_ok-begin_write.field-0
    fate.Before c.in-Before.is c.in_ok-begin_write.ensures in
    before_named c.args.power.now b.0

pub begin_write-requires-clause-whole : goal.begin_write-requires-clause-whole
begin_write-requires-clause-whole c = tt

pub begin_write-requires-clause-within : goal.begin_write-requires-clause-within
begin_write-requires-clause-within c = (c.peek-kept.ensures, tt)

pub table_write-requires-clause-width : goal.table_write-requires-clause-width
table_write-requires-clause-width c = (row_of c.self.inside.view c.args.row.now (c.requires.row ∙ sym (ap row_shape c.self.view_is))).width

pub table_write-requires-then-kept-clause-width : goal.table_write-requires-then-kept-clause-width
table_write-requires-then-kept-clause-width c = (row_of c.self.inside.view c.args.row.now (c.requires.row ∙ sym (ap row_shape c.self.view_is))).width

pub table_write-requires-clause-words : goal.table_write-requires-clause-words
table_write-requires-clause-words c = (row_of c.self.inside.view c.args.row.now (c.requires.row ∙ sym (ap row_shape c.self.view_is))).words

pub table_write-requires-then-kept-clause-words : goal.table_write-requires-then-kept-clause-words
table_write-requires-then-kept-clause-words c = (row_of c.self.inside.view c.args.row.now (c.requires.row ∙ sym (ap row_shape c.self.view_is))).words

pub returns-in-Whole-clause-answer : goal.returns-in-Whole-clause-answer
returns-in-Whole-clause-answer c = tt

pub returns-after-kept-clause-answer : goal.returns-after-kept-clause-answer
returns-after-kept-clause-answer c = tt

pub returns-in-Before-clause-answer : goal.returns-in-Before-clause-answer
returns-in-Before-clause-answer c = tt

pub returns-in-Before-clause-row : goal.returns-in-Before-clause-row
returns-in-Before-clause-row c = refl
