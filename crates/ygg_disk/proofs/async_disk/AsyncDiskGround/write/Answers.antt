use Rattle.std.proofs.Common.{None, refl, ap, ◌∙◌}
use Rattle.ygg_base.specs.declared.geometry.DiskKind.TheVariants.{Async}
use Rattle.ygg_disk.proofs.Copying.{row_of}
use Rattle.ygg_disk.proofs.Ended.{
  begins_as,
  done_unnamed,
  within_named,
  before_named,
  starved_named,
  down_within,
  down_before,
  starved,
  disk_whole,
  disk_cut,
  disk_stopped,
}
use Rattle.ygg_disk.specs.Disk.{Write, Tables, lost}
use Rattle.ygg_disk.specs.Meanings.{disk_meaning}
use Rattle.ygg_disk.specs.Size.{row_shape}
use Rattle.ygg_disk.specs.declared.fate.Fate.TheVariants as fate
use Rattle.ygg_disk.proofs.async_disk.AsyncDiskGround.write.Goals as goal

pub returns-in_err-begin_write-clause-turn : goal.returns-in_err-begin_write-clause-turn
returns-in_err-begin_write-clause-turn c =
    starved (disk_meaning Async) (Write c.args.at.bits c.args.row.now) c.args.self.now c.args.self.now c.args.power.now c.begin_write.new.self
    c.from_residual.result c.from_residual.ensures.0 refl c.in_err-begin_write.ensures

pub returns-in_err-begin_write-clause-down : goal.returns-in_err-begin_write-clause-down
returns-in_err-begin_write-clause-down c = starved_named c.args.power.now c.from_residual.result c.from_residual.ensures.0

pub put-requires : goal.put-requires
put-requires c = row_of c.args.self.now.view c.args.row.now c.requires.row

pub put-requires-in-Within : goal.put-requires-in-Within
put-requires-in-Within c = row_of c.args.self.now.view c.args.row.now c.requires.row

pub returns-in-Whole-clause-turn : goal.returns-in-Whole-clause-turn
returns-in-Whole-clause-turn c =
    let b = begins_as (Write c.args.at.bits c.args.row.now) _ _ c.args.power.now c.begin_write.new.self
    c.in_ok-begin_write.field-0 fate.Whole c.in-Whole.is c.in_ok-begin_write.ensures in
    disk_whole Async (Write c.args.at.bits c.args.row.now) c.args.self.now c.put.new.self c.args.power.now c.begin_write.new.self _
    None (_, refl, refl, c.put.ensures) b.1

pub returns-in-Whole-clause-down : goal.returns-in-Whole-clause-down
returns-in-Whole-clause-down c =
    let b = begins_as (Write c.args.at.bits c.args.row.now) _ _ c.args.power.now c.begin_write.new.self
    c.in_ok-begin_write.field-0 fate.Whole c.in-Whole.is c.in_ok-begin_write.ensures in
    done_unnamed c.args.power.now b.0

pub returns-in-Whole-clause-row : goal.returns-in-Whole-clause-row
returns-in-Whole-clause-row c = ap (λ (d : Tables). row_shape d.view) c.put.ensures

pub returns-in-Within-clause-turn : goal.returns-in-Within-clause-turn
returns-in-Within-clause-turn c =
    let b = begins_as (Write c.args.at.bits c.args.row.now) _ _ c.args.power.now c.begin_write.new.self
    c.in_ok-begin_write.field-0 fate.Within c.in-Within.is c.in_ok-begin_write.ensures in
    down_within (disk_meaning Async) (Write c.args.at.bits c.args.row.now) c.args.self.now c.fall.new.self c.args.power.now c.begin_write.new.self b.0
    (disk_cut Async (Write c.args.at.bits c.args.row.now) c.args.self.now c.fall.new.self c.args.power.now c.begin_write.new.self _
    (_, refl, c.fall.ensures.lost ∙ ap lost c.put-in-Within.ensures) b.1)

pub returns-in-Within-clause-down : goal.returns-in-Within-clause-down
returns-in-Within-clause-down c =
    let b = begins_as (Write c.args.at.bits c.args.row.now) _ _ c.args.power.now c.begin_write.new.self
    c.in_ok-begin_write.field-0 fate.Within c.in-Within.is c.in_ok-begin_write.ensures in
    within_named c.args.power.now b.0

pub returns-in-Within-clause-row : goal.returns-in-Within-clause-row
returns-in-Within-clause-row c = c.fall.ensures.row ∙ ap (λ (d : Tables). row_shape d.view) c.put-in-Within.ensures

pub returns-in-Before-clause-turn : goal.returns-in-Before-clause-turn
returns-in-Before-clause-turn c =
    let b = begins_as (Write c.args.at.bits c.args.row.now) _ _ c.args.power.now c.begin_write.new.self
    c.in_ok-begin_write.field-0 fate.Before c.in-Before.is c.in_ok-begin_write.ensures in
    down_before (disk_meaning Async) (Write c.args.at.bits c.args.row.now) c.args.self.now c.fall-in-Before.new.self c.args.power.now c.begin_write.new.self b.0
    (disk_stopped Async (Write c.args.at.bits c.args.row.now) c.args.self.now c.fall-in-Before.new.self c.args.power.now c.begin_write.new.self
    c.fall-in-Before.ensures.lost b.1)

pub returns-in-Before-clause-down : goal.returns-in-Before-clause-down
returns-in-Before-clause-down c =
    let b = begins_as (Write c.args.at.bits c.args.row.now) _ _ c.args.power.now c.begin_write.new.self
    c.in_ok-begin_write.field-0 fate.Before c.in-Before.is c.in_ok-begin_write.ensures in
    before_named c.args.power.now b.0
