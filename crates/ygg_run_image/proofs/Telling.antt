-- What a ground over a device tells of its calls.
use Rattle.std.proofs.Common.{◌≡◌, ℕ, ◌+◌, ◌<◌, ◌≤◌, true, false, List, [], ◌∷◌, Option, Some, None, length, inl, inr, refl, sym, ap, subst, ◌∙◌, arith}
use Rattle.std.specs.Prelude.{IfSome, replicate, Result, Ok, Err, IsErr}
use Rattle.std.specs.Option.{option_map}
use Rattle.std.proofs.lemmas.List.{get_or-map}
use Rattle.ygg_base.specs.Outside.{Rose}
use Rattle.ygg_list.specs.declared.memory.NoMemory.{NoMemory}
use Rattle.ygg_base.specs.declared.geometry.DiskKind.{DiskKind}
use Rattle.ygg_base.specs.declared.geometry.DiskKind.TheVariants.{Sync, Async}
use Rattle.ygg_base.specs.declared.geometry.Geometry.{Geometry}
use Rattle.ygg_base.specs.declared.outside.Moved.{Moved}
use Rattle.ygg_base.specs.declared.outside.Moved.TheVariants.{Done, Failed}
use Rattle.ygg_base.specs.Devices.{Image, Attachment, block_at, with_block, MayHave, Reads, Tells, AttachedTurns}
use Rattle.ygg_value.specs.Number.{Digits, Grid}
use Rattle.ygg_value.specs.Values.{table_read, table_write}
use Rattle.ygg_value.proofs.Places.{table_read-get_or, table_read_past, table_write_past}
use Rattle.ygg_value.proofs.Rows.{length-first_chunks}
use Rattle.ygg_disk.specs.Disk.{Call, Read, Write, Flush, Reply, Picks, Tables}
use Rattle.ygg_disk.specs.Ground.{TellsCall, Turns, Whole, Starved, Failed as GroundFailed}
use Rattle.ygg_disk.specs.Kinds.{Disk, model_of}
use Rattle.ygg_disk.specs.Rows.{IsDiskRow}
use Rattle.ygg_disk.specs.Power.{Begun, BegunInVain}
use Rattle.ygg_disk.specs.declared.power.Power.{Power}
use Rattle.ygg_disk.specs.declared.turn.Turn.{Turn}
use Rattle.ygg_run_image.specs.Image.{block_bytes, row_block, rows_in, words_in}
use Rattle.ygg_run_image.specs.Judged.{AreWords}
use Rattle.ygg_run_image.specs.Laws.{AreBlocks}
use Rattle.ygg_run_image.proofs.Blocks.{block-chunk}
use Rattle.ygg_run_image.proofs.ImageRows.{words-are}
use Rattle.ygg_run_image.proofs.Images.{chunks, row-written, rows-are}
use Rattle.ygg_run_image.specs.DeviceMeaning.{device_meaning}
use Rattle.ygg_run_image.specs.Sight.{Sight, HoldsImage, Holds, held, state_of, told_disk}
use Rattle.ygg_run_image.specs.Turning.{Moves, WritesBlock, WritesRow, FlushesDisk, Turned}
use Rattle.ygg_run_image.proofs.Keeping.{IsFitting, image_same, same_turned, stays_so}

-- the row that the block of its place holds
pub row_there : (g : Geometry) (bytes : List ℕ) → AreBlocks g bytes → (at : ℕ) → at < g.rows →
    table_read (rows_in g bytes) at ≡ record { width = g.width; words = words_in g (block_at (block_bytes g) (at + 1) bytes) }
row_there g bytes are at within =
    let long : length (chunks g bytes) ≡ g.rows = length-first_chunks _ g.rows _ in
    table_read-get_or (rows_in g bytes) at
    ∙ ap (λ ws. record { width = g.width; words = ws })
    (get_or-map (words_in g) (chunks g bytes) at [] (replicate g.words 0) (omega (arith, within, long))
    ∙ ap (words_in g) (sym (block-chunk (block_bytes g) g.rows bytes are.whole at [] within)))

-- past the end there are zeros
pub zeros_past : (g : Geometry) (bytes : List ℕ) → AreBlocks g bytes → (at : ℕ) → g.rows ≤ at →
    record { width = g.width; words = replicate g.words 0 } ≡ table_read (rows_in g bytes) at
zeros_past g bytes are at past =
    let many = (rows-are g are.limits bytes).many in
    sym (table_read_past (rows_in g bytes) at (omega (arith, past, many)))

-- past the end nothing is written
past_end : (g : Geometry) (bytes : List ℕ) → AreBlocks g bytes → (at : ℕ) (row : Digits) → g.rows ≤ at → rows_in g bytes ≡ table_write (rows_in g bytes) at row
past_end g bytes are at row past =
    let many = (rows-are g are.limits bytes).many in
    sym (table_write_past (rows_in g bytes) at row (omega (arith, past, many)))

-- what a call answers where the attached image is this one
abbrev pub Replies : Geometry → Call → Reply → Image → Type 0
Replies g (Read at) reply image = reply ≡ Some (table_read (rows_in g image.view) at)
Replies g (Write at row) reply image = reply ≡ None
Replies g Flush reply image = reply ≡ None

-- a row that was decoded is one of the disk
pub decoded_fits : (g : Geometry) (block : List ℕ) (row : Digits) → row ≡ record { width = g.width; words = words_in g block } → IsDiskRow g row
decoded_fits g block row e = subst (IsDiskRow g) (sym e) (record { width = refl; words = (words-are g block).many })

module _ (g : Geometry) (images : Option (List Image)) (attached : Option Attachment) (h : Holds g images attached) (at : ℕ) (row : Digits) where
  -- what holds of the attached image
  of_image : (Says : Image → Type 0) → ((image : Image) → AreBlocks g image.view → Says image) → IfSome (held images attached) Says
  of_image Says each = subst (λ (o : Option Attachment). IfSome (held images o) Says) (sym h.is) (told_image images h.told)
    where
      told_image : (o : Option (List Image)) → IfSome o (λ told. HoldsImage g told h.attachment.name) → IfSome (held o (Some h.attachment)) Says
      told_image None t = tt
      told_image (Some told) t = subst (λ (o : Option Image). IfSome o Says) (sym t.is) (each t.image t.view)

  -- zeros are read past the end
  pub zeros_told : g.rows ≤ at → row ≡ record { width = g.width; words = replicate g.words 0 } →
      IfSome (held images attached) (λ image. row ≡ table_read (rows_in g image.view) at)
  zeros_told past e = of_image (λ image. row ≡ table_read (rows_in g image.view) at) (λ image view. e ∙ zeros_past g image.view view at past)

  -- a block that is read is decoded as the row at its place
  pub read_told : (bytes : List ℕ) → at < g.rows → Reads (at + 1) images attached Done bytes → row ≡ record { width = g.width; words = words_in g bytes } →
      IfSome (held images attached) (λ image. row ≡ table_read (rows_in g image.view) at)
  read_told bytes within reads e =
      let there = subst (λ (o : Option Attachment). Reads (at + 1) images o Done bytes) h.is reads in
      subst (λ (o : Option Attachment). IfSome (held images o) (λ image. row ≡ table_read (rows_in g image.view) at)) (sym h.is)
      (told_row images h.told there)
    where
      some_same : (x y : List ℕ) → Some x ≡ Some y → x ≡ y
      some_same x y e = cc e

      told_row : (o : Option (List Image)) → IfSome o (λ told. HoldsImage g told h.attachment.name) → Reads (at + 1) o (Some h.attachment) Done bytes →
          IfSome (held o (Some h.attachment)) (λ image. row ≡ table_read (rows_in g image.view) at)
      told_row None t r = tt
      told_row (Some told) t r =
          let size = h.attachment.size in
          let block : Some (block_at size (at + 1) t.image.view) ≡ Some bytes =
          subst (λ (o : Option Image). option_map (λ (i : Image). block_at size (at + 1) i.view) o ≡ Some bytes) t.is r in
          let same : bytes ≡ block_at (block_bytes g) (at + 1) t.image.view =
          sym (some_same _ _ block) ∙ ap (λ n. block_at n (at + 1) t.image.view) h.size in
          subst (λ (o : Option Image). IfSome o (λ image. row ≡ table_read (rows_in g image.view) at)) (sym t.is)
          (e ∙ ap (λ bs. record { width = g.width; words = words_in g bs }) same ∙ sym (row_there g t.image.view t.view at within))

-- nothing is replied to a write or a flush
abbrev pub no_reply : Reply
no_reply = None

pub replies_nothing : (o : Option Image) → IfSome o (λ image. no_reply ≡ no_reply)
replies_nothing None = tt
replies_nothing (Some image) = refl

-- two tables
abbrev pair : Grid → Grid → Tables
pair view stable = record { view = view; stable = stable }

tables : (v w s t : Grid) → v ≡ w → s ≡ t → pair v s ≡ pair w t
tables v w s t a b = ap (λ x. pair x s) a ∙ ap (pair w) b

module _ (g : Geometry) (a : Attachment) (sized : a.size ≡ block_bytes g) (before now : Image) (view : AreBlocks g before.view)
    (stable : AreBlocks g before.stable) where
  -- a call on a disk of this kind is one of its model, with some picks
  abbrev Steps : DiskKind → Call → Reply → Type 0
  Steps kind call reply = (picks : Picks) × (model_of kind).Calls (state_of kind g before) call picks reply (state_of kind g now)

  row_now : (at : ℕ) (row : Digits) → at < g.rows → AreWords g row.words → (old new : List ℕ) → AreBlocks g old →
      new ≡ with_block a.size (at + 1) (row_block g row.words) old → rows_in g new ≡ table_write (rows_in g old) at row
  row_now at row within fit old new are e =
      ap (rows_in g) (e ∙ ap (λ n. with_block n (at + 1) (row_block g row.words) old) sized) ∙ (row-written g old are at row.words within fit).1

  same_state : (kind : DiskKind) → now ≡ before → state_of kind g now ≡ state_of kind g before
  same_state kind e = ap (λ (i : Image). state_of kind g i) e

  read_steps : (kind : DiskKind) (at : ℕ) (reply : Reply) → reply ≡ Some (table_read (rows_in g before.view) at) → now ≡ before → Steps kind (Read at) reply
  read_steps Sync at reply r e = ([], (refl, r, same_state Sync e))
  read_steps Async at reply r e = ([], (refl, r, same_state Async e))

  block_steps : (kind : DiskKind) (at : ℕ) (row : Digits) (reply : Reply) → reply ≡ None → at < g.rows → AreWords g row.words →
      WritesBlock kind (at + 1) (row_block g row.words) Done a before now → Steps kind (Write at row) reply
  block_steps Sync at row reply r within fit (mid, (v, s), (w, t)) =
      ([], (refl, r, ap (rows_in g) w ∙ row_now at row within fit before.view mid.view view v))
  block_steps Async at row reply r within fit (v, s) = by_stable s
    where
      by_stable : MayHave a.size (at + 1) (row_block g row.words) before.stable now.stable → Steps Async (Write at row) reply
      by_stable (inl e) =
          (false ∷ [], (false, refl, r, tables _ _ _ _ (row_now at row within fit before.view now.view view v) (ap (rows_in g) e)))
      by_stable (inr e) = (
        true ∷ [],
        (
          true,
          refl,
          r,
          tables _ _ _ _ (row_now at row within fit before.view now.view view v)
              (row_now at row within fit before.stable now.stable stable e),
        ),
      )

  past_steps : (kind : DiskKind) (at : ℕ) (row : Digits) (reply : Reply) → reply ≡ None → g.rows ≤ at → now ≡ before → Steps kind (Write at row) reply
  past_steps Sync at row reply r past e = ([], (refl, r, same_state Sync e ∙ past_end g before.view view at row past))
  past_steps Async at row reply r past e =
      (false ∷ [], (false, refl, r, same_state Async e ∙ tables _ _ _ _ (past_end g before.view view at row past) refl))

  row_steps : (at : ℕ) (row : Digits) (reply : Reply) → reply ≡ None → WritesRow g at row Done a before now → Steps g.kind (Write at row) reply
  row_steps at row reply r (inl (within, fit, h)) = block_steps g.kind at row reply r within fit h
  row_steps at row reply r (inr (past, e)) = past_steps g.kind at row reply r past e

  flush_steps : (kind : DiskKind) (reply : Reply) → reply ≡ None → FlushesDisk kind Done a before now → Steps kind Flush reply
  flush_steps Sync reply r e = ([], (refl, r, same_state Sync e))
  flush_steps Async reply r (v, s) = ([], (refl, r, tables _ _ _ _ (ap (rows_in g) v) (ap (rows_in g) s)))

  steps : (call : Call) (reply : Reply) → Replies g call reply before → Turned g call Done a before now → Steps g.kind call reply
  steps (Read at) reply r h = read_steps g.kind at reply r h
  steps (Write at row) reply r h = row_steps at row reply r h
  steps Flush reply r h = flush_steps g.kind reply r h

module _ (g : Geometry) (call : Call) (reply : Reply) where
  abbrev disk_of : Image → Disk
  disk_of image = record { kind = g.kind; state = state_of g.kind g image }

  abbrev told_of : Option (List Image) → Option Attachment → Option Disk
  told_of images attached = option_map disk_of (held images attached)

  tell : (a : Attachment) → a.size ≡ block_bytes g → (images now : Option (List Image)) → IfSome images (λ told. HoldsImage g told a.name) →
      Tells (AttachedTurns (Turned g call Done) (Some a)) images now → IfSome (held images (Some a)) (Replies g call reply) →
      (picks : Picks) × TellsCall (told_of images (Some a)) call picks reply (told_of now (Some a))
  tell a sized None now h e r = ([], ap (λ (o : Option (List Image)). told_of o (Some a)) e)
  tell a sized (Some told) now h (images, is, t) r =
      let same = image_same told a.name h.image t.old h.is t.was in
      let view = subst (λ (i : Image). AreBlocks g i.view) same h.view in
      let stable = subst (λ (i : Image). AreBlocks g i.stable) same h.stable in
      let replies : Replies g call reply t.old = subst (λ (o : Option Image). IfSome o (Replies g call reply)) t.was r in
      let x = steps g a sized t.old t.new view stable call reply replies t.turns in
      let after = ap (λ (o : Option (List Image)). told_of o (Some a)) is ∙ ap (λ (o : Option Image). option_map disk_of o) t.is in (
        x.0,
        subst (λ (o : Option Image). TellsCall (option_map disk_of o) call x.0 reply (told_of now (Some a))) (sym t.was)
            (state_of g.kind g t.new, after, x.1),
      )

-- a whole call is a step of the disk that is told
tells_call : (s s' : Sight) (call : Call) (reply : Reply) → Holds s.geometry s.images s.attached → Moves (Turned s.geometry call Done) s s' →
    IfSome (held s.images s.attached) (Replies s.geometry call reply) → (picks : Picks) × TellsCall (told_disk s) call picks reply (told_disk s')
tells_call s s' call reply h m r =
    let g = s.geometry in
    let turns = subst (λ (o : Option Attachment). Tells (AttachedTurns (Turned g call Done) o) s.images s'.images) h.is m.images in
    let replies = subst (λ (o : Option Attachment). IfSome (held s.images o) (Replies g call reply)) h.is r in
    let x = tell g call reply h.attachment h.size s.images s'.images h.told turns replies in
    let before : told_of g call reply s.images (Some h.attachment) ≡ told_disk s =
    ap (λ (o : Option Attachment). told_of g call reply s.images o) (sym h.is) in
    let after : told_of g call reply s'.images (Some h.attachment) ≡ told_disk s' =
    ap (λ (o : Option Attachment). told_of g call reply s'.images o) (sym (m.attached ∙ h.is))
    ∙ ap (λ (k : Geometry). told_of k call reply s'.images s'.attached) (sym m.geometry) in (
      x.0,
      subst (λ (d : Option Disk). TellsCall (told_disk s) call x.0 reply d) after
          (subst (λ (d : Option Disk). TellsCall d call x.0 reply (told_of g call reply s'.images (Some h.attachment))) before x.1),
    )

-- what a call leaves of `power` that began and took no pick: it did so where the device's picks aren't named
begun_loosely : (call : Call) (picks : Picks) (before after : Power) → Begun true false call [] before after → Begun false false call picks before after
begun_loosely call picks before after b = record {
  picks = b.picks;
  fuse = b.fuse;
  passed = b.passed;
  events = (b.events.0, b.events.1, tt);
}

module _ {S : Type 0} (look : S → Sight) (s s' : S) (call : Call) (before after : Power) where
  -- a whole call
  pub whole_call : (reply : Reply) → Holds (look s).geometry (look s).images (look s).attached → Moves (Turned (look s).geometry call Done) (look s) (look s') →
      IfSome (held (look s).images (look s).attached) (Replies (look s).geometry call reply) → Begun true false call [] before after →
      Whole (device_meaning look) call reply s s' before after
  whole_call reply h m r b =
      let x = tells_call (look s) (look s') call reply h m r in
      record { picks = x.0; step = m; told = x.1; leaves = begun_loosely call x.0 before after b }

  -- a call of which a device call failed
  pub failed_call : (passed : Power) → Moves (Turned (look s).geometry call Failed) (look s) (look s') → Rose (look s).faults (look s').faults →
      Begun true false call [] before passed → after ≡ record passed { passed = before.passed } →
      GroundFailed (device_meaning look) call s s' before after
  failed_call passed m rose b e = record {
    cause = rose;
    breaks = m;
    leaves = subst (λ (p : Power). BegunInVain call before p) (sym e) (record {
      picks = b.picks;
      fuse = b.fuse;
      passed = refl;
      events = (b.events.0, b.events.1);
    });
  }

  -- a call that no memory was left for
  pub starved_turns : (result : Result Turn NoMemory) → IsErr result → Starved (device_meaning look) call s s' before after →
      Turns (device_meaning look) call s s' before after result
  starved_turns (Ok t) e x = absurd (cc e)
  starved_turns (Err e) is x = x

  -- no memory was left before the first device call
  pub starved_call : Holds (look s).geometry (look s).images (look s).attached → IsFitting (look s).geometry call → s' ≡ s → after ≡ before →
      Starved (device_meaning look) call s s' before after
  starved_call h fits same power = record {
    breaks = subst (λ (t : S). Moves (Turned (look s).geometry call Failed) (look s) (look t)) (sym same) (record {
      reference = refl;
      geometry = refl;
      attached = refl;
      images = stays_so (look s).geometry (Turned (look s).geometry call Failed) (look s).images (look s).attached h (same_turned (look s).geometry call fits);
    });
    leaves = power;
  }

module _ {S : Type 0} (look : S → Sight) (s s' : S) (at : ℕ) (before after : Power) where
  -- a read moves nothing
  read_moves : (moved : Moved) → Holds (look s).geometry (look s).images (look s).attached → (look s').reference ≡ (look s).reference →
      (look s').geometry ≡ (look s).geometry → (look s').attached ≡ (look s).attached → (look s').images ≡ (look s).images →
      Moves (Turned (look s).geometry (Read at) moved) (look s) (look s')
  read_moves moved h reference geometry attached images = record {
    reference = reference;
    geometry = geometry;
    attached = attached;
    images = subst (λ (o : Option (List Image)). Tells (AttachedTurns (Turned (look s).geometry (Read at) moved) (look s).attached) (look s).images o)
        (sym images)
        (stays_so (look s).geometry (Turned (look s).geometry (Read at) moved) (look s).images (look s).attached h (λ a i. refl));
  }

  some_reply : (row : Digits) (o : Option Image) → IfSome o (λ image. row ≡ table_read (rows_in (look s).geometry image.view) at) →
      IfSome o (Replies (look s).geometry (Read at) (Some row))
  some_reply row None e = tt
  some_reply row (Some image) e = ap (λ (r : Digits). Some r) e

  -- a whole read
  pub read_whole : (row : Digits) → Holds (look s).geometry (look s).images (look s).attached → (look s').reference ≡ (look s).reference →
      (look s').geometry ≡ (look s).geometry → (look s').attached ≡ (look s).attached → (look s').images ≡ (look s).images →
      IfSome (held (look s).images (look s).attached) (λ image. row ≡ table_read (rows_in (look s).geometry image.view) at) →
      Begun true false (Read at) [] before after → Whole (device_meaning look) (Read at) (Some row) s s' before after
  read_whole row h reference geometry attached images told b =
      whole_call look s s' (Read at) before after (Some row) h (read_moves Done h reference geometry attached images)
      (some_reply row (held (look s).images (look s).attached) told) b

  -- one of which the device call failed
  pub read_failed : (passed : Power) → Holds (look s).geometry (look s).images (look s).attached → (look s').reference ≡ (look s).reference →
      (look s').geometry ≡ (look s).geometry → (look s').attached ≡ (look s).attached → (look s').images ≡ (look s).images →
      Rose (look s).faults (look s').faults → Begun true false (Read at) [] before passed → after ≡ record passed { passed = before.passed } →
      GroundFailed (device_meaning look) (Read at) s s' before after
  read_failed passed h reference geometry attached images rose b e =
      failed_call look s s' (Read at) before after passed (read_moves Failed h reference geometry attached images) rose b e
