-- What is left of an image by a call that failed.
use Rattle.std.proofs.Common.{◌≡◌, ℕ, ◌+◌, ◌<◌, true, nat_lt, List, inl, inr, refl, sym, ap, subst, ◌∙◌, arith}
use Rattle.std.specs.Prelude.{if◌then◌else◌, ◌⊎◌}
use Rattle.std.proofs.lemmas.Bool.Decides.{nat_tests}
use Rattle.ygg_base.specs.declared.geometry.DiskKind.{DiskKind}
use Rattle.ygg_base.specs.declared.geometry.DiskKind.TheVariants.{Sync, Async}
use Rattle.ygg_base.specs.declared.geometry.Geometry.{Geometry}
use Rattle.ygg_base.specs.declared.outside.Moved.TheVariants.{Failed}
use Rattle.ygg_base.specs.Devices.{Image, Attachment, block_at, with_block, MayHave, Writes, Flushes}
use Rattle.ygg_value.specs.Number.{Digits}
use Rattle.ygg_disk.specs.Disk.{Call, Read, Write, Flush}
use Rattle.ygg_run_image.specs.Image.{block_bytes, row_block}
use Rattle.ygg_run_image.specs.GroundLaws.{written_by, IsFrom, BlocksLeft, FailedCallsLeaveBlocks}
use Rattle.ygg_run_image.specs.Turning.{WritesBlock, WritesRow, FlushesDisk}

module _ (g : Geometry) (call : Call) (before : Image) where
  -- bytes of which each block is from others, as they are or as the call writes them
  abbrev From : List ℕ → List ℕ → Type 0
  From bytes now = (place : ℕ) → IsFrom g call place (block_at (block_bytes g) place now) bytes

  from_same : (bytes now : List ℕ) → now ≡ bytes → From bytes now
  from_same bytes now e place = inl (ap (block_at (block_bytes g) place) e)

  from_written : (bytes now : List ℕ) → now ≡ written_by g call bytes → From bytes now
  from_written bytes now e place = inr (ap (block_at (block_bytes g) place) e)

  -- an image that isn't changed
  left_same : (now : Image) → now ≡ before → BlocksLeft g call before now
  left_same now e = record {
    view = from_same before.view now.view (ap (λ (i : Image). i.view) e);
    stable = λ place. inl (from_same before.stable now.stable (ap (λ (i : Image). i.stable) e) place);
  }

  -- one that is flushed, of which what is read is from before
  left_flushed : (a : Attachment) → a.size ≡ block_bytes g → (mid now : Image) → From before.view mid.view → From before.stable mid.stable →
      Flushes Failed a mid now → BlocksLeft g call before now
  left_flushed a sized mid now v s (same, (many, each)) = record {
    view = λ place. subst (λ (bytes : List ℕ). IsFrom g call place (block_at (block_bytes g) place bytes) before.view) (sym same) (v place);
    stable = λ place. left place (each place);
  }
    where
      at_size : (place : ℕ) (bytes : List ℕ) → block_at a.size place bytes ≡ block_at (block_bytes g) place bytes
      at_size place bytes = ap (λ n. block_at n place bytes) sized

      moved : (place : ℕ) (bytes : List ℕ) → block_at a.size place now.stable ≡ block_at a.size place bytes →
          block_at (block_bytes g) place bytes ≡ block_at (block_bytes g) place now.stable
      moved place bytes e = sym (sym (at_size place now.stable) ∙ e ∙ at_size place bytes)

      left : (place : ℕ) →
          (block_at a.size place now.stable ≡ block_at a.size place mid.stable) ⊎ (block_at a.size place now.stable ≡ block_at a.size place mid.view) →
          IsFrom g call place (block_at (block_bytes g) place now.stable) before.stable
          ⊎ IsFrom g call place (block_at (block_bytes g) place now.stable) before.view
      left place (inl e) = inl (subst (λ (b : List ℕ). IsFrom g call place b before.stable) (moved place mid.stable e) (s place))
      left place (inr e) = inr (subst (λ (b : List ℕ). IsFrom g call place b before.view) (moved place mid.view e) (v place))

module _ (g : Geometry) (at : ℕ) (row : Digits) (before : Image) (a : Attachment) (sized : a.size ≡ block_bytes g) (within : at < g.rows) where
  written_is : (bytes : List ℕ) → with_block a.size (at + 1) (row_block g row.words) bytes ≡ written_by g (Write at row) bytes
  written_is bytes =
      let here : nat_lt at g.rows ≡ true = grind (arith, nat_tests) in
      ap (λ n. with_block n (at + 1) (row_block g row.words) bytes) sized
      ∙ ap (λ b. if b then with_block (block_bytes g) (at + 1) (row_block g row.words) bytes else bytes) (sym here)

  from_may : (bytes now : List ℕ) → MayHave a.size (at + 1) (row_block g row.words) bytes now → From g (Write at row) before bytes now
  from_may bytes now (inl e) = from_same g (Write at row) before bytes now e
  from_may bytes now (inr e) = from_written g (Write at row) before bytes now (e ∙ written_is bytes)

  left_written : (now : Image) → Writes (at + 1) (row_block g row.words) Failed a before now → BlocksLeft g (Write at row) before now
  left_written now (v, s) = record { view = from_may before.view now.view v; stable = λ place. inl (from_may before.stable now.stable s place) }

  left_block : (kind : DiskKind) (now : Image) → WritesBlock kind (at + 1) (row_block g row.words) Failed a before now → BlocksLeft g (Write at row) before now
  left_block Sync now (inl h) = left_written now h
  left_block Sync now (inr (mid, (v, s), f)) =
      left_flushed g (Write at row) before a sized mid now (from_may before.view mid.view (inr v)) (from_may before.stable mid.stable s) f
  left_block Async now h = left_written now h

left_row : (g : Geometry) (at : ℕ) (row : Digits) (a : Attachment) (before now : Image) → a.size ≡ block_bytes g → WritesRow g at row Failed a before now →
    BlocksLeft g (Write at row) before now
left_row g at row a before now sized (inl (within, fit, h)) = left_block g at row before a sized within g.kind now h
left_row g at row a before now sized (inr (past, e)) = left_same g (Write at row) before now e

left_disk : (g : Geometry) (kind : DiskKind) (a : Attachment) (before now : Image) → a.size ≡ block_bytes g → FlushesDisk kind Failed a before now →
    BlocksLeft g Flush before now
left_disk g Sync a before now sized e = left_same g Flush before now e
left_disk g Async a before now sized h =
    left_flushed g Flush before a sized before now (from_same g Flush before before.view before.view refl)
    (from_same g Flush before before.stable before.stable refl) h

pub failed_calls_leave_blocks : FailedCallsLeaveBlocks
failed_calls_leave_blocks g (Read at) a before now sized e = left_same g (Read at) before now e
failed_calls_leave_blocks g (Write at row) a before now sized h = left_row g at row a before now sized h
failed_calls_leave_blocks g Flush a before now sized h = left_disk g g.kind a before now sized h
