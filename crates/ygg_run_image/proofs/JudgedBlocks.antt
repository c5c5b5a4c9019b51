-- Images whose blocks are judged one by one.
use Rattle.std.proofs.Common.{◌≡◌, ℕ, ◌+◌, ◌<◌, List, Option, None, Result, Ok, Err, sym, ◌∙◌, subst}
use Rattle.std.specs.Prelude.{IsErrAnd}
use Rattle.ygg_base.specs.declared.geometry.Geometry.{Geometry}
use Rattle.ygg_base.specs.Devices.{Attachment, Image, block_at}
use Rattle.ygg_run_image.specs.Image.{block_bytes}
use Rattle.ygg_run_image.specs.Judged.{IsHeaderJudged, IsJudged}
use Rattle.ygg_run_image.specs.declared.reason.ImageReason.{ImageReason}
use Rattle.ygg_run_image.specs.declared.reason.ImageReason.TheVariants.{Unsealed, OtherDisk, SpareBits}
use Rattle.ygg_run_image.specs.Mounting.{Accepts, AreRowsJudged, IsRowJudged, IsShown}
use Rattle.ygg_run_image.specs.declared.unmounted.Unmounted.{Unmounted}
use Rattle.ygg_run_image.specs.declared.unmounted.Unmounted.TheVariants.{Refused, Absent, DeviceFailed, Memory}

-- what is shown is so after a call that keeps the images and what is attached
pub shown_still : (images images' : Option (List Image)) (attached attached' : Option Attachment) (bytes : ℕ) (image : Image) → images' ≡ images →
    attached' ≡ attached → IsShown images attached bytes image → IsShown images' attached' bytes image
shown_still images images' attached attached' bytes image kept still s =
    record { told = s.told; at = s.at; tells = kept ∙ s.tells; attaches = still ∙ s.attaches; is = s.is; long = s.long }

-- an error that is handed on is accepted for the same
pub handed : (Judged : Option ImageReason → Type 0) (e : Unmounted) (result : Result (Unit {0}) Unmounted) → IsErrAnd result (λ y. y ≡ e) →
    Accepts Judged (Err e) → Accepts Judged result
handed Judged e (Ok done) same h = absurd same
handed Judged e (Err y) same h = subst (λ (x : Unmounted). Accepts Judged (Err x)) (sym same) h

-- rows of which one is refused are
pub rows_refused : (g : Geometry) (place : ℕ) (bytes : List ℕ) (e : Unmounted) → place < g.rows →
    Accepts (IsRowJudged g (block_at (block_bytes g) (place + 1) bytes)) (Err e) → Accepts (AreRowsJudged g bytes) (Err e)
rows_refused g place bytes (Refused Unsealed) within h = h
rows_refused g place bytes (Refused OtherDisk) within h = h
rows_refused g place bytes (Refused SpareBits) within h = λ holds. h (holds place within)
rows_refused g place bytes Absent within h = h
rows_refused g place bytes DeviceFailed within h = tt
rows_refused g place bytes Memory within h = tt

-- an image whose header is refused is
pub header_refused : (g : Geometry) (bytes : List ℕ) (e : Unmounted) → Accepts (IsHeaderJudged g bytes) (Err e) → Accepts (IsJudged g bytes) (Err e)
header_refused g bytes (Refused Unsealed) h = h
header_refused g bytes (Refused OtherDisk) h = h
header_refused g bytes (Refused SpareBits) h = absurd h
header_refused g bytes Absent h = h
header_refused g bytes DeviceFailed h = tt
header_refused g bytes Memory h = tt

-- an image whose header is accepted is judged by its rows
pub judged_by_rows : (g : Geometry) (bytes : List ℕ) (result : Result (Unit {0}) Unmounted) → IsHeaderJudged g bytes None →
    Accepts (AreRowsJudged g bytes) result → Accepts (IsJudged g bytes) result
judged_by_rows g bytes (Ok done) header h = (header.0, header.1, h)
judged_by_rows g bytes (Err (Refused Unsealed)) header h = absurd h
judged_by_rows g bytes (Err (Refused OtherDisk)) header h = absurd h
judged_by_rows g bytes (Err (Refused SpareBits)) header h = (header.0, header.1, h)
judged_by_rows g bytes (Err Absent) header h = h
judged_by_rows g bytes (Err DeviceFailed) header h = tt
judged_by_rows g bytes (Err Memory) header h = tt
