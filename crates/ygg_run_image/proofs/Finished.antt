-- What is left of an image that was to be formatted.
use Rattle.std.proofs.Common.{◌≡◌, ◌⊎◌, ℕ, List, Option, Some, None, IfSome, inl, inr, ◌∙◌, subst}
use Rattle.ygg_base.specs.declared.outside.Moved.TheVariants.{Done, Failed}
use Rattle.ygg_run_image.specs.ygg_base.Devices.{AttachedTurns, Attachment, Image, OthersStay, Tells, image_of}
use Rattle.ygg_syntax.specs.declared.tree.File.{File}
use Rattle.ygg_run_image.specs.ygg_type.Typed.{geometry_of}
use Rattle.ygg_run_image.specs.Image.{rows_in}
use Rattle.ygg_run_image.specs.Sight.{Holds, held}
use Rattle.ygg_run_image.specs.declared.end.FormatEnd.{FormatEnd}
use Rattle.ygg_run_image.specs.declared.end.FormatEnd.TheVariants as end
use Rattle.ygg_run_image.specs.Leaving.{
  FinishTurns,
  IsFilled,
  IsFinished,
  IsFormat,
  IsFormattedOn,
  IsUnfinished,
  IsUnsealedAs,
  FormatsImage,
  IsLeft,
  OfImage,
  attachment_for,
}
use Rattle.ygg_run_image.specs.Sealing.{IsFresh, SealTurns}
use Rattle.ygg_run_image.proofs.Alike.{formats_leave}
use Rattle.ygg_run_image.proofs.Sealed.{unsealed}
use Rattle.ygg_run_image.proofs.Turns.{found, turns}

-- the rows of a filled image
format_of : (f : File) (i : Image) → IsFilled f i → IsFormat f (rows_in (geometry_of f.disk) i.view)
format_of f i h = record { formatted = h.formatted; left = formats_leave f (rows_in (geometry_of f.disk) i.view) h.formatted }

-- an image that isn't sealed is unfinished
pub fresh_unfinished : (f : File) (i : Image) → IsFresh (geometry_of f.disk) i → IsUnfinished f i
fresh_unfinished f i h = record {
  view = λ sealed. absurd (unsealed (geometry_of f.disk) i.view h.view sealed);
  stable = λ sealed. absurd (unsealed (geometry_of f.disk) i.stable h.stable sealed);
}

module _ (f : File) (images : Option (List Image)) (attached : Option Attachment) (holds : Holds (geometry_of f.disk) images attached)
    (so : IfSome (held images attached) (IsFilled f)) where
  module _ (now : Option (List Image)) where
    -- it was sealed
    pub finish_done : Tells (AttachedTurns (SealTurns (geometry_of f.disk) Done) attached) images now →
        Tells (AttachedTurns (FinishTurns f end.Done) attached) images now
    finish_done told =
        let g = geometry_of f.disk in
        turns g (IsFilled f) (FinishTurns f end.Done) (SealTurns g Done) (SealTurns g Done) images now attached holds so told
        (λ a i j at h. record { rows = rows_in g i.view; format = format_of f i at.so; bytes = h })

    -- the device failed
    pub finish_failed : Tells (AttachedTurns (SealTurns (geometry_of f.disk) Failed) attached) images now →
        Tells (AttachedTurns (FinishTurns f end.Failed) attached) images now
    finish_failed told =
        let g = geometry_of f.disk in
        turns g (IsFilled f) (FinishTurns f end.Failed) (SealTurns g Failed) (SealTurns g Failed) images now attached holds so told
        (λ a i j at h. record {
          view = λ sealed. (rows_in g i.view, format_of f i at.so, h.0 sealed);
          stable = λ sealed. (rows_in g i.view, format_of f i at.so, h.1 sealed);
        })

-- the image wasn't filled
pub left_unfilled : (f : File) (name : List ℕ) (before now : Option (List Image)) (attached : Option Attachment) →
    (attached ≡ None) ⊎ IsUnsealedAs f name now attached → Tells (OthersStay name) before now → Tells (IsLeft f name attached) before now
left_unfilled f name None now attached h none = none
left_unfilled f name (Some told) now attached h (images, is, others) = (images, is, (others, by_left h))
  where
    by_left : (attached ≡ None) ⊎ IsUnsealedAs f name now attached → (attached ≡ None) ⊎ OfImage (IsUnfinished f) name images
    by_left (inl none) = inl none
    by_left (inr (at, holds, fresh)) =
        let x = found (geometry_of f.disk) (IsFresh (geometry_of f.disk)) images (attachment_for f name)
        (subst (λ (o : Option (List Image)). Holds (geometry_of f.disk) o (Some (attachment_for f name))) is
        (subst (λ (o : Option Attachment). Holds (geometry_of f.disk) now o) at holds))
        (subst (λ (o : Option (List Image)). IfSome (held o (Some (attachment_for f name))) (IsFresh (geometry_of f.disk))) is
        (subst (λ (o : Option Attachment). IfSome (held now o) (IsFresh (geometry_of f.disk))) at fresh)) in
        inr (x.image, x.is, fresh_unfinished f x.image x.attaches.so)

-- it was filled, and then finished or not
pub left_filled : (f : File) (name : List ℕ) (how : FormatEnd) (before mid now : Option (List Image)) (attached attached' : Option Attachment) →
    attached ≡ Some (attachment_for f name) → Tells (OthersStay name) before mid → Tells (AttachedTurns (FinishTurns f how) attached) mid now →
    Tells (FormatsImage f name how attached') before now
left_filled f name how None mid now attached attached' at none turned =
    subst (λ (o : Option (List Image)). Tells (AttachedTurns (FinishTurns f how) attached) o now) none turned
left_filled f name how (Some told) mid now attached attached' at (images, is, others) turned =
    let (ends, ended, one) = subst (λ (o : Option Attachment). Tells (AttachedTurns (FinishTurns f how) o) (Some images) now) at
    (subst (λ (o : Option (List Image)). Tells (AttachedTurns (FinishTurns f how) attached) o now) is turned) in
    (ends, ended, by_end how ends one.old one.new one.is (λ other ne. one.others other ne ∙ others other ne) one.turns)
  where
    by_end : (how : FormatEnd) (ends : List Image) (old new : Image) → image_of ends name ≡ Some new → OthersStay name told ends →
        FinishTurns f how (attachment_for f name) old new → FormatsImage f name how attached' told ends
    by_end end.Done ends old new is others h = (others, (new, is, h))
    by_end end.Failed ends old new is others h = (others, inr (new, is, h))
    by_end end.Memory ends old new is others h = absurd h

-- an image that is formatted is left so
finished_unfinished : (f : File) (i : Image) → IsFinished f i → IsUnfinished f i
finished_unfinished f i h = record { view = λ sealed. (h.rows, h.format, h.bytes.0); stable = λ sealed. (h.rows, h.format, h.bytes.1) }

pub formatted_left : (f : File) (name : List ℕ) (attached : Option Attachment) (before now : Option (List Image)) → Tells (IsFormattedOn f name) before now →
    Tells (IsLeft f name attached) before now
formatted_left f name attached None now h = h
formatted_left f name attached (Some told) now (images, is, (others, (i, there, finished))) =
    (images, is, (others, inr (i, there, finished_unfinished f i finished)))
