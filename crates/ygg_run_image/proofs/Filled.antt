-- An image that is created, and formatted.
use Rattle.std.proofs.Common.{◌≡◌, ◌⊎◌, ℕ, ◌+◌, ◌*◌, ◌≤◌, List, take, replicate, Option, Some, None, IfSome, inl, inr, refl, sym, ap, ◌∙◌, subst, arith}
use Rattle.std.proofs.Math.Nat.{suc-mul}
use Rattle.std.proofs.lemmas.List.{take-replicate}
use Rattle.ygg_base.specs.declared.geometry.Geometry.{Geometry}
use Rattle.ygg_run_image.specs.ygg_base.Devices.{AttachedTurns, Attachment, Image, IsCreated, Tells, image_of, zeros}
use Rattle.ygg_run_image.specs.ygg_base.declared.device.Made.TheVariants as made
use Rattle.ygg_value.specs.Shapes.{IsShape}
use Rattle.ygg_run_image.specs.ygg_disk.Size.{table_shape}
use Rattle.ygg_syntax.specs.declared.tree.File.{File}
use Rattle.ygg_run_image.specs.ygg_type.Typed.{geometry_of}
use Rattle.ygg_run_image.specs.Image.{block_bytes, image_bytes, rows_in}
use Rattle.ygg_run_image.specs.Laws.{AreBlocks}
use Rattle.ygg_run_image.proofs.Images.{zeros-held}
use Rattle.ygg_run_image.specs.Sight.{held}
use Rattle.ygg_run_image.specs.Standing.{KeepsHeader}
use Rattle.ygg_run_image.specs.declared.end.FormatEnd.{FormatEnd}
use Rattle.ygg_run_image.specs.declared.end.FormatEnd.TheVariants as end
use Rattle.ygg_run_image.specs.Formatted.{AreFormatted}
use Rattle.ygg_run_image.specs.Leaving.{Fills, IsBlank, IsFilled, attachment_for}
use Rattle.ygg_run_image.specs.Sealing.{IsFresh, IsUnsealed}
use Rattle.ygg_run_image.proofs.Turns.{After, after}

-- the image of the name is attached, and all zeros
abbrev IsBlankAs : File → List ℕ → Option (List Image) → Type 0
IsBlankAs f name images = After (geometry_of f.disk) (IsBlank (geometry_of f.disk)) images (Some (attachment_for f name))

-- it was created so
created : (f : File) → IsShape (table_shape (geometry_of f.disk)) → (name : List ℕ) (bytes : ℕ) → bytes ≡ image_bytes (geometry_of f.disk) →
    (before images : Option (List Image)) → Tells (IsCreated name bytes made.Done) before images → IsBlankAs f name images
created f limits name bytes many None images none =
    subst (IsBlankAs f name) (sym none)
    (record { holds = record { limits = limits; attachment = attachment_for f name; is = refl; size = refl; count = refl; told = tt }; so = tt })
created f limits name bytes many (Some old) images (now, ends, (others, there)) =
    let g = geometry_of f.disk in
    let image : image_of now name ≡ Some (zeros name (image_bytes g)) = there ∙ ap (λ (n : ℕ). Some (zeros name n)) many in
    let blocks : AreBlocks g (replicate (image_bytes g) 0) = (zeros-held g limits).0 in
    subst (IsBlankAs f name) (sym ends) (record {
      holds = record {
        limits = limits;
        attachment = attachment_for f name;
        is = refl;
        size = refl;
        count = refl;
        told = record { image = zeros name (image_bytes g); is = image; view = blocks; stable = blocks };
      };
      so = subst (λ (o : Option Image). IfSome o (IsBlank g)) (sym image) (refl, refl);
    })

-- the image was created, by the size of the disk
pub record IsMade (f : File) (name : List ℕ) (images : Option (List Image)) (attached : Option Attachment) : Type 0 where
  pub at : attached ≡ Some (attachment_for f name)
  pub blank : After (geometry_of f.disk) (IsBlank (geometry_of f.disk)) images attached

pub is_made : (f : File) (h : Geometry) → h ≡ geometry_of f.disk → IsShape (table_shape h) → (size : ℕ) → size ≡ block_bytes h → (name : List ℕ)
    (before images : Option (List Image)) (attached : Option Attachment) →
    attached ≡ Some (record { name = name; size = size; count = h.rows + 1 }) → Tells (IsCreated name ((h.rows + 1) * size) made.Done) before images →
    IsMade f name images attached
is_made f h same limits size sized name before images attached is told =
    let by_size : size ≡ block_bytes (geometry_of f.disk) = sized ∙ ap block_bytes same in
    let at : attached ≡ Some (attachment_for f name) =
    is ∙ ap (λ (n : ℕ). Some (record { name = name; size = n; count = h.rows + 1 })) by_size
    ∙ ap (λ (x : Geometry). Some (record { name = name; size = block_bytes (geometry_of f.disk); count = x.rows + 1 })) same in
    let many : (h.rows + 1) * size ≡ image_bytes (geometry_of f.disk) =
    ap (λ (n : ℕ). (h.rows + 1) * n) by_size ∙ ap (λ (x : Geometry). (x.rows + 1) * block_bytes (geometry_of f.disk)) same in
    record {
      at = at;
      blank = subst (λ (o : Option Attachment). After (geometry_of f.disk) (IsBlank (geometry_of f.disk)) images o) (sym at)
          (created f (subst (λ (x : Geometry). IsShape (table_shape x)) same limits) name ((h.rows + 1) * size) many before images told);
    }

-- zeros begin with zeros
blank_first : (g : Geometry) (bytes : List ℕ) → bytes ≡ replicate (image_bytes g) 0 → IsUnsealed g bytes
blank_first g bytes is =
    let fits : block_bytes g ≤ image_bytes g = let more = suc-mul g.rows (block_bytes g) in omega (arith, more) in
    ap (take (block_bytes g)) is ∙ take-replicate (block_bytes g) (image_bytes g) 0 fits

-- so it does where the header was kept
kept_fresh : (g : Geometry) (a : Attachment) (i j : Image) → IsBlank g i → KeepsHeader g a i j → IsFresh g j
kept_fresh g a i j blank k = record { view = k.view_first ∙ blank_first g i.view blank.0; stable = by_first k.stable_first }
  where
    by_first : (take (block_bytes g) j.stable ≡ take (block_bytes g) i.stable) ⊎ (take (block_bytes g) j.stable ≡ take (block_bytes g) i.view) →
        IsUnsealed g j.stable
    by_first (inl h) = h ∙ blank_first g i.stable blank.1
    by_first (inr h) = h ∙ blank_first g i.view blank.0

-- the rows of an image are those of a format
abbrev HoldsFormat : File → Image → Type 0
HoldsFormat f i = AreFormatted f (rows_in (geometry_of f.disk) i.view)

both : (f : File) (o : Option Image) → IfSome o (IsFresh (geometry_of f.disk)) → IfSome o (HoldsFormat f) → IfSome o (IsFilled f)
both f None fresh rows = tt
both f (Some i) fresh rows = record { fresh = fresh; formatted = rows }

-- and all layers were formatted on it
pub filled : (f : File) (name : List ℕ) (how : FormatEnd) (images now : Option (List Image)) (attached attached' : Option Attachment) →
    attached ≡ Some (attachment_for f name) → After (geometry_of f.disk) (IsBlank (geometry_of f.disk)) images attached → attached' ≡ attached →
    Tells (AttachedTurns (KeepsHeader (geometry_of f.disk)) attached) images now →
    (how ≡ end.Done → IfSome (held now attached') (HoldsFormat f)) → Fills f name how now attached'
filled f name how images now attached attached' is blank still told rows = by_end how rows
  where
    left : After (geometry_of f.disk) (IsFresh (geometry_of f.disk)) now attached'
    left =
        let g = geometry_of f.disk in
        after g (IsBlank g) (IsFresh g) (KeepsHeader g) images now attached attached' blank.holds blank.so still told
        (λ a i j at k. (k.view_rows, k.stable_rows, kept_fresh g a i j at.so k))

    by_end : (how : FormatEnd) → (how ≡ end.Done → IfSome (held now attached') (HoldsFormat f)) → Fills f name how now attached'
    by_end end.Done rows = (still ∙ is, left.holds, both f (held now attached') left.so (rows refl))
    by_end end.Failed rows = inr (still ∙ is, left.holds, left.so)
    by_end end.Memory rows = inr (still ∙ is, left.holds, left.so)
