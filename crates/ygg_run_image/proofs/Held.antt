-- What the image is that a ground holds, of which it is only known that it is one.
use Rattle.std.proofs.Common.{◌≡◌, ℕ, ◌+◌, ◌<◌, List, Option, Some, None, refl, sym, ap, ◌∙◌, subst, arith}
use Rattle.std.proofs.Math.Logic.{∥∥₁_elim, ∥∥₁_map}
use Rattle.std.proofs.Math.Nat.{ℕ_set}
use Rattle.std.proofs.Props.{props}
use Rattle.std.specs.Coded.{Coded-set, coded_list, coded_ℕ}
use Rattle.std.specs.Prelude.{IfSome}
use Rattle.ygg_base.specs.declared.geometry.Geometry.{Geometry}
use Rattle.ygg_base.specs.Devices.{Image, Attachment, image_of, IsAttached, IsBlock}
use Rattle.ygg_value.specs.Shapes.{IsShape}
use Rattle.ygg_disk.specs.Size.{table_shape}
use Rattle.ygg_run_image.specs.Image.{block_bytes}
use Rattle.ygg_run_image.specs.Laws.{AreBlocks}
use Rattle.ygg_run_image.proofs.ImageRows.{row_block-words, row_block-is}
use Rattle.ygg_run_image.specs.Sight.{HoldsImage, Holds}

none_some : {X : Type 0} (x : X) → None ≡ Some x → ⊥
none_some x e = cc e

some_same : {X : Type 0} (a b : X) → Some a ≡ Some b → a ≡ b
some_same a b e = cc e

limits_prop : (g : Geometry) → IsProp (IsShape (table_shape g))
limits_prop g = hlevel props

-- bytes of which it is known that they hold rows do so
pub blocks_here : (g : Geometry) (bytes : List ℕ) → ∥ AreBlocks g bytes ∥₁ → AreBlocks g bytes
blocks_here g bytes h = record {
  limits = ∥∥₁_elim h (limits_prop g) (λ x. x.limits);
  whole = ∥∥₁_elim h (ℕ_set _ _) (λ x. x.whole);
  rows = λ place within.
      row_block-is g _ (∥∥₁_elim h (Coded-set (coded_list coded_ℕ) _ _) (λ x. row_block-words g _ (x.rows place within)));
}

module _ (g : Geometry) where
  image_here : (told : List Image) (name : List ℕ) → ∥ HoldsImage g told name ∥₁ → HoldsImage g told name
  image_here told name h = by_image (image_of told name) refl
    where
      by_image : (o : Option Image) → image_of told name ≡ o → HoldsImage g told name
      by_image None is = absurd (∥∥₁_elim h (λ x y. absurd x) (λ x. none_some x.image (sym is ∙ x.is)))
      by_image (Some image) is = record {
        image = image;
        is = is;
        view = blocks_here g image.view (∥∥₁_map h (λ x. of_view x (some_same x.image image (sym x.is ∙ is))));
        stable = blocks_here g image.stable (∥∥₁_map h (λ x. of_stable x (some_same x.image image (sym x.is ∙ is))));
      }
        where
          of_view : (x : HoldsImage g told name) → x.image ≡ image → AreBlocks g image.view
          of_view x e = subst (λ (i : Image). AreBlocks g i.view) e x.view

          of_stable : (x : HoldsImage g told name) → x.image ≡ image → AreBlocks g image.stable
          of_stable x e = subst (λ (i : Image). AreBlocks g i.stable) e x.stable

  -- what is known to be held is held
  pub holds_here : (images : Option (List Image)) (attached : Option Attachment) → ∥ Holds g images attached ∥₁ → Holds g images attached
  holds_here images None h = absurd (∥∥₁_elim h (λ x y. absurd x) (λ x. none_some x.attachment x.is))
  holds_here images (Some a) h = record {
    limits = ∥∥₁_elim h (limits_prop g) (λ x. x.limits);
    attachment = a;
    is = refl;
    size = ∥∥₁_elim h (ℕ_set _ _) (λ x. ap (λ (b : Attachment). b.size) (some_same a x.attachment x.is) ∙ x.size);
    count = ∥∥₁_elim h (ℕ_set _ _) (λ x. ap (λ (b : Attachment). b.count) (some_same a x.attachment x.is) ∙ x.count);
    told = told_here images h;
  }
    where
      told_here : (images : Option (List Image)) → ∥ Holds g images (Some a) ∥₁ → IfSome images (λ told. HoldsImage g told a.name)
      told_here None h = tt
      told_here (Some told) h = image_here told a.name (∥∥₁_map h (λ x. named x (some_same a x.attachment x.is)))
        where
          named : (x : Holds g (Some told) (Some a)) → a ≡ x.attachment → HoldsImage g told a.name
          named x e = subst (λ (b : Attachment). HoldsImage g told b.name) (sym e) x.told

  module _ (images : Option (List Image)) (attached : Option Attachment) (h : ∥ Holds g images attached ∥₁) where
    -- the disk keeps the limits
    pub limits_here : IsShape (table_shape g)
    limits_here = (holds_here images attached h).limits

    -- an image is attached
    pub attached_here : IsAttached attached
    attached_here = let x = holds_here images attached h in subst (λ (o : Option Attachment). IsAttached o) (sym x.is) tt

    -- it has a block for each row
    pub block_here : (at bytes : ℕ) → at < g.rows → bytes ≡ block_bytes g → IsBlock attached (at + 1) bytes
    block_here at bytes within is =
        let x = holds_here images attached h in
        subst (λ (o : Option Attachment). IsBlock o (at + 1) bytes) (sym x.is) (omega (arith, within, x.count), is ∙ sym x.size)
