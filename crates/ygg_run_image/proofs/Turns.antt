-- What one turn of the attached image after another makes of it.
use Rattle.std.proofs.Common.{◌≡◌, ◌+◌, List, Option, Some, None, IfSome, refl, sym, ap, ◌∙◌, subst}
use Rattle.ygg_base.specs.declared.geometry.Geometry.{Geometry}
use Rattle.ygg_run_image.specs.ygg_base.Devices.{Image, Attachment, AttachedTurns, Tells, image_of}
use Rattle.ygg_run_image.specs.Image.{block_bytes}
use Rattle.ygg_run_image.specs.Laws.{AreBlocks}
use Rattle.ygg_run_image.specs.Sight.{Holds, held}

-- an image is attached as that of a disk, holds rows, and this is so of it
pub record Attaches (g : Geometry) (P : Image → Type 0) (a : Attachment) (i : Image) : Type 0 where
  pub size : a.size ≡ block_bytes g
  pub count : a.count ≡ g.rows + 1
  pub view : AreBlocks g i.view
  pub stable : AreBlocks g i.stable
  pub so : P i

-- the attached image
pub record Found (g : Geometry) (P : Image → Type 0) (a : Attachment) (told : List Image) : Type 0 where
  pub image : Image
  pub is : image_of told a.name ≡ Some image
  pub attaches : Attaches g P a image

pub some_same : {X : Type 0} (x y : X) → Some x ≡ Some y → x ≡ y
some_same x y e = cc e

pub not_none : {X : Type 0} (x : X) → None ≡ Some x → ⊥
not_none x e = absurd (cc e)

pub found : (g : Geometry) (P : Image → Type 0) (told : List Image) (a : Attachment) → Holds g (Some told) (Some a) → IfSome (held (Some told) (Some a)) P →
    Found g P a told
found g P told a h so =
    let same : a ≡ h.attachment = some_same a h.attachment h.is in
    let is : image_of told a.name ≡ Some h.told.image = ap (λ (x : Attachment). image_of told x.name) same ∙ h.told.is in
    record {
      image = h.told.image;
      is = is;
      attaches = record {
        size = ap (λ (x : Attachment). x.size) same ∙ h.size;
        count = ap (λ (x : Attachment). x.count) same ∙ h.count;
        view = h.told.view;
        stable = h.told.stable;
        so = subst (λ (o : Option Image). IfSome o P) is so;
      };
    }

module _ (g : Geometry) (P : Image → Type 0) (Turn First Second : Attachment → (before now : Image) → Type 0) where
  -- the image turned so; so it turned in another sense
  pub turns : (images y : Option (List Image)) (attached : Option Attachment) → Holds g images attached → IfSome (held images attached) P →
      Tells (AttachedTurns First attached) images y → ((a : Attachment) (i j : Image) → Attaches g P a i → First a i j → Turn a i j) →
      Tells (AttachedTurns Turn attached) images y
  turns None y attached h so first to = first
  turns (Some told) y None h so first to = absurd (not_none h.attachment h.is)
  turns (Some told) y (Some a) h so (mid, is, one) to =
      let f = found g P told a h so in
      let same : f.image ≡ one.old = some_same f.image one.old (sym f.is ∙ one.was) in (
        mid,
        is,
        record {
          old = one.old;
          new = one.new;
          was = one.was;
          is = one.is;
          turns = to a one.old one.new (subst (Attaches g P a) same f.attaches) one.turns;
          others = one.others;
        },
      )

  -- and again
  pub turns_twice : (images y z : Option (List Image)) (attached attached' : Option Attachment) → Holds g images attached → IfSome (held images attached) P →
      attached' ≡ attached → Tells (AttachedTurns First attached) images y → Tells (AttachedTurns Second attached') y z →
      ((a : Attachment) (i j k : Image) → Attaches g P a i → First a i j → Second a j k → Turn a i k) → Tells (AttachedTurns Turn attached) images z
  turns_twice None y z attached attached' h so still first second join =
      subst (λ (o : Option (List Image)). Tells (AttachedTurns Second attached') o z) first second
  turns_twice (Some told) y z None attached' h so still first second join = absurd (not_none h.attachment h.is)
  turns_twice (Some told) y z (Some a) attached' h so still (mid, is, one) second join =
      let f = found g P told a h so in
      let same : f.image ≡ one.old = some_same f.image one.old (sym f.is ∙ one.was) in
      let (now, ends, two) = subst (λ (o : Option Attachment). Tells (AttachedTurns Second o) (Some mid) z) still
      (subst (λ (o : Option (List Image)). Tells (AttachedTurns Second attached') o z) is second) in
      let met : two.old ≡ one.new = some_same two.old one.new (sym two.was ∙ one.is) in (
        now,
        ends,
        record {
          old = one.old;
          new = two.new;
          was = one.was;
          is = two.is;
          turns = join a one.old one.new two.new (subst (Attaches g P a) same f.attaches) one.turns (subst (λ (x : Image). Second a x two.new) met two.turns);
          others = λ other ne. two.others other ne ∙ one.others other ne;
        },
      )

-- it is as before
pub unturned : (g : Geometry) (P : Image → Type 0) (Turn : Attachment → (before now : Image) → Type 0) (images : Option (List Image))
    (attached : Option Attachment) →
    Holds g images attached → IfSome (held images attached) P → ((a : Attachment) (i : Image) → Attaches g P a i → Turn a i i) →
    Tells (AttachedTurns Turn attached) images images
unturned g P Turn None attached h so to = refl
unturned g P Turn (Some told) None h so to = absurd (not_none h.attachment h.is)
unturned g P Turn (Some told) (Some a) h so to =
    let f = found g P told a h so in
    (told, refl, record { old = f.image; new = f.image; was = f.is; is = f.is; turns = to a f.image f.attaches; others = λ other ne. refl })

-- what is so of the attached image after it turned
pub record After (g : Geometry) (Q : Image → Type 0) (images : Option (List Image)) (attached : Option Attachment) : Type 0 where
  pub holds : Holds g images attached
  pub so : IfSome (held images attached) Q

module _ (g : Geometry) (P Q : Image → Type 0) (First : Attachment → (before now : Image) → Type 0) where
  pub after : (images y : Option (List Image)) (attached attached' : Option Attachment) → Holds g images attached → IfSome (held images attached) P →
      attached' ≡ attached → Tells (AttachedTurns First attached) images y →
      ((a : Attachment) (i j : Image) → Attaches g P a i → First a i j → AreBlocks g j.view × AreBlocks g j.stable × Q j) → After g Q y attached'
  after images y attached attached' h so still first to =
      subst (λ (o : Option Attachment). After g Q y o) (sym still) (at images attached h so first)
    where
      at : (images : Option (List Image)) (attached : Option Attachment) → Holds g images attached → IfSome (held images attached) P →
          Tells (AttachedTurns First attached) images y → After g Q y attached
      at None attached h so first = subst (λ (o : Option (List Image)). After g Q o attached) (sym first) (record {
        holds = record { limits = h.limits; attachment = h.attachment; is = h.is; size = h.size; count = h.count; told = tt };
        so = tt;
      })
      at (Some told) None h so first = absurd (not_none h.attachment h.is)
      at (Some told) (Some a) h so (mid, is, one) =
          let f = found g P told a h so in
          let same : f.image ≡ one.old = some_same f.image one.old (sym f.is ∙ one.was) in
          let (view, stable, so) = to a one.old one.new (subst (Attaches g P a) same f.attaches) one.turns in
          subst (λ (o : Option (List Image)). After g Q o (Some a)) (sym is) (record {
            holds = record {
              limits = h.limits;
              attachment = a;
              is = refl;
              size = f.attaches.size;
              count = f.attaches.count;
              told = record { image = one.new; is = one.is; view = view; stable = stable };
            };
            so = subst (λ (o : Option Image). IfSome o Q) (sym one.is) so;
          })
