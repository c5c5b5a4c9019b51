-- Images whose power has failed, one after the other.
use Rattle.std.proofs.Common.{◌≡◌, ◌<◌, ◌≤◌, ◌+◌, ◌*◌, ℕ, zero, suc, List, [], ◌∷◌, Option, Some, None, length, refl, sym, ap, subst, ◌∙◌}
use Rattle.std.specs.Prelude.{slice_get, slice_set, slice_index_or, All, map, option_map}
use Rattle.std.proofs.lemmas.List.{map-set, length-set, length-map}
use Rattle.std.proofs.lemmas.List.Elements.{All-set}
use Rattle.std.proofs.lemmas.Option.{slice_get-get_or, slice_get_read, slice_get_within}
use Rattle.std.proofs.Math.Numerals.{suc-eq-add-one}
use Rattle.ygg_base.specs.declared.image.Stored.{Stored}
use Rattle.ygg_base.specs.declared.image.Place.{Place}
use Rattle.ygg_base.specs.Devices.{Image, lost}
use Rattle.ygg_base.specs.Ram.{
  image_at,
  images_in,
  seen_at,
  attachment_of,
  IsEven,
  NoneBefore,
  IsSeen,
  ArePlaced,
  AreSeen,
  lost_first,
  HaveLost,
}
use Rattle.ygg_base.proofs.Places.{some_same, attachment, item}

-- one more image loses power
one_more : (images : List Image) (count : ℕ) (image : Image) → slice_get (lost_first count images) count ≡ Some image →
    slice_set (lost_first count images) count (lost image) ≡ lost_first (suc count) images
one_more [] zero image e = absurd (cc e)
one_more [] (suc count) image e = absurd (cc e)
one_more (i ∷ images) zero image e = ap (λ j. lost j ∷ images) (sym (some_same i image e))
one_more (i ∷ images) (suc count) image e = ap (λ js. lost i ∷ js) (one_more images count image e)

image_there : (stored : List Stored) (place : ℕ) (s : Stored) → slice_get stored place ≡ Some s → slice_get (images_in stored) place ≡ Some (image_at s)
image_there [] place s e = absurd (cc e)
image_there (x ∷ stored) zero s e = ap (λ o. option_map image_at o) e
image_there (x ∷ stored) (suc place) s e = image_there stored place s e

even_at : (stored : List Stored) (place : ℕ) (s : Stored) → slice_get stored place ≡ Some s → All IsEven stored → IsEven s
even_at stored place s there even =
    let within = slice_get_within stored place s there in
    subst IsEven (some_same (slice_index_or stored place s) s (sym (slice_get-get_or stored place s within) ∙ there)) (even place s within)

pub none_lost : (stored : List Stored) → All IsEven stored → HaveLost 0 stored stored
none_lost stored even = record { images = refl; even = even }

pub more_lost : (before stored : List Stored) (place : ℕ) (s new : Stored) → HaveLost place before stored → length stored ≡ length before →
    place < length before → s ≡ slice_index_or stored place s → new.name ≡ s.name → new.view.items ≡ s.stable.items → new.stable.items ≡ s.stable.items →
    HaveLost (place + 1) before (slice_set stored place new) × (length (slice_set stored place new) ≡ length before)
more_lost before stored place s new have many within is named view stable =
    let there : slice_get stored place ≡ Some s = slice_get_read stored (length stored) place s refl (subst (λ n. place < n) (sym many) within) is in
    let image : image_at new ≡ lost (image_at s) =
    ap (λ n. record { name = n; view = new.view.items; stable = new.stable.items }) named
    ∙ ap (λ v. record { name = s.name; view = v; stable = new.stable.items }) view
    ∙ ap (λ v. record { name = s.name; view = s.stable.items; stable = v }) stable in
    let found : slice_get (lost_first place (images_in before)) place ≡ Some (image_at s) =
    sym (ap (λ images. slice_get images place) have.images) ∙ image_there stored place s there in
    let lost_now : images_in (slice_set stored place new) ≡ lost_first (suc place) (images_in before) =
    map-set image_at stored place new ∙ ap (λ i. slice_set (images_in stored) place i) image
    ∙ ap (λ images. slice_set images place (lost (image_at s))) have.images ∙ one_more (images_in before) place (image_at s) found in (
      record {
        images = lost_now ∙ ap (λ n. lost_first n (images_in before)) (suc-eq-add-one place);
        even = All-set IsEven stored place new (ap length stable ∙ sym (ap length view)) have.even;
      },
      length-set stored place new ∙ many,
    )

-- where all have lost power
all_first : (before : List Stored) → lost_first (length before) (images_in before) ≡ map lost (images_in before)
all_first [] = refl
all_first (s ∷ before) = ap (λ images. lost (image_at s) ∷ images) (all_first before)

back_there : (stored : List Stored) (place : ℕ) (i : Image) → slice_get (map lost (images_in stored)) place ≡ Some i →
    (s : Stored) × (slice_get stored place ≡ Some s) × (i ≡ lost (image_at s))
back_there [] place i e = absurd (cc e)
back_there (x ∷ stored) zero i e = (x, refl, sym (some_same (lost (image_at x)) i e))
back_there (x ∷ stored) (suc place) i e = back_there stored place i e

module _ (before now : List Stored) (have : HaveLost (length before) before now) (even : All IsEven before) where
  pub all_lost : images_in now ≡ map lost (images_in before)
  all_lost = have.images ∙ all_first before

  as_many : length now ≡ length before
  as_many =
      sym (length-map now image_at) ∙ ap length all_lost ∙ length-map (images_in before) lost ∙ length-map before image_at

  was : (place : ℕ) (t : Stored) → slice_get now place ≡ Some t → (s : Stored) × (slice_get before place ≡ Some s) × (image_at t ≡ lost (image_at s))
  was place t there =
      back_there before place (image_at t) (sym (ap (λ images. slice_get images place) all_lost) ∙ image_there now place t there)

  none_still : (name : List ℕ) (place : ℕ) → NoneBefore before name place → NoneBefore now name place
  none_still name place none k t less there named =
      let old = was k t there in none k old.0 less old.1 (sym (ap (λ (i : Image). i.name) old.2) ∙ named)

  pub seen_still : (attached : Option Place) → AreSeen before attached → AreSeen now attached
  seen_still attached seen p is =
      let placed : ArePlaced before p = seen p is in (
        subst (λ n. p.place < n) (sym as_many) placed.0,
        λ t there.
            let old = was p.place t there in
            let s : Stored = old.0 in
            let named : t.name ≡ s.name = ap (λ (i : Image). i.name) old.2 in
            let viewed : length t.view.items ≡ length s.stable.items = ap (λ (i : Image). length i.view) old.2 in
            let evened : length s.stable.items ≡ length s.view.items = even_at before p.place s old.1 even in
            let wasseen : IsSeen before p s = placed.1 s old.1 in (
              subst (λ n. NoneBefore now n p.place) (sym named) (none_still s.name p.place wasseen.0),
              subst (λ n. p.count * p.size ≤ n) (sym (viewed ∙ evened)) wasseen.1,
            ),
      )

  attachment_still : (p : Place) → ArePlaced before p → attachment_of now (Some p) ≡ attachment_of before (Some p)
  attachment_still p placed =
      let here = item now p (subst (λ n. p.place < n) (sym as_many) placed.0) in
      let old = was p.place here.0 here.1 in
      attachment now p here.0 here.1 ∙ ap (λ (i : Image). Some (seen_at p i.name)) old.2 ∙ sym (attachment before p old.0 old.1)

  pub attached_still : (attached : Option Place) → AreSeen before attached → attachment_of now attached ≡ attachment_of before attached
  attached_still None seen = refl
  attached_still (Some p) seen = attachment_still p (seen p refl)
