-- Images by their names and by their places.
use Rattle.std.proofs.Common.{◌≡◌, ◌<◌, ◌≤◌, ◌+◌, ◌*◌, ◌++◌, ℕ, zero, suc, Bool, true, false, List, []}
use Rattle.std.proofs.Common.{◌∷◌, Option, Some, None, inl, inr, ◌⊎◌, length, refl, sym, ap, subst, ◌∙◌, arith}
use Rattle.std.specs.Prelude.{slice_get, slice_set, slice_index_or, if◌then◌else◌, All, option_map}
use Rattle.std.specs.Str.{bytes_eq}
use Rattle.std.proofs.lemmas.List.Elements.{All-set}
use Rattle.std.proofs.lemmas.Option.{slice_get_cases, slice_get_read, slice_get_within}
use Rattle.std.proofs.lemmas.Slice.Eq.{bytes_eq-Decides}
use Rattle.std.proofs.Math.Nat.{eq-or-lt_of_le}
use Rattle.ygg_base.specs.declared.image.Stored.{Stored}
use Rattle.ygg_base.specs.declared.image.Place.{Place}
use Rattle.ygg_base.specs.Devices.{Image, Attachment, image_of, OthersStay, AttachedTurns, ImageTurns}
use Rattle.ygg_base.specs.Ram.{image_at, images_in, seen_at, attachment_of, IsEven, NoneBefore, IsPlaceOf, IsSeen, ArePlaced, IsTurned}

pub some_same : {X : Type 0} (a b : X) → Some a ≡ Some b → a ≡ b
some_same a b e = cc e

module _ {X : Type 0} where
  -- an item that is set is found, and those before it are as they were
  pub get_set : (xs : List X) (i : ℕ) (x y : X) → slice_get xs i ≡ Some x → slice_get (slice_set xs i y) i ≡ Some y
  get_set [] zero x y e = absurd (cc e)
  get_set [] (suc i) x y e = absurd (cc e)
  get_set (z ∷ xs) zero x y e = refl
  get_set (z ∷ xs) (suc i) x y e = get_set xs i x y e

  pub get_before : (xs : List X) (i j : ℕ) (y : X) → j < i → slice_get (slice_set xs i y) j ≡ slice_get xs j
  get_before [] i j y less = refl
  get_before (z ∷ xs) zero j y less = absurd (omega (arith, less))
  get_before (z ∷ xs) (suc i) zero y less = refl
  get_before (z ∷ xs) (suc i) (suc j) y less = get_before xs i j y (omega (arith, less))

  -- an item that is added is found, and the others are as they were
  pub get_added : (xs : List X) (y : X) → slice_get (xs ++ y ∷ []) (length xs) ≡ Some y
  get_added [] y = refl
  get_added (z ∷ xs) y = get_added xs y

  pub get_kept : (xs : List X) (y : X) (j : ℕ) → j < length xs → slice_get (xs ++ y ∷ []) j ≡ slice_get xs j
  get_kept [] y j less = absurd (omega (arith, less))
  get_kept (z ∷ xs) y zero less = refl
  get_kept (z ∷ xs) y (suc j) less = get_kept xs y j (omega (arith, less))

-- two names that differ
differs : (a b : List ℕ) → (a ≡ b → ⊥) → bytes_eq a b ≡ false
differs a b apart = by (bytes_eq a b) refl
  where
    by : (t : Bool) → bytes_eq a b ≡ t → bytes_eq a b ≡ false
    by true e = absurd (apart ((bytes_eq-Decides a b).0 e))
    by false e = e

-- the first image of a list, by its name and by another one
here : (i : Image) (images : List Image) (name : List ℕ) → i.name ≡ name → image_of (i ∷ images) name ≡ Some i
here i images name e = ap (λ t. if t then Some i else image_of images name) ((bytes_eq-Decides i.name name).1 e)

later : (i : Image) (images : List Image) (name : List ℕ) → (i.name ≡ name → ⊥) → image_of (i ∷ images) name ≡ image_of images name
later i images name apart = ap (λ t. if t then Some i else image_of images name) (differs i.name name apart)

-- behind the first image, none of that name comes before the place before
behind : (s : Stored) (stored : List Stored) (name : List ℕ) (place : ℕ) → NoneBefore (s ∷ stored) name (suc place) → NoneBefore stored name place
behind s stored name place none before t less there = none (suc before) t (omega (arith, less)) there

-- where none has the name, there is none of that name
pub none_of : (stored : List Stored) (name : List ℕ) → NoneBefore stored name (length stored) → image_of (images_in stored) name ≡ None
none_of [] name none = refl
none_of (s ∷ stored) name none =
    later (image_at s) (images_in stored) name (none 0 s (omega arith) refl) ∙ none_of stored name (behind s stored name (length stored) none)

-- the first one of its name is the image of that name
pub found_of : (stored : List Stored) (place : ℕ) (s : Stored) (name : List ℕ) → slice_get stored place ≡ Some s → s.name ≡ name →
    NoneBefore stored name place → image_of (images_in stored) name ≡ Some (image_at s)
found_of [] place s name there named none = absurd (cc there)
found_of (x ∷ stored) zero s name there named none =
    let same : x ≡ s = some_same x s there in
    here (image_at x) (images_in stored) name (ap (λ (t : Stored). t.name) same ∙ named) ∙ ap (λ t. Some (image_at t)) same
found_of (x ∷ stored) (suc place) s name there named none =
    later (image_at x) (images_in stored) name (none 0 x (omega arith) refl) ∙ found_of stored place s name there named (behind x stored name place none)

-- where the image at a place has another one's name in the end, no other name has another image
pub others_set : (stored : List Stored) (place : ℕ) (s new : Stored) (name : List ℕ) → slice_get stored place ≡ Some s → s.name ≡ name → new.name ≡ name →
    OthersStay name (images_in stored) (images_in (slice_set stored place new))
others_set [] place s new name there was is other apart = refl
others_set (x ∷ stored) zero s new name there was is other apart =
    let same : x.name ≡ name = ap (λ (t : Stored). t.name) (some_same x s there) ∙ was in
    later (image_at new) (images_in stored) other (λ e. apart (sym e ∙ is)) ∙ sym (later (image_at x) (images_in stored) other (λ e. apart (sym e ∙ same)))
others_set (x ∷ stored) (suc place) s new name there was is other apart =
    ap (λ r. if bytes_eq x.name other then Some (image_at x) else r) (others_set stored place s new name there was is other apart)

-- where an image is added, no other name has another image
pub others_added : (stored : List Stored) (new : Stored) (name : List ℕ) → new.name ≡ name →
    OthersStay name (images_in stored) (images_in (stored ++ new ∷ []))
others_added [] new name is other apart = later (image_at new) [] other (λ e. apart (sym e ∙ is))
others_added (x ∷ stored) new name is other apart =
    ap (λ r. if bytes_eq x.name other then Some (image_at x) else r) (others_added stored new name is other apart)

-- before the place of an image that is set, or added, there is no more of that name than before
pub none_set : (stored : List Stored) (place : ℕ) (new : Stored) (name : List ℕ) → NoneBefore stored name place →
    NoneBefore (slice_set stored place new) name place
none_set stored place new name none before t less there = none before t less (sym (get_before stored place before new less) ∙ there)

pub none_added : (stored : List Stored) (new : Stored) (name : List ℕ) → NoneBefore stored name (length stored) →
    NoneBefore (stored ++ new ∷ []) name (length stored)
none_added stored new name none before t less there = none before t less (sym (get_kept stored new before less) ∙ there)

-- an image that is placed
pub item : (stored : List Stored) (p : Place) → p.place < length stored → (s : Stored) × (slice_get stored p.place ≡ Some s)
item stored p within = by (slice_get_cases stored p.place).1
  where
    by : ((s : Stored) × (p.place < length stored) × (slice_get stored p.place ≡ Some s) × (slice_index_or stored p.place s ≡ s))
        ⊎ ((length stored ≤ p.place) × (slice_get stored p.place ≡ None)) → (s : Stored) × (slice_get stored p.place ≡ Some s)
    by (inl is) = (is.0, is.2)
    by (inr past) = absurd (omega (arith, past.0, within))

-- what is attached, where the image at its place stands
pub attachment : (stored : List Stored) (p : Place) (s : Stored) → slice_get stored p.place ≡ Some s →
    attachment_of stored (Some p) ≡ Some (seen_at p s.name)
attachment stored p s e = ap (λ o. option_map (λ (s : Stored). seen_at p s.name) o) e

module _ (Turns : Attachment → (before now : Image) → Type 0) (p : Place) (before now : List Stored) (placed : ArePlaced before p)
    (t : IsTurned Turns p before now) where
  seen : IsSeen before p t.old
  seen = placed.1 t.old t.stands

  now_there : slice_get now p.place ≡ Some t.new
  now_there = ap (λ xs. slice_get xs p.place) t.is ∙ get_set before p.place t.old t.new t.stands

  none_now : NoneBefore now t.new.name p.place
  none_now =
      subst (λ (xs : List Stored). NoneBefore xs t.new.name p.place) (sym t.is)
      (none_set before p.place t.new t.new.name (subst (λ name. NoneBefore before name p.place) (sym t.named) seen.0))

  -- an image that is turned is seen as before, and so are all even
  pub turned_even : All IsEven before → All IsEven now
  turned_even even = subst (λ (xs : List Stored). All IsEven xs) (sym t.is) (All-set IsEven before p.place t.new t.even even)

  pub turned_attachment : attachment_of now (Some p) ≡ attachment_of before (Some p)
  turned_attachment =
      attachment now p t.new now_there ∙ ap (λ name. Some (seen_at p name)) t.named
      ∙ sym (attachment before p t.old t.stands)

  -- and it is what turns, by its name
  turned_image : ImageTurns (Turns (seen_at p t.old.name)) t.old.name (images_in before) (images_in now)
  turned_image = record {
    old = image_at t.old;
    new = image_at t.new;
    was = found_of before p.place t.old t.old.name t.stands refl seen.0;
    is = found_of now p.place t.new t.old.name now_there t.named (subst (λ name. NoneBefore now name p.place) t.named none_now);
    turns = t.turns;
    others =
        subst (λ (xs : List Stored). OthersStay t.old.name (images_in before) (images_in xs)) (sym t.is)
        (others_set before p.place t.old t.new t.old.name t.stands refl t.named);
  }

  pub turned : AttachedTurns Turns (attachment_of before (Some p)) (images_in before) (images_in now)
  turned =
      subst (λ (o : Option Attachment). AttachedTurns Turns o (images_in before) (images_in now)) (sym (attachment before p t.old t.stands)) turned_image

  -- and seen as before
  pub turned_placed : ArePlaced now p
  turned_placed = (
    slice_get_within now p.place t.new now_there,
    λ s there. subst (λ (n : Stored). IsSeen now p n) (some_same t.new s (sym now_there ∙ there))
        (none_now, subst (λ bytes. p.count * p.size ≤ bytes) (sym t.many) seen.1),
  )

-- the image at a place, whose name is compared
module _ (stored : List Stored) (name bytes : List ℕ) (place : ℕ) (s : Stored) (found : Bool) (within : place < length stored)
    (is : s ≡ slice_index_or stored place s) (read : bytes ≡ s.name) (tested : found ≡ bytes_eq bytes name) (none : NoneBefore stored name place) where
  stands : slice_get stored place ≡ Some s
  stands = slice_get_read stored (length stored) place s refl within is

  pub place_found : found ≡ true → IsPlaceOf stored name (Some place)
  place_found e = (within, s, stands, sym read ∙ (bytes_eq-Decides bytes name).0 (sym tested ∙ e), none)

  pub none_later : found ≡ false → NoneBefore stored name (place + 1)
  none_later e before t less there named = by (eq-or-lt_of_le (omega (arith, less)))
    where
      apart : (u : Stored) → slice_get stored place ≡ Some u → u.name ≡ name → ⊥
      apart u at same =
          let equal : bytes ≡ name = read ∙ ap (λ (v : Stored). v.name) (some_same s u (sym stands ∙ at)) ∙ same in
          let true_is : found ≡ true = tested ∙ (bytes_eq-Decides bytes name).1 equal in
          absurd (cc)

      by : (before ≡ place) ⊎ (before < place) → ⊥
      by (inl same) = apart t (sym (ap (λ k. slice_get stored k) same) ∙ there) named
      by (inr sooner) = none before t sooner there named
