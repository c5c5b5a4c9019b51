-- The image that is attached, and how it is attached.
use Rattle.std.proofs.Common.{◌≡◌, ◌≤◌, ◌*◌, ◌++◌, ℕ, List, [], ◌∷◌, Option, Some, None, inl, length, refl, sym, ap, subst, ◌∙◌, arith}
use Rattle.std.specs.Prelude.{slice_get, slice_set, slice_index_or, All, option_map, replicate}
use Rattle.std.proofs.lemmas.List.Elements.{All-set, All-push}
use Rattle.std.proofs.lemmas.List.{length-replicate}
use Rattle.std.proofs.lemmas.Option.{slice_get-get_or, slice_get_within}
use Rattle.ygg_base.specs.declared.outside.Moved.TheVariants.{Done, Failed}
use Rattle.ygg_base.specs.declared.image.Stored.{Stored}
use Rattle.ygg_base.specs.declared.image.Place.{Place}
use Rattle.ygg_base.specs.Devices.{Image, Attachment, image_of, block_at, blocks_in, zeros}
use Rattle.ygg_base.specs.Devices.{Reads, Writes, Flushes, OthersStay, AttachedTurns, ImageTurns}
use Rattle.ygg_base.specs.Ram.{
  image_at,
  images_in,
  seen_at,
  attachment_of,
  IsEven,
  NoneBefore,
  IsPlaceOf,
  IsSeen,
  ArePlaced,
  AreSeen,
  IsTurned,
  AreTurned,
  IsSeenAs,
  IsAdded,
}
use Rattle.ygg_base.proofs.Places.{
  some_same,
  item,
  get_set,
  get_added,
  found_of,
  others_set,
  others_added,
  none_set,
  none_added,
  attachment,
  turned_even,
  turned_placed,
  turned_attachment,
  turned,
}

-- an image that turns where it is attached
pub attached_turned : (Turns : Attachment → (before now : Image) → Type 0) (attached : Option Place) (p : Place) (before now : List Stored) →
    attached ≡ Some p → All IsEven before → AreSeen before attached → IsTurned Turns p before now → AreTurned Turns attached before now
attached_turned Turns attached p before now is even seen t =
    let placed : ArePlaced before p = seen p is in
    subst (λ (o : Option Place). AreTurned Turns o before now) (sym is) (record {
      even = turned_even Turns p before now placed t even;
      seen = λ q e. subst (λ (r : Place). ArePlaced now r) (some_same p q e) (turned_placed Turns p before now placed t);
      still = turned_attachment Turns p before now placed t;
      turns = turned Turns p before now placed t;
    })

-- one that is read where it is attached
pub attached_read : (block : ℕ) (stored : List Stored) (attached : Option Place) (p : Place) (into : List ℕ) → attached ≡ Some p → AreSeen stored attached →
    ((s : Stored) → slice_get stored p.place ≡ Some s → into ≡ block_at p.size block s.view.items) →
    Reads block (Some (images_in stored)) (attachment_of stored attached) Done into
attached_read block stored attached p into is seen reads =
    let placed : ArePlaced stored p = seen p is in
    let here = item stored p placed.0 in
    let s : Stored = here.0 in
    let found = found_of stored p.place s s.name here.1 refl (placed.1 s here.1).0 in
    let read : option_map (λ (image : Image). block_at p.size block image.view) (image_of (images_in stored) s.name) ≡ Some into =
    ap (λ o. option_map (λ (image : Image). block_at p.size block image.view) o) found ∙ ap (λ bytes. Some bytes) (sym (reads s here.1)) in
    subst (λ (o : Option Place). Reads block (Some (images_in stored)) (attachment_of stored o) Done into) (sym is)
    (subst (λ (o : Option Attachment). Reads block (Some (images_in stored)) o Done into) (sym (attachment stored p s here.1)) read)

-- nothing has turned, where that is one way to turn
module _ (Turns : Attachment → (before now : Image) → Type 0) (still : (a : Attachment) (image : Image) → Turns a image image) (stored : List Stored) where
  placed_still : (p : Place) → ArePlaced stored p → AttachedTurns Turns (attachment_of stored (Some p)) (images_in stored) (images_in stored)
  placed_still p placed =
      let here = item stored p placed.0 in
      let s : Stored = here.0 in
      let found = found_of stored p.place s s.name here.1 refl (placed.1 s here.1).0 in
      let turns : ImageTurns (Turns (seen_at p s.name)) s.name (images_in stored) (images_in stored) = record {
        old = image_at s;
        new = image_at s;
        was = found;
        is = found;
        turns = still (seen_at p s.name) (image_at s);
        others = λ other apart. refl;
      } in
      subst (λ (o : Option Attachment). AttachedTurns Turns o (images_in stored) (images_in stored)) (sym (attachment stored p s here.1)) turns

  attached_still : (attached : Option Place) → AreSeen stored attached →
      AttachedTurns Turns (attachment_of stored attached) (images_in stored) (images_in stored)
  attached_still None seen = tt
  attached_still (Some p) seen = placed_still p (seen p refl)

-- after a write that failed, and a flush that did
pub write_failed : (block : ℕ) (from : List ℕ) (stored : List Stored) (attached : Option Place) → AreSeen stored attached →
    AttachedTurns (Writes block from Failed) (attachment_of stored attached) (images_in stored) (images_in stored)
write_failed block from stored attached seen = attached_still (Writes block from Failed) (λ a image. (inl refl, inl refl)) stored attached seen

pub flush_failed : (stored : List Stored) (attached : Option Place) → AreSeen stored attached →
    AttachedTurns (Flushes Failed) (attachment_of stored attached) (images_in stored) (images_in stored)
flush_failed stored attached seen = attached_still (Flushes Failed) (λ a image. (refl, (refl, λ place. inl refl))) stored attached seen

-- an image that is found, as it is seen
pub seen_found : (stored : List Stored) (name : List ℕ) (size place count bytes : ℕ) (any : Stored) → IsPlaceOf stored name (Some place) → All IsEven stored →
    bytes ≡ length (slice_index_or stored place any).view.items → count ≡ blocks_in size bytes → count * size ≤ bytes →
    IsSeenAs stored name size (record { place = place; size = size; count = count }) bytes
seen_found stored name size place count bytes any found even many counted fits =
    let p : Place = record { place = place; size = size; count = count } in
    let s : Stored = found.1 in
    let there : slice_get stored place ≡ Some s = found.2 in
    let same : slice_index_or stored place any ≡ s = some_same (slice_index_or stored place any) s (sym (slice_get-get_or stored place any found.0) ∙ there) in
    let viewed : length s.view.items ≡ bytes = sym (many ∙ ap (λ (t : Stored). length t.view.items) same) in
    let is_even : IsEven s = subst IsEven same (even place any found.0) in
    record {
      image = image_at s;
      is = found_of stored place s name there found.3 found.4;
      viewed = viewed;
      even = is_even ∙ viewed;
      placed = (
        found.0,
        λ t at. subst (λ (u : Stored). IsSeen stored p u) (some_same s t (sym there ∙ at))
            (subst (λ n. NoneBefore stored n place) (sym found.3) found.4, subst (λ n. count * size ≤ n) (sym viewed) fits),
      );
      attached =
          attachment stored p s there ∙ ap (λ n. Some (seen_at p n)) found.3 ∙ ap (λ k. Some (record { name = name; size = size; count = k })) counted;
    }

module _ (stored given : List Stored) (new : Stored) (bytes : List ℕ) (same : given ≡ stored) (read : bytes ≡ new.name) (even : All IsEven stored)
    (new_even : IsEven new) where
  -- an image that is put in the place of another one
  pub replaced : (place : ℕ) → IsPlaceOf given bytes (Some place) → IsAdded stored new (slice_set stored place new) place
  replaced place is =
      let found : IsPlaceOf stored new.name (Some place) =
      subst (λ n. IsPlaceOf stored n (Some place)) read (subst (λ (xs : List Stored). IsPlaceOf xs bytes (Some place)) same is) in
      record {
        even = All-set IsEven stored place new new_even even;
        stands = get_set stored place found.1 new found.2;
        first = none_set stored place new new.name found.4;
        others = others_set stored place found.1 new new.name found.2 found.3 refl;
      }

  -- one that is put at the end
  pub appended : (place : ℕ) (now : List Stored) → IsPlaceOf given bytes None → now ≡ stored ++ new ∷ [] → place ≡ length stored → IsAdded stored new now place
  appended place now is e at =
      let none : NoneBefore stored new.name (length stored) =
      subst (λ n. NoneBefore stored n (length stored)) read (subst (λ (xs : List Stored). NoneBefore xs bytes (length xs)) same is) in
      subst (λ (xs : List Stored). IsAdded stored new xs place) (sym e) (subst (λ k. IsAdded stored new (stored ++ new ∷ []) k) (sym at) (record {
        even = All-push IsEven stored new even new_even;
        stands = get_added stored new;
        first = none_added stored new new.name none;
        others = others_added stored new new.name refl;
      }))

-- what is made where an image of zeros is added
module _ (before now : List Stored) (new : Stored) (place : ℕ) (name : List ℕ) (bytes : ℕ) (added : IsAdded before new now place) (named : new.name ≡ name)
    (view : new.view.items ≡ replicate bytes 0) (stable : new.stable.items ≡ replicate bytes 0) where
  pub created_others : OthersStay name (images_in before) (images_in now)
  created_others = subst (λ n. OthersStay n (images_in before) (images_in now)) named added.others

  pub created_image : image_of (images_in now) name ≡ Some (zeros name bytes)
  created_image =
      found_of now place new name added.stands named (subst (λ n. NoneBefore now n place) named added.first)
      ∙ ap (λ n. Some (record { name = n; view = new.view.items; stable = new.stable.items })) named
      ∙ ap (λ v. Some (record { name = name; view = v; stable = new.stable.items })) view
      ∙ ap (λ v. Some (record { name = name; view = replicate bytes 0; stable = v })) stable

  -- it is seen in blocks that are as many bytes
  pub created_seen : (size count : ℕ) → count * size ≡ bytes → AreSeen now (Some (record { place = place; size = size; count = count }))
  created_seen size count whole = λ p is.
      let r : Place = record { place = place; size = size; count = count } in
      let viewed : length new.view.items ≡ bytes = ap length view ∙ length-replicate bytes 0 in
      subst (λ (q : Place). ArePlaced now q) (some_same r p is) (
        slice_get_within now place new added.stands,
        λ s stands. subst (λ t. IsSeen now r t) (some_same new s (sym added.stands ∙ stands)) (added.first, omega (arith, whole, viewed)),
      )
