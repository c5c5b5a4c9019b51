-- What calls on a ground over a device keep, and layers on it: the ground stays on the device where it stood.
use Rattle.std.proofs.Common.{◌≡◌, List, Option, Some, None, refl, sym, subst, ◌∙◌}
use Rattle.std.specs.Prelude.{IfSome}
use Rattle.ygg_base.specs.declared.geometry.Geometry.{Geometry}
use Rattle.ygg_base.specs.declared.outside.Moved.{Moved}
use Rattle.ygg_base.specs.declared.outside.Moved.TheVariants.{Done, Failed}
use Rattle.ygg_base.specs.Devices.{Image, Attachment, Tells, AttachedTurns, ImageTurns}
use Rattle.ygg_run_image.specs.ygg_disk.Disk.{Call}
use Rattle.ygg_run_image.specs.ygg_meaning.Machine.{State, based}
use Rattle.ygg_run_image.specs.ygg_meaning.Stack.{Layers, Stacked}
use Rattle.ygg_run_image.specs.ygg_eval.Lower.{Cause, PowerLoss, GivenUp}
use Rattle.ygg_run_image.specs.ygg_machine.GroundSteps.{ground_machine}
use Rattle.ygg_run_image.specs.Image.{block_bytes}
use Rattle.ygg_run_image.specs.Laws.{AreBlocks}
use Rattle.ygg_run_image.specs.DeviceMeaning.{device_meaning}
use Rattle.ygg_run_image.specs.Sight.{Sight, HoldsImage, Holds}
use Rattle.ygg_run_image.specs.Standing.{KeepsHeader, StaysOn}
use Rattle.ygg_run_image.specs.Turning.{Moves, Turned}
use Rattle.ygg_run_image.proofs.Keeping.{image_same, keeps_both, keeps_same, keeps_turned}
use Rattle.ygg_run_image.specs.Kept.{Keeps}
use Rattle.ygg_run_image.proofs.StackKeeping.{stacked_keeps}

module _ (g : Geometry) (Turns : Attachment → (before now : Image) → Type 0)
    (keep : (a : Attachment) → a.size ≡ block_bytes g → (before now : Image) → AreBlocks g before.view → AreBlocks g before.stable → Turns a before now →
    KeepsHeader g a before now) where
  -- an image that kept its header, and then turned so, keeps it
  image_stays : (a : Attachment) → a.size ≡ block_bytes g → (first mid last : List Image) → ImageTurns (KeepsHeader g a) a.name first mid →
      ImageTurns (Turns a) a.name mid last → ImageTurns (KeepsHeader g a) a.name first last
  image_stays a sized first mid last x y =
      let same : x.new ≡ y.old = image_same mid a.name x.new y.old x.is y.was in
      let kept : KeepsHeader g a x.old y.old = subst (λ (i : Image). KeepsHeader g a x.old i) same x.turns in
      record {
        old = x.old;
        new = y.new;
        was = x.was;
        is = y.is;
        turns = keeps_both g a sized x.old y.old y.new kept (keep a sized y.old y.new kept.view_rows kept.stable_rows y.turns);
        others = λ other apart. y.others other apart ∙ x.others other apart;
      }

  -- so do images that are told
  tells_stays : (a : Attachment) → a.size ≡ block_bytes g → (first mid last : Option (List Image)) → Tells (AttachedTurns (KeepsHeader g) (Some a)) first mid →
      Tells (AttachedTurns Turns (Some a)) mid last → Tells (AttachedTurns (KeepsHeader g) (Some a)) first last
  tells_stays a sized None mid last x y = subst (λ (o : Option (List Image)). Tells (AttachedTurns Turns (Some a)) o last) x y
  tells_stays a sized (Some first) mid last (images, is, x) y =
      let (images', is', y') = subst (λ (o : Option (List Image)). Tells (AttachedTurns Turns (Some a)) o last) is y in
      (images', is', image_stays a sized first images images' x y')

-- a ground that stayed on its device does so after a call, whether it was whole or failed
pub stays_moved : (start s s' : Sight) (call : Call) (moved : Moved) → Holds start.geometry start.images start.attached → StaysOn start s →
    Moves (Turned s.geometry call moved) s s' → StaysOn start s'
stays_moved start s s' call moved h x y =
    let g = start.geometry in
    let a = h.attachment in
    let first = subst (λ (o : Option Attachment). Tells (AttachedTurns (KeepsHeader g) o) start.images s.images) h.is x.images in
    let second = subst (λ (o : Option Attachment). Tells (AttachedTurns (Turned g call moved) o) s.images s'.images) (x.attached ∙ h.is)
    (subst (λ (k : Geometry). Tells (AttachedTurns (Turned k call moved) s.attached) s.images s'.images) x.geometry y.images) in
    record {
      reference = y.reference ∙ x.reference;
      geometry = y.geometry ∙ x.geometry;
      attached = y.attached ∙ x.attached;
      images = subst (λ (o : Option Attachment). Tells (AttachedTurns (KeepsHeader g) o) start.images s'.images) (sym h.is)
          (tells_stays g (Turned g call moved) (λ b sized. keeps_turned g b sized call moved) a h.size start.images s.images s'.images first second);
    }

-- where it stood, it stays
pub stays_there : (start : Sight) → Holds start.geometry start.images start.attached → StaysOn start start
stays_there start h = record {
  reference = refl;
  geometry = refl;
  attached = refl;
  images = subst (λ (o : Option Attachment). Tells (AttachedTurns (KeepsHeader start.geometry) o) start.images start.images) (sym h.is)
      (here start.images h.told);
}
  where
    here : (images : Option (List Image)) → IfSome images (λ told. HoldsImage start.geometry told h.attachment.name) →
        Tells (AttachedTurns (KeepsHeader start.geometry) (Some h.attachment)) images images
    here None t = refl
    here (Some told) t = (
      told,
      refl,
      record {
        old = t.image;
        new = t.image;
        was = t.is;
        is = t.is;
        turns = keeps_same start.geometry h.attachment h.size t.image t.image t.view t.stable refl;
        others = λ other apart. refl;
      },
    )

module _ {S : Type 0} (look : S → Sight) (start : S) (h : Holds (look start).geometry (look start).images (look start).attached) where
  -- the ground stayed on the device where it stood
  abbrev pub Stays : S → Type 0
  Stays s = StaysOn (look start) (look s)

  stays_by : (b b' : S) (call : Call) (moved : Moved) → Stays b → Moves (Turned (look b).geometry call moved) (look b) (look b') → Stays b'
  stays_by b b' call moved i m = stays_moved (look start) (look b) (look b') call moved h i m

  -- a state whose base is this one
  on_base : (s : State S) (b : S) → s ≡ based b → Stays b → Stays s.base
  on_base s b e i = subst (λ (x : State S). Stays x.base) (sym e) i

  base_in : (s : State S) (b : S) → s ≡ based b → Stays s.base → Stays b
  base_in s b e i = subst (λ (x : State S). Stays x.base) e i

  -- so does a whole call, which is made for either cause in the same way
  starts_so : (s : State S) (b : S) → s ≡ based b → b ≡ start → Stays s.base
  starts_so s b e from = on_base s b e (subst (λ (t : S). Stays t) (sym from) (stays_there (look start) h))

  calls_so : (s s' : State S) (b b' : S) (call : Call) → s ≡ based b → s' ≡ based b' → Moves (Turned (look b).geometry call Done) (look b) (look b') →
      Stays s.base → Stays s'.base
  calls_so s s' b b' call e e' m i = on_base s' b' e' (stays_by b b' call Done (base_in s b e i) m)

  -- each step on the ground keeps that, also where it is given up
  pub stays_keeps : (cause : Cause) → Keeps Stays (ground_machine (device_meaning look) cause start)
  stays_keeps PowerLoss = record {
    starts = λ s notes (b, none, e, from). starts_so s b e from;
    calls = λ s name args notes answer s' i (b, b', call, reply, named, e, (picks, is, step, told), y, e'). calls_so s s' b b' call e e' step i;
    falls = λ s name args notes f i (b, call, named, e, (picks, is, step, told)). absurd step;
    ticks = λ s name notes s' i x. absurd x;
    tick_falls = λ s name notes f i x. absurd x;
    loses = λ s notes f i (b, none, e, lost). absurd lost.step;
    wakes = λ f notes s i (none, e). on_base s f e i;
    wake_falls = λ f notes f' i x. absurd x;
  }
  stays_keeps GivenUp = record {
    starts = λ s notes (b, none, e, from). starts_so s b e from;
    calls = λ s name args notes answer s' i (b, b', call, reply, named, e, (picks, is, step, told), y, e'). calls_so s s' b b' call e e' step i;
    falls = λ s name args notes f i (b, call, named, e, (broken, step)). stays_by b f call Failed (base_in s b e i) step;
    ticks = λ s name notes s' i x. absurd x;
    tick_falls = λ s name notes f i x. absurd x;
    loses = λ s notes f i (b, none, e, same). subst (λ (t : S). Stays t) (sym same) (base_in s b e i);
    wakes = λ f notes s i (none, e). on_base s f e i;
    wake_falls = λ f notes f' i x. absurd x;
  }

  -- and so do layers on it
  pub layers_stay : (cause : Cause) (layers : Layers) → Keeps Stays (Stacked (ground_machine (device_meaning look) cause start) layers)
  layers_stay cause layers = stacked_keeps Stays (ground_machine (device_meaning look) cause start) (stays_keeps cause) layers
