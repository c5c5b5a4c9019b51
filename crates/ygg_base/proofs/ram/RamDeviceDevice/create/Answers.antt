use Rattle.std.proofs.Common.{List, ◌≡◌, ◌*◌, refl, ap, sym, subst, ◌∙◌}
use Rattle.std.specs.Prelude.{length, replicate}
use Rattle.ygg_base.specs.declared.image.Stored.{Stored}
use Rattle.ygg_base.specs.Devices.{OthersStay, image_of}
use Rattle.ygg_base.specs.Ram.{images_in}
use Rattle.ygg_base.proofs.Attached.{created_others, created_image, created_seen}
use Rattle.ygg_base.proofs.ram.RamDeviceDevice.create.Goals as goal

pub returns-clause-told : goal.returns-clause-told
returns-clause-told c =
    let middle : List Stored = c.fails_now.new.self.stored.items in
    let now : List Stored = c.add.new.stored.items in
    let name = c.args.name.now in
    let bytes = c.args.count * c.args.size in
    let image = c.in-Ok.image in
    let place = c.in-Ok-add.place in
    let view : image.view.items ≡ replicate bytes 0 = c.in-Ok.ensures.view ∙ ap (λ n. replicate n 0) c.start_of.ensures in
    let stable : image.stable.items ≡ replicate bytes 0 = c.in-Ok.ensures.stable ∙ ap (λ n. replicate n 0) c.start_of.ensures in
    let added = c.in-Ok-add.ensures.ok in (
      images_in now,
      refl,
      (
        subst (λ v. OthersStay name (images_in v.items) (images_in now)) c.fails_now.ensures.stored
            (created_others middle now image place name bytes added c.in-Ok.ensures.named view stable),
        created_image middle now image place name bytes added c.in-Ok.ensures.named view stable,
      ),
    )

pub returns-then-fails_now-clause-told : goal.returns-then-fails_now-clause-told
returns-then-fails_now-clause-told c =
    (images_in c.fails_now.new.self.stored.items, refl, λ other others. ap (λ st. image_of (images_in st.items) other) c.fails_now.ensures.stored)

pub returns-in_default-clause-told : goal.returns-in_default-clause-told
returns-in_default-clause-told c =
    (images_in c.fails_now.new.self.stored.items, refl, λ other others. ap (λ st. image_of (images_in st.items) other) c.fails_now.ensures.stored)

pub returns-in_default-add-clause-told : goal.returns-in_default-add-clause-told
returns-in_default-add-clause-told c =
    let same = c.in_default-add.ensures.err ∙ ap (λ st. st.items) c.fails_now.ensures.stored in
    (images_in c.add.new.stored.items, refl, λ other others. ap (λ st. image_of (images_in st) other) same)

pub invariant_of-self-2-clause-even : goal.invariant_of-self-2-clause-even
invariant_of-self-2-clause-even c = c.in-Ok-add.ensures.ok.even

pub invariant_of-self-2-clause-seen : goal.invariant_of-self-2-clause-seen
invariant_of-self-2-clause-seen c = created_seen c.fails_now.new.self.stored.items c.add.new.stored.items c.in-Ok.image c.in-Ok-add.place c.args.name.now
    (c.args.count * c.args.size) c.in-Ok-add.ensures.ok c.in-Ok.ensures.named (c.in-Ok.ensures.view ∙ ap (λ n. replicate n 0) c.start_of.ensures)
    (c.in-Ok.ensures.stable ∙ ap (λ n. replicate n 0) c.start_of.ensures) c.args.size c.args.count refl

pub add-requires-clause-image : goal.add-requires-clause-image
add-requires-clause-image c = ap length (c.in-Ok.ensures.stable ∙ sym c.in-Ok.ensures.view)
