use Rattle.std.proofs.Common.{sym, ◌∙◌, arith}
use Rattle.ygg_eval_places.proofs.ChoiceNoting.{if_ok}
use Rattle.ygg_eval_places.proofs.Spaces.{block_there, space_disk, space_none, space_there}
use Rattle.ygg_eval_places.proofs.below.BelowPlacesPlaces.space.Goals as goal

pub returns-then-self-eq0 : goal.returns-then-self-eq0
returns-then-self-eq0 c =
    let self = c.args.self.now in space_disk self.typed.now.file self.number c.args.name.now c.if-self-eq0.true

pub choices_room-requires : goal.choices_room-requires
choices_room-requires c =
    let self = c.args.self.now in
    let other = c.if-self-eq0.false in
    record {
      there = block_there self.typed.now.file self.number c.args.name.now (omega (arith, other)) c.requires.serves.there c.in-Some.number
          (sym c.operation.ensures ∙ c.in-Some.is);
    }

pub returns-in_ok-room-in-Some : goal.returns-in_ok-room-in-Some
returns-in_ok-room-in-Some c =
    let self = c.args.self.now in
    let other = c.if-self-eq0.false in
    if_ok c.add.result c.add.ensures (λ n sum. sum ∙ space_there self.typed.now.file self.number c.args.name.now (omega (arith, other))
    c.requires.serves.there c.in-Some.number c.in_ok-room-in-Some.room (sym c.operation.ensures ∙ c.in-Some.is) c.in_ok-room-in-Some.ensures.room)

pub returns-in-None : goal.returns-in-None
returns-in-None c =
    let self = c.args.self.now in
    let other = c.if-self-eq0.false in
    space_none self.typed.now.file self.number c.args.name.now (omega (arith, other)) c.requires.serves.there (sym c.operation.ensures ∙ c.in-None.is)
