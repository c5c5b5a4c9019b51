use Rattle.std.proofs.Common.{sym, ◌∙◌, refl}
use Rattle.std.proofs.lemmas.Result.{on_ok_weaker}
use Rattle.ygg_eval.specs.Layers.{below_at}
use Rattle.ygg_eval_places.specs.Bits.{bits_in}
use Rattle.ygg_eval_places.specs.Belows.{noted_of}
use Rattle.ygg_eval_places.proofs.Watching.{fallen_stays, ends, ends_well}
use Rattle.ygg_eval_places.proofs.below.BelowPlaces.end.Goals as goal

pub returns-then-is_some : goal.returns-then-is_some
returns-then-is_some c =
    let self = c.args.self.now in
    fallen_stays self.typed.now.file self.number (below_at self.typed.now.file self.number) (bits_in self.bits.run) (bits_in self.bits.stops)
    (bits_in self.bits.last) c.args.state.now _ (sym c.is_some.ensures ∙ c.if-is_some.true)

pub returns-then-before : goal.returns-then-before
returns-then-before c =
    let self = c.args.self.now in
    let file = self.typed.now.file in
    on_ok_weaker c.lose.result
    (ends file self.number (below_at file self.number) (bits_in self.bits.run) (bits_in self.bits.stops) (bits_in self.bits.last)
    c.args.state.now (noted_of file self.number c.lose.new.state) (sym c.is_some.ensures ∙ c.if-is_some.false) c.args.place
    (sym c.in_ok-before.ensures ∙ c.if-before.true)) c.lose.ensures

pub returns : goal.returns
returns c =
    let self = c.args.self.now in
    let file = self.typed.now.file in
    ends_well file self.number (below_at file self.number) (bits_in self.bits.run) (bits_in self.bits.stops) (bits_in self.bits.last)
    c.args.state.now (noted_of file self.number c.args.state.now) (sym c.is_some.ensures ∙ c.if-is_some.false) c.args.place
    (sym c.in_ok-before.ensures ∙ c.if-before.false) refl
