use Rattle.std.proofs.Common.{sym, ◌∙◌, refl}
use Rattle.std.proofs.lemmas.Result.{on_ok_weaker}
use Rattle.ygg_eval.specs.ygg_meaning.Progress.{Call}
use Rattle.ygg_eval.specs.Layers.{below_at}
use Rattle.ygg_eval_places.specs.Bits.{bits_in}
use Rattle.ygg_eval_places.specs.Belows.{noted_of}
use Rattle.ygg_eval_places.proofs.Watching.{fallen_stays, fails_before, fails_not, fails_within}
use Rattle.ygg_eval_places.proofs.below.BelowPlaces.watch.Goals as goal

pub returns-then-is_some : goal.returns-then-is_some
returns-then-is_some c =
    let self = c.args.self.now in
    fallen_stays self.typed.now.file self.number (below_at self.typed.now.file self.number) (bits_in self.bits.run) (bits_in self.bits.stops)
    (bits_in self.bits.last) c.args.state.now _ (sym c.is_some.ensures ∙ c.if-is_some.true)

pub lose-requires-clause-serves : goal.lose-requires-clause-serves
lose-requires-clause-serves c = c.requires.serves

pub lose-requires-clause-good : goal.lose-requires-clause-good
lose-requires-clause-good c = c.requires.good

pub returns-then-before : goal.returns-then-before
returns-then-before c =
    let self = c.args.self.now in
    let file = self.typed.now.file in
    on_ok_weaker c.lose.result
    (fails_before file self.number (below_at file self.number) (bits_in self.bits.run) (bits_in self.bits.stops) (bits_in self.bits.last)
    c.args.state.now (noted_of file self.number c.lose.new.state) (sym c.is_some.ensures ∙ c.if-is_some.false) c.args.place
    (Call c.args.name.now c.args.args.now) (sym c.in_ok-before.ensures ∙ c.if-before.true)) c.lose.ensures

pub returns-then-within : goal.returns-then-within
returns-then-within c =
    let self = c.args.self.now in
    let file = self.typed.now.file in
    on_ok_weaker c.cut.result
    (fails_within file self.number (below_at file self.number) (bits_in self.bits.run) (bits_in self.bits.stops) (bits_in self.bits.last)
    c.args.state.now (noted_of file self.number c.cut.new.state) (sym c.is_some.ensures ∙ c.if-is_some.false) c.args.place
    (Call c.args.name.now c.args.args.now) (sym c.in_ok-before.ensures ∙ c.if-before.false) (sym c.in_ok-within.ensures ∙ c.if-within.true)) c.cut.ensures

pub returns : goal.returns
returns c =
    let self = c.args.self.now in
    let file = self.typed.now.file in
    fails_not file self.number (below_at file self.number) (bits_in self.bits.run) (bits_in self.bits.stops) (bits_in self.bits.last)
    c.args.state.now (noted_of file self.number c.args.state.now) (sym c.is_some.ensures ∙ c.if-is_some.false) c.args.place
    (Call c.args.name.now c.args.args.now) (sym c.in_ok-before.ensures ∙ c.if-before.false) (sym c.in_ok-within.ensures ∙ c.if-within.false) refl
