use Rattle.std.proofs.Common.{◌∙◌, ◌++◌, ap, false}
use Rattle.ygg_eval.specs.ygg_meaning.Machine.{Picks}
use Rattle.ygg_eval_places.specs.ygg_sym_laws.Fronts.{lose_on, lose_takes_on}
use Rattle.ygg_eval.specs.Layers.{below_at}
use Rattle.ygg_eval_places.specs.Bits.{bits_in}
use Rattle.ygg_eval_places.specs.Belows.{noted_of}
use Rattle.ygg_eval_places.proofs.Watching.{fell_noted}
use Rattle.ygg_eval_places.proofs.below.BelowPlaces.lose.Goals as goal

pub lose-requires-clause-there : goal.lose-requires-clause-there
lose-requires-clause-there c = c.requires.serves.there

pub lose-requires-clause-low : goal.lose-requires-clause-low
lose-requires-clause-low c = c.requires.good.shaped

pub returns : goal.returns
returns c =
    let self = c.args.self.now in
    let file = self.typed.now.file in
    let G = below_at file self.number in
    let last = bits_in self.bits.last in
    let state = c.args.state.now in
    let at = (noted_of file self.number state).at in
    let fell = c.in_ok-low.ensures in
    ap (noted_of file self.number) c.falls.ensures
    ∙ fell_noted file self.number state false c.in_ok-low.low c.lose.new.picks (lose_takes_on G last at) (lose_on G last at) fell.base fell.fit
    (fell.taken ∙ ap (λ (ps : Picks). ps ++ lose_takes_on G last at) c.in_ok-picks.ensures)
