use Rattle.std.proofs.Common.{◌∙◌, ◌++◌, ap, true}
use Rattle.ygg_eval.specs.ygg_meaning.Machine.{Picks}
use Rattle.ygg_eval.specs.ygg_meaning.Progress.{Call}
use Rattle.ygg_eval_places.specs.ygg_sym_laws.Fronts.{cut_on, cut_takes_on}
use Rattle.ygg_eval.specs.Layers.{below_at}
use Rattle.ygg_eval_places.specs.Bits.{bits_in}
use Rattle.ygg_eval_places.specs.Belows.{noted_of}
use Rattle.ygg_eval_places.proofs.Watching.{fell_noted}
use Rattle.ygg_eval_places.proofs.below.BelowPlaces.cut.Goals as goal

pub cut-requires-clause-there : goal.cut-requires-clause-there
cut-requires-clause-there c = c.requires.serves.there

pub cut-requires-clause-low : goal.cut-requires-clause-low
cut-requires-clause-low c = c.requires.good.shaped

pub cut-requires-clause-asks : goal.cut-requires-clause-asks
cut-requires-clause-asks c = c.requires.fits

pub returns : goal.returns
returns c =
    let self = c.args.self.now in
    let file = self.typed.now.file in
    let G = below_at file self.number in
    let last = bits_in self.bits.last in
    let q = Call c.args.name.now c.args.args.now in
    let state = c.args.state.now in
    let at = (noted_of file self.number state).at in
    let fell = c.in_ok-low.ensures in
    ap (noted_of file self.number) c.falls.ensures
    ∙ fell_noted file self.number state true c.in_ok-low.low c.cut.new.picks (cut_takes_on G last q at) (cut_on G last q at) fell.base fell.fit
    (fell.taken ∙ ap (λ (ps : Picks). ps ++ cut_takes_on G last q at) c.in_ok-picks.ensures)
