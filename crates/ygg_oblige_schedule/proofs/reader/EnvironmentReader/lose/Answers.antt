use Rattle.std.proofs.Common.{ℕ, Bool, [], subst, arith}
use Rattle.std.proofs.lemmas.Option.{slice_get_within}
use Rattle.ygg_eval_places.specs.Steps.{FellBetween}
use Rattle.ygg_oblige_schedule.specs.Here.{file_of}
use Rattle.ygg_eval_places.proofs.ChoiceNoting.{if_ok}
use Rattle.ygg_oblige_schedule.proofs.reader.EnvironmentReader.lose.Goals as goal

pub lose_fronts-requires-clause-there : goal.lose_fronts-requires-clause-there
lose_fronts-requires-clause-there c =
    let r = c.args.self.now in
    let within = slice_get_within (file_of r).layers r.site.place r.site.layer.now c.requires.here.here in omega (arith, within)

pub returns : goal.returns
returns c =
    let r = c.args.self.now in
    if_ok c.lose_fronts.result c.lose_fronts.ensures.lost (λ lost h.
    subst (λ (bits : ℕ → Bool). FellBetween (file_of r) r.site.place bits c.args.low.now lost.low [] lost.picks) c.choices-last.ensures h)
