use Rattle.std.proofs.Common.{◌≡◌, ℕ, suc, ◌+◌, true, subst, arith}
use Rattle.ygg_sched.specs.ygg_meaning.Shapes.{values_fit}
use Rattle.ygg_eval.specs.Layers.{variables_at}
use Rattle.ygg_eval.proofs.OnSpec.{fits_at}
use Rattle.ygg_replay.proofs.site.ReplaySite.specification.Goals as goal

pub spec_lower-requires-clause-state : goal.spec_lower-requires-clause-state
spec_lower-requires-clause-state c =
    let s = c.args.self.now in
    let next : suc s.place ≡ s.place + 1 = omega arith in
    subst (λ (n : ℕ). values_fit (variables_at s.typed.now.file n) c.args.state ≡ true) next
    (fits_at s.typed.now.file s.place s.layer.now c.args.state c.requires.here c.requires.fits)
