use Rattle.std.proofs.Common.{refl}
use Rattle.ygg_top.proofs.Failing.{refuting_at}
use Rattle.ygg_top.proofs.certified_finding.last_refuted.Goals as goal

pub returns : goal.returns
returns g c = (
  refl,
  refuting_at (g.B.Book.kinds c.args.rules.now) c.args.typed.now.file c.args.findings.now c.args.place c.args.env.now c.index-findings-place.result
      c.in_ok-text.text c.requires.within c.in_ok-text.ensures,
)
