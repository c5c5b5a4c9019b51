use Rattle.std.proofs.Common.{◌↔◌, IsTrue, subst}
use Rattle.ygg_cnf.specs.declared.lit.Lit.{Lit}
use Rattle.ygg_watch.proofs.TrailLemmas.{entry_within}
use Rattle.ygg_watch.specs.Trail.{IsOnTrail}
use Rattle.ygg_watch.proofs.assignments.Assignments.is_false.Goals as goal

pub returns : goal.returns
returns c =
    let trail = c.args.self.now.entries.items in
    let is : IsTrue c.is_true.result ↔ IsOnTrail trail _ =
    subst (λ (y : Lit). IsTrue c.is_true.result ↔ IsOnTrail trail y) c.complement.ensures c.is_true.ensures in (
      (λ t. let (q, (e, (h, s))) = is.0 t in (q, (e, (entry_within trail q e h, (h, s))))),
      (λ (q, (e, (l, (h, s)))). is.1 (q, (e, (h, s)))),
    )
