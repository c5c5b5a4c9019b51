use Rattle.std.proofs.Common.{sym, refl}
use Rattle.std.proofs.lemmas.Bool.{false≢true}
use Rattle.ygg_watch.proofs.TrailLemmas.{fresh_place}
use Rattle.ygg_watch.proofs.StatusLemmas.{has_value}
use Rattle.ygg_watch.proofs.assignments.Assignments.assigned.Goals as goal

pub returns-clause-some : goal.returns-clause-some
returns-clause-some c =
    let s = c.in_ok-entry.ensures.some in
    has_value c.args.self.now.entries.items c.args.var _ s.0 s.1

pub returns-clause-none : goal.returns-clause-none
returns-clause-none c =
    let s = c.in_ok-entry.ensures.some in (
      λ e. absurd (false≢true (sym e)),
      λ none. absurd (none (fresh_place c.args.self.now.entries.items s.1.0 c.in_ok-entry.entry c.args.var s.1.1 s.0)),
    )

pub returns-in_err-entry-clause-none : goal.returns-in_err-entry-clause-none
returns-in_err-entry-clause-none c = (λ _. c.in_err-entry.ensures.none, λ _. rw c.from_residual.ensures refl)

pub returns-in_err-entry-clause-some : goal.returns-in_err-entry-clause-some
returns-in_err-entry-clause-some c = rw c.from_residual.ensures tt
