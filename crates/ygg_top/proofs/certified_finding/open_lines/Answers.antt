use Rattle.std.proofs.Common.{◌<◌, ℕ, subst}
use Rattle.ygg_top.proofs.Failing.{place_within, fits_at, refuted_end, undecided_end}
use Rattle.ygg_top.proofs.certified_finding.open_lines.Goals as goal

pub last_refuted-requires-clause-within : goal.last_refuted-requires-clause-within
last_refuted-requires-clause-within g c = place_within c.args.findings.now c.in-Some.place c.in-Some.env.now c.in-Some.ensures

pub last_refuted-requires-clause-there : goal.last_refuted-requires-clause-there
last_refuted-requires-clause-there g c =
    subst (λ (n : ℕ). c.in-Some.place < n) c.requires.each (place_within c.args.findings.now c.in-Some.place c.in-Some.env.now c.in-Some.ensures)

pub last_refuted-requires-clause-fit : goal.last_refuted-requires-clause-fit
last_refuted-requires-clause-fit g c =
    fits_at (g.B.Book.kinds c.args.rules.now) c.args.typed.now.file c.args.findings.now c.in-Some.place c.in-Some.env.now c.in-Some.ensures
    c.requires.fit

pub returns-in-Some : goal.returns-in-Some
returns-in-Some g c =
    refuted_end (g.B.Book.kinds c.args.rules.now) c.args.typed.now.file c.args.findings.now c.in-Some.place c.in-Some.env.now c.last_refuted.result
    c.in-Some.ensures c.last_refuted.ensures

pub returns-in-None : goal.returns-in-None
returns-in-None g c =
    undecided_end (g.B.Book.kinds c.args.rules.now) c.args.typed.now.file c.args.findings.now c.last_undecided.result c.in-None.ensures c.requires.unheld
    c.last_undecided.ensures
