use Rattle.std.proofs.Common.{ap}
use Rattle.ygg_sym_spec.specs.ygg_bank.Makes.{Out}
use Rattle.ygg_sym_spec.specs.ygg_bank_proofs_Widths.{extends_both}
use Rattle.ygg_sym_spec.specs.ygg_sym_runs_proofs_Lows.{low_wider}
use Rattle.ygg_sym_spec.specs.Layers.{closed, terms_in}
use Rattle.ygg_oblige_laws.specs.TermStates.{Starting, related_under, settled_under}
use Rattle.ygg_oblige_parts.specs.Makers.{trio_of}
use Rattle.ygg_oblige_parts.proofs.Started.{started_from}
use Rattle.ygg_oblige_parts.proofs.states.Maker.started.Goals as goal

pub settled_under-requires-clause-shaped : goal.settled_under-requires-clause-shaped
settled_under-requires-clause-shaped g c =
    low_wider c.args.bank.now c.related_under.new.bank c.args.self.now.layer.low.now c.args.x.now.low c.related_under.ensures.grows c.requires.shaped.low

pub returns-clause-nodes : goal.returns-clause-nodes
returns-clause-nodes g c =
    let kinds = g.B.Book.kinds c.args.self.now.book.now in
    let l = c.args.self.now.layer in
    let x = trio_of c.args.x.now in
    ap (λ (o : Out Starting). o.nodes)
    (started_from (related_under kinds (terms_in kinds l) (closed l) x c.args.bank.now) (settled_under kinds (terms_in kinds l) (closed l) x.low) x
    c.in_ok-first.first.test c.in_ok-second.second.test c.related_under.new.bank c.settled_under.new.bank (trio_of c.in_ok-first.first.from)
    c.in_ok-second.second.low c.in_ok-first.ensures.test c.in_ok-first.ensures.nodes c.in_ok-first.ensures.from c.in_ok-second.ensures.test
    c.in_ok-second.ensures.nodes c.in_ok-second.ensures.low)

pub returns-clause-form : goal.returns-clause-form
returns-clause-form g c =
    let kinds = g.B.Book.kinds c.args.self.now.book.now in
    let l = c.args.self.now.layer in
    let x = trio_of c.args.x.now in
    ap (λ (o : Out Starting). o.value)
    (started_from (related_under kinds (terms_in kinds l) (closed l) x c.args.bank.now) (settled_under kinds (terms_in kinds l) (closed l) x.low) x
    c.in_ok-first.first.test c.in_ok-second.second.test c.related_under.new.bank c.settled_under.new.bank (trio_of c.in_ok-first.first.from)
    c.in_ok-second.second.low c.in_ok-first.ensures.test c.in_ok-first.ensures.nodes c.in_ok-first.ensures.from c.in_ok-second.ensures.test
    c.in_ok-second.ensures.nodes c.in_ok-second.ensures.low)

pub returns-clause-grows : goal.returns-clause-grows
returns-clause-grows g c =
    extends_both c.args.bank.now c.related_under.new.bank c.settled_under.new.bank c.related_under.ensures.grows c.settled_under.ensures.grows
