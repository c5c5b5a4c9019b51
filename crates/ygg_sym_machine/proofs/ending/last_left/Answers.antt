use Rattle.ygg_sym_runs.specs.ygg_bank_proofs_Widths.{extends_both}
use Rattle.ygg_sym_machine.specs.Halting.{first_made, halted_of, halting_meaning, last_left_made}
use Rattle.ygg_sym_machine.proofs.Chains.{form_as, last_from, nodes_as}
use Rattle.ygg_sym_machine.proofs.Lasting.{can_last}
use Rattle.ygg_sym_machine.proofs.Leaving.{joined_if}
use Rattle.ygg_sym_machine.proofs.Standing.{lose_there, single_both, single_if, stands_later}
use Rattle.ygg_sym_machine.proofs.ending.last_left.Goals as goal

pub first-requires-clause-other : goal.first-requires-clause-other
first-requires-clause-other g c = let st = c.requires.stands in let h = st.has in h.2

pub lose-requires : goal.lose-requires
lose-requires g c =
    let M = g.W.SymLower.means c.args.stops.now in
    let K = g.W.SymStops.power c.args.stops.now in
    let z = halted_of c.args.to.now c.args.fallen.now c.args.stopped in
    let st = stands_later (halting_meaning M K) c.args.bank.now c.first.new.bank z c.first.ensures.grows c.in_ok-ends.ensures.single c.requires.stands in
    record { loses = lose_there M K c.first.new.bank z st }

pub join-requires : goal.join-requires
join-requires g c =
    let M = g.W.SymLower.means c.args.stops.now in
    let K = g.W.SymStops.power c.args.stops.now in
    let low = g.met.W.SymLower.keeps c.args.stops.now in
    let power = g.met.W.SymStops.keeps_power c.args.stops.now in
    let kinds = g.B.Book.kinds c.args.book.now in
    let z = halted_of c.args.to.now c.args.fallen.now c.args.stopped in
    let can = can_last M K low power kinds z c.args.bank.now c.first.new.bank c.lose.new.bank c.in_ok-ends.ends c.in_ok-lost.lost c.requires.stands
    c.first.ensures.grows c.in_ok-ends.ensures.single c.in_ok-ends.ensures.width c.lose.ensures.bank c.lose.ensures.grows c.in_ok-lost.ensures.nodes
    c.in_ok-lost.ensures.form in
    record { merges = can }

pub returns-clause-has : goal.returns-clause-has
returns-clause-has g c =
    let M = g.W.SymLower.means c.args.stops.now in
    let K = g.W.SymStops.power c.args.stops.now in
    let low = g.met.W.SymLower.keeps c.args.stops.now in
    let power = g.met.W.SymStops.keeps_power c.args.stops.now in
    let kinds = g.B.Book.kinds c.args.book.now in
    let z = halted_of c.args.to.now c.args.fallen.now c.args.stopped in
    let can = can_last M K low power kinds z c.args.bank.now c.first.new.bank c.lose.new.bank c.in_ok-ends.ends c.in_ok-lost.lost c.requires.stands
    c.first.ensures.grows c.in_ok-ends.ensures.single c.in_ok-ends.ensures.width c.lose.ensures.bank c.lose.ensures.grows c.in_ok-lost.ensures.nodes
    c.in_ok-lost.ensures.form in
    joined_if M K low power kinds c.in_ok-ends.ends c.in_ok-lost.lost c.args.fallen.now c.lose.new.bank c.join.new.bank c.join.result can
    c.join.ensures.bank c.join.ensures.nodes c.join.ensures.form

pub returns-clause-single : goal.returns-clause-single
returns-clause-single g c =
    single_if c.args.bank.now c.lose.new.bank c.join.new.bank c.join.result
    (single_both c.args.bank.now c.first.new.bank c.lose.new.bank c.in_ok-ends.ensures.single c.in_ok-lost.ensures.single) c.join.ensures.single

pub returns-in_err-lost-clause-grows : goal.returns-in_err-lost-clause-grows
returns-in_err-lost-clause-grows g c =
    extends_both c.args.bank.now c.first.new.bank c.lose.new.bank c.first.ensures.grows c.lose.ensures.grows

pub returns-clause-grows : goal.returns-clause-grows
returns-clause-grows g c =
    extends_both c.args.bank.now c.first.new.bank c.join.new.bank c.first.ensures.grows
    (extends_both c.first.new.bank c.lose.new.bank c.join.new.bank c.lose.ensures.grows c.join.ensures.grows)

pub returns-clause-nodes : goal.returns-clause-nodes
returns-clause-nodes g c =
    let M = g.W.SymLower.means c.args.stops.now in
    let K = g.W.SymStops.power c.args.stops.now in
    let kinds = g.B.Book.kinds c.args.book.now in
    let z = halted_of c.args.to.now c.args.fallen.now c.args.stopped in
    nodes_as (K.join kinds c.in_ok-ends.ends c.in_ok-lost.lost c.args.fallen.now c.lose.new.bank)
    (last_left_made M K kinds c.args.here z c.args.bank.now) c.join.new.bank c.join.result
    (last_from (first_made kinds c.args.stopped c.args.here) (K.lose kinds c.args.to.now) (K.join kinds) c.in_ok-ends.ends c.args.fallen.now
    c.in_ok-lost.lost c.args.bank.now c.first.new.bank c.lose.new.bank c.in_ok-ends.ensures.form c.in_ok-ends.ensures.nodes c.in_ok-lost.ensures.form
    c.in_ok-lost.ensures.nodes) c.join.ensures.nodes

pub returns-clause-form : goal.returns-clause-form
returns-clause-form g c =
    let M = g.W.SymLower.means c.args.stops.now in
    let K = g.W.SymStops.power c.args.stops.now in
    let kinds = g.B.Book.kinds c.args.book.now in
    let z = halted_of c.args.to.now c.args.fallen.now c.args.stopped in
    form_as (K.join kinds c.in_ok-ends.ends c.in_ok-lost.lost c.args.fallen.now c.lose.new.bank)
    (last_left_made M K kinds c.args.here z c.args.bank.now) c.join.result
    (last_from (first_made kinds c.args.stopped c.args.here) (K.lose kinds c.args.to.now) (K.join kinds) c.in_ok-ends.ends c.args.fallen.now
    c.in_ok-lost.lost c.args.bank.now c.first.new.bank c.lose.new.bank c.in_ok-ends.ensures.form c.in_ok-ends.ensures.nodes c.in_ok-lost.ensures.form
    c.in_ok-lost.ensures.nodes) c.join.ensures.form
