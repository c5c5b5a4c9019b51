use Rattle.std.proofs.Common.{◌+◌}
use Rattle.ygg_sym_spec.specs.ygg_bank.Inputs.{InputsBelow}
use Rattle.ygg_oblige_laws.specs.TermStates.{fresh_all, words_in}
use Rattle.ygg_sym_spec.specs.ygg_sym_runs.Lows.{LowShaped}
use Rattle.ygg_sym_spec.proofs.Carried.{on_value, on_nodes}
use Rattle.ygg_oblige_laws.proofs.Fresh.{all_below}
use Rattle.ygg_oblige_parts.proofs.Named.{fresh_stand}
use Rattle.ygg_oblige_parts.proofs.names.fresh.Goals as goal

pub returns-clause-shape : goal.returns-clause-shape
returns-clause-shape g c =
    let kinds = g.B.Book.kinds c.args.book.now in
    let ds = c.args.declared.now in
    let n = c.args.number in
    let old = c.args.bank.now in
    on_value (λ nodes xs. LowShaped nodes ds xs) (fresh_all kinds n ds old) c.fresh_by.new.bank c.fresh_by.result c.fresh_by.ensures.nodes
    c.fresh_by.ensures.form c.fresh_by.ensures.bank (fresh_stand kinds n ds old c.requires.kept c.requires.below)

pub returns-clause-inputs : goal.returns-clause-inputs
returns-clause-inputs g c =
    let kinds = g.B.Book.kinds c.args.book.now in
    let ds = c.args.declared.now in
    let n = c.args.number in
    let old = c.args.bank.now in
    on_nodes (InputsBelow (n + words_in ds)) (fresh_all kinds n ds old) c.fresh_by.new.bank c.fresh_by.result c.fresh_by.ensures.nodes
    (all_below kinds n ds old c.requires.below)
