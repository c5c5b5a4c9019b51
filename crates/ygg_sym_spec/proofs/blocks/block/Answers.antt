use Rattle.ygg_sym_runs.specs.ygg_bank_proofs_Widths.{extends_self}
use Rattle.std.proofs.Common.{length, sym, ap, ◌∙◌}
use Rattle.ygg_sym_runs.specs.Names.{sym_bind}
use Rattle.ygg_sym_runs.specs.Seen.{env_of}
use Rattle.ygg_sym_spec.proofs.WholeRun.{all_names, block_form, block_left, bound_count, can_whole, first_names, lows_count}
use Rattle.ygg_sym_spec.proofs.blocks.block.Goals as goal

pub bind-requires : goal.bind-requires
bind-requires g c =
    ap length c.as_slice.ensures ∙ lows_count c.args.bank.now (c.args.layer.layer.now).state c.args.vars.now (c.requires.can).vars_are
    ∙ sym (ap length c.as_slice-2.ensures)

pub bind-requires-2 : goal.bind-requires-2
bind-requires-2 g c = lows_count c.args.bank.now c.args.args.now c.args.values.now (c.requires.can).args_are

pub whole-requires : goal.whole-requires
whole-requires g c =
    let state = (c.args.layer.layer.now).state in
    let first = first_names c.new-names.result.items (env_of c.bind.new.names.items) state c.as_slice.result.now c.args.vars.now c.as_slice-2.result.now
    c.new-names.ensures.items c.in_ok-bind.ensures c.as_slice.ensures c.as_slice-2.ensures in
    record {
      can = can_whole c.args.layer c.args.picks c.args.bank.now c.args.b.now c.args.vars.now c.args.args.now c.args.values.now c.requires.can
          (env_of c.bind-2.new.names.items)
          (all_names (env_of c.bind.new.names.items) (env_of c.bind-2.new.names.items) state c.args.args.now c.args.vars.now c.args.values.now first
          c.in_ok-bind-2.ensures);
    }

pub returns-clause-shape : goal.returns-clause-shape
returns-clause-shape g c =
    let state = (c.args.layer.layer.now).state in
    let first = first_names c.new-names.result.items (env_of c.bind.new.names.items) state c.as_slice.result.now c.args.vars.now c.as_slice-2.result.now
    c.new-names.ensures.items c.in_ok-bind.ensures c.as_slice.ensures c.as_slice-2.ensures in
    let all = all_names (env_of c.bind.new.names.items) (env_of c.bind-2.new.names.items) state c.args.args.now c.args.vars.now c.args.values.now first
    c.in_ok-bind-2.ensures in
    let w = c.in_ok-end.ensures.whole (sym_bind state c.args.vars.now) (sym_bind c.args.args.now c.args.values.now) all
    (bound_count c.args.bank.now state c.args.vars.now (c.requires.can).vars_are ∙ sym c.len-count.ensures) in
    block_left c.args.layer c.args.picks c.args.bank.now c.args.b.now c.args.vars.now c.args.args.now c.args.values.now c.requires.can
    (g.B.Book.kinds c.args.book.now) c.whole.new.bank (c.in_ok-end.end).answer ((c.in_ok-end.end).names).items c.as_slice-3.result.now
    tt c.in_ok-values_of.field-0 c.whole.ensures.bank w c.in_ok-values_of.ensures c.as_slice-3.ensures.value

pub returns-clause-single : goal.returns-clause-single
returns-clause-single g c =
    let state = (c.args.layer.layer.now).state in
    let first = first_names c.new-names.result.items (env_of c.bind.new.names.items) state c.as_slice.result.now c.args.vars.now c.as_slice-2.result.now
    c.new-names.ensures.items c.in_ok-bind.ensures c.as_slice.ensures c.as_slice-2.ensures in
    let all = all_names (env_of c.bind.new.names.items) (env_of c.bind-2.new.names.items) state c.args.args.now c.args.vars.now c.args.values.now first
    c.in_ok-bind-2.ensures in
    let w = c.in_ok-end.ensures.whole (sym_bind state c.args.vars.now) (sym_bind c.args.args.now c.args.values.now) all
    (bound_count c.args.bank.now state c.args.vars.now (c.requires.can).vars_are ∙ sym c.len-count.ensures) in
    w.single

pub returns-clause-nodes : goal.returns-clause-nodes
returns-clause-nodes g c =
    let state = (c.args.layer.layer.now).state in
    let first = first_names c.new-names.result.items (env_of c.bind.new.names.items) state c.as_slice.result.now c.args.vars.now c.as_slice-2.result.now
    c.new-names.ensures.items c.in_ok-bind.ensures c.as_slice.ensures c.as_slice-2.ensures in
    let all = all_names (env_of c.bind.new.names.items) (env_of c.bind-2.new.names.items) state c.args.args.now c.args.vars.now c.args.values.now first
    c.in_ok-bind-2.ensures in
    let w = c.in_ok-end.ensures.whole (sym_bind state c.args.vars.now) (sym_bind c.args.args.now c.args.values.now) all
    (bound_count c.args.bank.now state c.args.vars.now (c.requires.can).vars_are ∙ sym c.len-count.ensures) in
    w.nodes

pub returns-clause-form : goal.returns-clause-form
returns-clause-form g c =
    let state = (c.args.layer.layer.now).state in
    let first = first_names c.new-names.result.items (env_of c.bind.new.names.items) state c.as_slice.result.now c.args.vars.now c.as_slice-2.result.now
    c.new-names.ensures.items c.in_ok-bind.ensures c.as_slice.ensures c.as_slice-2.ensures in
    let all = all_names (env_of c.bind.new.names.items) (env_of c.bind-2.new.names.items) state c.args.args.now c.args.vars.now c.args.values.now first
    c.in_ok-bind-2.ensures in
    let w = c.in_ok-end.ensures.whole (sym_bind state c.args.vars.now) (sym_bind c.args.args.now c.args.values.now) all
    (bound_count c.args.bank.now state c.args.vars.now (c.requires.can).vars_are ∙ sym c.len-count.ensures) in
    block_form c.args.layer c.args.picks c.args.bank.now c.args.b.now c.args.vars.now c.args.args.now c.args.values.now c.requires.can
    (g.B.Book.kinds c.args.book.now) c.whole.new.bank (c.in_ok-end.end).answer ((c.in_ok-end.end).names).items c.as_slice-3.result.now
    tt c.in_ok-values_of.field-0 w c.in_ok-values_of.ensures c.as_slice-3.ensures.value

pub returns-in_err-bind-2-clause-grows : goal.returns-in_err-bind-2-clause-grows
returns-in_err-bind-2-clause-grows g c = extends_self c.args.bank.now

pub returns-in_err-bind-clause-grows : goal.returns-in_err-bind-clause-grows
returns-in_err-bind-clause-grows g c = extends_self c.args.bank.now

pub returns-in_err-values_of-clause-grows : goal.returns-in_err-values_of-clause-grows
returns-in_err-values_of-clause-grows g c = c.whole.ensures.grows

pub returns-in_err-values_of-clause-bank : goal.returns-in_err-values_of-clause-bank
returns-in_err-values_of-clause-bank g c = c.whole.ensures.bank

pub returns-in_err-end-clause-grows : goal.returns-in_err-end-clause-grows
returns-in_err-end-clause-grows g c = c.whole.ensures.grows

pub returns-in_err-end-clause-bank : goal.returns-in_err-end-clause-bank
returns-in_err-end-clause-bank g c = c.whole.ensures.bank

pub returns-clause-grows : goal.returns-clause-grows
returns-clause-grows g c = c.whole.ensures.grows

pub returns-clause-bank : goal.returns-clause-bank
returns-clause-bank g c = c.whole.ensures.bank
