use Rattle.std.proofs.Common.{◌≡◌, ℕ, ◌+◌, List, sym, ap, subst, arith}
use Rattle.ygg_syntax.specs.declared.tree.Declared.{Declared}
use Rattle.ygg_sym_spec.specs.ygg_bank_proofs_Widths.{extends_both}
use Rattle.ygg_sym_spec.specs.ygg_bank.Inputs.{InputsBelow}
use Rattle.ygg_sym_spec.specs.ygg_bank.Makes.{Out}
use Rattle.ygg_sym_spec.specs.ygg_sym_runs.Lows.{LowShaped}
use Rattle.ygg_sym_spec.specs.ygg_sym_runs_proofs_Lows.{low_wider}
use Rattle.ygg_sym_spec.specs.Layers.{closed, terms_in}
use Rattle.ygg_oblige_laws.specs.LayerTerms.{ShapesKept}
use Rattle.ygg_oblige_laws.specs.TermStates.{Trio, words_in}
use Rattle.ygg_oblige_parts.proofs.Started.{trio_from}
use Rattle.ygg_oblige_parts.proofs.states.Maker.fresh_trio.Goals as goal

pub words_in-requires : goal.words_in-requires
words_in-requires g c = subst (λ (ds : List Declared). ShapesKept ds) (sym c.as_slice-state.ensures) c.requires.layer.state_shapes

pub words_in-requires-2 : goal.words_in-requires-2
words_in-requires-2 g c = subst (λ (ds : List Declared). ShapesKept ds) (sym c.as_slice-memory.ensures) c.requires.layer.memory_shapes

pub fresh-requires-clause-kept : goal.fresh-requires-clause-kept
fresh-requires-clause-kept g c = subst (λ (ds : List Declared). ShapesKept ds) (sym c.as_slice-state.ensures) c.requires.layer.state_shapes

pub fresh-requires-clause-below : goal.fresh-requires-clause-below
fresh-requires-clause-below g c = c.requires.below

pub fresh-requires-clause-room : goal.fresh-requires-clause-room
fresh-requires-clause-room g c =
    let e : words_in c.as_slice-state.result.now ≡ words_in c.args.self.now.layer.layer.now.state = ap words_in c.as_slice-state.ensures in
    omega (arith, c.requires.room)

pub fresh-requires-2-clause-kept : goal.fresh-requires-2-clause-kept
fresh-requires-2-clause-kept g c = subst (λ (ds : List Declared). ShapesKept ds) (sym c.as_slice-memory.ensures) c.requires.layer.memory_shapes

pub fresh-requires-2-clause-below : goal.fresh-requires-2-clause-below
fresh-requires-2-clause-below g c =
    subst (λ (n : ℕ). InputsBelow (c.args.number + n) c.fresh.new.bank) (sym c.in_ok-own.ensures) c.in_ok-vars.ensures.inputs

pub fresh-requires-2-clause-room : goal.fresh-requires-2-clause-room
fresh-requires-2-clause-room g c =
    let l = c.args.self.now.layer.layer.now in
    let e : words_in c.as_slice-state.result.now ≡ words_in l.state = ap words_in c.as_slice-state.ensures in
    let f : words_in c.as_slice-memory.result.now ≡ words_in l.memory = ap words_in c.as_slice-memory.ensures in
    omega (arith, c.requires.room)

pub fresh-requires-3-clause-kept : goal.fresh-requires-3-clause-kept
fresh-requires-3-clause-kept g c = c.requires.layer.low_shapes

pub fresh-requires-3-clause-below : goal.fresh-requires-3-clause-below
fresh-requires-3-clause-below g c =
    subst (λ (n : ℕ). InputsBelow (c.args.number + c.in_ok-own.own + n) c.fresh-2.new.bank) (sym c.in_ok-more.ensures) c.in_ok-memory.ensures.inputs

pub fresh-requires-3-clause-room : goal.fresh-requires-3-clause-room
fresh-requires-3-clause-room g c =
    let l = c.args.self.now.layer.layer.now in
    let e : words_in c.as_slice-state.result.now ≡ words_in l.state = ap words_in c.as_slice-state.ensures in
    let f : words_in c.as_slice-memory.result.now ≡ words_in l.memory = ap words_in c.as_slice-memory.ensures in
    omega (arith, c.requires.room)

pub returns-clause-nodes : goal.returns-clause-nodes
returns-clause-nodes g c =
    let kinds = g.B.Book.kinds c.args.self.now.book.now in
    let l = c.args.self.now.layer in
    ap (λ (o : Out Trio). o.nodes)
    (trio_from kinds (terms_in kinds l) (closed l) c.as_slice-state.result.now c.as_slice-memory.result.now c.args.number c.in_ok-own.own
    c.in_ok-more.more c.in_ok-vars.vars c.in_ok-memory.memory c.in_ok-low.low c.args.bank.now c.fresh.new.bank c.fresh-2.new.bank c.fresh-3.new.bank
    c.as_slice-state.ensures c.as_slice-memory.ensures c.in_ok-own.ensures c.in_ok-more.ensures c.in_ok-vars.ensures.form c.in_ok-vars.ensures.nodes
    c.in_ok-memory.ensures.form c.in_ok-memory.ensures.nodes c.in_ok-low.ensures.form c.in_ok-low.ensures.nodes)

pub returns-clause-form : goal.returns-clause-form
returns-clause-form g c =
    let kinds = g.B.Book.kinds c.args.self.now.book.now in
    let l = c.args.self.now.layer in
    ap (λ (o : Out Trio). o.value)
    (trio_from kinds (terms_in kinds l) (closed l) c.as_slice-state.result.now c.as_slice-memory.result.now c.args.number c.in_ok-own.own
    c.in_ok-more.more c.in_ok-vars.vars c.in_ok-memory.memory c.in_ok-low.low c.args.bank.now c.fresh.new.bank c.fresh-2.new.bank c.fresh-3.new.bank
    c.as_slice-state.ensures c.as_slice-memory.ensures c.in_ok-own.ensures c.in_ok-more.ensures c.in_ok-vars.ensures.form c.in_ok-vars.ensures.nodes
    c.in_ok-memory.ensures.form c.in_ok-memory.ensures.nodes c.in_ok-low.ensures.form c.in_ok-low.ensures.nodes)

pub returns-clause-shape : goal.returns-clause-shape
returns-clause-shape g c =
    let l = c.args.self.now.layer.layer.now in
    let one = c.fresh.new.bank in
    let two = c.fresh-2.new.bank in
    let three = c.fresh-3.new.bank in
    let vars = subst (λ (ds : List Declared). LowShaped one ds c.in_ok-vars.vars) c.as_slice-state.ensures c.in_ok-vars.ensures.shape in
    let memory = subst (λ (ds : List Declared). LowShaped two ds c.in_ok-memory.memory) c.as_slice-memory.ensures c.in_ok-memory.ensures.shape in
    record {
      vars = low_wider one three l.state c.in_ok-vars.vars (extends_both one two three c.fresh-2.ensures.grows c.fresh-3.ensures.grows) vars;
      memory = low_wider two three l.memory c.in_ok-memory.memory c.fresh-3.ensures.grows memory;
      low = c.in_ok-low.ensures.shape;
    }

pub returns-in_err-memory-clause-grows : goal.returns-in_err-memory-clause-grows
returns-in_err-memory-clause-grows g c =
    extends_both c.args.bank.now c.fresh.new.bank c.fresh-2.new.bank c.fresh.ensures.grows c.fresh-2.ensures.grows

pub returns-in_err-low-clause-grows : goal.returns-in_err-low-clause-grows
returns-in_err-low-clause-grows g c =
    extends_both c.args.bank.now c.fresh.new.bank c.fresh-3.new.bank c.fresh.ensures.grows
    (extends_both c.fresh.new.bank c.fresh-2.new.bank c.fresh-3.new.bank c.fresh-2.ensures.grows
    c.fresh-3.ensures.grows)

pub returns-clause-grows : goal.returns-clause-grows
returns-clause-grows g c =
    extends_both c.args.bank.now c.fresh.new.bank c.fresh-3.new.bank c.fresh.ensures.grows
    (extends_both c.fresh.new.bank c.fresh-2.new.bank c.fresh-3.new.bank c.fresh-2.ensures.grows
    c.fresh-3.ensures.grows)
