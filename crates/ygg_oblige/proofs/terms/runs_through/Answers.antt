use Rattle.std.proofs.Common.{◌≡◌, List, OnOk, IfOk, refl, sym, subst}
use Rattle.ygg_oblige_parts.specs.ygg_bank_proofs_Widths.{extends_both, wider}
use Rattle.ygg_oblige_parts.specs.ygg_bank.Makes.{Out}
use Rattle.ygg_oblige_parts.specs.ygg_bank.declared.node.Id.{Id}
use Rattle.ygg_syntax.specs.declared.tree.Declared.{Declared}
use Rattle.ygg_oblige_parts.specs.ygg_sym_runs.Lows.{LowShaped}
use Rattle.ygg_oblige_parts.specs.ygg_sym_runs_proofs_Lows.{low_wider}
use Rattle.ygg_oblige_parts.specs.ygg_sym_runs.Names.{sym_bind}
use Rattle.ygg_oblige_laws.specs.ygg_sym_runs.Below.{run_made}
use Rattle.ygg_oblige_parts.specs.Layers.{closed, terms_in}
use Rattle.ygg_oblige_parts.specs.Sites.{below_in}
use Rattle.ygg_sym.specs.declared.runs.SymBlock.{SymBlock}
use Rattle.ygg_oblige_parts.specs.ygg_oblige_laws.Numbers.{arguments_of, block_of}
use Rattle.ygg_oblige_parts.specs.ObligePiecesSteps.{variables_of}
use Rattle.ygg_oblige_parts.specs.Passing.{some_in}
use Rattle.ygg_oblige_list.specs.InCode.{obligation_of}
use Rattle.ygg_oblige.proofs.Chains.{runs_from}
use Rattle.ygg_oblige.proofs.Sites.{answers_kept, below_fits, block_fits_is}
use Rattle.ygg_oblige.proofs.terms.runs_through.Goals as goal

pub run-requires-clause-can : goal.run-requires-clause-can
run-requires-clause-can g c =
    let f = c.requires.can in
    let l = c.args.maker.now.layer in
    let below = c.args.maker.now.below in
    let o = obligation_of c.args.obligation in
    let b = block_fits_is l below o c.block_of.result.now (block_of (closed l) o) c.arguments_of.result.now (arguments_of o)
    (c.block_of.ensures (closed l) refl) c.arguments_of.ensures f.block in
    record {
      below = below_fits l below f.site;
      typed = b.typed;
      memory_are = f.starting.from.memory;
      args_are = subst (λ (ds : List Declared). LowShaped c.args.bank.now ds c.args.args.now) (sym c.arguments_of.ensures) f.args_are;
      low_are = f.starting.from.low;
    }

pub passes_after-requires-clause-can : goal.passes_after-requires-clause-can
passes_after-requires-clause-can g c =
    let f = c.requires.can in
    let l = c.args.maker.now.layer in
    let below = c.args.maker.now.below in
    let o = obligation_of c.args.obligation in
    let old = c.args.bank.now in
    let one = c.run.new.bank in
    let s = c.args.s.now in
    let stands = c.in_ok-end.ensures.stands in
    let b = block_fits_is l below o c.block_of.result.now (block_of (closed l) o) c.arguments_of.result.now (arguments_of o)
    (c.block_of.ensures (closed l) refl) c.arguments_of.ensures f.block in
    let at : SymBlock = record { layer = l; below = below; block = c.block_of.result; names = c.arguments_of.result } in
    record {
      layer = f.site.layer;
      typed = f.typed;
      has = f.has;
      vars_are = low_wider old one (variables_of (closed l) o) s.from.vars c.run.ensures.grows f.vars_are;
      args_are = low_wider old one (arguments_of o) c.args.args.now c.run.ensures.grows f.args_are;
      memory_are = stands.memory;
      low_are = stands.low;
      answer_shaped = stands.answer;
      answer_kept = answers_kept at o one c.in_ok-end.end b stands;
      single = c.in_ok-end.ensures.single c.args.n.run f.single;
    }

pub implied-requires-clause-one : goal.implied-requires-clause-one
implied-requires-clause-one g c =
    let s = c.args.s.now in
    wider c.run.new.bank c.passes_after.new.bank s.related 1 c.passes_after.ensures.grows
    (wider c.args.bank.now c.run.new.bank s.related 1 c.run.ensures.grows c.requires.can.starting.related)

pub returns-clause-nodes : goal.returns-clause-nodes
returns-clause-nodes g c =
    let kinds = g.B.Book.kinds c.args.maker.now.book.now in
    let l = c.args.maker.now.layer in
    let L = closed l in
    let o = obligation_of c.args.obligation in
    let s = c.args.s.now in
    let e = c.in_ok-end.end in
    subst (λ (p : Out Id). OnOk c.implied.result (c.implied.new.bank ≡ p.nodes))
    (runs_from kinds
    (λ b ds. run_made kinds (terms_in kinds l) (below_in c.args.maker.now.below) c.args.n.run b (sym_bind L.layer.memory s.from.memory)
    (sym_bind ds c.args.args.now) s.from.low c.args.bank.now)
    (λ answer memory low. some_in kinds (terms_in kinds l) L o s.from.vars c.args.args.now answer memory low) s.related c.block_of.result.now (block_of L o)
    c.arguments_of.result.now (arguments_of o) e.answer e.memory e.low c.in_ok-some.some c.run.new.bank c.passes_after.new.bank
    (c.block_of.ensures L refl) c.arguments_of.ensures c.in_ok-end.ensures.end.answer c.in_ok-end.ensures.end.memory c.in_ok-end.ensures.end.low
    c.in_ok-end.ensures.nodes c.in_ok-some.ensures.id c.in_ok-some.ensures.nodes) c.implied.ensures.nodes

pub returns-clause-id : goal.returns-clause-id
returns-clause-id g c =
    let kinds = g.B.Book.kinds c.args.maker.now.book.now in
    let l = c.args.maker.now.layer in
    let L = closed l in
    let o = obligation_of c.args.obligation in
    let s = c.args.s.now in
    let e = c.in_ok-end.end in
    subst (λ (p : Out Id). IfOk c.implied.result (λ (id : Id). id ≡ p.value))
    (runs_from kinds
    (λ b ds. run_made kinds (terms_in kinds l) (below_in c.args.maker.now.below) c.args.n.run b (sym_bind L.layer.memory s.from.memory)
    (sym_bind ds c.args.args.now) s.from.low c.args.bank.now)
    (λ answer memory low. some_in kinds (terms_in kinds l) L o s.from.vars c.args.args.now answer memory low) s.related c.block_of.result.now (block_of L o)
    c.arguments_of.result.now (arguments_of o) e.answer e.memory e.low c.in_ok-some.some c.run.new.bank c.passes_after.new.bank
    (c.block_of.ensures L refl) c.arguments_of.ensures c.in_ok-end.ensures.end.answer c.in_ok-end.ensures.end.memory c.in_ok-end.ensures.end.low
    c.in_ok-end.ensures.nodes c.in_ok-some.ensures.id c.in_ok-some.ensures.nodes) c.implied.ensures.id

pub returns-in_err-some-clause-grows : goal.returns-in_err-some-clause-grows
returns-in_err-some-clause-grows g c =
    extends_both c.args.bank.now c.run.new.bank c.passes_after.new.bank c.run.ensures.grows c.passes_after.ensures.grows

pub returns-clause-grows : goal.returns-clause-grows
returns-clause-grows g c =
    extends_both c.args.bank.now c.run.new.bank c.implied.new.bank c.run.ensures.grows
    (extends_both c.run.new.bank c.passes_after.new.bank c.implied.new.bank c.passes_after.ensures.grows
    c.implied.ensures.grows)
