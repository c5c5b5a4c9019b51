use Rattle.std.proofs.Common.{refl, subst, sym}
use Rattle.ygg_sym_machine.specs.ygg_sym_runs.Seen.{env_of}
use Rattle.ygg_sym_machine.specs.ygg_sym_runs.Lower.{Stands}
use Rattle.ygg_sym_machine.specs.ygg_sym_runs.Ready.{CanRun, Ended, order_run}
use Rattle.ygg_sym_machine.specs.Halting.{halted_of, halting_meaning}
use Rattle.ygg_sym_machine.specs.HaltingKeeps.{halting_keeps}
use Rattle.ygg_sym.proofs.Cutting.{cut_if, cut_runs, cut_stands, never_single}
use Rattle.ygg_sym.proofs.stopping.cut_short.Goals as goal

pub run-requires-clause-can : goal.run-requires-clause-can
run-requires-clause-can g c =
    let M = g.W.SymLower.means c.args.runner.now.machine.now in
    let K = g.W.SymStops.power c.args.runner.now.machine.now in
    let kinds = g.B.Book.kinds c.args.runner.now.book.now in
    let defs = c.args.runner.now.defs.now in
    let b = c.args.b.now in
    let env = env_of c.args.names.items in
    let never = c.in_ok-never.never in
    let single = never_single kinds c.args.bank.now c.make.new.self c.in_ok-never.ensures.nodes in
    let can = cut_runs M K defs b c.args.bank.now c.make.new.self env c.args.from never c.requires.can c.requires.single c.make.ensures.grows single
    c.in_ok-never.ensures.width in
    subst (λ x. CanRun (halting_meaning M K) defs b.statements c.make.new.self env (halted_of c.args.from x never)) (sym c.in_ok-fallen.ensures) can

pub end_halting-requires : goal.end_halting-requires
end_halting-requires g c =
    let W = c.args.runner.now.machine.now in
    let M = g.W.SymLower.means W in
    let K = g.W.SymStops.power W in
    let H = halting_meaning M K in
    let law = halting_keeps M K (g.met.W.SymLower.keeps W) (g.met.W.SymStops.keeps_power W) in
    let kinds = g.B.Book.kinds c.args.runner.now.book.now in
    let defs = c.args.runner.now.defs.now in
    let b = c.args.b.now in
    let env = env_of c.args.names.items in
    let never = c.in_ok-never.never in
    let ran = c.in_ok-ran.ran in
    let single = never_single kinds c.args.bank.now c.make.new.self c.in_ok-never.ensures.nodes in
    let can = cut_runs M K defs b c.args.bank.now c.make.new.self env c.args.from never c.requires.can c.requires.single c.make.ensures.grows single
    c.in_ok-never.ensures.width in
    let h = subst (λ x. Ended (order_run H defs kinds b.statements) 0 env (halted_of c.args.from x never) c.make.new.self ran.last (env_of ran.names.items)
    ran.state c.run.new.bank) c.in_ok-fallen.ensures c.in_ok-ran.ensures.ran in
    let st = cut_stands M K defs law kinds b b.statements c.make.new.self c.run.new.bank env (env_of ran.names.items)
    (halted_of c.args.from c.args.from never) ran.state ran.last refl can h c.run.ensures.bank in
    record { stands = subst (Stands H c.run.new.bank) (sym c.state.view_is) st }

pub returns-clause-fall : goal.returns-clause-fall
returns-clause-fall g c =
    let W = c.args.runner.now.machine.now in
    let M = g.W.SymLower.means W in
    let K = g.W.SymStops.power W in
    let H = halting_meaning M K in
    let law = halting_keeps M K (g.met.W.SymLower.keeps W) (g.met.W.SymStops.keeps_power W) in
    let kinds = g.B.Book.kinds c.args.runner.now.book.now in
    let defs = c.args.runner.now.defs.now in
    let b = c.args.b.now in
    let env = env_of c.args.names.items in
    let never = c.in_ok-never.never in
    let ran = c.in_ok-ran.ran in
    let left = c.state.inside in
    let h = subst (λ x. Ended (order_run H defs kinds b.statements) 0 env (halted_of c.args.from x never) c.make.new.self ran.last (env_of ran.names.items)
    ran.state c.run.new.bank) c.in_ok-fallen.ensures c.in_ok-ran.ensures.ran in
    let h2 = subst (λ z. Ended (order_run H defs kinds b.statements) 0 env (halted_of c.args.from c.args.from never) c.make.new.self ran.last
    (env_of ran.names.items) z c.run.new.bank) (sym c.state.view_is) h in
    let end = c.end_halting.ensures in
    cut_if M K defs law kinds b b.statements env (env_of ran.names.items) c.args.from never (halted_of left.to left.fallen left.stopped) c.args.bank.now
    c.make.new.self c.run.new.bank c.end_halting.new.bank ran.last c.end_halting.result refl c.in_ok-never.ensures.nodes c.in_ok-never.ensures.id h2
    end.nodes end.left end.reached end.has end.width end.single
