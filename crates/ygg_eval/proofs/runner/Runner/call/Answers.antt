use Rattle.std.proofs.Common.{◌-◌, IsSome, refl, sym, subst}
use Rattle.std.proofs.lemmas.Bool.{false≢true}
use Rattle.ygg_eval_expr.specs.ygg_meaning.Progress.{Call}
use Rattle.ygg_eval_expr.specs.Held.{env_of}
use Rattle.ygg_eval.specs.BlockSteps.{stands, Cuts, CallRan}
use Rattle.ygg_eval.proofs.Fitting.{call_evaluates, call_sends_as}
use Rattle.ygg_eval.proofs.Places.{number_is}
use Rattle.ygg_eval.proofs.runner.Runner.call.Goals as goal

pub values-requires : goal.values-requires
values-requires g c = call_evaluates g.W.Lower.means c.args.self.now.typed.now.file c.args.self.now.number c.args.self.now.stop c.args.f.now
    c.args.es.now (env_of c.args.names.now) (stands c.args.lower.now c.args.power.now) c.requires

pub made-requires : goal.made-requires
made-requires g c =
    let r = c.args.self.now in
    call_sends_as g.W.Lower.means r.typed.now.file r.number r.stop c.args.f.now c.args.es.now c.in_ok-args.args (env_of c.args.names.now)
    (stands c.args.lower.now c.args.power.now) c.in_ok-args.ensures c.requires

pub cut-requires-clause-sends : goal.cut-requires-clause-sends
cut-requires-clause-sends g c =
    let r = c.args.self.now in
    call_sends_as g.W.Lower.means r.typed.now.file r.number r.stop c.args.f.now c.args.es.now c.in_ok-args.args (env_of c.args.names.now)
    (stands c.args.lower.now c.args.power.now) c.in_ok-args.ensures c.requires

pub made-requires-in-Some : goal.made-requires-in-Some
made-requires-in-Some g c =
    let r = c.args.self.now in
    call_sends_as g.W.Lower.means r.typed.now.file r.number r.stop c.args.f.now c.args.es.now c.in_ok-args.args (env_of c.args.names.now)
    (stands c.args.lower.now c.args.power.now) c.in_ok-args.ensures c.requires

pub returns-in-None : goal.returns-in-None
returns-in-None g c =
    let r = c.args.self.now in
    let from = stands c.args.lower.now c.args.power.now in
    let to = stands c.made.new.lower c.made.new.power in
    let left = c.args.left.now in
    subst (λ vs. CallRan g.W.Lower.means r.typed.now.file r.number r.stop (Call c.args.f.now.text vs) from left c.made.result to left) c.in_ok-args.ensures
    (c.made.ensures left left (λ s. absurd (false≢true (subst IsSome c.in-None.is s))))

pub cut-requires-clause-stops : goal.cut-requires-clause-stops
cut-requires-clause-stops g c = c.requires.can.fits.stops (subst IsSome (sym c.in-Some.is) refl)

pub returns-then-left-eq0 : goal.returns-then-left-eq0
returns-then-left-eq0 g c =
    let r = c.args.self.now in
    let M = g.W.Lower.means in
    let from = stands c.args.lower.now c.args.power.now in
    let to = stands c.cut.new.lower c.cut.new.power in
    let cut = subst (λ vs. Cuts M r.typed.now.file r.number r.stop c.in-Some.stop.within (Call c.args.f.now.text vs) from to) c.in_ok-args.ensures
    c.in_ok-cut-in-Some.ensures in
    record { where_is = c.in-Some.stop; is = c.in-Some.is; reached = c.if-left-eq0.true; falls = cut.falls; serves = cut.serves }

pub returns : goal.returns
returns g c =
    let r = c.args.self.now in
    let from = stands c.args.lower.now c.args.power.now in
    let to = stands c.made-in-Some.new.lower c.made-in-Some.new.power in
    let left = c.args.left.now in
    subst (λ vs. CallRan g.W.Lower.means r.typed.now.file r.number r.stop (Call c.args.f.now.text vs) from left c.made-in-Some.result to (left - 1))
    c.in_ok-args.ensures (c.made-in-Some.ensures left (left - 1) (λ s. sym (number_is left c.if-left-eq0.false)))
