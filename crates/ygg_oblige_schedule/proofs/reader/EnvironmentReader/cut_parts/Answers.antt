use Rattle.std.proofs.Common.{Option, refl, subst}
use Rattle.ygg_eval_places.specs.declared.below.Fallen.{Fallen}
use Rattle.ygg_oblige_schedule.specs.Runs.{FallsHere}
use Rattle.ygg_oblige_schedule.proofs.Parts.{left_fits, no_parts, woken}
use Rattle.ygg_oblige_schedule.proofs.reader.EnvironmentReader.cut_parts.Goals as goal

pub woken_parts-requires-clause-low : goal.woken_parts-requires-clause-low
woken_parts-requires-clause-low c =
    let r = c.args.self.now in
    let run = c.requires.run.block in
    let fell = subst (λ (f : Option Fallen). FallsHere r c.args.block c.args.args.now c.args.memory c.args.low f) c.in-Some.is c.in_ok-fallen.ensures in
    left_fits r c.args.block c.args.args.now c.args.memory c.args.low run.layer run.block _ c.in-Some.fallen (fell run.layer run.block run.is)

pub returns-in-None : goal.returns-in-None
returns-in-None c =
    let r = c.args.self.now in
    let fell = subst (λ (f : Option Fallen). FallsHere r c.args.block c.args.args.now c.args.memory c.args.low f) c.in-None.is c.in_ok-fallen.ensures in
    λ b is. no_parts r c.args.block c.args.args.now c.args.memory c.args.low b _ _ refl (fell r.site.layer.now b is) refl
    c.no_picks.ensures c.no_picks-in-None.ensures

pub returns-in-Some : goal.returns-in-Some
returns-in-Some c =
    let r = c.args.self.now in
    let fell = subst (λ (f : Option Fallen). FallsHere r c.args.block c.args.args.now c.args.memory c.args.low f) c.in-Some.is c.in_ok-fallen.ensures in
    let w = c.woken_parts.ensures in
    woken r c.args.block c.args.args.now c.args.memory c.args.low c.in-Some.fallen fell c.woken_parts.result w.stop w.bounded w.picks w.wake
