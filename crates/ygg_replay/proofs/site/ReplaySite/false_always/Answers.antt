use Rattle.std.proofs.Common.{◌≡◌, ℕ, ◌+◌, ◌<◌, true, false, length, Some, option_map, suc, sym, ap, ◌∙◌, subst, arith}
use Rattle.ygg_eval.specs.Formulas.{IsAsked, Answers}
use Rattle.ygg_eval.proofs.OnSpec.{there}
use Rattle.ygg_replay.proofs.Asked.{always, always_asked, always_holds, all_always}
use Rattle.ygg_replay.proofs.Firsts.{passed_one, passed_until}
use Rattle.ygg_replay.proofs.site.ReplaySite.false_always.Goals as goal

pub holds-requires : goal.holds-requires
holds-requires c =
    let s = c.args.self.now in
    let a = c.loop-place-test.true in
    let b = c.len-place-end.ensures in
    let within : c.loop-place.place < length s.layer.now.always = omega (arith, a, b) in
    let (e, is) = there s.layer.now.always c.loop-place.place within in
    subst (λ (n : ℕ). IsAsked s.typed.now.file (always s c.requires.here c.args.state.now c.args.memory.now c.args.low.now n) c.args.state.now
    c.args.memory.now c.args.low.now) (sym c.in_ok-number_of.ensures)
    (always_asked s c.requires.here c.args.state.now c.args.memory.now c.args.low.now c.requires.fits c.loop-place.place e is)

pub returns-then-not-branch : goal.returns-then-not-branch
returns-then-not-branch c =
    let s = c.args.self.now in
    let a = c.loop-place-test.true in
    let b = c.len-place-end.ensures in
    let within : c.loop-place.place < length s.layer.now.always = omega (arith, a, b) in
    let (e, is) = there s.layer.now.always c.loop-place.place within in
    let said = always_holds s c.requires.here c.args.state.now c.args.memory.now c.args.low.now c.loop-place.place e is c.in_ok-holds.field-0
    (subst (λ (n : ℕ). Answers s.typed.now.file (always s c.requires.here c.args.state.now c.args.memory.now c.args.low.now n) c.args.state.now
    c.args.memory.now c.args.low.now c.in_ok-holds.field-0) c.in_ok-number_of.ensures c.in_ok-holds.ensures) in
    let no : c.in_ok-holds.field-0 ≡ false = c.if-not-branch.true in
    let next : c.loop-place.place + 1 ≡ suc c.loop-place.place = omega arith in
    ap (λ k. Some k) next
    ∙ ap (option_map (λ (k : ℕ). suc k)) (sym (passed_until (all_always s c.requires.here c.args.state.now c.args.memory.now c.args.low.now)
    c.loop-place.place (said ∙ ap (λ b. Some b) no) c.loop-place.invariant))

pub loop-place-preserved : goal.loop-place-preserved
loop-place-preserved c =
    let s = c.args.self.now in
    let a = c.loop-place-test.true in
    let b = c.len-place-end.ensures in
    let within : c.loop-place.place < length s.layer.now.always = omega (arith, a, b) in
    let (e, is) = there s.layer.now.always c.loop-place.place within in
    let said = always_holds s c.requires.here c.args.state.now c.args.memory.now c.args.low.now c.loop-place.place e is c.in_ok-holds.field-0
    (subst (λ (n : ℕ). Answers s.typed.now.file (always s c.requires.here c.args.state.now c.args.memory.now c.args.low.now n) c.args.state.now
    c.args.memory.now c.args.low.now c.in_ok-holds.field-0) c.in_ok-number_of.ensures c.in_ok-holds.ensures) in
    let yes : c.in_ok-holds.field-0 ≡ true = c.if-not-branch.false in
    passed_one (all_always s c.requires.here c.args.state.now c.args.memory.now c.args.low.now) c.loop-place.place (said ∙ ap (λ b. Some b) yes)
    c.loop-place.invariant
