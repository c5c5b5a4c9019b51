use Rattle.std.proofs.Common.{◌≡◌, ℕ, ◌<◌, true, false, length, [], Some, sym, ap, ◌∙◌, subst, arith}
use Rattle.std.proofs.Common.{List}
use Rattle.ygg_value.specs.declared.row.Value.{Value}
use Rattle.ygg_eval.specs.Formulas.{IsAsked, Answers}
use Rattle.ygg_eval.proofs.OnSpec.{there}
use Rattle.ygg_replay.proofs.Asked.{settled, settled_asked, settled_holds, all_settled}
use Rattle.ygg_replay.proofs.Firsts.{passed_one, passed_until}
use Rattle.ygg_replay.proofs.site.ReplaySite.false_settled.Goals as goal

pub holds-requires : goal.holds-requires
holds-requires c =
    let s = c.args.self.now in
    let a = c.loop-place-test.true in
    let b = c.len-place-end.ensures in
    let within : c.loop-place.place < length s.layer.now.settled = omega (arith, a, b) in
    let (e, is) = there s.layer.now.settled c.loop-place.place within in
    subst (λ (vs : List Value). IsAsked s.typed.now.file (settled s c.requires.here c.args.low.now c.in_ok-number_of.field-0) vs vs c.args.low.now)
    (sym c.new-none.ensures)
    (subst (λ (n : ℕ). IsAsked s.typed.now.file (settled s c.requires.here c.args.low.now n) [] [] c.args.low.now) (sym c.in_ok-number_of.ensures)
    (settled_asked s c.requires.here c.args.low.now c.requires.fits c.loop-place.place e is))

pub returns-then-not-branch : goal.returns-then-not-branch
returns-then-not-branch c =
    let s = c.args.self.now in
    let a = c.loop-place-test.true in
    let b = c.len-place-end.ensures in
    let within : c.loop-place.place < length s.layer.now.settled = omega (arith, a, b) in
    let (e, is) = there s.layer.now.settled c.loop-place.place within in
    let said = settled_holds s c.requires.here c.args.low.now c.loop-place.place e is c.in_ok-holds.field-0
    (subst (λ (n : ℕ). Answers s.typed.now.file (settled s c.requires.here c.args.low.now n) [] [] c.args.low.now c.in_ok-holds.field-0)
    c.in_ok-number_of.ensures
    (subst (λ (vs : List Value). Answers s.typed.now.file (settled s c.requires.here c.args.low.now c.in_ok-number_of.field-0) vs vs c.args.low.now
    c.in_ok-holds.field-0) c.new-none.ensures c.in_ok-holds.ensures)) in
    let no : c.in_ok-holds.field-0 ≡ false = c.if-not-branch.true in
    sym (passed_until (all_settled s c.requires.here c.args.low.now) c.loop-place.place (said ∙ ap (λ b. Some b) no) c.loop-place.invariant)

pub loop-place-preserved : goal.loop-place-preserved
loop-place-preserved c =
    let s = c.args.self.now in
    let a = c.loop-place-test.true in
    let b = c.len-place-end.ensures in
    let within : c.loop-place.place < length s.layer.now.settled = omega (arith, a, b) in
    let (e, is) = there s.layer.now.settled c.loop-place.place within in
    let said = settled_holds s c.requires.here c.args.low.now c.loop-place.place e is c.in_ok-holds.field-0
    (subst (λ (n : ℕ). Answers s.typed.now.file (settled s c.requires.here c.args.low.now n) [] [] c.args.low.now c.in_ok-holds.field-0)
    c.in_ok-number_of.ensures
    (subst (λ (vs : List Value). Answers s.typed.now.file (settled s c.requires.here c.args.low.now c.in_ok-number_of.field-0) vs vs c.args.low.now
    c.in_ok-holds.field-0) c.new-none.ensures c.in_ok-holds.ensures)) in
    let yes : c.in_ok-holds.field-0 ≡ true = c.if-not-branch.false in
    passed_one (all_settled s c.requires.here c.args.low.now) c.loop-place.place (said ∙ ap (λ b. Some b) yes)
    c.loop-place.invariant
