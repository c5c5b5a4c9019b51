use Rattle.std.proofs.Common.{◌≡◌, ◌∙◌, ◌+◌, ◌++◌, ◌∷◌, [], sym, ap, drop, ℕ, List, Bor, Option, Some, None}
use Rattle.std.specs.Option.{option_copied}
use Rattle.ygg_value.specs.declared.row.Value.{Value}
use Rattle.ygg_sched.specs.Words.{cut_at, parts}
use Rattle.ygg_sched.specs.Values.{value_in}
use Rattle.ygg_sched.proofs.Pieces.{with_front}
use Rattle.ygg_script.specs.Left.{pieces_left}
use Rattle.ygg_script.specs.Places.{values_in}
use Rattle.ygg_script.proofs.Arguments.{goes_on, stops, too_many_left}
use Rattle.ygg_script.proofs.places.values_in.Goals as goal

pub returns-in-None : goal.returns-in-None
returns-in-None c =
    let front : List Value = c.loop-variable.values in
    let i : ℕ = c.loop-variable.variable-index in
    let m : List ℕ = c.in-Some.more.now in
    let so_far : with_front front (values_in (drop i c.args.declared.now) (parts 32 m))
    ≡ values_in c.args.declared.now (pieces_left 32 (option_copied c.args.words)) =
    ap (λ (left : Option (Bor (List ℕ))). with_front front (values_in (drop i c.args.declared.now) (pieces_left 32 (option_copied left))))
    (sym c.in-Some.is) ∙ c.loop-variable.invariant in
    let none : value_in c.variable-item.result.shape (cut_at 32 m).0 ≡ None =
    ap (λ (x : List ℕ × Option (List ℕ)). value_in c.variable-item.result.shape x.0) c.cut.ensures.cut ∙ sym c.in_ok-found.ensures ∙ c.in-None.is in
    sym (stops front c.args.declared.now i c.variable-item.result c.loop-variable-test.true c.variable-item.is m none) ∙ so_far

pub loop-variable-preserved : goal.loop-variable-preserved
loop-variable-preserved c =
    let front : List Value = c.loop-variable.values in
    let i : ℕ = c.loop-variable.variable-index in
    let m : List ℕ = c.in-Some.more.now in
    let v : Value = c.in-Some-found.value in
    let so_far : with_front front (values_in (drop i c.args.declared.now) (parts 32 m))
    ≡ values_in c.args.declared.now (pieces_left 32 (option_copied c.args.words)) =
    ap (λ (left : Option (Bor (List ℕ))). with_front front (values_in (drop i c.args.declared.now) (pieces_left 32 (option_copied left))))
    (sym c.in-Some.is) ∙ c.loop-variable.invariant in
    let some : value_in c.variable-item.result.shape (cut_at 32 m).0 ≡ Some v =
    ap (λ (x : List ℕ × Option (List ℕ)). value_in c.variable-item.result.shape x.0) c.cut.ensures.cut ∙ sym c.in_ok-found.ensures ∙ c.in-Some-found.is in
    let left : (cut_at 32 m).1 ≡ option_copied c.cut.result.1 = ap (λ (x : List ℕ × Option (List ℕ)). x.1) c.cut.ensures.cut in
    ap (λ (vs : List Value). with_front vs (values_in (drop (i + 1) c.args.declared.now) (pieces_left 32 (option_copied c.cut.result.1))))
    c.in_ok-push.ensures.ok
    ∙ ap (λ (o : Option (List ℕ)). with_front (front ++ v ∷ []) (values_in (drop (i + 1) c.args.declared.now) (pieces_left 32 o))) (sym left)
    ∙ goes_on front c.args.declared.now i c.variable-item.result c.loop-variable-test.true c.variable-item.is m v some ∙ so_far

pub returns-then-is_some : goal.returns-then-is_some
returns-then-is_some c =
    sym (too_many_left c.loop-variable.values c.args.declared.now c.loop-variable.variable-index c.loop-variable-test.false c.loop-variable.left
    (sym c.is_some.ensures ∙ c.if-is_some.true))
    ∙ c.loop-variable.invariant
