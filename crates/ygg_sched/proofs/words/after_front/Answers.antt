use Rattle.std.proofs.Common.{◌∙◌, sym, ap, Some, List, ℕ}
use Rattle.ygg_sched.proofs.Cutting.{after_short, after_same, after_other, eq_true, eq_false}
use Rattle.ygg_sched.proofs.words.after_front.Goals as goal

pub returns-then-bytes-front : goal.returns-then-bytes-front
returns-then-bytes-front c = sym (after_short c.args.front.now c.args.bytes.now c.if-bytes-front.true)

pub returns-then-eq : goal.returns-then-eq
returns-then-eq c =
    let same = eq_true c.args.front.now c.split_at.result.0.now (sym c.eq.ensures ∙ c.if-eq.true) in
    ap (λ (bytes : List ℕ). Some bytes) c.split_at.ensures.back ∙ sym (after_same c.args.front.now c.args.bytes.now (same ∙ c.split_at.ensures.front))

pub returns-else-eq : goal.returns-else-eq
returns-else-eq c =
    let differ = eq_false c.args.front.now c.split_at.result.0.now (sym c.eq.ensures ∙ c.if-eq.false) in
    sym (after_other c.args.front.now c.args.bytes.now (λ same. differ (same ∙ sym c.split_at.ensures.front)))
