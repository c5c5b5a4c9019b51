use Rattle.std.proofs.Common.{List, Result, Ok, Err, IfOk, ap, ◌∙◌}
use Rattle.ygg_value.specs.declared.row.Value.{Value}
use Rattle.ygg_sched.specs.ygg_meaning.Related.{settled}
use Rattle.ygg_replay.specs.Ends.{end_at}
use Rattle.ygg_replay.specs.Sites.{closed_in, low_at}
use Rattle.ygg_replay.proofs.Recovering.{recovers}
use Rattle.ygg_replay.proofs.site.ReplaySite.after_fall.Goals as goal

if_both : {T E : Type 0} (P Q R : T → Type 0) (r : Result T E) → IfOk r P → IfOk r Q → ((x : T) → P x → Q x → R x) → IfOk r R
if_both P Q R (Ok x) h g f = f x h g
if_both P Q R (Err e) h g f = tt

pub returns-clause-recovered : goal.returns-clause-recovered
returns-clause-recovered c =
    let s = c.args.self.now in
    let x = c.args.schedule.now in
    let low = c.args.fallen.values in
    let told = c.in_ok-side.ensures ∙ ap (λ (vs : List Value). settled (closed_in s) (low_at s vs)) c.state.ensures in
    if_both _ _ _ c.recovered.result c.recovered.ensures.ran c.recovered.ensures.side
    (λ e ran side. record { recovers = recovers s x low e.answer (end_at s e).to ran; side = side ∙ told })
