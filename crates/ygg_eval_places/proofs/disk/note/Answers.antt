use Rattle.std.proofs.Common.{◌++◌, Bool, if◌then◌else◌, [], ◌∷◌, ap, sym, ◌∙◌}
use Rattle.std.proofs.lemmas.List.{append-nil}
use Rattle.std.proofs.lemmas.Result.{on_ok_weaker}
use Rattle.ygg_eval_places.proofs.OnDisk.{is_seen, is_unseen}
use Rattle.ygg_eval_places.proofs.disk.note.Goals as goal

pub returns-then-power-gt0 : goal.returns-then-power-gt0
returns-then-power-gt0 c =
    let picks = c.args.picks.now in
    on_ok_weaker c.push.result (λ e.
    e ∙ ap (λ (b : Bool). picks ++ (if b then c.args.pick ∷ [] else [])) (sym (is_seen c.args.power.now.picks.next c.if-power-gt0.true)))
    c.push.ensures.ok

pub returns : goal.returns
returns c =
    let picks = c.args.picks.now in
    sym (append-nil picks)
    ∙ ap (λ (b : Bool). picks ++ (if b then c.args.pick ∷ [] else [])) (sym (is_unseen c.args.power.now.picks.next c.if-power-gt0.false))
