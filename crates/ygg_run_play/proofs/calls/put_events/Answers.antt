-- All lines are written, and they are those of the disk calls that the events show.
use Rattle.std.proofs.Common.{◌∙◌, sym, ap, ◌++◌}
use Rattle.std.proofs.lemmas.List.{append-nil, drop_all}
use Rattle.ygg_run_play.proofs.Shown.{shown_lines, lines_shown}
use Rattle.ygg_run_play.proofs.calls.put_events.Goals as goal

pub returns : goal.returns
returns c = λ notes is.
    sym (append-nil c.loop-event.out)
    ∙ ap (λ z. c.loop-event.out ++ shown_lines z) (sym (drop_all c.loop-event.event-index c.args.events.now c.loop-event-test.false))
    ∙ c.loop-event.invariant ∙ ap (λ z. c.args.out.now ++ shown_lines z) is ∙ ap (λ z. c.args.out.now ++ z) (lines_shown notes)
