use Rattle.std.proofs.Common.{◌++◌, List, ap, ◌∙◌}
use Rattle.ygg_value.specs.declared.row.Value.{Value}
use Rattle.ygg_replay.specs.Ends.{end_at}
use Rattle.ygg_replay.specs.Sites.{closed_in, machine_in, state_at}
use Rattle.ygg_replay.specs.Steps.{meant_at}
use Rattle.ygg_replay.specs.ygg_meaning.Violates.{End}
use Rattle.ygg_explain.specs.Told.{reached_lines, settled_lines}
use Rattle.ygg_explain.proofs.Adding.{joined_3, on_ok}
use Rattle.ygg_explain.proofs.Explained.{ends_told, no_fall}
use Rattle.ygg_explain.proofs.explaining.put_ends.Goals as goal

pub unreachable-requires : goal.unreachable-requires
unreachable-requires c =
    let s = c.args.site.now in
    let o = c.requires.can.obligation in
    let is = c.requires.can.is in
    let (end, meets) = c.requires.meets o is in
    let (stops, none) = rw c.in_default.is at (c.in_ok-end.ensures o is) in
    no_fall (closed_in s) (machine_in s) o (meant_at s c.args.schedule.now) end meets.reached stops none

pub returns : goal.returns
returns c =
    let s = c.args.site.now in
    let e = c.in-Some.end in
    let to : List Value → End = λ low. record { answer = e.answer; to = state_at s e.memory low; side = e.side } in
    let kind = c.args.case.kind in
    on_ok c.put_allowed.result (λ h. record {
      text = settled_lines kind e.side ++ (reached_lines (end_at s e).to e.answer ++ h.text);
      like = ends_told s c.args.case c.args.schedule.now e (to c.state.result.now) h.text (ap to c.state.ensures)
          (λ o is. (rw c.in-Some.is at (c.in_ok-end.ensures o is)).0) c.requires.meets h.like;
      added = joined_3 c.args.out.now c.put_settled.new.out c.put_reached.new.out c.put_allowed.new.out (settled_lines kind e.side)
          (reached_lines (end_at s e).to e.answer) h.text c.in_ok-put_settled.ensures
          (c.in_ok-put_reached.ensures ∙ ap (λ (low : List Value). c.put_settled.new.out ++ reached_lines (state_at s e.memory low) e.answer) c.state.ensures)
          h.added;
    }) c.put_allowed.ensures
