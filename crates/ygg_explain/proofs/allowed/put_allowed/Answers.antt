use Rattle.std.proofs.Common.{[], List, ap, sym, ◌∙◌, subst, append-nil}
use Rattle.ygg_replay.specs.ygg_meaning.Machine.{Picks}
use Rattle.ygg_replay.specs.ygg_meaning.Replayed.{pick_lists}
use Rattle.ygg_replay.specs.ygg_meaning.Violates.{most}
use Rattle.ygg_replay.specs.Sites.{closed_in}
use Rattle.ygg_replay.specs.Steps.{meant_at}
use Rattle.ygg_sched.specs.declared.case.CaseKind.{CaseKind}
use Rattle.ygg_explain.specs.Sites.{end_of}
use Rattle.ygg_explain.specs.Told.{AreChoices, lists_by, none}
use Rattle.ygg_explain.proofs.Adding.{adds_as, on_ok}
use Rattle.ygg_explain.proofs.Choosing.{again_is, all_lists, begun_none}
use Rattle.ygg_explain.proofs.allowed.put_allowed.Goals as goal

pub returns-then-is_again : goal.returns-then-is_again
returns-then-is_again c =
    let s = c.args.site.now in
    let a = c.args.asking in
    let again = again_is a.case.kind (sym c.is_again.ensures ∙ c.if-is_again.true) in
    record {
      text = [];
      like = λ o is. subst (λ (k : CaseKind). AreChoices (closed_in s) o (meant_at s a.schedule.now) (end_of s a) (lists_by k (most (closed_in s) o)) [])
          (sym again) none;
      added = sym (append-nil c.args.out.now);
    }

pub returns : goal.returns
returns c =
    let s = c.args.site.now in
    let a = c.args.asking in
    let steps = sym c.is_again.ensures ∙ c.if-is_again.false in
    on_ok c.put_after.result (adds_as (λ text h. λ o is.
    subst (λ (lists : List Picks). AreChoices (closed_in s) o (meant_at s a.schedule.now) (end_of s a) lists text)
    (begun_none (pick_lists c.in_ok-count.count) ∙ ap pick_lists (c.in_ok-count.ensures o is)
    ∙ sym (all_lists a.case.kind (most (closed_in s) o) steps)) (h o is))) c.put_after.ensures
