use Rattle.std.proofs.Common.{sym, ◌∙◌}
use Rattle.ygg_explain.specs.Parts.{holds, true_line}
use Rattle.ygg_explain.proofs.Adding.{on_ok}
use Rattle.ygg_explain.proofs.Telling.{fails_so}
use Rattle.ygg_explain.proofs.parts.View.put_part.Goals as goal

pub returns-then-branch : goal.returns-then-branch
returns-then-branch c =
    on_ok c.put_true.result (λ added. record {
      text = true_line c.args.wanted c.args.which.now c.args.e.now;
      like = holds (sym c.in_ok-test.ensures ∙ c.if-branch.true);
      added = added;
    }) c.put_true.ensures

pub returns : goal.returns
returns c =
    on_ok c.push.result (λ added.
    fails_so c.args.self.now c.args.wanted c.args.which.now c.args.e.now c.args.out.now c.put_words.new.out c.put_why.new.out c.push.new.self
    c.in_ok-put_words.ensures c.in_ok-put_why.ensures added (sym c.in_ok-test.ensures ∙ c.if-branch.false)) c.push.ensures.ok
