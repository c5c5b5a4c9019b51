use Rattle.std.proofs.Common.{◌++◌, List, codes, ap, ◌∙◌, subst, sym, append_assoc}
use Rattle.ygg_value.specs.declared.row.Value.{Value}
use Rattle.ygg_eval_expr.specs.Held.{env_of}
use Rattle.ygg_eval.specs.ygg_meaning.Environments.{bind}
use Rattle.ygg_replay.specs.Sites.{StatesFit, closed_in, low_at, memory_at, vars_at}
use Rattle.ygg_sched.specs.Printing.{bits_line}
use Rattle.ygg_explain.specs.Lines.{env_lines}
use Rattle.ygg_explain.specs.Told.{IsRelation, answers_lines}
use Rattle.ygg_explain.proofs.Adding.{joined_3, on_ok}
use Rattle.ygg_explain.proofs.Choosing.{choice_of, choice_text, step_of}
use Rattle.ygg_explain.proofs.allowed.put_choice.Goals as goal

pub put_relation-requires-clause-fits : goal.put_relation-requires-clause-fits
put_relation-requires-clause-fits c =
    let s = c.args.site.now in
    let a = c.args.asking in
    let can = c.requires.can in
    let out = c.in_ok-outcome.outcome in
    let st = step_of s a c.requires.steps can.obligation can.is c.args.picks.now out.answer out.after.values (c.in_ok-outcome.ensures can.obligation can.is) in
    subst (λ (state : List Value). StatesFit s state a.memory.now a.low.now) (sym c.state-2.ensures)
    (record { vars_fit = st.fit; memory_fits = can.memory; low_fits = can.low })

pub returns : goal.returns
returns c =
    let s = c.args.site.now in
    let a = c.args.asking in
    let out = c.in_ok-outcome.outcome in
    let state = out.after.values in
    let picks = c.args.picks.now in
    let answers = answers_lines a.case.kind a.answer.now out.answer in
    let allowed = env_lines (codes "allowed ") (vars_at s state) in
    let names = ap env_of c.as_slice-2.ensures.value ∙ c.in_ok-allowed.ensures ∙ ap (λ ds. bind ds c.as_slice.result.now) c.as_slice-declared.ensures
    ∙ ap (bind s.layer.now.state) (c.as_slice.ensures ∙ c.state.ensures) in
    let front = joined_3 c.args.out.now c.put_line.new.out c.put_lines.new.out c.put_answers.new.out (bits_line (codes "picks ") picks) allowed answers
    c.in_ok-put_line.ensures (c.in_ok-put_lines.ensures ∙ ap (λ e. c.put_line.new.out ++ env_lines (codes "allowed ") e) names)
    c.in_ok-put_answers.ensures in
    on_ok c.put_relation.result (λ h. record {
      text = choice_text s a c.requires.steps picks out.answer state h.text;
      like = choice_of s a c.requires.steps picks out.answer state h.text c.in_ok-outcome.ensures (subst (λ (state : List Value).
          IsRelation (closed_in s) (vars_at s state) (memory_at s a.memory.now) (low_at s a.low.now) h.text) c.state-2.ensures h.like);
      added = h.added ∙ ap (λ t. t ++ h.text) front
          ∙ append_assoc c.args.out.now (bits_line (codes "picks ") picks ++ (allowed ++ answers)) h.text
          ∙ ap (λ t. c.args.out.now ++ t) (append_assoc (bits_line (codes "picks ") picks) (allowed ++ answers) h.text
          ∙ ap (λ t. bits_line (codes "picks ") picks ++ t) (append_assoc allowed answers h.text));
    }) c.put_relation.ensures
