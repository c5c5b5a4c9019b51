use Rattle.std.proofs.Common.{◌-◌, get_or, sym, ap, ◌∙◌}
use Rattle.ygg_syntax.specs.declared.tree.File.{File}
use Rattle.ygg_eval.specs.ygg_meaning.Environments.{bind}
use Rattle.ygg_eval.specs.ygg_meaning.Stack.{tables_of}
use Rattle.ygg_eval.proofs.Asked.{low_first, low_later}
use Rattle.ygg_explain.proofs.environments.below.Goals as goal

pub returns-then-place-eq0 : goal.returns-then-place-eq0
returns-then-place-eq0 c =
    let file = c.args.typed.now.file in
    c.in_ok-env.ensures ∙ ap (λ (f : File). bind (tables_of f.disk) c.args.values.now) c.file-file.ensures.same
    ∙ ap (λ ds. bind ds c.args.values.now) (sym (low_first (tables_of file.disk) file.layers c.args.place c.if-place-eq0.true))

pub returns : goal.returns
returns c =
    let file = c.args.typed.now.file in
    let l = c.index-as_slice-place.result in
    let same = c.as_slice.ensures ∙ ap (λ (f : File). f.layers) c.file-file.ensures.same in
    let here = c.index-as_slice-place.is ∙ ap (λ ls. get_or ls (c.args.place - 1) l) same in
    c.in_ok-env-2.ensures ∙ ap (λ ds. bind ds c.args.values.now)
    (c.as_slice-2.ensures ∙ sym (low_later (tables_of file.disk) file.layers c.args.place l c.requires.within c.if-place-eq0.false here))
