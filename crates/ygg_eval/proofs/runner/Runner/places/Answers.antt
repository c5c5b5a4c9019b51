use Rattle.std.proofs.Common.{map, sym, ap, ◌∙◌, [], ◌∷◌, ◌++◌, subst}
use Rattle.std.proofs.lemmas.List.{map_push}
use Rattle.ygg_value.specs.Number.{Number}
use Rattle.ygg_value.specs.Values.{word_in}
use Rattle.ygg_syntax.specs.declared.tree.Index.{Index}
use Rattle.ygg_eval_expr.specs.Held.{env_of}
use Rattle.ygg_eval_expr.specs.Known.{CanEvaluate}
use Rattle.ygg_eval.specs.Ready.{eval_in, known_in}
use Rattle.ygg_eval.proofs.Gathered.{found_more, found_all}
use Rattle.ygg_eval.proofs.runner.Runner.places.Goals as goal

pub value-requires : goal.value-requires
value-requires c =
    let known = known_in c.args.self.now.typed.now.file (env_of c.args.names.now) in
    subst (λ (i : Index). CanEvaluate known i.at) (sym c.index-item.is) (c.requires c.loop-index.index-index c.index-item.result c.loop-index-test.true)

pub loop-index-preserved : goal.loop-index-preserved
loop-index-preserved c =
    let eval = eval_in c.args.self.now.typed.now.file in
    let env = env_of c.args.names.now in
    let bits = λ (w : Number). w.bits in
    let before = c.loop-index.places.items in
    found_more (λ (i : Index). (word_in (eval i.at env)).bits) c.args.indices.now c.loop-index.index-index (map bits before) c.loop-index.invariant
    c.index-item.result (map bits c.push.new.self.items) c.loop-index-test.true c.index-item.is
    (ap (map bits) c.in_ok-push.ensures.items ∙ map_push bits before c.word_in.result
    ∙ ap (λ n. map bits before ++ n ∷ []) (ap bits c.word_in.ensures ∙ ap (λ v. (word_in v).bits) c.in_ok-value.ensures))

pub returns : goal.returns
returns c =
    let eval = eval_in c.args.self.now.typed.now.file in
    let env = env_of c.args.names.now in
    found_all (λ (i : Index). (word_in (eval i.at env)).bits) c.args.indices.now c.loop-index.index-index
    (map (λ (w : Number). w.bits) c.loop-index.places.items) c.loop-index.invariant c.loop-index-test.false
