use Rattle.std.proofs.Common.{List, Result, Ok, Err, OnOk, All, length, map, sym, ap, ◌∙◌, subst, arith}
use Rattle.std.proofs.lemmas.List.{length-map}
use Rattle.ygg_value.specs.Number.{Number}
use Rattle.ygg_value.specs.Values.{word_in}
use Rattle.ygg_syntax.specs.declared.tree.Index.{Index}
use Rattle.ygg_eval_expr.specs.ygg_meaning.Environments.{look_up}
use Rattle.ygg_eval_expr.specs.declared.held.Binding.{Binding}
use Rattle.ygg_eval_expr.specs.Held.{env_of}
use Rattle.ygg_eval_expr.specs.Known.{CanEvaluate}
use Rattle.ygg_eval_expr.specs.Writing.{CanWrite}
use Rattle.ygg_eval.specs.Ready.{eval_in, known_in}
use Rattle.ygg_eval.proofs.Assigning.{assigned_is}
use Rattle.ygg_eval.proofs.runner.Runner.write.Goals as goal

on_ok : {T E A B : Type 0} (r : Result T E) → OnOk r A → (A → B) → OnOk r B
on_ok (Ok t) a f = f a
on_ok (Err e) a f = tt

pub returns : goal.returns
returns c =
    on_ok c.write_name.result c.write_name.ensures
    (assigned_is c.args.self.now.typed.now.file c.args.x.now c.args.indices.now c.args.value c.args.names.now.items c.deref_mut.result.now
    c.as_slice.result.now c.write_name.new.names c.as_slice-2.result.now c.as_slice-3.result.now c.args.names.now.len
    c.deref_mut.ensures.value c.as_slice.ensures.value c.as_slice-2.ensures (omega (arith, c.args.names.now.ok.0)) c.write_name.auto.names
    (ap (λ (ws : List Number). map (λ (w : Number). w.bits) ws) c.as_slice-3.ensures.value ∙ c.in_ok-places.ensures))

pub places-requires : goal.places-requires
places-requires c =
    let known = λ (bs : List Binding). known_in c.args.self.now.typed.now.file (env_of bs) in
    subst (λ (bs : List Binding). All (λ (i : Index). CanEvaluate (known bs) i.at) c.args.indices.now) (sym c.as_slice.ensures.value) c.requires.evaluates

pub write_name-requires : goal.write_name-requires
write_name-requires c =
    let f = λ (i : Index). (word_in (eval_in c.args.self.now.typed.now.file i.at (env_of c.as_slice.result.now))).bits in
    let name = c.as_slice-2.result.now in
    let bits = λ (w : Number). w.bits in
    let long = ap length c.as_slice-3.ensures.value ∙ sym (length-map c.in_ok-places.places.items bits) ∙ ap length c.in_ok-places.ensures
    ∙ length-map c.args.indices.now f in
    subst (λ n. CanWrite (look_up name (env_of c.deref_mut.result.now)) n c.args.value) (sym long)
    (subst (λ (bs : List Binding). CanWrite (look_up name (env_of bs)) (length c.args.indices.now) c.args.value) (sym c.deref_mut.ensures.value)
    (subst (λ x. CanWrite (look_up x (env_of c.args.names.now.items)) (length c.args.indices.now) c.args.value) (sym c.as_slice-2.ensures)
    c.requires.writes))
