use Rattle.std.proofs.Common.{◌≡◌, sym, ap, ◌∙◌, List, ℕ, Some}
use Rattle.std.specs.List.{find}
use Rattle.ygg_syntax.specs.declared.tree.Operation.{Operation}
use Rattle.ygg_syntax.specs.declared.tree.Tick.{Tick}
use Rattle.ygg_meaning.specs.Obligations.{obligations_of}
use Rattle.ygg_sched.specs.Naming.{is_suffix, all_of}
use Rattle.ygg_sched.specs.Words.{after_front}
use Rattle.ygg_sched.proofs.Finding.{found_by_suffix, found_nowhere}
use Rattle.ygg_sched.proofs.naming.obligation_named.Goals as goal

pub returns-in-Some-clause-named : goal.returns-in-Some-clause-named
returns-in-Some-clause-named c =
    let starts : after_front c.args.layer.now.name.text c.args.name.now ≡ Some c.in-Some.own.now =
    ap (λ (front : List ℕ). after_front front c.args.name.now) (sym c.as_slice.ensures) ∙ sym c.in-Some.ensures in
    c.own_named.ensures.named
    ∙ ap (λ (os : List Operation). find (is_suffix c.in-Some.own.now) (all_of os c.as_slice-in-Some-2.result.now)) c.as_slice-in-Some.ensures
    ∙ ap (λ (ts : List Tick). find (is_suffix c.in-Some.own.now) (all_of c.args.layer.now.operations ts)) c.as_slice-in-Some-2.ensures
    ∙ sym (found_by_suffix c.args.layer.now.name.text c.args.name.now c.in-Some.own.now (obligations_of c.args.layer.now) starts)

pub returns-in-None-clause-named : goal.returns-in-None-clause-named
returns-in-None-clause-named c =
    sym (found_nowhere c.args.layer.now.name.text c.args.name.now (obligations_of c.args.layer.now)
    (ap (λ (front : List ℕ). after_front front c.args.name.now) (sym c.as_slice.ensures) ∙ sym c.in-None.ensures))
