use Rattle.std.proofs.Common.{◌≡◌, ℕ, suc, ◌-◌, false, [], List, codes, ap, subst, slice_get, Option, Some, None, sym, append-nil, refl, arith}
use Rattle.ygg_syntax.specs.declared.tree.Expr.{Expr}
use Rattle.ygg_replay.specs.ygg_meaning.Related.{relations}
use Rattle.ygg_eval_expr.specs.Held.{env_of}
use Rattle.ygg_replay.specs.Sites.{closed_in, low_at, memory_at, vars_at}
use Rattle.ygg_explain.specs.Told.{AreFalseOf, relation_word, scope_at}
use Rattle.ygg_explain.specs.Views.{known_in}
use Rattle.ygg_explain.proofs.Adding.{adds_as, on_ok}
use Rattle.ygg_explain.proofs.Seeing.{always_ready, known_is, parts_seen, relate_ready}
use Rattle.ygg_explain.proofs.formulas.put_false_relation.Goals as goal

-- a number that isn't 0
after_one : (n : ℕ) → (n ≡ 0 → ⊥) → n ≡ suc (n - 1)
after_one n h = omega arith

pub put_parts-requires : goal.put_parts-requires
put_parts-requires c =
    let s = c.args.site.now in
    let same = known_is s c.args.state.now c.args.memory.now c.args.low.now (known_in c.seen-view.result) c.as_slice.result.now c.as_slice-2.result.now
    c.as_slice-3.result.now (env_of c.in_ok-own.own.items) (env_of c.as_slice-4.result.now) (env_of c.in_ok-low.low.items) (env_of c.as_slice-5.result.now)
    c.seen-view.ensures.known (ap env_of c.as_slice-4.ensures.value) c.in_ok-own.ensures c.as_slice.ensures c.as_slice-2.ensures
    (ap env_of c.as_slice-5.ensures.value) c.in_ok-low.ensures c.as_slice-3.ensures in
    relate_ready s c.args.state.now c.args.memory.now c.args.low.now c.requires.here c.seen-view.ensures.typed c.requires.fits (known_in c.seen-view.result)
    same

pub put_parts-requires-in-Some : goal.put_parts-requires-in-Some
put_parts-requires-in-Some c =
    let s = c.args.site.now in
    let same = known_is s c.args.state.now c.args.memory.now c.args.low.now (known_in c.seen-view.result) c.as_slice.result.now c.as_slice-2.result.now
    c.as_slice-3.result.now (env_of c.in_ok-own.own.items) (env_of c.as_slice-4.result.now) (env_of c.in_ok-low.low.items) (env_of c.as_slice-5.result.now)
    c.seen-view.ensures.known (ap env_of c.as_slice-4.ensures.value) c.in_ok-own.ensures c.as_slice.ensures c.as_slice-2.ensures
    (ap env_of c.as_slice-5.ensures.value) c.in_ok-low.ensures c.as_slice-3.ensures in
    always_ready s c.args.state.now c.args.memory.now c.args.low.now c.requires.here c.seen-view.ensures.typed c.requires.fits (known_in c.seen-view.result)
    same (c.args.number - 1) c.in-Some.e.now (sym (rw c.in-Some.is at c.nth.ensures))

pub returns-in-Some : goal.returns-in-Some
returns-in-Some c =
    let s = c.args.site.now in
    let same = known_is s c.args.state.now c.args.memory.now c.args.low.now (known_in c.seen-view.result) c.as_slice.result.now c.as_slice-2.result.now
    c.as_slice-3.result.now (env_of c.in_ok-own.own.items) (env_of c.as_slice-4.result.now) (env_of c.in_ok-low.low.items) (env_of c.as_slice-5.result.now)
    c.seen-view.ensures.known (ap env_of c.as_slice-4.ensures.value) c.in_ok-own.ensures c.as_slice.ensures c.as_slice-2.ensures
    (ap env_of c.as_slice-5.ensures.value) c.in_ok-low.ensures c.as_slice-3.ensures in
    let there : slice_get s.layer.now.always (c.args.number - 1) ≡ Some c.in-Some.e.now = sym (rw c.in-Some.is at c.nth.ensures) in
    let scope = scope_at (vars_at s c.args.state.now) (memory_at s c.args.memory.now) (low_at s c.args.low.now) in
    let number = after_one c.args.number c.if-number-eq0.false in
    on_ok c.put_parts-in-Some.result (adds_as (λ text h.
    subst (λ (n : ℕ). AreFalseOf (closed_in s) (relation_word n) scope (slice_get (relations (closed_in s)) n) text) (sym number)
    (subst (λ (o : Option Expr). AreFalseOf (closed_in s) (codes "always") scope o text) (sym there)
    (parts_seen s c.args.state.now c.args.memory.now c.args.low.now c.seen-view.result same false (codes "always") c.in-Some.e.now text h))))
    c.put_parts-in-Some.ensures

pub returns : goal.returns
returns c =
    let s = c.args.site.now in
    let there : slice_get s.layer.now.always (c.args.number - 1) ≡ None = sym (rw c.in-None.is at c.nth.ensures) in
    let scope = scope_at (vars_at s c.args.state.now) (memory_at s c.args.memory.now) (low_at s c.args.low.now) in
    let number = after_one c.args.number c.if-number-eq0.false in
    let nothing : List ℕ = [] in
    record {
      text = nothing;
      like = subst (λ (n : ℕ). AreFalseOf (closed_in s) (relation_word n) scope (slice_get (relations (closed_in s)) n) nothing) (sym number)
          (subst (λ (o : Option Expr). AreFalseOf (closed_in s) (codes "always") scope o nothing) (sym there) refl);
      added = sym (append-nil c.args.out.now);
    }
