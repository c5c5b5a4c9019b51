use Rattle.std.proofs.Common.{◌<◌, ℕ, ◌++◌, ◌∷◌, [], List, length, take, All, sym, subst, ap, ◌∙◌, refl}
use Rattle.std.proofs.lemmas.List.{take_more, take_all}
use Rattle.ygg_cnf.specs.declared.lit.Lit.{Lit}
use Rattle.ygg_watch.specs.Propagation.{Propagation, IsWithin}
use Rattle.ygg_watch.proofs.loading.load.Goals as goal

pub loop-clause-init : goal.loop-clause-init
loop-clause-init g c = record {
  held = c.requires.fresh.held;
  empty = c.requires.fresh.empty;
  closed = c.requires.fresh.closed;
  variable_count = refl;
}

pub loop-clause-preserved : goal.loop-clause-preserved
loop-clause-preserved g c = record {
  held = ap (λ (p : Propagation). p.clauses) c.in_ok-add.ensures.ok
      ∙ (ap (λ (cs : List (List Lit)). cs ++ c.clause-item.result ∷ []) c.loop-clause.invariant.held
      ∙ sym (take_more c.as_slice-clause-items.result.now c.loop-clause.clause-index c.clause-item.result c.loop-clause-test.true
      ∙ ap (λ (x : List Lit). take c.loop-clause.clause-index c.as_slice-clause-items.result.now ++ x ∷ []) (sym c.clause-item.is)));
  empty = ap (λ (p : Propagation). p.trail) c.in_ok-add.ensures.ok ∙ c.loop-clause.invariant.empty;
  closed = ap (λ (p : Propagation). p.level) c.in_ok-add.ensures.ok ∙ c.loop-clause.invariant.closed;
  variable_count = ap (λ (p : Propagation). p.variable_count) c.in_ok-add.ensures.ok ∙ c.loop-clause.invariant.variable_count;
}

pub add-requires : goal.add-requires
add-requires g c =
    let l : c.loop-clause.clause-index < length c.args.clauses.now = rw c.as_slice-clause-items.ensures at c.loop-clause-test.true in
    subst (λ (n : ℕ). IsWithin n c.clause-item.result) (sym c.loop-clause.invariant.variable_count)
    (rw (c.clause-item.is, c.as_slice-clause-items.ensures) (c.requires.within c.loop-clause.clause-index c.clause-item.result l))

pub returns-clause-fresh : goal.returns-clause-fresh
returns-clause-fresh g c = record {
  held = c.loop-clause.invariant.held ∙ (take_all _ c.as_slice-clause-items.result.now c.loop-clause-test.false ∙ c.as_slice-clause-items.ensures);
  empty = c.loop-clause.invariant.empty;
  closed = c.loop-clause.invariant.closed;
  within = subst (λ (n : ℕ). All (IsWithin n) c.args.clauses.now) (sym c.loop-clause.invariant.variable_count) c.requires.within;
}

pub returns-clause-variable_count : goal.returns-clause-variable_count
returns-clause-variable_count g c = c.loop-clause.invariant.variable_count
