use Rattle.std.proofs.Common.{◌≡◌, ◌<◌, ◌++◌, ◌∷◌, length, arith, sym, ap, subst, List, [], ◌∙◌, length-append, All}
use Rattle.ygg_cnf.specs.declared.lit.Lit.{Lit}
use Rattle.std.proofs.lemmas.List.Elements.{All-weaker}
use Rattle.ygg_watch.proofs.PropagationLemmas.{on_err}
use Rattle.ygg_watch.proofs.StepLemmas.{live_added}
use Rattle.ygg_watch.specs.Propagation.{Propagation, with_clause}
use Rattle.ygg_watch.specs.Status.{state_of}
use Rattle.ygg_watch.proofs.watching.WatchPropagate.add.Goals as goal

pub invariant_of-self-2 : goal.invariant_of-self-2
invariant_of-self-2 c =
    let i = c.self.inside in let v = c.self.invariant in
    let clauses : c.push_reserved.new.self.items ≡ i.clauses.items ++ c.in_ok-kept.kept ∷ []
    = c.push_reserved.ensures.items ∙ ap (λ (l : List (List Lit)). l ++ c.in_ok-kept.kept ∷ []) c.reserve.ensures.items in
    let r = rw (← c.self.view_is) at c.requires in
    let fits : All (λ (x : Lit). x.var < i.trail.variable_count) c.in_ok-kept.kept =
    subst (λ (w : List Lit). All (λ (x : Lit). x.var < i.trail.variable_count) w) (sym (c.in_ok-kept.ensures ∙ c.as_slice.ensures)) r in
    record {
      live = rw (clauses, c.in_ok-add.ensures.watched, c.in_ok-add.ensures.next, c.in_ok-add.ensures.firsts)
          (live_added i.clauses.items i.links.watched i.links.next i.links.firsts i.trail.entries.items i.trail.variable_count
          i.frames.items i.head i.seen c.in_ok-kept.kept v.live v.seen_within fits);
      levels = v.levels;
      capacity_is = v.capacity_is;
      seen_within = let s = v.seen_within in let m = ap (λ (l : List (List Lit)). length l) clauses in omega (arith, s, m, length-append {A = List Lit});
    }

pub invariant_of-self : goal.invariant_of-self
invariant_of-self c = rw c.reserve.ensures.items c.self.invariant

pub invariant_of-self-in_err-kept : goal.invariant_of-self-in_err-kept
invariant_of-self-in_err-kept c = rw c.reserve.ensures.items c.self.invariant

pub invariant_of-self-in_err-add : goal.invariant_of-self-in_err-add
invariant_of-self-in_err-add c = rw (c.reserve.ensures.items, c.in_err-add.ensures.err) c.self.invariant

pub returns-in_err-reserve-clause-err : goal.returns-in_err-reserve-clause-err
returns-in_err-reserve-clause-err c =
    on_err c.from_residual.result (ap (λ (l : List (List Lit)). state_of l c.self.inside.trail) c.reserve.ensures.items ∙ c.self.view_is)

pub returns-in_err-kept-clause-err : goal.returns-in_err-kept-clause-err
returns-in_err-kept-clause-err c =
    on_err c.from_residual-in_err-kept.result (ap (λ (l : List (List Lit)). state_of l c.self.inside.trail) c.reserve.ensures.items ∙ c.self.view_is)

pub returns-in_err-add-clause-err : goal.returns-in_err-add-clause-err
returns-in_err-add-clause-err c =
    on_err c.from_residual-in_err-add.result (ap (λ (l : List (List Lit)). state_of l c.self.inside.trail) c.reserve.ensures.items ∙ c.self.view_is)

pub of-requires : goal.of-requires
of-requires c =
    let r = rw (← c.self.view_is) at c.requires in let small = c.self.inside.trail.small in
    subst (λ (w : List Lit). All (λ (x : Lit). x.var < 2147483648) w) (sym c.as_slice.ensures)
    (All-weaker (λ (x : Lit). x.var < c.self.inside.trail.variable_count) (λ x. x.var < 2147483648) (λ x l. omega (arith, l, small)) c.args.clause.now r)

pub returns-clause-ok : goal.returns-clause-ok
returns-clause-ok c =
    let i = c.self.inside in
    ap (λ (l : List (List Lit)). state_of l i.trail)
    (c.push_reserved.ensures.items ∙ (ap (λ (l : List (List Lit)). l ++ c.in_ok-kept.kept ∷ []) c.reserve.ensures.items
    ∙ ap (λ (w : List Lit). i.clauses.items ++ w ∷ []) (c.in_ok-kept.ensures ∙ c.as_slice.ensures)))
    ∙ ap (λ (p : Propagation). with_clause p c.args.clause.now) c.self.view_is
