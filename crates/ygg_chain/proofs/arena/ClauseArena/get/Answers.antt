use Rattle.std.proofs.Common.{◌-◌, Some, List, drop, take, sym, ap, ◌∙◌, slice_get}
use Rattle.ygg_cnf.specs.declared.lit.Lit.{Lit}
use Rattle.ygg_chain.specs.Arena.{clause_of}
use Rattle.ygg_chain.specs.declared.arena.Stored.{Stored}
use Rattle.ygg_chain.proofs.ArenaLemmas.{clause_here, left_made, left_fits}
use Rattle.ygg_chain.proofs.arena.ClauseArena.get.Goals as goal

pub clause_made-requires : goal.clause_made-requires
clause_made-requires c =
    let at = rw c.as_slice.ensures.value at c.in_ok-from.ensures.lookup.1 in
    let l = rw c.as_slice.ensures.value at c.in_ok-from.ensures.lookup.3.0 in
    left_fits c.self.inside.lits.items c.as_slice-lits.result.now c.self.inside.stored.items c.args.place c.in-Made.from c.in-Made.pattern
    c.in_ok-from.field-0.now c.as_slice-lits.ensures.value c.in-Made.is c.self.invariant l at

pub returns-in-Made : goal.returns-in-Made
returns-in-Made c =
    let at = rw c.as_slice.ensures.value at c.in_ok-from.ensures.lookup.1 in
    let l = rw c.as_slice.ensures.value at c.in_ok-from.ensures.lookup.3.0 in
    let lits : List Lit = c.self.inside.lits.items in
    ap (λ (l : List (List Lit)). slice_get l c.args.place) (sym c.self.view_is)
    ∙ (clause_here lits c.self.inside.stored.items c.args.place c.in_ok-from.field-0.now l at
    ∙ (ap (λ (s : Stored). Some (clause_of lits s)) c.in-Made.is
    ∙ ap (λ (l : List Lit). Some l) (sym (c.clause_made.ensures
    ∙ left_made lits c.as_slice-lits.result.now c.in-Made.from c.in-Made.pattern c.as_slice-lits.ensures.value))))

pub returns-in-Whole : goal.returns-in-Whole
returns-in-Whole c =
    let at = rw c.as_slice.ensures.value at c.in_ok-from.ensures.lookup.1 in
    let l = rw c.as_slice.ensures.value at c.in_ok-from.ensures.lookup.3.0 in
    let lits : List Lit = c.self.inside.lits.items in
    ap (λ (l : List (List Lit)). slice_get l c.args.place) (sym c.self.view_is)
    ∙ (clause_here lits c.self.inside.stored.items c.args.place c.in_ok-from.field-0.now l at
    ∙ (ap (λ (s : Stored). Some (clause_of lits s)) c.in-Whole.is
    ∙ ap (λ (l : List Lit). Some (take (c.in-Whole.end - c.in-Whole.from) (drop c.in-Whole.from l))) (sym c.as_slice-lits.ensures.value)))
