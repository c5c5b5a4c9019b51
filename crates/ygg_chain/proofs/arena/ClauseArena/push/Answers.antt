use Rattle.std.proofs.Common.{◌≡◌, [], ◌∷◌, ◌++◌, length, ap, ◌∙◌, arith}
use Rattle.ygg_chain.proofs.PlaceLemmas.{on_err_always}
use Rattle.ygg_chain.proofs.ArenaLemmas.{one_clause_more, no_clause_more}
use Rattle.ygg_chain.proofs.arena.ClauseArena.push.Goals as goal

pub returns-in_err-push-clause-err : goal.returns-in_err-push-clause-err
returns-in_err-push-clause-err c =
    on_err_always c.from_residual-in_err-push.result
    (no_clause_more c.self.inside.lits.items c.args.clause.now c.extend_from_slice.new.self.items c.self.inside.stored.items c.push.new.self.items
    c.self.invariant c.in_ok-extend_from_slice.ensures.items c.in_err-push.ensures.items ∙ c.self.view_is)

pub returns-clause-ok : goal.returns-clause-ok
returns-clause-ok c =
    let from : c.len-from.result ≡ length c.self.inside.lits.items =
    let k = c.self.inside.lits.ok in let e = c.len-from.ensures in omega (arith, k, e) in
    let end : c.len-end.result ≡ length c.extend_from_slice.new.self.items =
    let k = c.extend_from_slice.new.self.ok in let e = c.len-end.ensures in omega (arith, k, e) in
    one_clause_more c.self.inside.lits.items c.args.clause.now c.extend_from_slice.new.self.items c.self.inside.stored.items c.push.new.self.items
    c.len-from.result c.len-end.result
    c.self.invariant c.in_ok-extend_from_slice.ensures.items c.in_ok-push.ensures.items from end
    ∙ ap (λ l. l ++ c.args.clause.now ∷ []) c.self.view_is
