use Rattle.std.proofs.Common.{◌≡◌, ◌++◌, length, map, take, ap, ◌∙◌, arith}
use Rattle.std.proofs.lemmas.Result.{on_ok_weaker}
use Rattle.ygg_cnf.specs.Patterns.{made}
use Rattle.ygg_chain.proofs.ArenaLemmas.{made_clauses_more, made_stored_more}
use Rattle.ygg_chain.proofs.arena.ClauseArena.push_made.Goals as goal

-- the block begins where the literals ended
begins : (c : goal.After-push_patterns) → c.len-from.result ≡ length c.self.inside.lits.items
begins c = let k = c.self.inside.lits.ok in let e = c.len-from.ensures in omega (arith, k, e)

pub invariant_of-self-2 : goal.invariant_of-self-2
invariant_of-self-2 c =
    let (count, some) = c.push_patterns.ensures.some in
    made_stored_more c.self.inside.lits.items c.args.block.now c.extend_from_slice.new.self.items c.self.inside.stored.items
    c.push_patterns.new.stored.items c.len-from.result count c.args.patterns.now c.self.invariant c.requires
    c.in_ok-extend_from_slice.ensures.items some (begins c)

pub returns-clause-ok : goal.returns-clause-ok
returns-clause-ok c =
    on_ok_weaker c.push_patterns.result
    (λ all. made_clauses_more c.self.inside.lits.items c.args.block.now c.extend_from_slice.new.self.items c.self.inside.stored.items
    c.push_patterns.new.stored.items c.len-from.result c.args.patterns.now c.self.invariant c.in_ok-extend_from_slice.ensures.items all (begins c)
    ∙ ap (λ l. l ++ map (made c.args.block.now) c.args.patterns.now) c.self.view_is)
    c.push_patterns.ensures.ok

pub returns-clause-some : goal.returns-clause-some
returns-clause-some c =
    let (count, some) = c.push_patterns.ensures.some in (
      count,
      made_clauses_more c.self.inside.lits.items c.args.block.now c.extend_from_slice.new.self.items c.self.inside.stored.items
          c.push_patterns.new.stored.items c.len-from.result (take count c.args.patterns.now) c.self.invariant
          c.in_ok-extend_from_slice.ensures.items some (begins c)
          ∙ ap (λ l. l ++ map (made c.args.block.now) (take count c.args.patterns.now)) c.self.view_is,
    )
