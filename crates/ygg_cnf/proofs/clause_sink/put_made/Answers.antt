use Rattle.std.proofs.Common.{◌≡◌, ◌++◌, sym, subst, OnOk}
use Rattle.ygg_cnf.proofs.Apart.{once_all_made}
use Rattle.ygg_cnf.proofs.clause_sink.put_made.Goals as goal

pub returns-then-are_apart : goal.returns-then-are_apart
returns-then-are_apart g c =
    subst (λ l. OnOk c.take_made.result (g.S.ClauseSink.held c.take_made.new.self ≡ g.S.ClauseSink.held c.args.sink.now ++ l))
    (sym (once_all_made c.args.block.now (c.are_apart.ensures c.if-are_apart.true) c.args.patterns.now c.requires)) c.take_made.ensures
