use Rattle.std.proofs.Common.{◌≡◌, [], ◌∷◌, ◌++◌, map, All, sym, ap, subst, ◌∙◌, OnOk}
use Rattle.ygg_cnf.specs.Literals.{once}
use Rattle.ygg_cnf.specs.Patterns.{IsPattern, made}
use Rattle.ygg_blast.proofs.Rows.{xor_are, xor_make}
use Rattle.ygg_blast.proofs.clauses.put_xor.Goals as goal

pub put_made-requires : goal.put_made-requires
put_made-requires g c = subst (All (IsPattern 3)) (sym c.xor_rows.ensures) xor_are

pub returns : goal.returns
returns g c =
    subst (λ l. OnOk c.put_made.result (g.S.ClauseSink.held c.put_made.new.sink ≡ g.S.ClauseSink.held c.args.sink.now ++ l))
    (ap (λ rows. map once (map (made (c.args.o ∷ c.args.a ∷ c.args.b ∷ [])) rows)) c.xor_rows.ensures ∙ xor_make c.args.o c.args.a c.args.b) c.put_made.ensures
