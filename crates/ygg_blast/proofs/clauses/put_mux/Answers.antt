use Rattle.std.proofs.Common.{◌≡◌, [], ◌∷◌, ◌++◌, map, All, sym, ap, subst, ◌∙◌, OnOk}
use Rattle.ygg_cnf.specs.Literals.{once}
use Rattle.ygg_cnf.specs.Patterns.{IsPattern, made}
use Rattle.ygg_blast.proofs.Rows.{mux_are, mux_make}
use Rattle.ygg_blast.proofs.clauses.put_mux.Goals as goal

pub put_made-requires : goal.put_made-requires
put_made-requires g c = subst (All (IsPattern 4)) (sym c.mux_rows.ensures) mux_are

pub returns : goal.returns
returns g c =
    subst (λ l. OnOk c.put_made.result (g.S.ClauseSink.held c.put_made.new.sink ≡ g.S.ClauseSink.held c.args.sink.now ++ l))
    (ap (λ rows. map once (map (made (c.args.o ∷ c.args.c ∷ c.args.a ∷ c.args.b ∷ [])) rows)) c.mux_rows.ensures
    ∙ mux_make c.args.o c.args.c c.args.a c.args.b) c.put_made.ensures
