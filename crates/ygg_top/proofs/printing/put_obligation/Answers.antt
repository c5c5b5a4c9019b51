use Rattle.std.proofs.Common.{refl}
use Rattle.ygg_sched.specs.ygg_meaning.Claims.{claims_of}
use Rattle.ygg_certify.specs.ygg_oblige_laws.Meaning.{claim_name}
use Rattle.std.specs.Prelude.{map}
use Rattle.ygg_top.specs.Printed.{Printed}
use Rattle.ygg_top.proofs.Placed.{is_at, is_clauses_of, placed_name, some_named}
use Rattle.ygg_dimacs.proofs.of_ygg_cnf.Flowing.{puts_done}
use Rattle.ygg_top.proofs.printing.put_obligation.Goals as goal

pub put_term-requires : goal.put_term-requires
put_term-requires g c =
    let named = placed_name c.in-Ok-obligations.all c.as_slice.result.now c.in-Some.place c.at.result.now c.args.name.now c.as_slice.ensures
    c.in-Some.ensures.found c.at.ensures in
    (is_at c.obligations.new.bank (claims_of c.args.typed.now.file) c.in-Ok-obligations.all c.in-Some.place c.at.result.now c.args.name.now
    c.in-Ok-obligations.ensures.names c.in-Ok-obligations.ensures.mean c.at.ensures named).is.wide

pub unreachable-requires : goal.unreachable-requires
unreachable-requires g c =
    c.in-None.ensures.none refl (some_named c.in-Ok-obligations.all c.as_slice.result.now (map claim_name (claims_of c.args.typed.now.file)) c.args.name.now
    c.as_slice.ensures c.in-Ok-obligations.ensures.names c.requires)

pub returns-clause-told : goal.returns-clause-told
returns-clause-told g c =
    let named = placed_name c.in-Ok-obligations.all c.as_slice.result.now c.in-Some.place c.at.result.now c.args.name.now c.as_slice.ensures
    c.in-Some.ensures.found c.at.ensures in
    puts_done (Printed (g.B.Book.kinds c.args.rules.now) c.args.typed.now.file c.args.name.now) c.put_term.result
    (is_clauses_of (g.B.Book.kinds c.args.rules.now) c.args.typed.now.file c.obligations.new.bank c.in-Ok-obligations.all c.in-Some.place c.at.result.now
    c.args.name.now c.in-Ok-obligations.ensures.bank c.in-Ok-obligations.ensures.nodes c.in-Ok-obligations.ensures.terms c.in-Ok-obligations.ensures.names
    c.in-Ok-obligations.ensures.mean c.at.ensures named) c.put_term.ensures.told
