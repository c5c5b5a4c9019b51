use Rattle.std.proofs.Common.{List, sym, subst}
use Rattle.ygg_yard.specs.ygg_meaning.Claims.{claims_of}
use Rattle.ygg_yard.proofs.of_ygg_meaning_laws.Derived.{derivable_derived}
use Rattle.ygg_oblige_reading.specs.Obligation.{Obligation}
use Rattle.ygg_top.specs.Findings.{AreDigits}
use Rattle.ygg_top.proofs.Shown.{OnReplays}
use Rattle.ygg_top.proofs.Verdicts.{Proper}
use Rattle.ygg_top.proofs.Reporting.{digits_of, concluded_in, made_in, as_many}
use Rattle.ygg_top.proofs.verdict.put_verdicts.Goals as goal

pub report_file-requires-clause-digits : goal.report_file-requires-clause-digits
report_file-requires-clause-digits g c =
    subst (λ (os : List Obligation). AreDigits c.obligations.new.bank os) (sym c.as_slice.ensures)
    (digits_of c.obligations.new.bank (claims_of c.args.typed.now.file) c.in-Ok-obligations.all c.in-Ok-obligations.ensures.mean)

pub report_file-requires-clause-each : goal.report_file-requires-clause-each
report_file-requires-clause-each g c =
    as_many (claims_of c.args.typed.now.file) c.in-Ok-obligations.all c.as_slice.result.now c.as_slice.ensures c.in-Ok-obligations.ensures.names

pub report_file-requires-clause-made : goal.report_file-requires-clause-made
report_file-requires-clause-made g c =
    let e = c.in-Ok-obligations.ensures in
    made_in (g.B.Book.kinds c.args.rules.now) c.args.typed.now.file c.obligations.new.bank c.in-Ok-obligations.all c.as_slice.result.now e.nodes e.bank
    c.as_slice.ensures e.terms e.placed

pub returns-clause-told : goal.returns-clause-told
returns-clause-told g c =
    let f = c.args.typed.now.file in
    let p : Proper f = record {
      derived = derivable_derived f c.file.ensures.derivable;
      typed = c.file.ensures.typed;
      by_list = c.refines_by_list.ensures;
      histories = c.typed_histories.ensures;
      schedules = c.file_schedules.ensures;
    } in
    let q : OnReplays = record { one_ending = c.one_ending.ensures; printed = c.printed_shows.ensures } in
    let e = c.in-Ok-obligations.ensures in
    concluded_in (g.B.Book.kinds c.args.rules.now) f c.args.budget p q c.obligations.new.bank c.in-Ok-obligations.all c.as_slice.result.now e.nodes e.bank
    c.as_slice.ensures e.terms e.names e.mean (g.K.Sink.taken c.args.sink.now) (g.K.Sink.taken c.report_file.new.sink) _ c.report_file.result
    c.report_file.ensures.told
