use Rattle.std.proofs.Common.{◌≡◌, List, ℕ, sym, subst, ap, ◌∙◌}
use Rattle.std.specs.Prelude.{nat_lt, Err}
use Rattle.ygg_base.specs.Outside.{Rose}
use Rattle.ygg_base.specs.declared.status.Status.{Status}
use Rattle.ygg_yard.specs.ygg_meaning.Claims.{claims_of}
use Rattle.ygg_yard.proofs.of_ygg_meaning_laws.Derived.{derivable_derived}
use Rattle.ygg_oblige_reading.specs.Obligation.{Obligation}
use Rattle.ygg_top.specs.ygg_report.Lines.{demo_line}
use Rattle.ygg_top.specs.ygg_report.Tallies.{tally_of}
use Rattle.ygg_top.specs.ygg_report.declared.verdict.Tally.{Tally}
use Rattle.ygg_top.specs.ygg_report.Putting.{Adds, IsPut, NoFront}
use Rattle.ygg_top.specs.Findings.{AreDigits, status_of_counts}
use Rattle.ygg_top.specs.Verdict.{Counted}
use Rattle.ygg_top.proofs.Counts.{counted_in}
use Rattle.ygg_top.proofs.of_ygg_report.Printing.{put_whole, put_cut}
use Rattle.ygg_top.proofs.Reporting.{digits_of}
use Rattle.ygg_top.proofs.Verdicts.{Proper}
use Rattle.ygg_top.proofs.counting.put_counts.Goals as goal

pub all_found-requires : goal.all_found-requires
all_found-requires g c = record {
  digits =
      subst (λ (os : List Obligation). AreDigits c.obligations.new.bank os) (sym c.as_slice.ensures)
      (digits_of c.obligations.new.bank (claims_of c.args.typed.now.file) c.in-Ok-obligations.all c.in-Ok-obligations.ensures.mean);
}

pub returns-in-Ok-put-clause-told : goal.returns-in-Ok-put-clause-told
returns-in-Ok-put-clause-told g c =
    let kinds = g.B.Book.kinds c.args.rules.now in
    let f = c.args.typed.now.file in
    let p : Proper f = record {
      derived = derivable_derived f c.file.ensures.derivable;
      typed = c.file.ensures.typed;
      by_list = c.refines_by_list.ensures;
      histories = c.typed_histories.ensures;
      schedules = c.file_schedules.ensures;
    } in
    let e = c.in-Ok-obligations.ensures in
    let found = c.in-Ok-all_found.ensures in
    let tally = tally_of c.in-Ok-all_found.verdicts in
    let tally_is : c.of-tally.result ≡ tally = c.of-tally.ensures ∙ ap tally_of c.as_slice-2.ensures in
    let line = demo_line c.args.number tally in
    let line_is = c.as_slice-3.ensures ∙ c.in-Ok-demo.ensures ∙ ap (λ (t : Tally). demo_line c.args.number t) tally_is in
    let status_is = c.status_of.ensures ∙ ap status_of_counts tally_is in
    let is = counted_in kinds f c.args.number p c.requires c.obligations.new.bank c.in-Ok-obligations.all c.as_slice.result.now c.in-Ok-all_found.verdicts
    e.nodes e.bank c.as_slice.ensures e.terms e.mean found.found found.each in
    let before = g.K.Sink.taken c.args.sink.now in
    let now = g.K.Sink.taken c.put.new.sink in
    put_whole (Counted kinds c.args.number f) NoFront before now (Rose (g.K.Sink.faults c.args.sink.now) (g.K.Sink.faults c.put.new.sink))
    (nat_lt 0 tally.fails)
    (nat_lt 0 tally.spent) c.status_of.result line status_is
    (subst (λ (s : Status). Counted kinds c.args.number f s line) (sym status_is) is)
    (subst (λ (text : List ℕ). Adds before text now) line_is c.in-Ok-put.ensures.told)

pub returns-clause-told : goal.returns-clause-told
returns-clause-told g c =
    let kinds = g.B.Book.kinds c.args.rules.now in
    let f = c.args.typed.now.file in
    let p : Proper f = record {
      derived = derivable_derived f c.file.ensures.derivable;
      typed = c.file.ensures.typed;
      by_list = c.refines_by_list.ensures;
      histories = c.typed_histories.ensures;
      schedules = c.file_schedules.ensures;
    } in
    let e = c.in-Ok-obligations.ensures in
    let found = c.in-Ok-all_found.ensures in
    let tally = tally_of c.in-Ok-all_found.verdicts in
    let tally_is : c.of-tally.result ≡ tally = c.of-tally.ensures ∙ ap tally_of c.as_slice-2.ensures in
    let line = demo_line c.args.number tally in
    let line_is = c.as_slice-3.ensures ∙ c.in-Ok-demo.ensures ∙ ap (λ (t : Tally). demo_line c.args.number t) tally_is in
    let is = counted_in kinds f c.args.number p c.requires c.obligations.new.bank c.in-Ok-obligations.all c.as_slice.result.now c.in-Ok-all_found.verdicts
    e.nodes e.bank c.as_slice.ensures e.terms e.mean found.found found.each in
    let before = g.K.Sink.taken c.args.sink.now in
    let now = g.K.Sink.taken c.put.new.sink in
    let Rises = Rose (g.K.Sink.faults c.args.sink.now) (g.K.Sink.faults c.put.new.sink) in
    put_cut (Counted kinds c.args.number f) NoFront before now Rises (status_of_counts tally) c.in-Err.status line is
    (subst (λ (text : List ℕ). IsPut before now text Rises (Err c.in-Err.status)) line_is c.in-Err.ensures.told)
