use Rattle.ygg_top.proofs.of_ygg_meaning_laws.Derived.{derivable_derived}
use Rattle.ygg_top.proofs.Failing.{with_lines}
use Rattle.ygg_top.proofs.Opened.{OnLogs, as_many_found, found_fits, opened_so}
use Rattle.ygg_top.proofs.Shown.{OnReplays}
use Rattle.ygg_top.proofs.Verdicts.{Proper}
use Rattle.ygg_top.proofs.certified_finding.opened.Goals as goal

pub open_lines-requires-clause-each : goal.open_lines-requires-clause-each
open_lines-requires-clause-each g c =
    let f = c.args.typed.now.file in
    let p : Proper f = record {
      derived = derivable_derived f c.file.ensures.derivable;
      typed = c.file.ensures.typed;
      by_list = c.refines_by_list.ensures;
      histories = c.typed_histories.ensures;
      schedules = c.file_schedules.ensures;
    } in
    let q : OnReplays = record { one_ending = c.one_ending.ensures; printed = c.printed_shows.ensures } in
    let laws : OnLogs = record { sound = c.derivations_are_sound.ensures.refuted; exact = c.clauses_mean_terms.ensures.exactly } in
    as_many_found (g.B.Book.kinds c.args.rules.now) f c.args.budget p q laws c.args.findings.now c.requires

pub open_lines-requires-clause-fit : goal.open_lines-requires-clause-fit
open_lines-requires-clause-fit g c =
    let f = c.args.typed.now.file in
    let p : Proper f = record {
      derived = derivable_derived f c.file.ensures.derivable;
      typed = c.file.ensures.typed;
      by_list = c.refines_by_list.ensures;
      histories = c.typed_histories.ensures;
      schedules = c.file_schedules.ensures;
    } in
    let q : OnReplays = record { one_ending = c.one_ending.ensures; printed = c.printed_shows.ensures } in
    let laws : OnLogs = record { sound = c.derivations_are_sound.ensures.refuted; exact = c.clauses_mean_terms.ensures.exactly } in
    found_fits (g.B.Book.kinds c.args.rules.now) f c.args.budget p q laws c.args.findings.now c.requires

pub returns : goal.returns
returns g c =
    let f = c.args.typed.now.file in
    let kinds = g.B.Book.kinds c.args.rules.now in
    let p : Proper f = record {
      derived = derivable_derived f c.file.ensures.derivable;
      typed = c.file.ensures.typed;
      by_list = c.refines_by_list.ensures;
      histories = c.typed_histories.ensures;
      schedules = c.file_schedules.ensures;
    } in
    let q : OnReplays = record { one_ending = c.one_ending.ensures; printed = c.printed_shows.ensures } in
    let laws : OnLogs = record { sound = c.derivations_are_sound.ensures.refuted; exact = c.clauses_mean_terms.ensures.exactly } in
    with_lines kinds f c.args.findings.now c.args.budget c.in_ok-text.text c.in_ok-last.last c.with_last.result c.in_ok-text.ensures c.in_ok-last.ensures
    (λ status rest ends. opened_so kinds f c.args.budget p q laws c.args.findings.now c.requires status rest ends) c.with_last.ensures
