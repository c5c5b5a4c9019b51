use Rattle.std.proofs.Common.{List, ℕ, subst}
use Rattle.ygg_base.specs.Outside.{Rose}
use Rattle.ygg_yard.specs.ygg_meaning.Claims.{claims_of}
use Rattle.ygg_yard.proofs.of_ygg_meaning_laws.Derived.{derivable_derived}
use Rattle.ygg_top.specs.ygg_report.Putting.{IsPutSo, NoFront}
use Rattle.ygg_top.specs.Deciding.{IsDecision}
use Rattle.ygg_top.proofs.of_ygg_top_command.Telling.{put_told}
use Rattle.ygg_top.proofs.Decides.{decided_in, decision_ends}
use Rattle.ygg_top.proofs.Placed.{is_at, placed_name}
use Rattle.ygg_top.proofs.Shown.{OnReplays}
use Rattle.ygg_top.proofs.Verdicts.{Proper}
use Rattle.ygg_top.proofs.deciding.put_decision.Goals as goal

pub decided-requires-clause-width : goal.decided-requires-clause-width
decided-requires-clause-width g c =
    let e = c.in-Ok-obligations.ensures in
    let all = c.in-Ok-obligations.all in
    let name = c.args.name.now in
    let o = c.at.result.now in
    let named = placed_name all c.as_slice.result.now c.in-Some.place o name c.as_slice.ensures c.in-Some.ensures.found c.at.ensures in
    (is_at c.obligations.new.bank (claims_of c.args.typed.now.file) all c.in-Some.place o name e.names e.mean c.at.ensures named).is.wide

pub decided-requires-clause-made : goal.decided-requires-clause-made
decided-requires-clause-made g c = c.in-Ok-obligations.ensures.nodes

pub returns-in-Ok-decided-clause-told : goal.returns-in-Ok-decided-clause-told
returns-in-Ok-decided-clause-told g c =
    let kinds = g.B.Book.kinds c.args.rules.now in
    let f = c.args.typed.now.file in
    let name = c.args.name.now in
    let budget = c.args.budget in
    let e = c.in-Ok-obligations.ensures in
    let all = c.in-Ok-obligations.all in
    let o = c.at.result.now in
    let status = c.in-Ok-decided.status in
    let text = c.in-Ok-decided.text in
    let p : Proper f = record {
      derived = derivable_derived f c.file.ensures.derivable;
      typed = c.file.ensures.typed;
      by_list = c.refines_by_list.ensures;
      histories = c.typed_histories.ensures;
      schedules = c.file_schedules.ensures;
    } in
    let q : OnReplays = record { one_ending = c.one_ending.ensures; printed = c.printed_shows.ensures } in
    let named = placed_name all c.as_slice.result.now c.in-Some.place o name c.as_slice.ensures c.in-Some.ensures.found c.at.ensures in
    let does : IsDecision kinds f budget name status text =
    decided_in kinds f budget p q c.obligations.new.bank all e.nodes e.bank e.terms e.names e.mean c.in-Some.place o name c.at.ensures named (status, text)
    c.in-Ok-decided.ensures in
    let before = g.K.Sink.taken c.args.sink.now in
    let now = g.K.Sink.taken c.put_all.new.sink in
    let SinkRose = Rose (g.K.Sink.faults c.args.sink.now) (g.K.Sink.faults c.put_all.new.sink) in
    put_told (IsDecision kinds f budget name) NoFront before now ⊥ SinkRose c.put_all.result status text
    (decision_ends kinds f budget name status text does) does
    (subst (λ (bytes : List ℕ). IsPutSo before now bytes status SinkRose c.put_all.result) c.as_slice-in-Ok-decided.ensures c.put_all.ensures.told)
