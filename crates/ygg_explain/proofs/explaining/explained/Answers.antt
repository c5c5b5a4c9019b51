use Rattle.std.proofs.Common.{◌++◌, sym, ap, ◌∙◌}
use Rattle.ygg_syntax.specs.declared.tree.File.{File}
use Rattle.ygg_sched.specs.Sites.{site_in, site_named}
use Rattle.ygg_replay.proofs.Bridge.{asked}
use Rattle.ygg_explain.proofs.Explained.{explained_so}
use Rattle.ygg_explain.proofs.explaining.explained.Goals as goal

pub replay-requires : goal.replay-requires
replay-requires c =
    let f = c.args.typed.now.file in
    let x = c.args.schedule.now in
    let named = sym (rw c.in-Some.is at c.claim_named.ensures.named ∙ ap (λ (g : File). site_named g c.as_slice.result.now) c.file.ensures.same
    ∙ ap (site_named f) c.as_slice.ensures) in
    asked f x c.requires c.in_ok-case.case (record { site = site_in c.in-Some.claim; named = named; is = c.in_ok-case.ensures })

pub put_case-requires-clause-asked : goal.put_case-requires-clause-asked
put_case-requires-clause-asked c =
    let f = c.args.typed.now.file in
    let x = c.args.schedule.now in
    let named = sym (rw c.in-Some.is at c.claim_named.ensures.named ∙ ap (λ (g : File). site_named g c.as_slice.result.now) c.file.ensures.same
    ∙ ap (site_named f) c.as_slice.ensures) in
    asked f x c.requires c.in_ok-case.case (record { site = site_in c.in-Some.claim; named = named; is = c.in_ok-case.ensures })

pub returns : goal.returns
returns c =
    let f = c.args.typed.now.file in
    let x = c.args.schedule.now in
    let named = sym (rw c.in-Some.is at c.claim_named.ensures.named ∙ ap (λ (g : File). site_named g c.as_slice.result.now) c.file.ensures.same
    ∙ ap (site_named f) c.as_slice.ensures) in
    explained_so f x c.in_ok-case.case (record { site = site_in c.in-Some.claim; named = named; is = c.in_ok-case.ensures }) c.in_ok-answer.answer
    c.status_of.result c.in_ok-out.out c.put_case.new.out c.extend_from_slice.new.self c.in_ok-answer.ensures c.in_ok-out.ensures c.in_ok-put_case.ensures
    (c.in_ok-extend_from_slice.ensures.ok ∙ ap (λ t. c.put_case.new.out ++ t) (c.as_slice-2.ensures ∙ c.in_ok-line.ensures)) c.status_of.ensures
