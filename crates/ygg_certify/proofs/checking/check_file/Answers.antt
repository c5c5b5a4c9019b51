use Rattle.std.proofs.Common.{◌≡◌, List, length, sym, ap, subst, ◌∙◌}
use Rattle.std.specs.Prelude.{All}
use Rattle.ygg_certify.specs.ygg_bank.Nodes.{HasWidth}
use Rattle.ygg_certify.proofs.of_ygg_meaning_laws.Derived.{derivable_derived}
use Rattle.ygg_cert.specs.declared.verdict.CertEnd.{CertEnd}
use Rattle.ygg_cert.specs.Opened.{JudgesOpen}
use Rattle.ygg_certify.specs.ygg_meaning.Claims.{claims_of}
use Rattle.ygg_oblige.specs.declared.obligation.Obligation.{Obligation}
use Rattle.ygg_certify.specs.FileGoals.{ChecksAll, IfChecked, IsRight, goals_in, goals_of}
use Rattle.ygg_certify.proofs.Refining.{Laws, bank_in, terms_of, goals_are, judged_open, open_right, open_all, if_ok}
use Rattle.ygg_certify.proofs.Certified.{digits_of}
use Rattle.ygg_certify.proofs.checking.check_file.Goals as goal

pub invariant_of-goals : goal.invariant_of-goals
invariant_of-goals g c = record {
  digits =
      subst (λ (os : List Obligation). All (λ (o : Obligation). HasWidth c.obligations.new.bank o.term 1) os) (sym c.as_slice.ensures)
      (digits_of c.obligations.new.bank (claims_of c.args.typed.now.file) c.in-Ok-obligations.all c.in-Ok-obligations.ensures.mean);
}

pub returns-clause-judged : goal.returns-clause-judged
returns-clause-judged g c =
    let kinds = g.B.Book.kinds c.args.rules.now in
    let f = c.args.typed.now.file in
    let given = g.L.Library.reading c.args.library.now in
    let e = c.in-Ok-obligations.ensures in
    let goals = goals_in c.obligations.new.bank c.as_slice.result.now in
    let same : goals ≡ goals_of kinds f =
    ap (goals_in c.obligations.new.bank) c.as_slice.ensures
    ∙ goals_are kinds f c.obligations.new.bank c.in-Ok-obligations.all e.nodes e.terms e.names
    in
    if_ok (λ (end : CertEnd). JudgesOpen goals given end) (λ (end : CertEnd). JudgesOpen (goals_of kinds f) given end) c.check_open.result
    (λ end judged. judged_open goals (goals_of kinds f) given end same judged) c.check_open.ensures.judged

pub returns-clause-right : goal.returns-clause-right
returns-clause-right g c =
    let kinds = g.B.Book.kinds c.args.rules.now in
    let f = c.args.typed.now.file in
    let given = g.L.Library.reading c.args.library.now in
    let e = c.in-Ok-obligations.ensures in
    let goals = goals_in c.obligations.new.bank c.as_slice.result.now in
    let same : goals ≡ goals_of kinds f =
    ap (goals_in c.obligations.new.bank) c.as_slice.ensures
    ∙ goals_are kinds f c.obligations.new.bank c.in-Ok-obligations.all e.nodes e.terms e.names
    in
    let laws : Laws = record {
      refuted = c.checked_is_refuted.ensures;
      sound = c.derivations_are_sound.ensures.refuted;
      exact = c.clauses_mean_terms.ensures.exactly;
      holds = c.never_zero_holds.ensures;
      by_list = c.refines_by_list.ensures;
      histories = c.typed_histories.ensures;
    } in
    if_ok (λ (end : CertEnd). JudgesOpen goals given end) (λ (end : CertEnd). IfChecked end (IsRight f)) c.check_open.result
    (λ end judged.
    open_right laws kinds f given end (derivable_derived f c.file.ensures.derivable) c.file.ensures.typed
    (bank_in kinds f c.obligations.new.bank e.nodes e.bank) (terms_of kinds f c.obligations.new.bank c.in-Ok-obligations.all e.nodes e.terms e.mean)
    (judged_open goals (goals_of kinds f) given end same judged))
    c.check_open.ensures.judged

pub returns-clause-all : goal.returns-clause-all
returns-clause-all g c =
    let kinds = g.B.Book.kinds c.args.rules.now in
    let f = c.args.typed.now.file in
    let given = g.L.Library.reading c.args.library.now in
    let e = c.in-Ok-obligations.ensures in
    let goals = goals_in c.obligations.new.bank c.as_slice.result.now in
    let same : goals ≡ goals_of kinds f =
    ap (goals_in c.obligations.new.bank) c.as_slice.ensures
    ∙ goals_are kinds f c.obligations.new.bank c.in-Ok-obligations.all e.nodes e.terms e.names
    in
    if_ok (λ (end : CertEnd). JudgesOpen goals given end) (λ (end : CertEnd). ChecksAll end (length (claims_of f))) c.check_open.result
    (λ end judged.
    open_all kinds f given end (terms_of kinds f c.obligations.new.bank c.in-Ok-obligations.all e.nodes e.terms e.mean)
    (judged_open goals (goals_of kinds f) given end same judged))
    c.check_open.ensures.judged
