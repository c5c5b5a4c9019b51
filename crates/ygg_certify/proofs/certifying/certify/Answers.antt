use Rattle.std.proofs.Common.{List, sym, subst}
use Rattle.std.specs.Prelude.{All}
use Rattle.ygg_certify.specs.ygg_bank.Nodes.{HasWidth}
use Rattle.ygg_certify.specs.ygg_meaning.Claims.{claims_of}
use Rattle.ygg_certify.proofs.of_ygg_meaning_laws.Derived.{derivable_derived}
use Rattle.ygg_oblige.specs.declared.obligation.Obligation.{Obligation}
use Rattle.ygg_certify.proofs.Refining.{Laws, bank_in, terms_of}
use Rattle.ygg_certify.proofs.Certified.{digits_of, found_in, certified}
use Rattle.ygg_certify.proofs.certifying.certify.Goals as goal

pub find_all-requires-clause-digits : goal.find_all-requires-clause-digits
find_all-requires-clause-digits g c =
    subst (λ (os : List Obligation). All (λ (o : Obligation). HasWidth c.obligations.new.bank o.term 1) os) (sym c.as_slice.ensures)
    (digits_of c.obligations.new.bank (claims_of c.args.typed.now.file) c.in-Ok-obligations.all c.in-Ok-obligations.ensures.mean)

pub returns-clause-told : goal.returns-clause-told
returns-clause-told g c =
    let kinds = g.B.Book.kinds c.args.rules.now in
    let f = c.args.typed.now.file in
    let e = c.in-Ok-obligations.ensures in
    let laws : Laws = record {
      refuted = c.checked_is_refuted.ensures;
      sound = c.derivations_are_sound.ensures.refuted;
      exact = c.clauses_mean_terms.ensures.exactly;
      holds = c.never_zero_holds.ensures;
      by_list = c.refines_by_list.ensures;
      histories = c.typed_histories.ensures;
    } in
    certified laws c.printed_is_checked.ensures kinds f c.args.budget c.in-Ok-find_all.findings (g.K.Sink.taken c.args.sink.now)
    (g.K.Sink.taken c.conclude.new.sink) _ c.conclude.result (derivable_derived f c.file.ensures.derivable) c.file.ensures.typed
    (bank_in kinds f c.obligations.new.bank e.nodes e.bank) (terms_of kinds f c.obligations.new.bank c.in-Ok-obligations.all e.nodes e.terms e.mean)
    (found_in kinds f c.args.budget c.obligations.new.bank c.as_slice.result.now c.in-Ok-obligations.all c.in-Ok-find_all.findings e.nodes c.as_slice.ensures
    e.terms e.names c.in-Ok-find_all.ensures.found)
    c.conclude.ensures.told
