use Rattle.std.proofs.Common.{◌≡◌, OnOk, IfOk, subst}
use Rattle.ygg_shape_words.specs.ygg_bank_proofs_Exist.{keeps_values}
use Rattle.ygg_shape_words.specs.ygg_bank.Inputs.{InputsBelow}
use Rattle.ygg_shape_words.proofs.Keeps.{inputs_stay, kept}
use Rattle.ygg_shape_joins.proofs.JoinedAnswers.{joined_all_shaped, joined_all_value}
use Rattle.ygg_shape_joins.proofs.Joins.{joined_all_keeps}
use Rattle.ygg_shape_joins.specs.Joining.{joined_all}
use Rattle.ygg_shape_joins.proofs.wholes.join_all.Goals as goal

pub returns-clause-keeps : goal.returns-clause-keeps
returns-clause-keeps g c = keeps_values c.args.bank.now c.join_all_by.new.bank c.join_all_by.ensures.grows

pub returns-clause-value : goal.returns-clause-value
returns-clause-value g c =
    let kinds = g.B.Book.kinds c.args.book.now in
    let old = c.args.bank.now in
    let new = c.join_all_by.new.bank in
    let r = c.join_all_by.result in
    let t = c.args.test in
    let one = c.as_slice.ensures in
    let two = c.as_slice-2.ensures in
    joined_all_value kinds t c.args.yes.now c.args.no.now old new r c.join_all_by.ensures.bank c.requires.test
    (subst (λ z. OnOk r (new ≡ (joined_all kinds t z c.args.no.now old).nodes)) one
    (subst (λ z. OnOk r (new ≡ (joined_all kinds t c.as_slice.result.now z old).nodes)) two c.join_all_by.ensures.nodes))
    (subst (λ z. IfOk r (λ answers. answers ≡ (joined_all kinds t z c.args.no.now old).value)) one
    (subst (λ z. IfOk r (λ answers. answers ≡ (joined_all kinds t c.as_slice.result.now z old).value)) two c.join_all_by.ensures.form))
    c.requires.values

pub returns-clause-shape : goal.returns-clause-shape
returns-clause-shape g c shapes p q =
    let kinds = g.B.Book.kinds c.args.book.now in
    let old = c.args.bank.now in
    let new = c.join_all_by.new.bank in
    let r = c.join_all_by.result in
    let t = c.args.test in
    let one = c.as_slice.ensures in
    let two = c.as_slice-2.ensures in
    joined_all_shaped kinds t shapes c.args.yes.now c.args.no.now old new r c.join_all_by.ensures.bank c.requires.test
    (subst (λ z. OnOk r (new ≡ (joined_all kinds t z c.args.no.now old).nodes)) one
    (subst (λ z. OnOk r (new ≡ (joined_all kinds t c.as_slice.result.now z old).nodes)) two c.join_all_by.ensures.nodes))
    (subst (λ z. IfOk r (λ answers. answers ≡ (joined_all kinds t z c.args.no.now old).value)) one
    (subst (λ z. IfOk r (λ answers. answers ≡ (joined_all kinds t c.as_slice.result.now z old).value)) two c.join_all_by.ensures.form))
    p q

pub returns-clause-inputs : goal.returns-clause-inputs
returns-clause-inputs g c =
    let kinds = g.B.Book.kinds c.args.book.now in
    let old = c.args.bank.now in
    let new = c.join_all_by.new.bank in
    let r = c.join_all_by.result in
    let t = c.args.test in
    kept old new (joined_all kinds t c.args.yes.now c.args.no.now old).nodes r
    (subst (λ z. OnOk r (new ≡ (joined_all kinds t z c.args.no.now old).nodes)) c.as_slice.ensures
    (subst (λ z. OnOk r (new ≡ (joined_all kinds t c.as_slice.result.now z old).nodes)) c.as_slice-2.ensures c.join_all_by.ensures.nodes))
    (λ next. joined_all_keeps kinds (InputsBelow next) (inputs_stay kinds next) t c.args.yes.now c.args.no.now old)
