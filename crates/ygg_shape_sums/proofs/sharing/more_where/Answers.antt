use Rattle.std.proofs.Common.{sym, subst}
use Rattle.ygg_shape_words.specs.ygg_bank_proofs_Widths.{wider, extends_both, width_is}
use Rattle.ygg_shape_words.specs.ygg_bank.Nodes.{HasWidth}
use Rattle.ygg_shape_words.proofs.Fit.{can_pick}
use Rattle.ygg_shape_sums.proofs.Shared.{either_fits}
use Rattle.ygg_shape_sums.proofs.sharing.more_where.Goals as goal

pub pick-requires-clause-pick : goal.pick-requires-clause-pick
pick-requires-clause-pick g c =
    let old = c.args.bank.now in
    let new = c.constant.new.bank in
    let w = c.args.width in
    let grows = c.constant.ensures.grows in
    let zero = c.in_ok-zero.ensures.width in
    let more = wider old new c.args.more w grows c.requires.more in
    can_pick new c.args.test c.either-yes.result c.either-no.result w (wider old new c.args.test 1 grows c.requires.test)
    (subst (λ z. HasWidth new z w) (sym c.either-yes.ensures) (either_fits new w c.args.digit c.args.more c.in_ok-zero.zero more zero))
    (subst (λ z. HasWidth new z w) (sym c.either-no.ensures) (either_fits new w c.args.digit c.in_ok-zero.zero c.args.more zero more))

pub sum-requires-clause-one : goal.sum-requires-clause-one
sum-requires-clause-one g c =
    wider c.args.bank.now c.pick.new.bank c.args.base c.args.width
    (extends_both c.args.bank.now c.constant.new.bank c.pick.new.bank c.constant.ensures.grows c.pick.ensures.grows) c.requires.base

pub sum-requires-clause-two : goal.sum-requires-clause-two
sum-requires-clause-two g c =
    let new = c.constant.new.bank in
    let w = c.args.width in
    let zero = c.in_ok-zero.ensures.width in
    let more = wider c.args.bank.now new c.args.more w c.constant.ensures.grows c.requires.more in
    let yes = subst (λ z. HasWidth new z w) (sym c.either-yes.ensures) (either_fits new w c.args.digit c.args.more c.in_ok-zero.zero more zero) in
    subst (λ u. HasWidth c.pick.new.bank c.in_ok-part.part u) (width_is new c.either-yes.result w yes) c.in_ok-part.ensures.width
