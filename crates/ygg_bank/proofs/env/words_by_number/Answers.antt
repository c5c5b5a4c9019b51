use Rattle.std.proofs.Common.{nat_eq, ap, ◌∙◌, take_all}
use Rattle.indexmap.specs.IndexMap.{get}
use mathlib.Core.Path.{fun_ext}
use Rattle.ygg_bank.specs.Values.{given_for}
use Rattle.ygg_bank.proofs.Environments.{one_more_given}
use Rattle.ygg_bank.proofs.env.words_by_number.Goals as goal

pub loop-given-preserved : goal.loop-given-preserved
loop-given-preserved c =
    one_more_given c.as_slice-given-items.result.now c.loop-given.given-index c.given-item.result (get nat_eq c.loop-given.words)
    (get nat_eq c.give.new.words) c.loop-given-test.true c.given-item.is c.in_ok-give.ensures c.loop-given.invariant

pub returns : goal.returns
returns c =
    fun_ext (λ number. c.loop-given.invariant number
    ∙ ap (λ env. given_for env number) (take_all c.loop-given.given-index c.as_slice-given-items.result.now c.loop-given-test.false
    ∙ c.as_slice-given-items.ensures))
