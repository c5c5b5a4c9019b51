use Rattle.std.proofs.Common.{◌≡◌, ◌∙◌, sym, true, false}
use Rattle.std.specs.Option.{option_copied}
use Rattle.ygg_sched.specs.Words.{is_empty}
use Rattle.ygg_script.specs.Names.{are_words}
use Rattle.ygg_script.specs.Left.{pieces_left}
use Rattle.ygg_script.proofs.Pieces.{less_left, words_on, empty_is, word_empty, word_there}
use Rattle.ygg_script.proofs.names.are_words.Goals as goal

pub returns-then-is_empty : goal.returns-then-is_empty
returns-then-is_empty c =
    let on = words_on c.loop-left.left c.in-Some.more c.cut.result.0.now (option_copied c.cut.result.1) c.in-Some.is c.cut.ensures.cut in
    let empty : is_empty c.cut.result.0.now ≡ true = sym (empty_is c.cut.result.0.now) ∙ sym c.is_empty.ensures ∙ c.if-is_empty.true in
    sym (sym c.loop-left.invariant ∙ on ∙ word_empty c.cut.result.0.now (are_words (pieces_left 32 (option_copied c.cut.result.1))) empty)

pub loop-left-smaller : goal.loop-left-smaller
loop-left-smaller c = less_left c.loop-left.left c.cut.result.1 c.in-Some.more c.in-Some.is c.cut.ensures.shorter

pub loop-left-preserved : goal.loop-left-preserved
loop-left-preserved c =
    let on = words_on c.loop-left.left c.in-Some.more c.cut.result.0.now (option_copied c.cut.result.1) c.in-Some.is c.cut.ensures.cut in
    let some : is_empty c.cut.result.0.now ≡ false = sym (empty_is c.cut.result.0.now) ∙ sym c.is_empty.ensures ∙ c.if-is_empty.false in
    sym (word_there c.cut.result.0.now (are_words (pieces_left 32 (option_copied c.cut.result.1))) some) ∙ sym on ∙ c.loop-left.invariant
