use Rattle.std.proofs.Common.{sym, ◌∙◌, refl}
use Rattle.ygg_cnf_set.specs.LiteralSet.{code_of}
use Rattle.ygg_chain.proofs.CountLemmas.{none_true}
use Rattle.ygg_chain.proofs.checker.take_left.Goals as goal

pub returns-then-count-eq0-clause-answer : goal.returns-then-count-eq0-clause-answer
returns-then-count-eq0-clause-answer c =
    ((λ t y m named. none_true c.args.seen.now (code_of y) (sym c.requires.counted ∙ c.if-count-eq0.true) m), (λ all. refl))

pub returns-then-count-eq0-clause-taken : goal.returns-then-count-eq0-clause-taken
returns-then-count-eq0-clause-taken c y =
    ((λ m. absurd (none_true c.args.seen.now (code_of y) (sym c.requires.counted ∙ c.if-count-eq0.true) m)), (λ p. p.0))
