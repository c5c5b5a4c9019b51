use Rattle.std.proofs.Common.{◌+◌, ◌*◌, length}
use Rattle.ygg_read.proofs.ExpressionLists.{AtomRead, SomeRead}
use Rattle.ygg_read.proofs.reader.Reader.+expression.Given as goal

abbrev pub decreases-atom : goal.decreases-atom
decreases-atom l = 5 * length l.self.now + 0

abbrev pub decreases-expression : goal.decreases-expression
decreases-expression l = 5 * length l.self.now + 1

abbrev pub decreases-part : goal.decreases-part
decreases-part l = 5 * length l.self.now + 2

abbrev pub decreases-operand : goal.decreases-operand
decreases-operand l = 5 * length l.self.now + 2

abbrev pub decreases-list : goal.decreases-list
decreases-list l = 5 * length l.self.now + 2

abbrev pub decreases-arguments : goal.decreases-arguments
decreases-arguments l = 5 * length l.self.now + 3

abbrev pub decreases-named : goal.decreases-named
decreases-named l = 5 * length l.self.now + 4

abbrev pub decreases-negation : goal.decreases-negation
decreases-negation l = 5 * length l.self.now + 4

abbrev pub decreases-binary : goal.decreases-binary
decreases-binary l = 5 * length l.self.now + 4

abbrev pub decreases-pick : goal.decreases-pick
decreases-pick l = 5 * length l.self.now + 4

abbrev pub decreases-resize : goal.decreases-resize
decreases-resize l = 5 * length l.self.now + 4

abbrev pub decreases-fill : goal.decreases-fill
decreases-fill l = 5 * length l.self.now + 4

abbrev pub decreases-row : goal.decreases-row
decreases-row l = 5 * length l.self.now + 4

abbrev pub decreases-quantified : goal.decreases-quantified
decreases-quantified l = 5 * length l.self.now + 4

-- an atom, with the indices so far
abbrev pub invariant-expression-loop-bracket : goal.invariant-expression-loop-bracket
invariant-expression-loop-bracket l = AtomRead l.fn.self l.whole l.self

abbrev pub decreases-expression-loop-bracket : goal.decreases-expression-loop-bracket
decreases-expression-loop-bracket l = length l.self

-- the expressions so far, and those that still come
abbrev pub invariant-list-loop-parts : goal.invariant-list-loop-parts
invariant-list-loop-parts l = SomeRead l.fn.self l.parts l.self

abbrev pub decreases-list-loop-parts : goal.decreases-list-loop-parts
decreases-list-loop-parts l = length l.self
