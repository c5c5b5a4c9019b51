use Rattle.std.proofs.Common.{◌≡◌, map, drop}
use Rattle.ygg_rules.specs.Rows.{book_row}
use Rattle.ygg_rules.proofs.book.RuleBook.view.Given as goal

-- the rules still to come answer what all rules answer
abbrev pub invariant-loop-rule : goal.invariant-loop-rule
invariant-loop-rule g l = book_row (map (λ rule. rule.kind) (drop l.rule-index l.rule-items)) l.view ≡ book_row
    (map (λ rule. rule.kind) l.self.rules.items) l.view
