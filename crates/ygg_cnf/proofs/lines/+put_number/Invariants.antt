use Rattle.ygg_cnf.proofs.lines.+put_number.Given as goal

-- the number falls with each digit
abbrev pub decreases-put_number : goal.decreases-put_number
decreases-put_number l = l.number
