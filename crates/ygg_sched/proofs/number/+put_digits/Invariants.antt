use Rattle.ygg_sched.proofs.number.+put_digits.Given as goal

-- the digits that are still to come
abbrev pub decreases-put_digits : goal.decreases-put_digits
decreases-put_digits l = l.count
