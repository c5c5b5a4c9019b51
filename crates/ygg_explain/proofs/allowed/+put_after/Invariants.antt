use Rattle.ygg_explain.proofs.allowed.+put_after.Given as goal

-- how many picks are left
abbrev pub decreases-put_after : goal.decreases-put_after
decreases-put_after l = l.left
