use Rattle.ygg_replay_search.proofs.search.+first_after.Given as goal

-- how many picks are left
abbrev pub decreases-first_after : goal.decreases-first_after
decreases-first_after g l = l.left
