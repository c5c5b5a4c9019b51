use Rattle.ygg_oblige_parts.proofs.states.Maker.+some_after.Given as goal

-- how many picks are left
abbrev pub decreases-some_after : goal.decreases-some_after
decreases-some_after g l = l.left
