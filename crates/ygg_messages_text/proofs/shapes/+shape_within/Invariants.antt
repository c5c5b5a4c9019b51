use Rattle.ygg_messages_text.proofs.shapes.+shape_within.Given as goal

-- how deep is still looked
abbrev pub decreases-shape_within : goal.decreases-shape_within
decreases-shape_within l = l.depth
