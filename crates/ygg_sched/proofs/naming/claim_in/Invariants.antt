use Rattle.std.proofs.Common.{◌≡◌, drop}
use Rattle.std.specs.List.{find}
use Rattle.ygg_sched.specs.Sites.{low_in, sites_on, is_named}
use Rattle.ygg_sched.proofs.naming.claim_in.Given as goal

-- what is left decides
abbrev pub invariant-loop-place : goal.invariant-loop-place
invariant-loop-place l =
    find (is_named l.name) (sites_on l.place (low_in l.low) (drop l.place l.layers)) ≡ find (is_named l.name) (sites_on 0 (low_in l.below) l.layers)
