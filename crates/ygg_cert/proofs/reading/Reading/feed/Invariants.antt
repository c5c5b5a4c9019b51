use Rattle.std.proofs.Common.{◌≡◌, ◌≤◌, ◌-◌, ℕ, List, ◌++◌, length, take}
use Rattle.ygg_cert.specs.Standing.{IsEnded, IsFed}
use Rattle.ygg_cert.proofs.reading.Reading.feed.Given as goal

-- what was read before, and the bytes of the piece so far
abbrev pub invariant-loop-done : goal.invariant-loop-done
invariant-loop-done g l = record {
  within : l.done ≤ length l.piece;
  fed : (text : List ℕ) → IsFed (g.G.Goals.wanted l.goals) text l.initial.self → IsFed (g.G.Goals.wanted l.goals) (text ++ take l.done l.piece) l.self;
  still : IsEnded l.initial.self.next.phase → l.self ≡ l.initial.self;
}

abbrev pub decreases-loop-done : goal.decreases-loop-done
decreases-loop-done g l = length l.piece - l.done
