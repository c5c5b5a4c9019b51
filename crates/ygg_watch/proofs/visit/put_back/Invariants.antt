use Rattle.std.proofs.Common.{◌≡◌, ◌<◌, ℕ, List, length}
use Rattle.ygg_watch.proofs.ListLemmas.{walk}
use Rattle.ygg_watch.specs.Lists.{IsPending, IsLists}
use Rattle.ygg_watch.proofs.visit.put_back.Given as goal

abbrev pub invariant-loop-at : goal.invariant-loop-at
invariant-loop-at l = record {
  pending : (rest : List ℕ) × (IsPending l.links.next l.links.watched l.at l.code rest × IsLists l.links.next l.links.watched l.links.firsts rest);
  size : length l.links.watched ≡ length l.links.next;
  code : l.code < length l.links.firsts;
  watched : l.links.watched ≡ l.initial.links.watched;
  next : length l.links.next ≡ length l.initial.links.next;
  firsts : length l.links.firsts ≡ length l.initial.links.firsts;
}

abbrev pub decreases-loop-at : goal.decreases-loop-at
decreases-loop-at l = walk (length l.links.next) l.links.next l.at
