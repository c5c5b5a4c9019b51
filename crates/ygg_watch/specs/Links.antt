-- Watches as lists.
use Rattle.std.specs.Prelude.{ℕ, List, map}
use Rattle.ygg_cnf.specs.declared.lit.Lit.{Lit}
use Rattle.ygg_cnf_set.specs.Codes.{lit_at}
use Rattle.ygg_watch.specs.declared.links.WatchNode.{WatchNode}

-- the literal of each watch, the next one of each, and the first one by literal
pub record Linked : Type 0 where
  pub watched : List Lit
  pub next : List ℕ
  pub firsts : List ℕ

-- the lists that the nodes hold
abbrev pub linked : List WatchNode → List ℕ → Linked
linked nodes firsts = record { watched = map (λ (n : WatchNode). lit_at n.code) nodes; next = map (λ (n : WatchNode). n.next) nodes; firsts = firsts }
