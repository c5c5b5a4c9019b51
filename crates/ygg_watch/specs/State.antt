-- What is kept of the watches.
use Rattle.std.specs.Prelude.{◌≡◌, ◌<◌, ◌≤◌, ◌*◌, ℕ, List, [], length, All}
use Rattle.ygg_cnf.specs.declared.lit.Lit.{Lit}
use Rattle.ygg_watch.specs.declared.entry.Entry.{Entry}
use Rattle.ygg_watch.specs.Lists.{IsLists, IsMember}
use Rattle.ygg_watch.specs.Watching.{IsFramed, IsWatching}
use Rattle.ygg_watch.specs.declared.frame.Checkpoint.{Checkpoint}

-- what holds also while the watches of one literal are pending
pub record IsLive (clauses : List (List Lit)) (watched : List Lit) (next firsts pending : List ℕ) (trail : List Entry) (variable_count : ℕ)
    (frames : List Checkpoint) (head seen : ℕ) : Type 0 where
  pub variables : All (λ clause. All (λ (x : Lit). x.var < variable_count) clause) clauses
  pub watched_size : length watched ≡ 2 * length clauses
  pub next_size : length next ≡ 2 * length clauses
  pub firsts_size : length firsts ≡ 2 * variable_count
  pub lists : IsLists next watched firsts pending
  pub member : IsMember clauses watched
  pub framed : IsFramed trail frames head seen
  pub watching : IsWatching clauses watched trail frames head seen

-- what holds between two calls, where no watch is pending
pub record IsState (clauses : List (List Lit)) (watched : List Lit) (next firsts : List ℕ) (trail : List Entry) (starts : List ℕ) (variable_count : ℕ)
    (frames : List Checkpoint) (capacity head seen : ℕ) : Type 0 where
  pub live : IsLive clauses watched next firsts [] trail variable_count frames head seen
  pub levels : length frames ≡ length starts
  pub capacity_is : variable_count ≤ capacity
  pub seen_within : seen ≤ length clauses
