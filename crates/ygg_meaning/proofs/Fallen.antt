-- Whatever holds of each base that power loss leaves below holds of each that it leaves with layers on top.
use Rattle.std.proofs.Common.{◌≡◌, Bool, true, false, List, [], ◌∷◌, ◌++◌, inl, inr, refl, sym, ap, ◌∙◌, subst, codes}
use Rattle.ygg_value.specs.declared.row.Value.TheVariants.{Table}
use Rattle.ygg_value.specs.Number.{Grid}
use Rattle.ygg_syntax.specs.declared.tree.DiskText.{DiskText}
use Rattle.ygg_base.specs.declared.geometry.DiskKind.{DiskKind}
use Rattle.ygg_base.specs.declared.geometry.DiskKind.TheVariants.{Sync, Async}
use Rattle.ygg_syntax.specs.declared.tree.File.{File}
use Rattle.ygg_meaning.specs.ygg_disk.Disk as disk
use Rattle.ygg_meaning.specs.Environments.{Env, look_up}
use Rattle.ygg_meaning.specs.Machine.{Picks, State, Machine}
use Rattle.ygg_meaning.specs.Runs.{Dialogue, FallsAt, FallenRun, answers_of}
use Rattle.ygg_meaning.specs.Layer.{ClosedLayer, Layered}
use Rattle.ygg_meaning.specs.ygg_disk.Kinds.{model_of}
use Rattle.ygg_meaning.specs.DiskMachine.{tables_in, DiskMachine}
use Rattle.ygg_meaning.specs.Stack.{Layers, Stacked, BottomOf, layers_of}
use Rattle.ygg_meaning.specs.Under.{Failure, InCall, InTick, Between, FailsBy, AfterWakeFalls}
use Rattle.ygg_meaning.specs.History.{Entry, Steps, History}
use Rattle.ygg_meaning.specs.Left.{Left}
use Rattle.ygg_meaning.proofs.Resumed.{resumed}

pub record Leaves {B X : Type 0} (P : B → Type 0) (M : Machine B X) : Type 0 where
  pub fails : (how : Failure) (s : State B) (notes : List X) (f : B) → FailsBy M how s notes f → P f
  pub wake_falls : (f : B) (notes : List X) (g : B) → M.WakeFalls f notes g → P g

module _ {B X : Type 0} (P : B → Type 0) where
  run_leaves : (M : Machine B X) → Leaves P M → (asked : Dialogue) (s : State B) (notes : List X) (f : B) → FallenRun M asked s notes f → P f
  run_leaves M h asked s notes f r = by_within r.within r.falls
    where
      by_within : (within : Bool) → FallsAt within M asked (answers_of r.calls) r.at r.last f → P f
      by_within true x = h.fails (InCall x.name x.args) r.at r.last f x.falls
      by_within false x = h.fails Between r.at r.last f x

  layered_leaves : (M : Machine B X) → Leaves P M → (L : ClosedLayer) → Leaves P (Layered L M)
  layered_leaves M h L = record { fails = fails; wake_falls = wake_falls }
    where
      fails : (how : Failure) (s : State B) (notes : List X) (f : B) → FailsBy (Layered L M) how s notes f → P f
      fails (InCall name args) s notes f x = run_leaves M h _ x.step.lower notes f x.step.run
      fails (InTick name) s notes f (inl x) = run_leaves M h _ x.step.lower notes f x.step.run
      fails (InTick name) s notes f (inr x) = h.fails (InTick name) x.lower notes f x.falls
      fails Between s notes f x = h.fails Between x.lower notes f x.falls

      wake_falls : (f : B) (notes : List X) (g : B) → (Layered L M).WakeFalls f notes g → P g
      wake_falls f notes g (inl x) = h.wake_falls f notes g x
      wake_falls f notes g (inr x) = run_leaves M h _ x.next.lower x.second g x.next.run

  pub stacked_leaves : (M : Machine B X) → Leaves P M → (layers : Layers) → Leaves P (Stacked M layers)
  stacked_leaves M h [] = h
  stacked_leaves M h (L ∷ lower) = layered_leaves (Stacked M lower) (stacked_leaves M h lower) L

  pub stays_leaves : (M : Machine B X) → Leaves P M → (fs : List B) (f g : B) → P f → AfterWakeFalls M f fs (λ left. left ≡ g) → P g
  stays_leaves M h [] f g p is = subst P is p
  stays_leaves M h (f' ∷ fs) f g p (notes, falls, rest) = stays_leaves M h fs f' g (h.wake_falls f notes f' falls) rest

-- all tables of a disk are one
abbrev pub IsLost : DiskText → Env → Type 0
IsLost d base = (rows : Grid) × (base ≡ tables_in d.kind ((model_of d.kind).start rows))

lost_start : (k : DiskKind) (x : (model_of k).State) → (rows : Grid) × ((model_of k).lost x ≡ (model_of k).start rows)
lost_start Sync x = (x, refl)
lost_start Async x = (x.stable, refl)

falls_start : (k : DiskKind) (x y : (model_of k).State) (call : disk.Call) (picks : Picks) → (model_of k).Falls x call picks y → (rows : Grid)
    × (y ≡ (model_of k).start rows)
falls_start Sync x y call picks h = (y, refl)
falls_start Async x y (disk.Read at) picks (none, is) = (x.stable, is)
falls_start Async x y (disk.Write at row) picks (kept, one, is) = ((disk.written kept x at row).stable, is)
falls_start Async x y disk.Flush picks (none, is) = (x.stable, is)

disk_leaves : (d : DiskText) → Leaves (IsLost d) (DiskMachine d)
disk_leaves d = record { fails = fails; wake_falls = λ f notes g h. absurd h }
  where
    fails : (how : Failure) (s : State Env) (notes : List Bool) (f : Env) → FailsBy (DiskMachine d) how s notes f → IsLost d f
    fails (InCall name args) s notes f (b, call, named, from, (x, y, at, falls, is)) =
        let (rows, e) = falls_start d.kind x y call notes falls in (rows, is ∙ ap (tables_in d.kind) e)
    fails (InTick name) s notes f h = absurd h
    fails Between s notes f (b, none, from, (x, at, is)) = let (rows, e) = lost_start d.kind x in (rows, is ∙ ap (tables_in d.kind) e)

shows_rows : (k : DiskKind) (rows : Grid) → look_up (codes "view") (tables_in k ((model_of k).start rows)) ≡ Table rows
shows_rows Sync rows = refl
shows_rows Async rows = refl

table_is : (a b : Grid) → Table a ≡ Table b → a ≡ b
table_is a b h = cc

-- the base that is left is the rows that it shows, in all tables
pub left_is : (f : File) (es : List Entry) (rows : Grid) (x : Left f es rows) → x.left ≡ tables_in f.disk.kind ((model_of f.disk.kind).start rows)
left_is f es rows x =
    let leaves = stacked_leaves (IsLost f.disk) (DiskMachine f.disk) (disk_leaves f.disk) (layers_of f) in
    let lost : IsLost f.disk x.left =
    stays_leaves (IsLost f.disk) (BottomOf f) leaves x.stays.0 x.fallen x.left (leaves.fails x.how x.state x.picks x.fallen x.fails) x.stays.1 in
    let same : lost.0 ≡ rows = table_is lost.0 rows (sym (shows_rows f.disk.kind lost.0) ∙ ap (look_up (codes "view")) (sym lost.1) ∙ x.shows) in
    lost.1 ∙ ap (λ r. tables_in f.disk.kind ((model_of f.disk.kind).start r)) same

goes_on : {B X : Type 0} (M : Machine B X) (es : List Entry) (cs : List Entry) (s t u : State B) → Steps M s es t → Steps M t cs u → Steps M s (es ++ cs) u
goes_on M [] cs s t u h rest = subst (λ x. Steps M x cs u) (sym h) rest
goes_on M (e ∷ es) cs s t u (next, first, h) rest = (next, first, goes_on M es cs next t u h rest)

-- a whole recovery from the rows that are found, and commands after it, go on with whatever entries could have left those rows
pub run_history : (f : File) (es : List Entry) (rows : Grid) → Left f es rows → (picks : Picks) (s s' : State Env) (commands : List Entry) →
    (BottomOf f).Wakes (tables_in f.disk.kind ((model_of f.disk.kind).start rows)) picks s → Steps (BottomOf f) s commands s' →
    History (BottomOf f) (es ++ commands) s'
run_history f es rows x picks s s' commands wakes steps =
    let (start, first, starts, goes) = resumed f es rows x picks s (subst (λ b. (BottomOf f).Wakes b picks s) (sym (left_is f es rows x)) wakes) in
    (start, first, starts, goes_on (BottomOf f) es commands start s s' goes steps)
