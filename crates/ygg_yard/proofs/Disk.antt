-- What a synchronous disk does with a write, and when power fails.
use Rattle.std.proofs.Common.{◌≡◌, ℕ, Bool, true, false, if◌then◌else◌, [], ◌∷◌, ◌⊎◌, inl, inr, Some, None, codes, sym, ap, ◌∙◌, subst}
use Rattle.ygg_value.specs.Number.{Grid}
use Rattle.ygg_value.specs.Values.{word_in, row_in, table_write}
use Rattle.ygg_value.specs.declared.row.Value.{Value}
use Rattle.ygg_value.specs.declared.row.Value.TheVariants.{Word, Row, Table}
use Rattle.ygg_meaning_laws.specs.ygg_disk.Disk as disk
use Rattle.ygg_meaning_laws.specs.ygg_meaning.Environments.{Env}
use Rattle.ygg_meaning_laws.specs.ygg_meaning.Progress.{Answer}
use Rattle.ygg_meaning_laws.specs.ygg_meaning.Machine.{Picks, State, based}
use Rattle.ygg_meaning_laws.specs.ygg_meaning.DiskMachine.{disk_call, DiskMachine}
use Rattle.ygg_syntax.specs.declared.tree.DiskText.{DiskText}
use Rattle.ygg_meaning_laws.proofs.Tests.{bytes_equal}
use Rattle.ygg_yard.specs.Trees.{Places, disk_made}

-- the one table of a synchronous disk, by its name
abbrev pub view_of : Grid → Env
view_of g = (codes "view", Table g) ∷ []

table_in : Grid → Value → Grid
table_in g (Word w) = g
table_in g (Row r) = g
table_in g (Table t) = t

grid_in : Grid → Env → Grid
grid_in g [] = g
grid_in g (b ∷ env) = table_in g b.1

pub same_view : (g h : Grid) → view_of g ≡ view_of h → g ≡ h
unfolding grid_in table_in
same_view g h e = ap (grid_in g) e

some_is : (a b : disk.Call) → Some a ≡ Some b → a ≡ b
some_is a b e = cc

-- the call of a write
pub is_write : (at row : Value) → disk_call (codes "write") (at ∷ row ∷ []) ≡ Some (disk.Write (word_in at).bits (row_in row))
is_write at row = ap (λ b. if b then Some (disk.Write (word_in at).bits (row_in row)) else None) (bytes_equal (codes "write"))

module _ (p : Places) (count : ℕ) where
  abbrev d : DiskText
  d = disk_made p count

  -- the row is written
  pub wrote : (g : Grid) (at row : Value) (notes : Picks) (y : Answer) (to : State Env) →
      (DiskMachine d).Calls (based (view_of g)) (codes "write") (at ∷ row ∷ []) notes y to →
      to ≡ based (view_of (table_write g (word_in at).bits (row_in row)))
  wrote g at row notes y to (b, b', call, reply, is, from, (g1, g2, b_is, does, b'_is), y_is, to_is) =
      let call_is = some_is call _ (sym is ∙ is_write at row) in
      let done = subst (λ (c : disk.Call). disk.sync_calls g1 c notes reply g2) call_is does in
      let same = same_view g g1 (ap (λ (s : State Env). s.base) from ∙ b_is) in
      to_is ∙ ap based b'_is ∙ ap (λ (h : Grid). based (view_of h)) done.2
      ∙ ap (λ (h : Grid). based (view_of (table_write h (word_in at).bits (row_in row)))) (sym same)

  -- power fails within a write: the row was written, or not
  pub cut : (g : Grid) (at row : Value) (notes : Picks) (fallen : Env) →
      (DiskMachine d).Falls (based (view_of g)) (codes "write") (at ∷ row ∷ []) notes fallen →
      (fallen ≡ view_of g) ⊎ (fallen ≡ view_of (table_write g (word_in at).bits (row_in row)))
  cut g at row notes fallen (b, call, is, from, (g1, g2, b_is, does, f_is)) =
      let call_is = some_is call _ (sym is ∙ is_write at row) in
      let done = subst (λ (c : disk.Call). disk.sync_falls g1 c notes g2) call_is does in
      let same = same_view g g1 (ap (λ (s : State Env). s.base) from ∙ b_is) in
      by done.0 (f_is ∙ ap view_of done.2) same
    where
      by : (kept : Bool) → fallen ≡ view_of (if kept then table_write g1 (word_in at).bits (row_in row) else g1) → g ≡ g1 →
          (fallen ≡ view_of g) ⊎ (fallen ≡ view_of (table_write g (word_in at).bits (row_in row)))
      by true e same = inr (e ∙ ap (λ (h : Grid). view_of (table_write h (word_in at).bits (row_in row))) (sym same))
      by false e same = inl (e ∙ ap view_of (sym same))

  -- power that is lost between calls leaves all
  pub lost : (g : Grid) (notes : Picks) (fallen : Env) → (DiskMachine d).Loses (based (view_of g)) notes fallen → fallen ≡ view_of g
  lost g notes fallen (b, n, from, (g1, b_is, f_is)) =
      f_is ∙ ap view_of (sym (same_view g g1 (ap (λ (s : State Env). s.base) from ∙ b_is)))
