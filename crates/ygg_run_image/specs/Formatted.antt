-- The rows that a format leaves.
use Rattle.std.specs.Prelude.{◌≡◌, true, All, codes}
use Rattle.ygg_value.specs.Number.{Grid}
use Rattle.ygg_value.specs.declared.row.Value.TheVariants.{Table}
use Rattle.ygg_syntax.specs.declared.tree.File.{File}
use Rattle.ygg_run_image.specs.ygg_meaning.Environments.{Env, look_up}
use Rattle.ygg_run_image.specs.ygg_meaning.Machine.{Picks, State}
use Rattle.ygg_run_image.specs.ygg_meaning.Stack.{BottomOf}

-- the disk of the bottom implementation shows these rows
abbrev pub Views : State Env → Grid → Type 0
Views s rows = look_up (codes "view") s.base ≡ Table rows

-- the rows that the bottom implementation of a file shows freshly formatted, with all writes kept
pub record AreFormatted (f : File) (rows : Grid) : Type 0 where
  pub start : State Env
  pub picks : Picks
  pub starts : (BottomOf f).Starts start picks
  pub kept : All (λ pick. pick ≡ true) picks
  pub shows : Views start rows
