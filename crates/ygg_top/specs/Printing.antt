-- What the command `print` does.
use Rattle.std.specs.Prelude.{◌≡◌, ℕ, List, Option, Some}
use Rattle.ygg_base.specs.declared.failure.Refusal.{Refusal}
use Rattle.ygg_base.specs.declared.status.Status.{Status}
use Rattle.ygg_base.specs.declared.status.Status.TheVariants.{Done, Refused}
use Rattle.ygg_base.specs.Lexing.{tokens_of}
use Rattle.ygg_syntax.specs.declared.tree.File.{File}
use Rattle.ygg_print.specs.Canonical.{canonical, GivesAgain}
use Rattle.ygg_top_command.specs.ygg_report.Lines.{refused_line}
use Rattle.ygg_top_command.specs.Refusing.{IsLayerFile, RefusesFile}

-- the bytes are a layer file without a fault, and this is its canonical text: from its tokens derives that file but for places, and no other
pub record IsPrinted (bytes text : List ℕ) : Type 0 where
  pub layers : File
  pub is_file : IsLayerFile bytes layers
  pub is : text ≡ canonical layers
  pub again : GivesAgain (tokens_of text) layers

-- `print` of what stands under the name: it is refused, or its canonical text is printed
abbrev pub Prints : Option (List ℕ) → Status → List ℕ → Type 0
Prints stored Done text = (bytes : List ℕ) × (stored ≡ Some bytes) × IsPrinted bytes text
Prints stored Refused text = (r : Refusal) × RefusesFile stored r × (text ≡ refused_line r)
Prints stored status text = ⊥
