-- Canonical texts of layer files.
use Rattle.std.proofs.Common.{◌≡◌, ℕ, List, Option, Some, refl, subst}
use Rattle.ygg_base.specs.declared.lists.Held.{Held}
use Rattle.ygg_base.specs.declared.status.Status.TheVariants.{Done}
use Rattle.ygg_syntax.specs.declared.tree.File.{File}
use Rattle.ygg_print.specs.TreeLaws.{TokensAreMarks}
use Rattle.ygg_print.specs.Canonical.{canonical, IsReadAgain}
use Rattle.ygg_top_command.specs.declared.stopping.CommandStop.{CommandStop}
use Rattle.ygg_top_command.specs.Fetched.{IsNoFile, StandsFile}
use Rattle.ygg_top_command.specs.Refusing.{IsLayerFile}
use Rattle.ygg_top_command.specs.Reports.{MayStop}
use Rattle.ygg_top_command.specs.Standing.{DoesWith}
use Rattle.ygg_top_command.proofs.Stops.{file_stop}
use Rattle.ygg_top.specs.Printing.{IsPrinted, Prints}

pub is_printed : (bytes text : List ℕ) (layers printed : File) → TokensAreMarks → IsLayerFile bytes layers → printed ≡ layers →
    text ≡ canonical printed → IsReadAgain text printed → IsPrinted bytes text
is_printed bytes text layers printed marks is_file same is again =
    let P : File → Type 0 = λ f. text ≡ canonical f in
    record {
      layers = layers;
      is_file = is_file;
      is = subst P same is;
      again = subst (IsReadAgain text) same again is_file.tokens.items (marks bytes is_file.tokens is_file.accepted.spells) is_file.accepted.derives;
    }

-- what is printed of the layer file that stands under a name
pub prints : (files : Option (List Held)) (name text : List ℕ) (layers : File) → StandsFile files name layers →
    ((bytes : List ℕ) → IsLayerFile bytes layers → IsPrinted bytes text) → DoesWith Prints files name Done text
prints files name text layers stands is = (Some stands.0, stands.1, (stands.0, refl, is stands.0 stands.2))

-- nothing where there is none
pub print_stop : (files : Option (List Held)) (name : List ℕ) (LibraryRose : Type 0) (stop : CommandStop) → IsNoFile files name LibraryRose stop →
    MayStop (DoesWith Prints files name) LibraryRose stop
print_stop files name LibraryRose stop none =
    file_stop files name LibraryRose Prints stop (λ stored r refuses. (r, refuses, refl)) none
