-- What holds of how `play` ends.
use Rattle.std.specs.Prelude.{◌≡◌, ℕ, List, Option}
use Rattle.ygg_base.specs.declared.status.Status.{Status}
use Rattle.ygg_syntax.specs.declared.tree.File.{File}
use Rattle.ygg_type.specs.ygg_type_rules.Files.{IsTyped}
use Rattle.ygg_top.specs.Playing.{PlaysStored}

-- for a file without a type error, and what stands under the script's name, `play` ends with one status and prints one text
abbrev pub PlayEndsOneWay : Type 0
PlayEndsOneWay =
    (f : File) → IsTyped f → (stored : Option (List ℕ)) (status other : Status) (text line : List ℕ) → PlaysStored f stored status text →
    PlaysStored f stored other line → (status ≡ other) × (text ≡ line)
