-- What holds of the grammar of files.
use Rattle.std.specs.Prelude.{◌≡◌, List, [], ◌∷◌}
use Rattle.ygg_base.specs.declared.token.Token.{Token}
use Rattle.ygg_syntax.specs.declared.tree.File.{File}
use Rattle.ygg_syntax.specs.Files.{Derives}
use Rattle.ygg_syntax.specs.Pending.{file, outcome, reads}

-- where a file derives from the tokens, the pending symbols take them all
abbrev pub Complete : Type 0
Complete = (tokens : List Token) (tree : File) → Derives tokens tree → outcome (file ∷ []) tokens ≡ reads
