-- A file that tokens derive has a layer.
use Rattle.std.proofs.Common.{◌≡◌, ◌<◌, Bool, true, false, List, [], ◌∷◌, length, refl, arith}
use Rattle.std.proofs.Math.Bool.{Bool-set}
use Rattle.std.proofs.Math.Logic.{∥∥₁_elim}
use Rattle.ygg_syntax.specs.declared.tree.Layer.{Layer}
use Rattle.ygg_syntax.specs.declared.tree.File.{File}
use Rattle.ygg_syntax.specs.Files.{IsDerivable, whole_file, layers}
use Rattle.ygg_run.specs.ygg_meaning_laws_proofs_Grammar.{IsRead, first_read, others_read}

abbrev has_layers : List Layer → Bool
has_layers [] = false
has_layers (l ∷ ls) = true

read_some : (ls : List Layer) → IsRead (layers ls) → has_layers ls ≡ true
read_some [] h = let e = h.is in absurd (cc)
read_some (l ∷ ls) h = refl

derived_some : (f : File) → IsDerivable f → has_layers f.layers ≡ true
derived_some f (tokens, few, d) =
    let whole : IsRead (whole_file f) = record { from = tokens; rest = []; is = d.derives } in
    read_some f.layers
    (first_read (layers f.layers) []
    (others_read _ _ (others_read _ _ (others_read _ _ (others_read _ _ (others_read _ _ whole))))))

some_is : (ls : List Layer) → has_layers ls ≡ true → 0 < length ls
some_is [] h = absurd (cc)
some_is (l ∷ ls) h = omega arith

pub some_layers : (f : File) → ∥ IsDerivable f ∥₁ → 0 < length f.layers
some_layers f derivable =
    let once : IsProp (has_layers f.layers ≡ true) = Bool-set (has_layers f.layers) true in
    some_is f.layers (∥∥₁_elim derivable once (λ d. derived_some f d))
