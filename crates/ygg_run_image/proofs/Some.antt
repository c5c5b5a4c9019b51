-- A file that derives has a layer.
use Rattle.std.proofs.Common.{◌≡◌, ◌<◌, true, List, [], ◌∷◌, length, Some, arith}
use Rattle.std.proofs.Math.Bool.{Bool-set}
use Rattle.std.proofs.Math.Logic.{∥∥₁_elim}
use Rattle.std.specs.Prelude.{nat_lt}
use Rattle.std.proofs.lemmas.Bool.Decides.{nat_tests}
use Rattle.ygg_base.specs.declared.token.Token.{Token}
use Rattle.ygg_syntax.specs.declared.tree.Layer.{Layer}
use Rattle.ygg_syntax.specs.declared.tree.File.{File}
use Rattle.ygg_syntax.specs.Files.{IsDerivable, layers}
use Rattle.ygg_machine.proofs.of_ygg_type.Shorter.{split}

some_layer : (ls : List Layer) (from rest : List Token) → layers ls from ≡ Some rest → nat_lt 0 (length ls) ≡ true
some_layer [] from rest h = absurd (cc)
some_layer (l ∷ ls) from rest h = grind (arith, nat_tests)

derived_some : (file : File) → IsDerivable file → nat_lt 0 (length file.layers) ≡ true
derived_some file (tokens, few, derives) =
    let a = split _ _ tokens [] derives.derives in
    let b = split _ _ a.mid [] a.others in
    let c = split _ _ b.mid [] b.others in
    let d = split _ _ c.mid [] c.others in
    let e = split _ _ d.mid [] d.others in
    let f = split _ _ e.mid [] e.others in
    some_layer file.layers e.mid f.mid f.first

-- a file of a `Typed` has a layer
pub some_layers : (file : File) → ∥ IsDerivable file ∥₁ → 0 < length file.layers
some_layers file d =
    let once : IsProp (nat_lt 0 (length file.layers) ≡ true) = Bool-set (nat_lt 0 (length file.layers)) true in
    let some : nat_lt 0 (length file.layers) ≡ true = ∥∥₁_elim d once (derived_some file) in
    grind (arith, nat_tests)
