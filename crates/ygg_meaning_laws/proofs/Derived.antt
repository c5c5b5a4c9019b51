-- What is known of a file that some tokens derive, however that is known.
use Rattle.std.proofs.Common.{◌≡◌, Bool, true, [], ◌∷◌, ◌++◌, subst}
use Rattle.std.proofs.Math.Bool.{Bool-set}
use Rattle.std.proofs.Math.Logic.{∥∥₁_elim, ∥∥₁_map}
use Rattle.ygg_syntax.specs.declared.tree.File.{File}
use Rattle.ygg_syntax.specs.Files.{IsDerived, IsDerivable}
use Rattle.ygg_meaning_laws.specs.Files.{IsTyped}
use Rattle.ygg_meaning.specs.Environments.{Env}
use Rattle.ygg_meaning.specs.Machine.{Machine}
use Rattle.ygg_meaning.specs.DiskMachine.{DiskMachine, disk_store}
use Rattle.ygg_meaning.specs.Stack.{Layers, Bottom, Top, AllRefine, layers_of}
use Rattle.ygg_meaning.specs.Under.{Under}
use Rattle.ygg_meaning.specs.HistoryLaws.{ByLinks, AllAnswered}
use Rattle.ygg_meaning.proofs.Plain.{store_plain}
use Rattle.ygg_meaning.proofs.Composed.{compose}
use Rattle.ygg_meaning_laws.specs.Kinds.{file_keeps}
use Rattle.ygg_meaning_laws.proofs.Grammar.{file_kept}
use Rattle.ygg_meaning_laws.proofs.Files.{Known, file_known}

-- what fewer than 2 ^ 32 tokens derive, some tokens derive
pub derivable_derived : (f : File) → ∥ IsDerivable f ∥₁ → ∥ IsDerived f ∥₁
derivable_derived f d = ∥∥₁_map d (λ (tokens, few, derives). (tokens, derives))

-- the blocks of such a file keep their kinds, which is so in one way at most
pub derived_kept : (f : File) → ∥ IsDerived f ∥₁ → file_keeps f ≡ true
derived_kept f d = let once : IsProp (file_keeps f ≡ true) = Bool-set (file_keeps f) true in
    ∥∥₁_elim d once (λ (tokens, derives). file_kept tokens f derives)

pub derived_known : (f : File) → ∥ IsDerived f ∥₁ → IsTyped f → Known f.disk (layers_of f)
derived_known f d t = file_known f (derived_kept f d) t

-- what is answered for all layers is answered for the lower ones
lower_answered : (M : Machine Env Bool) (upper lower : Layers) → AllAnswered M (upper ++ lower) → AllAnswered M lower
lower_answered M [] lower h = h
lower_answered M (L ∷ upper) lower (h, rest) = lower_answered M upper lower rest

pub typed_compose : (f : File) → ∥ IsDerived f ∥₁ → IsTyped f → (upper lower : Layers) → layers_of f ≡ upper ++ lower → AllRefine (DiskMachine f.disk) lower →
    Under (Bottom f.disk lower) (Top f.disk lower) (ByLinks lower)
typed_compose f d t upper lower is r =
    compose (DiskMachine f.disk) (store_plain (disk_store f.disk)) lower r
    (lower_answered (DiskMachine f.disk) upper lower (subst (AllAnswered (DiskMachine f.disk)) is (derived_known f d t).answered))
