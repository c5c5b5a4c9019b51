-- Which inputs an obligation has, step by step.
use Rattle.std.proofs.Common.{◌≡◌, ℕ, List}
use Rattle.ygg_syntax.specs.declared.tree.Block.{Block}
use Rattle.ygg_syntax.specs.declared.tree.Declared.{Declared}
use Rattle.ygg_oblige_parts.specs.ygg_meaning.Layer.{ClosedLayer}
use Rattle.ygg_oblige_parts.specs.ygg_meaning.Obligations.{Obligation}
use Rattle.ygg_oblige_parts.specs.ygg_meaning.Refines.{Below}
use Rattle.ygg_oblige_laws.specs.ygg_sym_runs.Below.{places_on, failure_room}
use Rattle.ygg_oblige_parts.specs.ygg_oblige_laws.Numbers.{arguments_of, block_of, numbers_from, numbers_of}
use Rattle.ygg_oblige_parts.specs.ygg_oblige_laws.TermStates.{words_in}

-- the counts are those of the obligation
pub counted : (G : Below) (L : ClosedLayer) (o : Obligation) (start : ℕ) (ds : List Declared) (b : Block) (words places failure waking : ℕ) →
    ds ≡ arguments_of o → b ≡ block_of L o → words ≡ words_in ds → places ≡ places_on G b → failure ≡ failure_room G →
    waking ≡ places_on G L.layer.recover → numbers_from start words places failure waking ≡ numbers_of G L o start
counted G L o start ds b words places failure waking p q r s t u = cc
