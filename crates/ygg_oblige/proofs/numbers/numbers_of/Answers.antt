use Rattle.std.proofs.Common.{◌≡◌, List, IfOk, refl, sym, subst}
use Rattle.ygg_syntax.specs.declared.tree.Declared.{Declared}
use Rattle.ygg_oblige_parts.specs.Layers.{closed}
use Rattle.ygg_oblige_parts.specs.Sites.{below_in}
use Rattle.ygg_oblige_parts.specs.ygg_oblige_laws.LayerTerms.{ShapesKept}
use Rattle.ygg_oblige_parts.specs.ygg_oblige_laws.Numbers.{Numbers}
use Rattle.ygg_oblige_list.specs.InCode.{obligation_of}
use Rattle.ygg_oblige.specs.Numbering.{numbers_in}
use Rattle.ygg_oblige_list.specs.declared.numbers.SymNumbers.{SymNumbers}
use Rattle.ygg_oblige.proofs.Numbered.{counted}
use Rattle.ygg_oblige.proofs.numbers.numbers_of.Goals as goal

pub words_in-requires : goal.words_in-requires
words_in-requires g c = subst (λ (ds : List Declared). ShapesKept ds) (sym c.arguments_of.ensures) c.requires

pub returns : goal.returns
returns g c =
    let l = c.args.maker.now.layer in
    subst (λ (m : Numbers). IfOk c.numbers_from.result (λ (n : SymNumbers). numbers_in n ≡ m))
    (counted (below_in c.args.maker.now.below) (closed l) (obligation_of c.args.obligation) c.args.start c.arguments_of.result.now c.block_of.result.now
    c.in_ok-words.words c.in_ok-places_of_run.places_of_run c.in_ok-failure.failure c.in_ok-waking.waking c.arguments_of.ensures
    (c.block_of.ensures (closed l) refl) c.in_ok-words.ensures c.in_ok-places_of_run.ensures c.in_ok-failure.ensures c.in_ok-waking.ensures)
    c.numbers_from.ensures
