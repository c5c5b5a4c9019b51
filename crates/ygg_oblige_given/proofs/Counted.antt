-- The words of declared names, name by name.
use Rattle.std.proofs.Common.{◌≡◌, ◌<◌, ℕ, ◌+◌, List, length, drop, get_or, ap}
use Rattle.ygg_syntax.specs.declared.tree.Declared.{Declared}
use Rattle.ygg_oblige_laws.specs.ygg_meaning.Shapes.{shape_in}
use Rattle.ygg_oblige_laws.specs.ygg_shape.Fresh.{words_of}
use Rattle.ygg_oblige_laws.specs.TermStates.{words_in}
use Rattle.ygg_oblige_laws.proofs.of_ygg_sym_runs.Going.{rest_is}

pub words_go : (ds : List Declared) (i : ℕ) (d e : Declared) → i < length ds → d ≡ get_or ds i e →
    words_in (drop i ds) ≡ words_of (shape_in d.shape) + words_in (drop (i + 1) ds)
words_go ds i d e l is = ap words_in (rest_is ds i d e l is)
