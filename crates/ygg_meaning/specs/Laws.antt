-- Laws of blocks.
use Rattle.std.specs.Prelude.{◌≡◌, List, [], ◌++◌, ◌∷◌}
use Rattle.ygg_syntax.specs.declared.tree.Block.{Block}
use Rattle.ygg_meaning.specs.Environments.{Env}
use Rattle.ygg_meaning.specs.Progress.{Eval, Question, Answer, Asks, after}
use Rattle.ygg_meaning.specs.Layer.{ClosedLayer}
use Rattle.ygg_meaning.specs.Obligations.{Obligation, Schedule}
use Rattle.ygg_meaning.specs.Refines.{Below, machine_below}
use Rattle.ygg_meaning.specs.Violates.{End, Meets}
use Rattle.ygg_meaning.specs.Replayed.{Replayed, Replays}

-- a block that asks for something after some answers has asked for something after each shorter list of them
abbrev pub AnswersInOrder : Type 0
AnswersInOrder =
    (eval : Eval) (b : Block) (env : Env) (answers : List Answer) (a : Answer) (q : Question) →
    after eval b env (answers ++ a ∷ []) ≡ Asks q → (p : Question) × (after eval b env answers ≡ Asks p)

-- a schedule that meets the hypotheses of an obligation violates it, or some first list of picks passes
abbrev pub ReplayEnds : Type 0
ReplayEnds =
    (below : Below) (L : ClosedLayer) (o : Obligation) (x : Schedule) (end : End) → Meets L (machine_below below) o x end →
    (r : Replayed) × Replays L (machine_below below) o x r
