-- No list of picks from the front passes exactly where no list of picks by place does.
use Rattle.std.proofs.Common.{◌≡◌, ◌↔◌, ◌+◌, true, [], Option, Some, None, refl, arith}
use Rattle.ygg_syntax.specs.Choices.{choices_of}
use Rattle.ygg_syntax.specs.declared.tree.Block.{Block}
use Rattle.ygg_meaning_laws.specs.Environments.{bind}
use Rattle.ygg_meaning_laws.specs.Spec.{fall_with}
use Rattle.ygg_meaning_laws.specs.Obligations.{Init, CallOf, CutOf, TickOf, CutTickOf, Idle, Again, NoPicksPass, crash_picks}
use Rattle.ygg_meaning_laws.specs.Violates.{passes}
use Rattle.ygg_meaning_laws.specs.Kinds.{on_crash_keeps}
use Rattle.ygg_meaning_laws.specs.SpecPlaces.{as_outcome, fall_by_place, FailsByPlace}
use Rattle.ygg_meaning_laws.proofs.Matching.{block_matches, fall_on_crash, fall_maybe, fails_alike}

pub fails_by_place : FailsByPlace
fails_by_place past L Init x end kept = (λ h. h, λ h. h)
fails_by_place past L (CallOf o) x end kept =
    fails_alike (choices_of o.spec) (choices_of o.spec) _ _ (passes L (CallOf o) end) (omega arith)
    (block_matches past L o.spec x.state (bind o.arguments x.args) kept) (λ r left. refl)
fails_by_place past L (CutOf o) x end (kept, on_crash, crash) = by_crash o.on_crash on_crash
  where
    by_crash : (b : Option Block) → on_crash_keeps b ≡ true →
        NoPicksPass (elim b [ None ↦ 1 + choices_of o.spec + crash_picks L.layer | Some b ↦ choices_of b + crash_picks L.layer ])
        (λ picks. passes L (CutOf o) end (fall_with L o b x.state x.args picks))
        ↔ NoPicksPass (elim b [ None ↦ 1 + choices_of o.spec + crash_picks L.layer | Some b ↦ choices_of b + crash_picks L.layer ])
        (λ picks. passes L (CutOf o) end (as_outcome past L (fall_by_place past L o b x.state x.args picks)))
    by_crash (Some b) k =
        fails_alike (choices_of b + choices_of L.layer.crash) (choices_of b + crash_picks L.layer) _ _ (passes L (CutOf o) end) (omega arith)
        (fall_on_crash past L o b x.state x.args k crash) (λ r left. refl)
    by_crash None k =
        fails_alike (1 + (choices_of o.spec + choices_of L.layer.crash)) (1 + choices_of o.spec + crash_picks L.layer) _ _ (passes L (CutOf o) end)
        (omega arith) (fall_maybe past L o x.state x.args kept crash) (λ r left. refl)
fails_by_place past L (TickOf t) x end kept = (λ h. h, λ h. h)
fails_by_place past L (CutTickOf t) x end kept =
    fails_alike (choices_of L.layer.crash) (choices_of L.layer.crash) _ _ (passes L (CutTickOf t) end) (omega arith)
    (block_matches past L L.layer.crash x.state [] kept) (λ r left. refl)
fails_by_place past L Idle x end kept =
    fails_alike (choices_of L.layer.crash) (choices_of L.layer.crash) _ _ (passes L Idle end) (omega arith)
    (block_matches past L L.layer.crash x.state [] kept) (λ r left. refl)
fails_by_place past L Again x end kept = (λ h. h, λ h. h)
