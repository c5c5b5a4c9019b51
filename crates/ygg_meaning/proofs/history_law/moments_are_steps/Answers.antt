use Rattle.ygg_meaning.specs.Machine.{Machine}
use Rattle.ygg_meaning.specs.Stack.{Stacked, BottomOf}
use Rattle.ygg_meaning.specs.Noted.{NotedDisk}
use Rattle.ygg_meaning.specs.StepLaws.{MomentsAreSteps}
use Rattle.ygg_meaning.proofs.Traced.{steps_of, traced}
use Rattle.ygg_meaning.proofs.history_law.moments_are_steps.Goals as goal

tell : {B X : Type 0} (M : Machine B X) → MomentsAreSteps M
tell M = record {
  steps = λ s s' ms h. steps_of M ms s s' h;
  moments = λ s s' es h. let t = traced M es s s' h in record { moments = t.moments; are = t.are; trace = t.trace };
}

pub returns : goal.returns
returns c = record { bottom = λ f. tell (BottomOf f); noted = λ d layers. tell (Stacked (NotedDisk d) layers) }
