-- Schedules that may stand in the place of others.
use Rattle.std.proofs.Common.{Result, Ok, Err, IfOk, refl, ◌∙◌}
use Rattle.ygg_syntax.specs.declared.tree.File.{File}
use Rattle.ygg_replay.specs.ygg_sched.declared.case.Case.{Case}
use Rattle.ygg_replay.specs.ygg_sched.declared.schedule.Schedule.{Schedule}
use Rattle.ygg_plain.specs.Like.{IsLike}
use Rattle.ygg_plain.specs.Plain.{IsPlainOf, IsViolated}
use Rattle.ygg_plain.proofs.Like.{still_asked, still_printed}

module _ (f : File) (which : Case) where
  -- each may stand in its own place
  pub itself : (x : Schedule) → IsPlainOf f which x x
  itself x = record { name = refl; asked = λ h. h; fits = λ s h. h; bounded = λ h. h; violated = λ h. h }

  -- one after another
  pub further : (x y z : Schedule) → IsPlainOf f which x y → IsPlainOf f which y z → IsPlainOf f which x z
  further x y z p q = record {
    name = q.name ∙ p.name;
    asked = λ h. q.asked (p.asked h);
    fits = λ s h. q.fits s (p.fits s h);
    bounded = λ h. q.bounded (p.bounded h);
    violated = λ h. q.violated (p.violated h);
  }

  -- one that is like it and violates the obligation
  pub stepped : (x y : Schedule) → IsLike x y → IsViolated f which y → IsPlainOf f which x y
  stepped x y like v = record {
    name = like.name;
    asked = still_asked x y like f which;
    fits = still_printed x y like;
    bounded = like.bounded;
    violated = λ h. v;
  }

-- what holds of a value that is answered gives another fact of it
pub answered : {T E : Type 0} {P Q : T → Type 0} (r : Result T E) → IfOk r P → ((t : T) → P t → Q t) → IfOk r Q
answered (Ok t) p f = f t p
answered (Err e) p f = tt
