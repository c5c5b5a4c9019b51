-- Choices are answered by a digit. This is a proof that stands among the specifications, since the machine gives it as the value of its field `keeps`.
use Rattle.std.specs.Prelude.{◌≡◌, ℕ, Bool, true, false, List, Some, refl}
use Rattle.ygg_value.specs.Values.{digit}
use Rattle.ygg_value.specs.declared.shape.Shape.TheVariants as shape
use Rattle.ygg_eval_places.specs.ygg_meaning.Progress.{Question, Choice, Call}
use Rattle.ygg_eval_places.specs.ygg_meaning.Machine.{Picks}
use Rattle.ygg_eval_places.specs.ygg_meaning_laws.Questions.{answer_fits, answer_has}
use Rattle.ygg_eval_places.specs.Machines.{IsPlaces, CanAnswer}
use Rattle.ygg_eval_places.specs.Chosen.{choice_meaning}
use Rattle.ygg_eval_places.specs.declared.choices.ChoicePlaces.{ChoicePlaces}

pub digit_has : (b : Bool) → answer_has (Some (shape.Word 1)) (Some (digit b)) ≡ true
digit_has true = refl
digit_has false = refl

pub choices_fit : (m : ChoicePlaces) → IsPlaces (choice_meaning m)
choices_fit m = record { fits = fits; keeps = λ i q s can. tt }
  where
    fits : (i : ℕ) (q : Question) (s : Picks) → CanAnswer (choice_meaning m) q s →
        answer_fits (choice_meaning m).lower q ((choice_meaning m).handle i q s).answer ≡ true
    fits i Choice s can = digit_has _
    fits i (Call name args) s can = let h = can.fits in absurd (cc)
