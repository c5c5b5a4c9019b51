-- Formulas of a layer, and what they say.
use Rattle.std.proofs.Common.{◌≡◌, ℕ, Bool, List, [], slice_get, map, Some, option_map, Result, Ok, Err, IfOk, refl, sym, ap, ◌∙◌}
use Rattle.std.proofs.lemmas.Option.{slice_get-map}
use Rattle.ygg_value.specs.declared.row.Value.{Value}
use Rattle.ygg_syntax.specs.declared.tree.Expr.{Expr}
use Rattle.ygg_sched.specs.ygg_meaning.Related.{holds}
use Rattle.ygg_eval.specs.declared.formula.Formula.{Formula}
use Rattle.ygg_eval.specs.declared.formula.Which.TheVariants.{Relate, Always, Settled}
use Rattle.ygg_eval.specs.Formulas.{IsAsked, Answers}
use Rattle.ygg_replay.specs.declared.site.ReplaySite.{ReplaySite}
use Rattle.ygg_replay.specs.Sites.{IsHere, LowFits, StatesFit, closed_in, vars_at, memory_at, low_at}

pub if_ok : {T E : Type 0} (P Q : T → Type 0) (r : Result T E) → IfOk r P → ((x : T) → P x → Q x) → IfOk r Q
if_ok P Q (Ok x) h f = f x h
if_ok P Q (Err e) h f = tt

module _ (s : ReplaySite) (here : IsHere s) (state memory low : List Value) where
  -- the formula of `relate`
  abbrev pub relate : Formula
  relate = record { layer = s.place; which = Relate; number = 0 }

  pub relate_asked : StatesFit s state memory low → IsAsked s.typed.now.file relate state memory low
  relate_asked f = record {
    layer = s.layer.now;
    is = here;
    expression = s.layer.now.relate;
    of_layer = refl;
    state_fits = λ h. f.vars_fit;
    memory_fits = λ h. f.memory_fits;
    low_fits = f.low_fits;
  }

  pub relate_holds : (r : Bool) → Answers s.typed.now.file relate state memory low r →
      r ≡ holds (closed_in s) (vars_at s state) (memory_at s memory) (low_at s low) s.layer.now.relate
  relate_holds r h = h s.layer.now s.layer.now.relate here refl

  -- one of `always`
  abbrev pub always : ℕ → Formula
  always number = record { layer = s.place; which = Always; number = number }

  pub always_asked : StatesFit s state memory low → (number : ℕ) (e : Expr) → slice_get s.layer.now.always number ≡ Some e →
      IsAsked s.typed.now.file (always number) state memory low
  always_asked f number e there = record {
    layer = s.layer.now;
    is = here;
    expression = e;
    of_layer = there;
    state_fits = λ h. f.vars_fit;
    memory_fits = λ h. f.memory_fits;
    low_fits = f.low_fits;
  }

  -- what each of `always` says, in order
  abbrev pub all_always : List Bool
  all_always = map (holds (closed_in s) (vars_at s state) (memory_at s memory) (low_at s low)) s.layer.now.always

  pub always_holds : (number : ℕ) (e : Expr) → slice_get s.layer.now.always number ≡ Some e → (r : Bool) →
      Answers s.typed.now.file (always number) state memory low r → slice_get all_always number ≡ Some r
  always_holds number e there r h =
      slice_get-map (holds (closed_in s) (vars_at s state) (memory_at s memory) (low_at s low)) s.layer.now.always number
      ∙ (ap (option_map (holds (closed_in s) (vars_at s state) (memory_at s memory) (low_at s low))) there
      ∙ ap (λ b. Some b) (sym (h s.layer.now e here there)))

module _ (s : ReplaySite) (here : IsHere s) (low : List Value) where
  -- one of `settled`
  abbrev pub settled : ℕ → Formula
  settled number = record { layer = s.place; which = Settled; number = number }

  pub settled_asked : LowFits s low → (number : ℕ) (e : Expr) → slice_get s.layer.now.settled number ≡ Some e →
      IsAsked s.typed.now.file (settled number) [] [] low
  settled_asked f number e there = record {
    layer = s.layer.now;
    is = here;
    expression = e;
    of_layer = there;
    state_fits = λ h. absurd (cc);
    memory_fits = λ h. absurd (cc);
    low_fits = f;
  }

  -- what each of `settled` says, in order
  abbrev pub all_settled : List Bool
  all_settled = map (holds (closed_in s) [] [] (low_at s low)) s.layer.now.settled

  pub settled_holds : (number : ℕ) (e : Expr) → slice_get s.layer.now.settled number ≡ Some e → (r : Bool) →
      Answers s.typed.now.file (settled number) [] [] low r → slice_get all_settled number ≡ Some r
  settled_holds number e there r h =
      slice_get-map (holds (closed_in s) [] [] (low_at s low)) s.layer.now.settled number
      ∙ (ap (option_map (holds (closed_in s) [] [] (low_at s low))) there ∙ ap (λ b. Some b) (sym (h s.layer.now e here there)))
