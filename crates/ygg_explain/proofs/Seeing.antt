-- What the formulas of a layer are evaluated with.
use Rattle.std.proofs.Common.{◌≡◌, ℕ, Bool, List, [], ◌++◌, slice_get, Some, ap, ◌∙◌, subst, refl}
use Rattle.ygg_value.specs.declared.row.Value.{Value}
use Rattle.ygg_syntax.specs.declared.tree.Expr.{Expr}
use Rattle.ygg_sched.specs.ygg_type_rules.Files.{IsTyped}
use Rattle.ygg_eval.specs.ygg_meaning.Environments.{Env, bind}
use Rattle.ygg_eval.specs.ygg_meaning.Meaning.{functions_of}
use Rattle.ygg_eval.specs.Layers.{variables_at}
use Rattle.ygg_eval.specs.declared.formula.Formula.{Formula}
use Rattle.ygg_eval.specs.declared.formula.Which.TheVariants.{Relate, Always, Settled}
use Rattle.ygg_eval.proofs.Asked.{asked_can}
use Rattle.ygg_eval_expr.specs.Known.{CanEvaluate, Known, scope_in}
use Rattle.ygg_replay.specs.declared.site.ReplaySite.{ReplaySite}
use Rattle.ygg_replay.specs.Sites.{IsHere, LowFits, StatesFit, closed_in, file_of, low_at, memory_at, vars_at}
use Rattle.ygg_explain.specs.Parts.{AreAllParts, AreParts}
use Rattle.ygg_explain.specs.Told.{scope_at}
use Rattle.ygg_explain.specs.Views.{AllPartsIn, PartsIn, known_in}
use Rattle.ygg_explain.specs.declared.parts.View.{View}

module _ (s : ReplaySite) (state memory low : List Value) where
  -- what `relate` and `always` are evaluated with
  abbrev pub known_relation : Known
  known_relation = record {
    defs = (file_of s).defs;
    own = bind s.layer.now.state state ++ bind s.layer.now.memory memory;
    low = bind (variables_at (file_of s) s.place) low;
  }

  pub known_is : (k : Known) (vs ws us : List Value) (own e lower f : Env) → k ≡ record { defs = (file_of s).defs; own = e; low = f } → e ≡ own →
      own ≡ bind s.layer.now.state vs ++ bind s.layer.now.memory ws → vs ≡ state → ws ≡ memory → f ≡ lower →
      lower ≡ bind (variables_at (file_of s) s.place) us → us ≡ low → k ≡ known_relation
  known_is k vs ws us own e lower f is owns own_is first second lows low_is third =
      let known : Env → Env → Known = λ x y. record { defs = (file_of s).defs; own = x; low = y } in
      let names : e ≡ bind s.layer.now.state state ++ bind s.layer.now.memory memory = owns ∙ own_is
      ∙ ap (λ x. bind s.layer.now.state x ++ bind s.layer.now.memory ws) first ∙ ap (λ x. bind s.layer.now.state state ++ bind s.layer.now.memory x) second in
      is ∙ ap (λ x. known x f) names
      ∙ ap (known (bind s.layer.now.state state ++ bind s.layer.now.memory memory)) (lows ∙ low_is ∙ ap (bind (variables_at (file_of s) s.place)) third)

  module _ (here : IsHere s) (typed : IsTyped (file_of s)) (fits : StatesFit s state memory low) (k : Known) (is : k ≡ known_relation) where
    abbrev relate : Formula
    relate = record { layer = s.place; which = Relate; number = 0 }

    abbrev always : ℕ → Formula
    always number = record { layer = s.place; which = Always; number = number }

    -- `relate` may be evaluated
    pub relate_ready : CanEvaluate k s.layer.now.relate
    relate_ready = asked_can (file_of s) relate state memory low typed (record {
      layer = s.layer.now;
      is = here;
      expression = s.layer.now.relate;
      of_layer = refl;
      state_fits = λ h. fits.vars_fit;
      memory_fits = λ h. fits.memory_fits;
      low_fits = fits.low_fits;
    }) s.layer.now s.layer.now.relate k here refl is

    -- and so may each `always`
    pub always_ready : (number : ℕ) (e : Expr) → slice_get s.layer.now.always number ≡ Some e → CanEvaluate k e
    always_ready number e there = asked_can (file_of s) (always number) state memory low typed (record {
      layer = s.layer.now;
      is = here;
      expression = e;
      of_layer = there;
      state_fits = λ h. fits.vars_fit;
      memory_fits = λ h. fits.memory_fits;
      low_fits = fits.low_fits;
    }) s.layer.now e k here there is

  module _ (v : View) (is : known_in v ≡ known_relation) (wanted : Bool) (which : List ℕ) where
    -- what is told of them
    pub parts_seen : (e : Expr) (text : List ℕ) → PartsIn v wanted which e text →
        AreParts (closed_in s).functions (scope_at (vars_at s state) (memory_at s memory) (low_at s low)) wanted which e text
    parts_seen e text h = subst (λ (k : Known). AreParts (functions_of k.defs) (scope_in k) wanted which e text) is h

    pub all_parts_seen : (es : List Expr) (text : List ℕ) → AllPartsIn v wanted which es text →
        AreAllParts (closed_in s).functions (scope_at (vars_at s state) (memory_at s memory) (low_at s low)) wanted which es text
    all_parts_seen es text h = subst (λ (k : Known). AreAllParts (functions_of k.defs) (scope_in k) wanted which es text) is h

module _ (s : ReplaySite) (low : List Value) where
  abbrev settled : ℕ → Formula
  settled number = record { layer = s.place; which = Settled; number = number }

  -- what `settled` is evaluated with
  abbrev pub known_settled : Known
  known_settled = record { defs = (file_of s).defs; own = []; low = bind (variables_at (file_of s) s.place) low }

  pub settled_known : (k : Known) (us : List Value) (lower f : Env) → k ≡ record { defs = (file_of s).defs; own = []; low = f } → f ≡ lower →
      lower ≡ bind (variables_at (file_of s) s.place) us → us ≡ low → k ≡ known_settled
  settled_known k us lower f is lows low_is third =
      let known : Env → Known = λ y. record { defs = (file_of s).defs; own = []; low = y } in
      is ∙ ap known (lows ∙ low_is ∙ ap (bind (variables_at (file_of s) s.place)) third)

  -- each `settled` may be evaluated
  pub settled_ready : IsHere s → IsTyped (file_of s) → LowFits s low → (k : Known) → k ≡ known_settled → (number : ℕ) (e : Expr) →
      slice_get s.layer.now.settled number ≡ Some e → CanEvaluate k e
  settled_ready here typed fits k is number e there = asked_can (file_of s) (settled number) [] [] low typed (record {
    layer = s.layer.now;
    is = here;
    expression = e;
    of_layer = there;
    state_fits = λ h. absurd (cc);
    memory_fits = λ h. absurd (cc);
    low_fits = fits;
  }) s.layer.now e k here there is
