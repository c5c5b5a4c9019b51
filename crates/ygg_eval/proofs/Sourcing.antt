-- Runs of right sides.
use Rattle.std.proofs.Common.{◌≡◌, ℕ, true, List, Option, Some, Result, Ok, Err, refl, sym, ap, subst, arith}
use Rattle.ygg_list.specs.declared.memory.NoMemory.{NoMemory}
use Rattle.ygg_value.specs.declared.row.Value.{Value}
use Rattle.ygg_value.specs.declared.shape.Shape.TheVariants as shape
use Rattle.ygg_value.specs.Values.{digit}
use Rattle.ygg_syntax.specs.declared.tree.Place.{Place}
use Rattle.ygg_syntax.specs.declared.tree.Name.{Name}
use Rattle.ygg_syntax.specs.declared.tree.Expr.{Expr}
use Rattle.ygg_syntax.specs.declared.tree.Source.{Source}
use Rattle.ygg_syntax.specs.declared.tree.Source.TheVariants as source
use Rattle.ygg_syntax.specs.declared.tree.File.{File}
use Rattle.ygg_eval_expr.specs.ygg_disk.declared.power.Power.{Power}
use Rattle.ygg_eval_expr.specs.ygg_disk.Power.{pick_of, after_pick}
use Rattle.ygg_eval_expr.specs.ygg_meaning.Environments.{Env}
use Rattle.ygg_eval_expr.specs.ygg_meaning.Progress.{Answer, Call, Choice, ask, from_source, value_in, values_of}
use Rattle.ygg_eval_expr.specs.ygg_meaning.Shapes.{fits}
use Rattle.ygg_eval_expr.specs.ygg_meaning_laws_proofs_Fits.{digit_has, value_fits}
use Rattle.ygg_eval.specs.declared.body.Stop.{Stop}
use Rattle.ygg_eval.specs.Lower.{Standing, Meaning, Serves}
use Rattle.ygg_eval.specs.declared.flow.Flow.{Flow}
use Rattle.ygg_eval.specs.declared.flow.Flow.TheVariants.{Goes as Going, Breaks as Breaking}
use Rattle.ygg_eval.specs.BlockSteps.{stands, goes_on, value_result, without_answer, Front, Becomes, Ran, CallRan}
use Rattle.ygg_eval.specs.Ready.{eval_in, GivesIn}
use Rattle.ygg_eval.proofs.Leading.{becomes_same, becomes_replied, ran_call}
use Rattle.ygg_eval.proofs.Fitting.{given_call}

module _ {S : Type 0} (M : Meaning S) (file : File) (number : ℕ) (stop : Option Stop) where
  -- a value asks nothing
  pub ran_value : (s : Source) (e : Expr) (env : Env) (at : Standing S) (left : ℕ) (v : Value) → s ≡ source.Value e → v ≡ eval_in file e env →
      (next : Value → Front) → Becomes M file number stop (λ answers. from_source (eval_in file) s env answers next) (next v) at left at left
  ran_value s e env at left v is value next =
      subst (λ (t : Source). Becomes M file number stop (λ answers. from_source (eval_in file) t env answers next) (next v) at left at left) (sym is)
      (subst (λ (u : Value). Becomes M file number stop (next (eval_in file e env)) (next u) at left at left) (sym value)
      (becomes_same M file number stop (next (eval_in file e env)) at left))

  -- a choice takes the next pick
  pub ran_choice : (s : Source) (place : Place) (env : Env) (machine : S) (power power' : Power) (left : ℕ) (v : Value) → s ≡ source.Choose place →
      v ≡ digit (pick_of power.picks)
      → power' ≡ record power { picks = after_pick power.picks } → (next : Value → Front)
      → Becomes M file number stop (λ answers. from_source (eval_in file) s env answers next) (next v) (stands machine power) left (stands machine power') left
  ran_choice s place env machine power power' left v is value taken next =
      subst (λ (t : Source). Becomes M file number stop (λ answers. from_source (eval_in file) t env answers next) (next v)
      (stands machine power) left (stands machine power') left) (sym is)
      (becomes_replied M file number stop Choice (Some v) (λ a. next (value_in a)) (stands machine power) (stands machine power') left left (record {
        answered = record {
          fit = subst (λ (u : Value). fits (shape.Word 1) u ≡ true) (sym value)
              (value_fits (digit (pick_of power.picks)) (digit_has (pick_of power.picks)).limits);
          step = (ap (λ (u : Value). Some u) value, ap (λ (p : Power). stands machine p) taken);
        };
        counts = λ s. omega arith;
        serves = λ (s : Serves M file number (stands machine power)).
            subst (λ (p : Power). Serves M file number (stands machine p)) (sym taken) (record { numbered = s.numbered; fits = s.fits; fuse = s.fuse });
      }))

  -- a call and its answer
  pub ran_answer : (s : Source) (place : Place) (f : Name) (es xs : List Expr) (env : Env) (from to : Standing S) (l n : ℕ)
      (result : Result (Flow Answer) NoMemory) → s ≡ source.Call place f es → xs ≡ es
      → CallRan M file number stop (Call f.text (values_of (eval_in file) xs env)) from l result to n → (next : Value → Front)
      → Ran M file number stop (λ answers. from_source (eval_in file) s env answers next) next from l (value_result result) to n
  ran_answer s place f es xs env from to l n result is same r next =
      subst (λ (t : Source). Ran M file number stop (λ answers. from_source (eval_in file) t env answers next) next from l (value_result result) to n) (sym is)
      (by_result result (ran_call M file number stop (Call f.text (values_of (eval_in file) es env)) (λ a. next (value_in a)) from to l n result
      (subst (λ (ys : List Expr). CallRan M file number stop (Call f.text (values_of (eval_in file) ys env)) from l result to n) same r)))
    where
      by_result : (result : Result (Flow Answer) NoMemory)
          → Ran M file number stop (λ answers. from_source (eval_in file) (source.Call place f es) env answers next) (λ a. next (value_in a)) from l result to n
          → Ran M file number stop (λ answers. from_source (eval_in file) (source.Call place f es) env answers next) next from l (value_result result) to n
      by_result (Ok (Going a)) r = r
      by_result (Ok (Breaking how)) r = r
      by_result (Err e) r = r

  pub given_answer : (s : Source) (place : Place) (f : Name) (es xs : List Expr) (env : Env) (from to : Standing S) (l n : ℕ)
      (result : Result (Flow Answer) NoMemory) → s ≡ source.Call place f es → xs ≡ es
      → CallRan M file number stop (Call f.text (values_of (eval_in file) xs env)) from l result to n → GivesIn file number s env (value_result result)
  given_answer s place f es xs env from to l n (Ok (Going a)) is same r =
      given_call file number s place f es env a (value_in a) is
      (subst (λ (ys : List Expr). CallRan M file number stop (Call f.text (values_of (eval_in file) ys env)) from l (Ok (Going a)) to n) same
      r).answered.fit refl
  given_answer s place f es xs env from to l n (Ok (Breaking how)) is same r = tt
  given_answer s place f es xs env from to l n (Err e) is same r = tt

  -- a call whose answer is dropped
  pub ran_without_answer : (name : List ℕ) (args : List Value) (env : Env) (from to : Standing S) (l n : ℕ) (result : Result (Flow Answer) NoMemory) →
      CallRan M file number stop (Call name args) from l result to n
      → Ran M file number stop (λ answers. ask (Call name args) answers (λ a. goes_on env)) (λ (u : Unit {0}). goes_on env) from l (without_answer result) to n
  ran_without_answer name args env from to l n result r =
      by_result result (ran_call M file number stop (Call name args) (λ a. goes_on env) from to l n result r)
    where
      by_result : (result : Result (Flow Answer) NoMemory) →
          Ran M file number stop (λ answers. ask (Call name args) answers (λ a. goes_on env)) (λ (a : Answer). goes_on env) from l result to n
          → Ran M file number stop (λ answers. ask (Call name args) answers (λ a. goes_on env)) (λ (u : Unit {0}). goes_on env) from l
          (without_answer result) to n
      by_result (Ok (Going a)) r = r
      by_result (Ok (Breaking how)) r = r
      by_result (Err e) r = r
