-- What the laws of layers need of the machine that a layer is specified over: its states are bases, it wakes to what power left, and its background
-- steps change nothing.
use Rattle.std.proofs.Common.{◌≡◌, Bool, List, [], ◌∷◌, ◌++◌, refl, sym, ap, ◌∙◌, subst}
use Rattle.ygg_value.specs.declared.row.Value.{Value}
use Rattle.ygg_meaning.specs.Environments.{Name, Env}
use Rattle.ygg_meaning.specs.Progress.{Answer}
use Rattle.ygg_meaning.specs.Machine.{State, based, TickName, Machine}
use Rattle.ygg_meaning.specs.Runs.{Dialogue, WholeCall, Reaches}
use Rattle.ygg_meaning.specs.Layer.{ClosedLayer}
use Rattle.ygg_meaning.specs.Spec.{Spec}
use Rattle.ygg_meaning.specs.DiskMachine.{Store, machine_on}
use Rattle.ygg_meaning.specs.Stack.{Layers, Over}

abbrev pub IsBase : {B : Type 0} → State B → Type 0
IsBase s = s ≡ based s.base

pub base_by : {B : Type 0} (s : State B) (b : B) → s ≡ based b → IsBase s
base_by {B} s b e = e ∙ sym (ap (λ (x : State B). based x.base) e)

pub record IsPlain {B X : Type 0} (M : Machine B X) : Type 0 where
  pub starts : (s : State B) (notes : List X) → M.Starts s notes → IsBase s
  pub calls : (s : State B) (name : Name) (args : List Value) (notes : List X) (y : Answer) (s' : State B) → M.Calls s name args notes y s' → IsBase s'
  pub ticks : (s : State B) (name : TickName) (notes : List X) (s' : State B) → M.Ticks s name notes s' → s' ≡ s
  pub tick_loses : (s : State B) (name : TickName) (notes : List X) (f : B) → M.TickFalls s name notes f → M.Loses s notes f
  pub wakes : (f : B) (notes : List X) (s : State B) → M.Wakes f notes s → s ≡ based f
  pub wakes_at_once : (f : B) → M.Wakes f [] (based f)
  pub no_wake_falls : (f : B) (notes : List X) (f' : B) → M.WakeFalls f notes f' → ⊥

pub store_plain : {B X : Type 0} (K : Store B X) → IsPlain (machine_on K)
store_plain K = record {
  starts = λ s notes h. base_by s h.0 h.2;
  calls = λ s name args notes y s' (b, b', call, reply, named, from, step, answer, to). base_by s' b' to;
  ticks = λ s name notes s' h. absurd h;
  tick_loses = λ s name notes f h. absurd h;
  wakes = λ f notes s h. h.1;
  wakes_at_once = λ f. (refl, refl);
  no_wake_falls = λ f notes f' h. h;
}

pub spec_plain : (L : ClosedLayer) → IsPlain (Spec L)
spec_plain L = record {
  starts = λ s notes h. base_by s h.1.vars h.1.to_is;
  calls = λ s name args notes y s' h. base_by s' h.vars' h.to_is;
  ticks = λ s name notes s' h. h.1;
  tick_loses = λ s name notes f h. h;
  wakes = λ f notes s h. h.1;
  wakes_at_once = λ f. (refl, refl);
  no_wake_falls = λ f notes f' h. h;
}

pub over_plain : (M : Machine Env Bool) → IsPlain M → (layers : Layers) → IsPlain (Over M layers)
over_plain M plain [] = plain
over_plain M plain (L ∷ lower) = spec_plain L

module _ {B X : Type 0} (M : Machine B X) (plain : IsPlain M) where
  pub path_base : (asked : Dialogue) (told : List Answer) (s : State B) (ts : List (WholeCall B X)) (s' : State B) → IsBase s →
      Reaches M asked told s ts s' → IsBase s'
  path_base asked told s [] s' b h = subst IsBase h b
  path_base asked told s (t ∷ ts) s' b (asks, call, rest) =
      path_base asked (told ++ t.answer ∷ []) t.after ts s' (plain.calls s t.name t.args t.notes t.answer t.after call) rest
