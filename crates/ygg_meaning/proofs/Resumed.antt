-- Entries that may have left a disk go on to a history once a recovery is whole.
use Rattle.std.proofs.Common.{◌≡◌, List, [], ◌∷◌, ◌++◌, refl, sym, subst}
use Rattle.ygg_value.specs.Number.{Grid}
use Rattle.ygg_syntax.specs.declared.tree.File.{File}
use Rattle.ygg_meaning.specs.Environments.{Env}
use Rattle.ygg_meaning.specs.Machine.{Picks, State, Machine}
use Rattle.ygg_meaning.specs.Stack.{BottomOf}
use Rattle.ygg_meaning.specs.Under.{AfterWakeFalls, Woken, StaysFallen}
use Rattle.ygg_meaning.specs.History.{Entry, Step, Steps, History}
use Rattle.ygg_meaning.specs.Left.{entry_of, Left}
use Rattle.ygg_meaning.proofs.Traced.{survived}

module _ {B X : Type 0} (M : Machine B X) where
  -- what holds of each base that is left holds of this one
  after_map : (fs : List B) (f : B) (P Q : B → Type 0) → ((g : B) → P g → Q g) → AfterWakeFalls M f fs P → AfterWakeFalls M f fs Q
  after_map [] f P Q to h = to f h
  after_map (g ∷ fs) f P Q to (notes, falls, rest) = (notes, falls, after_map fs g P Q to rest)

  pub wakes_again : (f g : B) (notes : List X) (s : State B) → StaysFallen M f g → M.Wakes g notes s → Woken M f s
  wakes_again f g notes s (fs, stays) h = (
    fs,
    after_map fs f (λ left. left ≡ g) (λ left. (notes : List X) × M.Wakes left notes s)
        (λ left is. (notes, subst (λ x. M.Wakes x notes s) (sym is) h)) stays,
  )

  pub steps_append : (es : List Entry) (e : Entry) (s t u : State B) → Steps M s es t → Step M e t u → Steps M s (es ++ e ∷ []) u
  steps_append [] e s t u h step = (u, subst (λ x. Step M e x u) (sym h) step, refl)
  steps_append (d ∷ es) e s t u (next, first, rest) step = (next, first, steps_append es e next t u rest step)

-- after a whole recovery the last entry is no longer open
pub resumed : (f : File) (es : List Entry) (rows : Grid) (x : Left f es rows) (picks : Picks) (s : State Env) → (BottomOf f).Wakes x.left picks s →
    History (BottomOf f) es s
resumed f es rows x picks s h =
    let M = BottomOf f in
    let step = survived M x.how x.state s (record {
      notes = x.picks;
      fallen = x.fallen;
      fails = x.fails;
      woken =
          wakes_again M x.fallen x.left picks s x.stays h;
    }) in
    let (start, first, starts, goes) = x.history in
    subst (λ l. History M l s) (sym x.is) (start, first, starts, steps_append M x.before (entry_of x.how) start x.state s goes step)
