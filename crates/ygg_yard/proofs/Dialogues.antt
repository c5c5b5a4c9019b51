-- What a machine does with a block that makes no call, or one.
use Rattle.std.proofs.Common.{◌≡◌, true, false, List, [], ◌∷◌, ◌⊎◌, inl, inr, refl, sym, ◌∙◌, subst}
use Rattle.ygg_value.specs.declared.row.Value.{Value}
use Rattle.ygg_meaning_laws.specs.ygg_meaning.Environments.{Name, Env}
use Rattle.ygg_meaning_laws.specs.ygg_meaning.Progress.{Call, Answer, Asks, Ends}
use Rattle.ygg_meaning_laws.specs.ygg_meaning.Machine.{State, Machine}
use Rattle.ygg_meaning_laws.specs.ygg_meaning.Runs.{Dialogue, WholeCall, Reaches, WholeRun, FallenRun, FallsAt, answers_of}

module _ {B X : Type 0} (M : Machine B X) (D : Dialogue) where
  -- a block that ends at once makes no call
  module _ (env : Env) (y : Answer) (e : D [] ≡ Ends env y) where
    quiet_path : (from to : State B) (calls : List (WholeCall B X)) → Reaches M D [] from calls to → (calls ≡ []) × (from ≡ to)
    quiet_path from to [] p = (refl, p)
    quiet_path from to (c ∷ cs) p = let h : Asks (Call c.name c.args) ≡ Ends env y = sym p.0 ∙ e in absurd (cc)

    pub quiet_run : (from to : State B) (notes : List X) (env' : Env) (z : Answer) → WholeRun M D from notes env' z to → from ≡ to
    quiet_run from to notes env' z r = (quiet_path from to r.calls r.path).1

    quiet_falls : (within : _) (from : State B) (last : List X) (fallen : B) → FallsAt within M D [] from last fallen → M.Loses from last fallen
    quiet_falls false from last fallen f = f
    quiet_falls true from last fallen f = let h : Asks (Call f.name f.args) ≡ Ends env y = sym f.asks ∙ e in absurd (cc)

    -- power is lost where it stands
    pub quiet_fall : (from : State B) (notes : List X) (fallen : B) → FallenRun M D from notes fallen → (last : List X) × M.Loses from last fallen
    quiet_fall from notes fallen r =
        let p = quiet_path from r.at r.calls r.path in
        let f = subst (λ (cs : List (WholeCall B X)). FallsAt r.within M D (answers_of cs) r.at r.last fallen) p.0 r.falls in
        (r.last, quiet_falls r.within from r.last fallen (subst (λ (s : State B). FallsAt r.within M D [] s r.last fallen) (sym p.1) f))

  -- a block that makes one call
  module _ (name : Name) (args : List Value) (env : Env) (y : Answer) (e : D [] ≡ Asks (Call name args)) (f : (a : Answer) → D (a ∷ []) ≡ Ends env y) where
    pub record Once (from to : State B) (calls : List (WholeCall B X)) : Type 0 where
      pub call : WholeCall B X
      pub is : calls ≡ call ∷ []
      pub made : M.Calls from name args call.notes call.answer to

    named : (name' : Name) (args' : List Value) → D [] ≡ Asks (Call name' args') → (name' ≡ name) × (args' ≡ args)
    named name' args' h = let k : Asks (Call name' args') ≡ Asks (Call name args) = sym h ∙ e in (cc, cc)

    one_path : (from to : State B) (calls : List (WholeCall B X)) → Reaches M D [] from calls to → ((calls ≡ []) × (from ≡ to)) ⊎ Once from to calls
    one_path from to [] p = inl (refl, p)
    one_path from to (c ∷ []) p =
        let n = named c.name c.args p.0 in
        inr (record {
          call = c;
          is = refl;
          made = subst (λ (s : State B). M.Calls from name args c.notes c.answer s) p.2
              (subst (λ (z : List Value). M.Calls from name z c.notes c.answer c.after) n.1
              (subst (λ (z : Name). M.Calls from z c.args c.notes c.answer c.after) n.0 p.1));
        })
    one_path from to (c ∷ d ∷ cs) p = let h : Asks (Call d.name d.args) ≡ Ends env y = sym p.2.0 ∙ f c.answer in absurd (cc)

    -- a whole run makes it, and ends
    pub one_run : (from to : State B) (notes : List X) (env' : Env) (z : Answer) → WholeRun M D from notes env' z to →
        (z ≡ y) × (call : WholeCall B X) × M.Calls from name args call.notes call.answer to
    one_run from to notes env' z r = by (one_path from to r.calls r.path)
      where
        by : ((r.calls ≡ []) × (from ≡ to)) ⊎ Once from to r.calls → (z ≡ y) × (call : WholeCall B X) × M.Calls from name args call.notes call.answer to
        by (inl (none, same)) =
            let ends = subst (λ (cs : List (WholeCall B X)). D (answers_of cs) ≡ Ends env' z) none r.ends in
            let h : Asks (Call name args) ≡ Ends env' z = sym e ∙ ends in absurd (cc)
        by (inr o) =
            let ends = subst (λ (cs : List (WholeCall B X)). D (answers_of cs) ≡ Ends env' z) o.is r.ends in
            let h : Ends env' z ≡ Ends env y = sym ends ∙ f o.call.answer in
            (cc, o.call, o.made)

    -- power fails before it, within it, or after it
    pub data Fell (from : State B) (fallen : B) : Type 0 where
      before : (last : List X) → M.Loses from last fallen → Fell from fallen
      in_it : (last : List X) → M.Falls from name args last fallen → Fell from fallen
      behind : (call : WholeCall B X) (to : State B) (last : List X) → M.Calls from name args call.notes call.answer to →
          M.Loses to last fallen → Fell from fallen

    falls_before : (within : _) (from : State B) (last : List X) (fallen : B) → FallsAt within M D [] from last fallen → Fell from fallen
    falls_before false from last fallen h = before last h
    falls_before true from last fallen h =
        let n = named h.name h.args h.asks in
        in_it last (subst (λ (z : List Value). M.Falls from name z last fallen) n.1 (subst (λ (z : Name). M.Falls from z h.args last fallen) n.0 h.falls))

    falls_behind : (within : _) (from to : State B) (call : WholeCall B X) (last : List X) (fallen : B) →
        M.Calls from name args call.notes call.answer to → FallsAt within M D (call.answer ∷ []) to last fallen → Fell from fallen
    falls_behind false from to call last fallen m h = behind call to last m h
    falls_behind true from to call last fallen m h =
        let k : Asks (Call h.name h.args) ≡ Ends env y = sym h.asks ∙ f call.answer in absurd (cc)

    pub one_fall : (from : State B) (notes : List X) (fallen : B) → FallenRun M D from notes fallen → Fell from fallen
    one_fall from notes fallen r = by (one_path from r.at r.calls r.path)
      where
        by : ((r.calls ≡ []) × (from ≡ r.at)) ⊎ Once from r.at r.calls → Fell from fallen
        by (inl (none, same)) = falls_before r.within from r.last fallen
            (subst (λ (s : State B). FallsAt r.within M D [] s r.last fallen) (sym same)
            (subst (λ (cs : List (WholeCall B X)). FallsAt r.within M D (answers_of cs) r.at r.last fallen) none r.falls))
        by (inr o) = falls_behind r.within from r.at o.call r.last fallen o.made
            (subst (λ (cs : List (WholeCall B X)). FallsAt r.within M D (answers_of cs) r.at r.last fallen) o.is r.falls)
