-- Steps of a specification that took the first of some picks, as steps with all of them.
use Rattle.std.proofs.Common.{◌≡◌, Bool, true, false, List, [], ◌∷◌, ◌++◌, length, Option, Some, None, ◌⊎◌, inl, inr, refl, sym, ap, ◌∙◌}
use Rattle.std.proofs.lemmas.List.{map-append}
use Rattle.ygg_value.specs.Values.{digit}
use Rattle.ygg_value.specs.declared.row.Value.{Value}
use Rattle.ygg_syntax.specs.declared.tree.Block.{Block}
use Rattle.ygg_syntax.specs.declared.tree.Operation.{Operation}
use Rattle.ygg_sched.specs.ygg_meaning.Environments.{Env, bind}
use Rattle.ygg_sched.specs.ygg_meaning.Progress.{Answer}
use Rattle.ygg_sched.specs.ygg_meaning.Machine.{Picks}
use Rattle.ygg_sched.specs.ygg_meaning.Layer.{ClosedLayer}
use Rattle.ygg_sched.specs.ygg_meaning.Obligations.{IsRead}
use Rattle.ygg_sched.specs.ygg_meaning.Spec.{Outcome, chosen, block_outcome, then_block, call_outcome, crash_outcome, fall_with}
use Rattle.ygg_sched.specs.ygg_meaning_proofs_Exact.{Exact, block_exact, then_exact}
use Rattle.ygg_eval.specs.ygg_meaning_laws.Acts.{Taken}
use Rattle.ygg_eval.proofs.of_ygg_meaning_laws.Taking.{left_after, read_taken}

chosen_more : (p q : Picks) → chosen (p ++ q) ≡ chosen p ++ chosen q
chosen_more p q = map-append (λ (pick : Bool). Some (digit pick)) p q

-- what a step gives with some picks it gives with more, and leaves these
pub record Extends (O : Picks → Option Outcome) : Type 0 where
  pub on : (picks more : Picks) (o : Outcome) → O picks ≡ Some o → O (picks ++ more) ≡ Some (record o { left = o.left ++ chosen more })

pub exact_extends : (F : List Answer → Option Outcome) → Exact F → Extends (λ picks. F (chosen picks))
exact_extends F exact = record { on = λ picks more o h. ap F (chosen_more picks more) ∙ exact.extends (chosen picks) (chosen more) o h }

pub call_extends : (L : ClosedLayer) (o : Operation) (vars : Env) (args : List Value) → Extends (λ picks. call_outcome L o vars args (chosen picks))
call_extends L o vars args = exact_extends (call_outcome L o vars args) (block_exact L o.spec vars (bind o.arguments args))

pub crash_extends : (L : ClosedLayer) (vars : Env) → Extends (λ picks. crash_outcome L vars (chosen picks))
crash_extends L vars = exact_extends (crash_outcome L vars) (block_exact L L.layer.crash vars [])

pub fall_extends : (L : ClosedLayer) (o : Operation) (crash : Option Block) (vars : Env) (args : List Value) → Extends (fall_with L o crash vars args)
fall_extends L o (Some b) vars args =
    exact_extends (λ answers. then_block L L.layer.crash (block_outcome L b vars (bind o.arguments args) answers))
    (then_exact L L.layer.crash (block_outcome L b vars (bind o.arguments args)) (block_exact L b vars (bind o.arguments args)))
fall_extends L o None vars args = record { on = at }
  where
    whole : Extends (λ picks. then_block L L.layer.crash (call_outcome L o vars args (chosen picks)))
    whole = exact_extends (λ answers. then_block L L.layer.crash (call_outcome L o vars args answers))
        (then_exact L L.layer.crash (call_outcome L o vars args) (block_exact L o.spec vars (bind o.arguments args)))

    at : (picks more : Picks) (x : Outcome) → fall_with L o None vars args picks ≡ Some x →
        fall_with L o None vars args (picks ++ more) ≡ Some (record x { left = x.left ++ chosen more })
    at [] more x h = absurd (cc)
    at (true ∷ picks) more x h = whole.on picks more x h
    at (false ∷ picks) more x h = (crash_extends L vars).on picks more x h

-- picks that were taken are the first of a list, or go on past its end
first_or_past : (taken picks left : Picks) → Taken false taken picks left →
    ((rest : Picks) × (picks ≡ taken ++ rest)) ⊎ ((rest : Picks) × (taken ≡ picks ++ rest))
first_or_past [] picks left h = inl (picks, refl)
first_or_past (t ∷ taken) [] left h = inr (t ∷ taken, refl)
first_or_past (t ∷ taken) (p ∷ picks) left (here, rest) = at (first_or_past taken picks left rest)
  where
    at : ((rest : Picks) × (picks ≡ taken ++ rest)) ⊎ ((rest : Picks) × (taken ≡ picks ++ rest)) →
        ((rest : Picks) × (p ∷ picks ≡ t ∷ taken ++ rest)) ⊎ ((rest : Picks) × (t ∷ taken ≡ p ∷ picks ++ rest))
    at (inl (rest, is)) = inl (rest, ap (λ x. x ∷ picks) (sym here) ∙ ap (λ xs. t ∷ xs) is)
    at (inr (rest, is)) = inr (rest, ap (λ x. x ∷ taken) here ∙ ap (λ xs. p ∷ xs) is)

-- what a step gives with the picks that it took, it gives with all of them
pub with_all : (O : Picks → Option Outcome) → Extends O → (picks taken : Picks) → IsRead picks taken → (v : Env) (y : Answer) →
    O taken ≡ Some (record { vars = v; answer = y; left = [] }) → (o : Outcome) → O picks ≡ Some o →
    O picks ≡ Some (record { vars = v; answer = y; left = o.left })
with_all O extends picks taken read v y h o g = at (first_or_past taken picks (left_after (length taken) picks) (read_taken picks taken read))
  where
    some_is : (a b : Outcome) → Some a ≡ Some b → a ≡ b
    some_is a b e = cc

    left_too : (a : Outcome) → o ≡ a → (a.vars ≡ v) → (a.answer ≡ y) → O picks ≡ Some (record { vars = v; answer = y; left = o.left })
    left_too a e vars answer =
        let vars' : o.vars ≡ v = ap (λ (x : Outcome). x.vars) e ∙ vars in
        let answer' : o.answer ≡ y = ap (λ (x : Outcome). x.answer) e ∙ answer in
        g ∙ ap (λ v. Some (let x : Outcome = record { vars = v; answer = o.answer; left = o.left } in x)) vars'
        ∙ ap (λ y. Some (let x : Outcome = record { vars = v; answer = y; left = o.left } in x)) answer'

    at : ((rest : Picks) × (picks ≡ taken ++ rest)) ⊎ ((rest : Picks) × (taken ≡ picks ++ rest)) →
        O picks ≡ Some (record { vars = v; answer = y; left = o.left })
    at (inl (rest, is)) =
        let more = extends.on taken rest (record { vars = v; answer = y; left = [] }) h in
        left_too (record { vars = v; answer = y; left = chosen rest }) (some_is o _ (sym g ∙ ap O is ∙ more)) refl refl
    at (inr (rest, is)) =
        let more = extends.on picks rest o g in
        let same = some_is (record o { left = o.left ++ chosen rest }) (record { vars = v; answer = y; left = [] }) (sym more ∙ ap O (sym is) ∙ h) in
        left_too o refl (ap (λ (x : Outcome). x.vars) same) (ap (λ (x : Outcome). x.answer) same)
