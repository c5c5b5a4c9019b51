-- Names that are looked for in one list and then in another.
use Rattle.std.proofs.Common.{◌≡◌, ℕ, Bool, true, false, cond, List, [], ◌∷◌, ◌++◌, Some, None, refl, ◌∙◌}
use Rattle.std.specs.Str.{bytes_eq}
use Rattle.ygg_eval_expr.specs.ygg_type_rules.Names.{look_up as found}
use Rattle.ygg_eval_expr.specs.ygg_meaning_laws_proofs_Names.{still_found, new_found}
use Rattle.ygg_shape.specs.ygg_shape_cells.declared.terms.SymValue.{SymValue}
use Rattle.ygg_sym_runs.specs.Names.{SymEnv, no_term, sym_look_up}

term_found : (name : List ℕ) (env : SymEnv) (x : SymValue) → found name env ≡ Some x → x ≡ sym_look_up name env
term_found name [] x h = absurd (cc)
term_found name (b ∷ env) x h = cases (bytes_eq b.0 name) h (term_found name env x)
  where
    cases : (c : Bool) → cond c (Some b.1) (found name env) ≡ Some x → (found name env ≡ Some x → x ≡ sym_look_up name env) →
        x ≡ cond c b.1 (sym_look_up name env)
    cases true h again = cc
    cases false h again = again h

unfound : (name : List ℕ) (env : SymEnv) → found name env ≡ None → no_term ≡ sym_look_up name env
unfound name [] h = refl
unfound name (b ∷ env) h = cases (bytes_eq b.0 name) h (unfound name env)
  where
    cases : (c : Bool) → cond c (Some b.1) (found name env) ≡ None → (found name env ≡ None → no_term ≡ sym_look_up name env) →
        no_term ≡ cond c b.1 (sym_look_up name env)
    cases true h again = absurd (cc)
    cases false h again = again h

-- found in the first list, in the second, or in none
pub first_found : (name : List ℕ) (a b : SymEnv) (x : SymValue) → found name a ≡ Some x → x ≡ sym_look_up name (a ++ b)
first_found name a b x h = term_found name (a ++ b) x (still_found name a b x h)

pub then_found : (name : List ℕ) (a b : SymEnv) (x : SymValue) → found name a ≡ None → found name b ≡ Some x → x ≡ sym_look_up name (a ++ b)
then_found name a b x n h = term_found name (a ++ b) x (new_found name a b n ∙ h)

pub not_found : (name : List ℕ) (a b : SymEnv) → found name a ≡ None → found name b ≡ None → no_term ≡ sym_look_up name (a ++ b)
not_found name a b n m = unfound name (a ++ b) (new_found name a b n ∙ m)
