-- Local names that come and go.
use Rattle.std.proofs.Common.{◌≡◌, ℕ, Bool, true, false, List, [], ◌∷◌, ◌++◌, length, take, sym, ap, ◌∙◌, append_assoc, if◌then◌else◌}
use Rattle.std.specs.Prelude.{Option}
use Rattle.std.proofs.Math.Seq.{take-append_seam}
use Rattle.std.proofs.lemmas.List.{append-nil}
use Rattle.ygg_value.specs.declared.shape.Shape.{Shape}
use Rattle.ygg_type_rules.specs.Names.{has}
use Rattle.ygg_type_rules.specs.Scopes.{Scope, with_local}
use Rattle.ygg_type.specs.Checking.{Grows, with_locals}

pub grows_same : (before after : Scope) → after ≡ before → Grows before after
grows_same before after e = record { more = []; same = e ∙ ap (λ ns. with_locals ns before) (sym (append-nil before.locals)) }

pub grows_on : (a b c : Scope) → Grows a b → Grows b c → Grows a c
grows_on a b c g h = record {
  more = g.more ++ h.more;
  same = h.same ∙ ap (λ (s : Scope). with_locals (s.locals ++ h.more) s) g.same ∙ ap (λ ns. with_locals ns a) (append_assoc a.locals g.more h.more);
}

pub grows_local : (before after : Scope) (name : List ℕ) (shape : Option Shape) (assignable : Bool) → after ≡ with_local name shape assignable before
    → Grows before after
grows_local before after name shape assignable e = cases (has name before.variables) (has name before.locals) e
  where
    cases : (v l : Bool)
        → after ≡ (if v then before else with_locals (if l then before.locals else before.locals
        ++ (name, record { shape = shape; assignable = assignable }) ∷ []) before)
        → Grows before after
    cases true l e = grows_same before after e
    cases false true e = grows_same before after e
    cases false false e = record { more = (name, record { shape = shape; assignable = assignable }) ∷ []; same = e }

-- cut back to the names before
pub cut_to : (before after : Scope) (n : ℕ) → n ≡ length before.locals → Grows before after → with_locals (take n after.locals) after ≡ before
cut_to before after n e g =
    ap (λ (s : Scope). with_locals (take n s.locals) s) g.same
    ∙ ap (λ k. with_locals (take k (before.locals ++ g.more)) before) e
    ∙ ap (λ ns. with_locals ns before) (take-append_seam before.locals g.more)
