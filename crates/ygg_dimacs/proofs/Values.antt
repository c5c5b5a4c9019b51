-- True literals put one after another.
use Rattle.std.proofs.Common.{◌≡◌, ℕ, zero, suc, ◌+◌, ◌-◌, ◌<◌, Bool, List, [], ◌∷◌}
use Rattle.std.proofs.Common.{◌++◌, Option, Err, sym, ap, ◌∙◌, subst, append_assoc, add-one, add-zero, arith}
use Rattle.std.proofs.lemmas.List.{append-nil}
use Rattle.std.proofs.lemmas.Grind.{flat_map-append}
use Rattle.ygg_base.specs.declared.status.Status.{Status}
use Rattle.ygg_solver.specs.ygg_cnf.declared.lit.Lit.{Lit}
use Rattle.ygg_cnf.specs.Lines.{literal_word, literal_words}
use Rattle.ygg_cnf.specs.Pieces.{Flows, Passes}
use Rattle.ygg_cnf.proofs.Flowing.{joined, passes_on, passes_short}
use Rattle.ygg_dimacs.specs.Solved.{true_literal, true_literals}

-- one true literal more
pub literals_more : (value : ℕ → Bool) (n : ℕ) →
    literal_words (true_literals value n) ++ literal_words (true_literal value (n + 1) ∷ []) ≡ literal_words (true_literals value (n + 1))
literals_more value n = rw (add-one n) (sym (flat_map-append (λ (x : Lit). literal_word x ++ 32 ∷ []) (true_literals value n)
    (true_literal value (suc n) ∷ [])))

-- those of a greater variable begin with them
record Longer (value : ℕ → Bool) (n m : ℕ) : Type 0 where
  rest : List ℕ
  is : literal_words (true_literals value m) ≡ literal_words (true_literals value n) ++ rest

longer_more : (value : ℕ → Bool) (n more : ℕ) → Longer value n (n + more)
longer_more value n zero = record { rest = []; is = rw (add-zero n) (sym (append-nil (literal_words (true_literals value n)))) }
longer_more value n (suc more) =
    let before = longer_more value n more in
    let m : ℕ = n + more in
    let one : List ℕ = literal_words (true_literal value (m + 1) ∷ []) in
    let next : n + suc more ≡ m + 1 = omega arith in
    record {
      rest = before.rest ++ one;
      is = ap (λ (k : ℕ). literal_words (true_literals value k)) next ∙ sym (literals_more value m) ∙ ap (λ (x : List ℕ). x ++ one) before.is
          ∙ append_assoc (literal_words (true_literals value n)) before.rest one;
    }

-- a literal that was cut short, of those up to a greater variable
pub value_short : (before middle now : Option (List ℕ)) (kept mid left other : List ℕ) (Later Since : Type 0) (value : ℕ → Bool) (n m : ℕ) (s : Status) →
    n < m →
    Flows before kept middle mid (literal_words (true_literals value n)) →
    Passes middle mid now left (literal_words (true_literal value (n + 1) ∷ [])) Later (Err s) →
    (Later → Since) → Passes before kept now other (literal_words (true_literals value m)) Since (Err s)
value_short before middle now kept mid left other Later Since value n m s below f p since =
    let l = longer_more value (n + 1) (m - (n + 1)) in
    let same : (n + 1) + (m - (n + 1)) ≡ m = omega arith in
    let here : List ℕ = literal_words (true_literals value n) ++ literal_words (true_literal value (n + 1) ∷ []) in
    let whole : here ++ l.rest ≡ literal_words (true_literals value m) =
    ap (λ (x : List ℕ). x ++ l.rest) (literals_more value n) ∙ sym l.is ∙ ap (λ (k : ℕ). literal_words (true_literals value k)) same in
    let short = passes_on before middle now kept mid left other (literal_words (true_literals value n)) (literal_words (true_literal value (n + 1) ∷ []))
    Later Since s f p since in
    subst (λ (x : List ℕ). Passes before kept now other x Since (Err s)) whole (passes_short before now kept other other here l.rest Since s short)

-- one literal more
pub value_on : (before middle now : Option (List ℕ)) (kept mid left : List ℕ) (value : ℕ → Bool) (n : ℕ) →
    Flows before kept middle mid (literal_words (true_literals value n)) → Flows middle mid now left (literal_words (true_literal value (n + 1) ∷ [])) →
    Flows before kept now left (literal_words (true_literals value (n + 1)))
value_on before middle now kept mid left value n f g = subst (λ (x : List ℕ). Flows before kept now left x) (literals_more value n) (joined f g)
