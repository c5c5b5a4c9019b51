-- Places of variables, and what stands for a literal.
use Rattle.std.proofs.Common.{◌≡◌, ℕ, ◌<◌, ◌+◌, List, [], ◌∷◌, ◌++◌, length, map, get_or, take, ◌↔◌, Contains}
use Rattle.std.proofs.Common.{All, Some, ⊎_elim, refl, sym, ap, subst, ◌∙◌, arith, append_assoc, Bool, length-append, Result, Ok, Err, OnOk, OnErr}
use Rattle.std.proofs.lemmas.Bool.{cases_lt}
use Rattle.std.proofs.lemmas.List.{get_or-map, take_more, length-map, get_or_append_left, map-append}
use Rattle.std.proofs.lemmas.List.Elements.{Contains-get_or, All-head, All-tail, All-weaker, All-push}
use Rattle.std.proofs.lemmas.Option.{same_Some}
use Rattle.ygg_cnf.specs.declared.lit.Lit.{Lit}
use Rattle.ygg_cnf.proofs.Lits.{same_lit}
use Rattle.ygg_cnf_set.specs.LiteralSet.{InSet, IsSetOf}
use Rattle.ygg_chain.specs.Places.{IsDistinct, IsPlaced, literal_at, StandsFor, clause_at, clauses_at}

pub contains_map : {X Y : Type 0} (f : X → Y) (xs : List X) (x : X) → Contains xs x → Contains (map f xs) (f x)
contains_map f xs x (k, within, is) =
    (k, omega (arith, within, length-map xs f), get_or-map f xs k x (f x) within ∙ ap f is)

pub contains_of_map : {X Y : Type 0} (f : X → Y) (xs : List X) (y : Y) → Contains (map f xs) y → (x : X) × (Contains xs x × (f x ≡ y))
contains_of_map f [] y (k, within, is) = absurd (omega (arith, within))
contains_of_map f (x ∷ xs) y (k, within, is) =
    let inside : k < length (x ∷ xs) = omega (arith, within, length-map (x ∷ xs) f) in
    (get_or (x ∷ xs) k x, (Contains-get_or (x ∷ xs) k x inside, sym (get_or-map f (x ∷ xs) k x y inside) ∙ is))

-- places of the same variable are the same
place_of_same : (variables : List ℕ) → IsDistinct variables → (i j : ℕ) → i < length variables → j < length variables
    → get_or variables i 0 ≡ get_or variables j 0 → i ≡ j
place_of_same variables distinct i j inside within same =
    ⊎_elim (λ l. absurd (distinct i j 0 l within same))
    (λ g. ⊎_elim (λ l. absurd (distinct j i 0 l inside (sym same))) (λ h. omega (arith, g, h)) (cases_lt j i))
    (cases_lt i j)

-- places that stand for one literal are one
pub stands_once : (variables : List ℕ) → IsDistinct variables → (x z y : Lit) → StandsFor variables x y → StandsFor variables z y → x ≡ z
stands_once variables distinct x z y (inside, is) (within, other) =
    let same : literal_at variables x ≡ literal_at variables z = is ∙ sym other in
    same_lit x z (place_of_same variables distinct x.var z.var inside within (ap (λ l. l.var) same)) (ap (λ l. l.negated) same)

-- the one place that stands for a literal
pub exact_place : (variables : List ℕ) → IsDistinct variables → (lit x : Lit) → StandsFor variables x lit
    → (placed : Lit) → (Some x ≡ Some placed) ↔ StandsFor variables placed lit
exact_place variables distinct lit x stands placed = (
  (λ e. subst (λ z. StandsFor variables z lit) (same_Some x placed e) stands),
  (λ other. ap Some (stands_once variables distinct x placed lit stands other)),
)

-- more variables leave each place its variable
literal_more : (variables more : List ℕ) (x : Lit) → IsPlaced variables x → literal_at (variables ++ more) x ≡ literal_at variables x
literal_more variables more x inside =
    same_lit (literal_at (variables ++ more) x) (literal_at variables x) (get_or_append_left variables more 0 x.var inside) refl

pub placed_more : (variables more : List ℕ) (x : Lit) → IsPlaced variables x → IsPlaced (variables ++ more) x
placed_more variables more x inside = omega (arith, inside, length-append variables more)

pub same_map : {X Y : Type 0} (f g : X → Y) (xs : List X) → All (λ x. f x ≡ g x) xs → map f xs ≡ map g xs
same_map f g [] all = refl
same_map f g (x ∷ xs) all = rw (All-head (λ x. f x ≡ g x) x xs all, same_map f g xs (All-tail (λ x. f x ≡ g x) x xs all)) refl

pub clause_more : (variables more : List ℕ) (clause : List Lit) → All (IsPlaced variables) clause
    → clause_at (variables ++ more) clause ≡ clause_at variables clause
clause_more variables more clause placed =
    same_map (literal_at (variables ++ more)) (literal_at variables) clause
    (All-weaker (IsPlaced variables) (λ x. literal_at (variables ++ more) x ≡ literal_at variables x) (literal_more variables more) clause placed)

pub clauses_more : (variables more : List ℕ) (clauses : List (List Lit)) → All (All (IsPlaced variables)) clauses
    → clauses_at (variables ++ more) clauses ≡ clauses_at variables clauses
clauses_more variables more clauses placed =
    same_map (clause_at (variables ++ more)) (clause_at variables) clauses
    (All-weaker (All (IsPlaced variables)) (λ c. clause_at (variables ++ more) c ≡ clause_at variables c) (clause_more variables more) clauses placed)

pub all_placed_more : (variables more : List ℕ) (clause : List Lit) → All (IsPlaced variables) clause → All (IsPlaced (variables ++ more)) clause
all_placed_more variables more clause placed = All-weaker (IsPlaced variables) (IsPlaced (variables ++ more)) (placed_more variables more) clause placed

-- a clause of places with one more literal
pub entered : (variables after more : List ℕ) → after ≡ variables ++ more → (kept clause : List Lit) (i : ℕ) (d placed : Lit) → i < length clause
    → All (IsPlaced variables) kept → clause_at variables kept ≡ take i clause → StandsFor after placed (get_or clause i d)
    → All (IsPlaced after) (kept ++ placed ∷ []) × (clause_at after (kept ++ placed ∷ []) ≡ take (i + 1) clause)
entered variables after more grows kept clause i d placed within all same (inside, is) =
    let moved : All (IsPlaced after) kept =
    subst (λ (l : List ℕ). All (IsPlaced l) kept) (sym grows) (all_placed_more variables more kept all) in
    let stays : clause_at after kept ≡ clause_at variables kept =
    ap (λ (l : List ℕ). clause_at l kept) grows ∙ clause_more variables more kept all in (
      All-push (IsPlaced after) kept placed moved inside,
      map-append (literal_at after) kept (placed ∷ []) ∙ ap (λ l. l ++ literal_at after placed ∷ []) (stays ∙ same)
          ∙ ap (λ x. take i clause ++ x ∷ []) is ∙ sym (take_more clause i d within),
    )

-- clauses of places after more variables have come
pub kept_more : (variables after more : List ℕ) → after ≡ variables ++ more → (clauses : List (List Lit)) → All (All (IsPlaced variables)) clauses
    → All (All (IsPlaced after)) clauses × (clauses_at after clauses ≡ clauses_at variables clauses)
kept_more variables after more grows clauses placed = (
  subst (λ (l : List ℕ). All (All (IsPlaced l)) clauses) (sym grows)
      (All-weaker (All (IsPlaced variables)) (All (IsPlaced (variables ++ more))) (all_placed_more variables more) clauses placed),
  ap (λ (l : List ℕ). clauses_at l clauses) grows ∙ clauses_more variables more clauses placed,
)

-- whatever a push answers, the clauses that it leaves are of places
pub pushed_placed : {T E : Type 0} (answer : Result T E) (variables : List ℕ) (clauses pushed : List (List Lit)) (kept : List Lit)
    → OnOk answer (pushed ≡ clauses ++ kept ∷ []) → OnErr answer (pushed ≡ clauses)
    → All (All (IsPlaced variables)) clauses → All (IsPlaced variables) kept → All (All (IsPlaced variables)) pushed
pushed_placed (Ok x) variables clauses pushed kept ok err all one =
    subst (λ (l : List (List Lit)). All (All (IsPlaced variables)) l) (sym ok) (All-push (All (IsPlaced variables)) clauses kept all one)
pushed_placed (Err e) variables clauses pushed kept ok err all one =
    subst (λ (l : List (List Lit)). All (All (IsPlaced variables)) l) (sym err) all

pub on_err_always : {T E P : Type 0} (answer : Result T E) → P → OnErr answer P
on_err_always (Ok x) p = tt
on_err_always (Err e) p = p

-- what grew twice has grown
pub grown : (old mid now : List ℕ) → (more : List ℕ) × (mid ≡ old ++ more) → (more : List ℕ) × (now ≡ mid ++ more) → (more : List ℕ) × (now ≡ old ++ more)
grown old mid now (before, was) (more, grew) = (before ++ more, grew ∙ (ap (λ l. l ++ more) was ∙ append_assoc old before more))

-- a set that is the same as one that is the same as the first
pub same_set : (old mid now : List Bool) → IsSetOf mid (InSet old) → IsSetOf now (InSet mid) → IsSetOf now (InSet old)
same_set old mid now was is y = ((λ m. (was y).0 ((is y).0 m)), (λ m. (is y).1 ((was y).1 m)))

-- no place is kept yet
pub none_placed : (variables : List ℕ) → All (IsPlaced variables) []
none_placed variables k d l = absurd (omega (arith, l))
