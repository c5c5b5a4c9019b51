-- Clauses whose literals stand behind one another in one list.
use Rattle.std.proofs.Common.{
  ◌≡◌,
  ℕ,
  ◌<◌,
  ◌≤◌,
  ◌-◌,
  ◌+◌,
  Bool,
  true,
  false,
  Option,
  Some,
  None,
  List,
  [],
  ◌∷◌,
  ◌++◌,
  length,
  map,
  take,
  drop,
  get_or,
  All,
  Contains,
  ◌↔◌,
  refl,
  sym,
  ap,
  subst,
  ◌∙◌,
  arith,
  length-append,
  append_assoc,
}
use Rattle.std.proofs.lemmas.List.{drop-append-le, take-append-le, length-drop, length-take-le, map-append, take_more, get_or_append_left, get_or-map}
use Rattle.std.proofs.lemmas.List.{length-map, take_all}
use Rattle.std.proofs.lemmas.Option.{slice_get-get_or, slice_get-map}
use Rattle.std.specs.Prelude.{option_map, slice_get, Some}
use Rattle.std.proofs.lemmas.List.Elements.{All-weaker, All-contains, All-cons, All-nil, All-head, All-tail, All-append, All-take}
use Rattle.std.proofs.Math.Seq.{drop-append_seam, take-length}
use Rattle.ygg_cnf.specs.declared.lit.Lit.{Lit}
use Rattle.ygg_cnf.specs.declared.pattern.Pattern.{Pattern}
use Rattle.ygg_cnf.specs.declared.pattern.PatternLit.{PatternLit}
use Rattle.ygg_cnf.specs.Patterns.{complemented_if, no_literal, picked, third, made, IsThird, IsPattern}
use Rattle.ygg_chain.specs.declared.arena.Stored.{Stored}
use Rattle.ygg_chain.specs.declared.arena.Stored.TheVariants.{Whole, Made}
use Rattle.ygg_chain.specs.Arena.{IsStored, HasNone, HasEmpty, clause_of, clauses_of, made_at}
use Rattle.ygg_chain.specs.Places.{IsPlaced, literal_at, clause_at}
use Rattle.ygg_chain.proofs.PlaceLemmas.{same_map, contains_map, contains_of_map}

-- ---- patterns

picked_more : (block more : List Lit) (q : PatternLit) → q.place < length block → picked (block ++ more) q ≡ picked block q
picked_more block more q inside = ap (complemented_if q.complemented) (get_or_append_left block more no_literal q.place inside)

-- more literals behind a block leave what a pattern makes of it
made_more : (block more : List Lit) (p : Pattern) → IsPattern (length block) p → made (block ++ more) p ≡ made block p
made_more block more p is =
    ap (λ x. x ∷ picked (block ++ more) p.two ∷ third (block ++ more) p.three) (picked_more block more p.one is.one)
    ∙ ap (λ x. picked block p.one ∷ x ∷ third (block ++ more) p.three) (picked_more block more p.two is.two)
    ∙ ap (λ xs. picked block p.one ∷ picked block p.two ∷ xs) (go p.three is.third) where
      go : (q : Option PatternLit) → IsThird (length block) p.one.place p.two.place q → third (block ++ more) q ≡ third block q
      go None h = refl
      go (Some q) h = ap (λ x. x ∷ []) (picked_more block more q h.0)

third_of_more : (count more i j : ℕ) (q : Option PatternLit) → count ≤ more → IsThird count i j q → IsThird more i j q
third_of_more count more i j None l h = h
third_of_more count more i j (Some q) l h = (omega (arith, l, h.0), h.1)

pattern_of_more : (count more : ℕ) (p : Pattern) → count ≤ more → IsPattern count p → IsPattern more p
pattern_of_more count more p l is = record {
  one = let k = is.one in omega (arith, k, l);
  two = let k = is.two in omega (arith, k, l);
  apart = is.apart;
  third = third_of_more count more p.one.place p.two.place p.three l is.third;
}

-- ---- clauses of an arena

-- more literals leave each clause
clause_stays : (lits more : List Lit) (s : Stored) → IsStored (length lits) s → clause_of (lits ++ more) s ≡ clause_of lits s
clause_stays lits more (Whole from end) (ordered, within) =
    ap (take (end - from)) (drop-append-le from lits more (omega (arith, ordered, within)))
    ∙ take-append-le (end - from) (drop from lits) more (omega (arith, length-drop from lits, ordered, within))
clause_stays lits more (Made from p) (within, is) =
    ap (λ b. made b p) (drop-append-le from lits more within)
    ∙ made_more (drop from lits) more p (subst (λ n. IsPattern n p) (sym (length-drop from lits)) is)

clauses_stay : (lits more : List Lit) (stored : List Stored) → All (IsStored (length lits)) stored → clauses_of (lits ++ more) stored ≡ clauses_of lits stored
clauses_stay lits more stored all =
    same_map (clause_of (lits ++ more)) (clause_of lits) stored
    (All-weaker (IsStored (length lits)) (λ s. clause_of (lits ++ more) s ≡ clause_of lits s) (clause_stays lits more) stored all)

-- and each is found among more
stored_among_more : (count more : ℕ) → count ≤ more → (s : Stored) → IsStored count s → IsStored more s
stored_among_more count more l (Whole from end) h = (h.0, omega (arith, h.1, l))
stored_among_more count more l (Made from p) h =
    (omega (arith, h.0, l), pattern_of_more (count - from) (more - from) p (omega (arith, l)) h.1)

pub stored_stay : (lits more : List Lit) (stored : List Stored) → All (IsStored (length lits)) stored → All (IsStored (length (lits ++ more))) stored
stored_stay lits more stored all =
    All-weaker (IsStored (length lits)) (IsStored (length (lits ++ more)))
    (stored_among_more (length lits) (length (lits ++ more)) (omega (arith, length-append lits more))) stored all

-- the literals that came last are those of a clause
last_clause : (lits clause : List Lit) (from end : ℕ) → from ≡ length lits → end ≡ length (lits ++ clause) →
    clause_of (lits ++ clause) (Whole from end) ≡ clause
last_clause lits clause from end begins ends =
    ap (λ n. take (end - from) (drop n (lits ++ clause))) begins
    ∙ ap (take (end - from)) (drop-append_seam lits clause)
    ∙ ap (λ n. take n clause) (omega (arith, begins, ends, length-append lits clause))
    ∙ take-length clause

-- clauses with one more, whose literals came last
pub one_clause_more : (lits clause after : List Lit) (stored all : List Stored) (from end : ℕ) → All (IsStored (length lits)) stored → after ≡ lits ++ clause
    → all ≡ stored ++ Whole from end ∷ [] → from ≡ length lits → end ≡ length after → clauses_of after all ≡ clauses_of lits stored ++ clause ∷ []
one_clause_more lits clause after stored all from end are longer more begins ends =
    ap (λ l. clauses_of l all) longer
    ∙ ap (clauses_of (lits ++ clause)) more
    ∙ map-append (clause_of (lits ++ clause)) stored (Whole from end ∷ [])
    ∙ ap (λ l. l ++ clause_of (lits ++ clause) (Whole from end) ∷ []) (clauses_stay lits clause stored are)
    ∙ ap (λ c. clauses_of lits stored ++ c ∷ []) (last_clause lits clause from end begins (ends ∙ ap length longer))

-- clauses with more literals behind them that none of them has
pub no_clause_more : (lits clause after : List Lit) (stored all : List Stored) → All (IsStored (length lits)) stored → after ≡ lits ++ clause → all ≡ stored
    → clauses_of after all ≡ clauses_of lits stored
no_clause_more lits clause after stored all are longer same =
    ap (λ l. clauses_of l all) longer ∙ ap (clauses_of (lits ++ clause)) same ∙ clauses_stay lits clause stored are

-- ---- clauses that patterns make of a block that came last

made_there : (lits block : List Lit) (from : ℕ) → from ≡ length lits → (ps : List Pattern)
    → map (clause_of (lits ++ block)) (map (made_at from) ps) ≡ map (made block) ps
made_there lits block from begins [] = refl
made_there lits block from begins (p ∷ ps) =
    ap (λ c. c ∷ map (clause_of (lits ++ block)) (map (made_at from) ps))
    (ap (λ n. made (drop n (lits ++ block)) p) begins ∙ ap (λ b. made b p) (drop-append_seam lits block))
    ∙ ap (λ l. made block p ∷ l) (made_there lits block from begins ps)

pub made_clauses_more : (lits block after : List Lit) (stored all : List Stored) (from : ℕ) (ps : List Pattern) → All (IsStored (length lits)) stored
    → after ≡ lits ++ block → all ≡ stored ++ map (made_at from) ps → from ≡ length lits
    → clauses_of after all ≡ clauses_of lits stored ++ map (made block) ps
made_clauses_more lits block after stored all from ps are longer more begins =
    ap (λ l. clauses_of l all) longer
    ∙ ap (clauses_of (lits ++ block)) more
    ∙ map-append (clause_of (lits ++ block)) stored (map (made_at from) ps)
    ∙ ap (λ l. l ++ map (clause_of (lits ++ block)) (map (made_at from) ps)) (clauses_stay lits block stored are)
    ∙ ap (λ l. clauses_of lits stored ++ l) (made_there lits block from begins ps)

made_are_stored : (lits block : List Lit) (from : ℕ) → from ≡ length lits → (ps : List Pattern) → All (IsPattern (length block)) ps
    → All (IsStored (length (lits ++ block))) (map (made_at from) ps)
made_are_stored lits block from begins [] all = All-nil (IsStored (length (lits ++ block)))
made_are_stored lits block from begins (p ∷ ps) all =
    All-cons (IsStored (length (lits ++ block))) (made_at from p) (map (made_at from) ps) (
      omega (arith, begins, length-append lits block),
      pattern_of_more (length block) (length (lits ++ block) - from) p (omega (arith, begins, length-append lits block))
          (All-head (IsPattern (length block)) p ps all),
    )
    (made_are_stored lits block from begins ps (All-tail (IsPattern (length block)) p ps all))

pub made_stored_more : (lits block after : List Lit) (stored all : List Stored) (from count : ℕ) (ps : List Pattern) → All (IsStored (length lits)) stored
    → All (IsPattern (length block)) ps → after ≡ lits ++ block → all ≡ stored ++ map (made_at from) (take count ps) → from ≡ length lits
    → All (IsStored (length after)) all
made_stored_more lits block after stored all from count ps are patterns longer more begins =
    subst (λ l. All (IsStored (length l)) all) (sym longer)
    (subst (All (IsStored (length (lits ++ block)))) (sym more)
    (All-append (IsStored (length (lits ++ block))) stored (map (made_at from) (take count ps)) (stored_stay lits block stored are)
    (made_are_stored lits block from begins (take count ps) (All-take (IsPattern (length block)) count ps patterns))))

-- ---- empty clauses

empty_one : (lits : List Lit) (s : Stored) → IsStored (length lits) s → HasNone s → clause_of lits s ≡ []
empty_one lits (Whole from end) h is = let none : end - from ≡ 0 = omega (arith, is) in ap (λ n. take n (drop from lits)) none
empty_one lits (Made from p) h is = absurd is

none_of_empty : (lits : List Lit) (s : Stored) → IsStored (length lits) s → clause_of lits s ≡ [] → HasNone s
none_of_empty lits (Whole from end) (ordered, within) is =
    let long = length-take-le (end - from) (drop from lits) (omega (arith, ordered, within, length-drop from lits)) in
    omega (arith, long, ap length is, ordered)
none_of_empty lits (Made from p) h is = cc

-- one of the clauses is empty where one has no literals
pub empty_stored : (lits : List Lit) (stored : List Stored) → All (IsStored (length lits)) stored → HasEmpty stored ↔ Contains (clauses_of lits stored) []
empty_stored lits stored are = (
  (λ (s, (there, is)). subst (Contains (clauses_of lits stored)) (empty_one lits s (All-contains (IsStored (length lits)) stored s are there) is)
      (contains_map (clause_of lits) stored s there)),
  (λ c. let (s, (there, is)) = contains_of_map (clause_of lits) stored [] c in
      (s, (there, none_of_empty lits s (All-contains (IsStored (length lits)) stored s are there) is))),
)

-- ---- places

placed_complemented : (variables : List ℕ) (b : Bool) (x : Lit) → IsPlaced variables x → IsPlaced variables (complemented_if b x)
placed_complemented variables true x h = h
placed_complemented variables false x h = h

picked_placed : (variables : List ℕ) (block : List Lit) (q : PatternLit) → All (IsPlaced variables) block → q.place < length block
    → IsPlaced variables (picked block q)
picked_placed variables block q all inside =
    placed_complemented variables q.complemented (get_or block q.place no_literal) (all q.place no_literal inside)

-- what a pattern makes of literals that have places
made_placed : (variables : List ℕ) (block : List Lit) → All (IsPlaced variables) block → (p : Pattern) → IsPattern (length block) p
    → All (IsPlaced variables) (made block p)
made_placed variables block all p is =
    All-cons (IsPlaced variables) (picked block p.one) (picked block p.two ∷ third block p.three) (picked_placed variables block p.one all is.one)
    (All-cons (IsPlaced variables) (picked block p.two) (third block p.three) (picked_placed variables block p.two all is.two) (go p.three is.third)) where
      go : (q : Option PatternLit) → IsThird (length block) p.one.place p.two.place q → All (IsPlaced variables) (third block q)
      go None h = All-nil (IsPlaced variables)
      go (Some q) h = All-cons (IsPlaced variables) (picked block q) [] (picked_placed variables block q all h.0) (All-nil (IsPlaced variables))

pub all_made_placed : (variables : List ℕ) (block : List Lit) → All (IsPlaced variables) block → (ps : List Pattern) → All (IsPattern (length block)) ps
    → All (All (IsPlaced variables)) (map (made block) ps)
all_made_placed variables block all [] are = All-nil (All (IsPlaced variables))
all_made_placed variables block all (p ∷ ps) are =
    All-cons (All (IsPlaced variables)) (made block p) (map (made block) ps)
    (made_placed variables block all p (All-head (IsPattern (length block)) p ps are))
    (all_made_placed variables block all ps (All-tail (IsPattern (length block)) p ps are))

literal_complemented : (variables : List ℕ) (b : Bool) (x : Lit) → literal_at variables (complemented_if b x) ≡ complemented_if b (literal_at variables x)
literal_complemented variables true x = refl
literal_complemented variables false x = refl

picked_at : (variables : List ℕ) (block : List Lit) (q : PatternLit) → q.place < length block
    → literal_at variables (picked block q) ≡ picked (clause_at variables block) q
picked_at variables block q inside =
    literal_complemented variables q.complemented (get_or block q.place no_literal)
    ∙ ap (complemented_if q.complemented) (sym (get_or-map (literal_at variables) block q.place no_literal no_literal inside))

-- a pattern makes of the variables' literals what stands for what it makes of their places
made_at_places : (variables : List ℕ) (block : List Lit) (p : Pattern) → IsPattern (length block) p
    → clause_at variables (made block p) ≡ made (clause_at variables block) p
made_at_places variables block p is =
    ap (λ x. x ∷ literal_at variables (picked block p.two) ∷ clause_at variables (third block p.three)) (picked_at variables block p.one is.one)
    ∙ ap (λ x. picked (clause_at variables block) p.one ∷ x ∷ clause_at variables (third block p.three)) (picked_at variables block p.two is.two)
    ∙ ap (λ xs. picked (clause_at variables block) p.one ∷ picked (clause_at variables block) p.two ∷ xs) (go p.three is.third) where
      go : (q : Option PatternLit) → IsThird (length block) p.one.place p.two.place q →
          clause_at variables (third block q) ≡ third (clause_at variables block) q
      go None h = refl
      go (Some q) h = ap (λ x. x ∷ []) (picked_at variables block q h.0)

pub all_made_at_places : (variables : List ℕ) (block : List Lit) (ps : List Pattern) → All (IsPattern (length block)) ps
    → map (clause_at variables) (map (made block) ps) ≡ map (made (clause_at variables block)) ps
all_made_at_places variables block [] are = refl
all_made_at_places variables block (p ∷ ps) are =
    ap (λ c. c ∷ map (clause_at variables) (map (made block) ps)) (made_at_places variables block p (All-head (IsPattern (length block)) p ps are))
    ∙ ap (λ l. made (clause_at variables block) p ∷ l) (all_made_at_places variables block ps (All-tail (IsPattern (length block)) p ps are))

-- patterns of literals are those of their places
pub patterns_fit : (variables : List ℕ) (given entered block : List Lit) (ps : List Pattern) → given ≡ entered → clause_at variables entered ≡ block
    → All (IsPattern (length block)) ps → All (IsPattern (length given)) ps
patterns_fit variables given entered block ps same at are =
    subst (λ n. All (IsPattern n) ps) (sym (ap length at) ∙ length-map entered (literal_at variables) ∙ ap length (sym same)) are

-- one more item of a list comes, each as what it stands for
pub more_mapped : {A B : Type 0} (f : A → B) (xs : List A) (i : ℕ) (d : A) (old now next : List B) → i < length xs → now ≡ old ++ map f (take i xs)
    → next ≡ now ++ f (get_or xs i d) ∷ [] → next ≡ old ++ map f (take (i + 1) xs)
more_mapped f xs i d old now next l was is =
    let items : map f (take (i + 1) xs) ≡ map f (take i xs) ++ f (get_or xs i d) ∷ [] = ap (map f) (take_more xs i d l) ∙ map-append f (take i xs) _ in
    is ∙ (ap (λ z. z ++ f (get_or xs i d) ∷ []) was ∙ (append_assoc old (map f (take i xs)) _ ∙ ap (λ z. old ++ z) (sym items)))

-- the clause at a place is the one that is stored there
pub clause_here : (lits : List Lit) (stored : List Stored) (place : ℕ) (s : Stored) → place < length stored → s ≡ get_or stored place s →
    slice_get (clauses_of lits stored) place ≡ Some (clause_of lits s)
clause_here lits stored place s l at =
    slice_get-map (clause_of lits) stored place
    ∙ ap (option_map (clause_of lits)) (slice_get-get_or stored place s l ∙ ap Some (sym at))

-- what is left from a place on
all_left : (xs : List Lit) (from : ℕ) → take (length xs - from) (drop from xs) ≡ drop from xs
all_left xs from = take_all (length xs - from) (drop from xs) (rw length-drop (omega arith))

pub left_made : (lits now : List Lit) (from : ℕ) (p : Pattern) → now ≡ lits → made (take (length now - from) (drop from now)) p ≡ made (drop from lits) p
left_made lits now from p is = rw (is, all_left lits from) refl

pub left_fits : (lits now : List Lit) (stored : List Stored) (place from : ℕ) (p : Pattern) (s : Stored) → now ≡ lits → s ≡ Made from p →
    All (IsStored (length lits)) stored → place < length stored → s ≡ get_or stored place s →
    IsPattern (length (take (length now - from) (drop from now))) p
left_fits lits now stored place from p s is e all l at =
    let m : IsStored (length lits) (Made from p) = subst (IsStored (length lits)) (sym at ∙ e) (all place s l) in
    rw (is, all_left lits from, length-drop from lits) m.1
