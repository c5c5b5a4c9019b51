-- Values of shapes, and parts of them that are written anew.
use Rattle.std.proofs.Common.{
  ◌≡◌,
  ℕ,
  zero,
  suc,
  ◌^◌,
  Bool,
  true,
  false,
  ◌&&◌,
  ◌==◌,
  nat_lt,
  not,
  if◌then◌else◌,
  List,
  [],
  ◌∷◌,
  length,
  replicate,
  Option,
  Some,
  None,
  refl,
  sym,
  ap,
  ◌∙◌,
  subst,
  eqb-true,
  length-set,
}
use Rattle.std.specs.Prelude.{unwrap_or, slice_get, slice_set}
use Rattle.std.specs.List.{list_all}
use Rattle.std.proofs.lemmas.Bool.{eq-eqb, lt-ltb, and_from as both_of}
use Rattle.std.proofs.lemmas.List.{length-replicate}
use Rattle.std.proofs.lemmas.Nat.{pow_pos}
use Rattle.ygg_base.specs.declared.reason.Reason.TheVariants as reason
use Rattle.ygg_value.specs.declared.shape.Shape.{Shape}
use Rattle.ygg_value.specs.declared.shape.Shape.TheVariants as shape
use Rattle.ygg_value.specs.Number.{Digits, Grid}
use Rattle.ygg_value.specs.declared.row.Value.{Value}
use Rattle.ygg_value.specs.declared.row.Value.TheVariants.{Word, Row, Table}
use Rattle.ygg_value.specs.Values.{word_in, row_in, row_write, table_read, table_write, with_part}
use Rattle.ygg_syntax.specs.declared.tree.Index.{Index}
use Rattle.ygg_meaning_laws.specs.TypeErrors.{none, both, unless}
use Rattle.ygg_meaning_laws.specs.Shapes.{is_word, part_shape}
use Rattle.ygg_meaning_laws.specs.Scopes.{Scope}
use Rattle.ygg_meaning_laws.specs.Expressions.{Own, index_rule, wanted_word, typing}
use Rattle.ygg_meaning_laws.specs.Statements.{indexed}
use Rattle.ygg_meaning.specs.Environments.{Env}
use Rattle.ygg_meaning.specs.Progress.{Eval, indices_of}
use Rattle.ygg_meaning.specs.Shapes.{fits, words_fit}
use Rattle.ygg_meaning_laws.proofs.Tests.{left as first_of, right as second_of, passed, turned}

-- a value has one shape alone
pub one_shape : (s t : Shape) (v : Value) → fits s v ≡ true → fits t v ≡ true → s ≡ t
one_shape (shape.Word w) (shape.Word w') (Word v) e f =
    ap (λ x. shape.Word x) (sym (eqb-true v.width w (first_of _ _ e)) ∙ eqb-true v.width w' (first_of _ _ f))
one_shape (shape.Row m w) (shape.Row m' w') (Row r) e f =
    let p : w ≡ w' = sym (eqb-true r.width w (first_of _ _ e)) ∙ eqb-true r.width w' (first_of _ _ f) in
    let q : m ≡ m' = sym (eqb-true (length r.words) m (first_of _ _ (second_of (r.width == w) _ e)))
    ∙ eqb-true (length r.words) m' (first_of _ _ (second_of (r.width == w') _ f)) in cc
one_shape (shape.Table n m w) (shape.Table n' m' w') (Table t) e f =
    let a = first_of (t.width == w && t.words == m && length t.rows == n) _ e in
    let b = first_of (t.width == w' && t.words == m' && length t.rows == n') _ f in
    let c = first_of (t.width == w && t.words == m) _ a in
    let d = first_of (t.width == w' && t.words == m') _ b in
    let p : w ≡ w' = sym (eqb-true t.width w (first_of _ _ c)) ∙ eqb-true t.width w' (first_of _ _ d) in
    let q : m ≡ m' = sym (eqb-true t.words m (second_of (t.width == w) _ c)) ∙ eqb-true t.words m' (second_of (t.width == w') _ d) in
    let r : n ≡ n' = sym (eqb-true (length t.rows) n (second_of (t.width == w && t.words == m) _ a))
    ∙ eqb-true (length t.rows) n' (second_of (t.width == w' && t.words == m') _ b) in cc
one_shape (shape.Word w) (shape.Row m' w') (Word v) e f = absurd (cc)
one_shape (shape.Word w) (shape.Table n' m' w') (Word v) e f = absurd (cc)
one_shape (shape.Row m w) (shape.Word w') (Row v) e f = absurd (cc)
one_shape (shape.Row m w) (shape.Table n' m' w') (Row v) e f = absurd (cc)
one_shape (shape.Table n m w) (shape.Word w') (Table v) e f = absurd (cc)
one_shape (shape.Table n m w) (shape.Row m' w') (Table v) e f = absurd (cc)
one_shape (shape.Word w) t (Row v) e f = absurd (cc)
one_shape (shape.Word w) t (Table v) e f = absurd (cc)
one_shape (shape.Row m w) t (Word v) e f = absurd (cc)
one_shape (shape.Row m w) t (Table v) e f = absurd (cc)
one_shape (shape.Table n m w) t (Word v) e f = absurd (cc)
one_shape (shape.Table n m w) t (Row v) e f = absurd (cc)

-- the number of a word fits
pub word_bits : (w : ℕ) (v : Value) → fits (shape.Word w) v ≡ true → nat_lt (word_in v).bits (2 ^ w) ≡ true
word_bits w (Word v) e = second_of (v.width == w) _ e
word_bits w (Row v) e = absurd (cc)
word_bits w (Table v) e = absurd (cc)

-- the words of a row fit
pub row_bits : (m w : ℕ) (v : Value) → fits (shape.Row m w) v ≡ true → words_fit w m (row_in v).words ≡ true
row_bits m w (Row r) e = second_of (r.width == w) _ e
row_bits m w (Word v) e = absurd (cc)
row_bits m w (Table v) e = absurd (cc)

all_set : {X : Type 0} (test : X → Bool) (xs : List X) (at : ℕ) (x : X) → test x ≡ true → list_all test xs ≡ true → list_all test (slice_set xs at x) ≡ true
all_set test [] at x e h = refl
all_set test (y ∷ xs) zero x e h = both_of (test x) (list_all test xs) e (second_of (test y) (list_all test xs) h)
all_set test (y ∷ xs) (suc at) x e h = both_of (test y) (list_all test (slice_set xs at x)) (first_of (test y) (list_all test xs) h)
    (all_set test xs at x e (second_of (test y) (list_all test xs) h))

all_replicate : {X : Type 0} (test : X → Bool) (n : ℕ) (x : X) → test x ≡ true → list_all test (replicate n x) ≡ true
all_replicate test zero x e = refl
all_replicate test (suc n) x e = both_of (test x) (list_all test (replicate n x)) e (all_replicate test n x e)

all_get : {X : Type 0} (test : X → Bool) (xs : List X) (at : ℕ) (d : X) → test d ≡ true → list_all test xs ≡ true → test (unwrap_or (slice_get xs at) d) ≡ true
all_get test [] at d e h = e
all_get test (y ∷ xs) zero d e h = first_of (test y) (list_all test xs) h
all_get test (y ∷ xs) (suc at) d e h = all_get test xs at d e (second_of (test y) (list_all test xs) h)

-- words of which one is written anew
pub words_written : (w m : ℕ) (ns : List ℕ) (at n : ℕ) → nat_lt n (2 ^ w) ≡ true → words_fit w m ns ≡ true → words_fit w m (slice_set ns at n) ≡ true
words_written w m ns at n e h =
    both_of (length (slice_set ns at n) == m) _
    (eq-eqb _ _ (length-set ns at n ∙ eqb-true (length ns) m (first_of (length ns == m) _ h)))
    (all_set (λ n. nat_lt n (2 ^ w)) ns at n e (second_of (length ns == m) _ h))

-- zeros fit
pub zeros_fit : (w m : ℕ) → words_fit w m (replicate m 0) ≡ true
zeros_fit w m = both_of (length (replicate m 0) == m) _ (eq-eqb _ _ (length-replicate m 0))
    (all_replicate (λ n. nat_lt n (2 ^ w)) m 0 (lt-ltb 0 (2 ^ w) (pow_pos w)))

-- a table's parts
pub record IsTableOf (n m w : ℕ) (t : Grid) : Type 0 where
  pub width : t.width ≡ w
  pub words : t.words ≡ m
  pub rows : length t.rows ≡ n
  pub all : list_all (words_fit w m) t.rows ≡ true

pub table_parts : (n m w : ℕ) (t : Grid) → fits (shape.Table n m w) (Table t) ≡ true → IsTableOf n m w t
table_parts n m w t e =
    let a = first_of (t.width == w && t.words == m && length t.rows == n) _ e in
    let b = first_of (t.width == w && t.words == m) _ a in
    record {
      width = eqb-true t.width w (first_of _ _ b);
      words = eqb-true t.words m (second_of (t.width == w) _ b);
      rows = eqb-true (length t.rows) n (second_of (t.width == w && t.words == m) _ a);
      all = second_of (t.width == w && t.words == m && length t.rows == n) _ e;
    }

pub table_whole : (n m w : ℕ) (t : Grid) → IsTableOf n m w t → fits (shape.Table n m w) (Table t) ≡ true
table_whole n m w t p =
    both_of (t.width == w && t.words == m && length t.rows == n) _
    (both_of (t.width == w && t.words == m) _ (both_of (t.width == w) _ (eq-eqb _ _ p.width) (eq-eqb _ _ p.words)) (eq-eqb _ _ p.rows))
    p.all

-- a row that is read fits
pub row_read_fits : (n m w : ℕ) (t : Grid) (at : ℕ) → IsTableOf n m w t → words_fit w m (table_read t at).words ≡ true
row_read_fits n m w t at p = all_get (words_fit w m) t.rows at (replicate t.words 0)
    (subst (λ k. words_fit w m (replicate k 0) ≡ true) (sym p.words) (zeros_fit w m)) p.all

-- a table of which a row is written anew
pub row_written : (n m w : ℕ) (t : Grid) (at : ℕ) (row : Digits) → IsTableOf n m w t → words_fit w m row.words ≡ true → IsTableOf n m w (table_write t at row)
row_written n m w t at row p e = record {
  width = p.width;
  words = p.words;
  rows = length-set t.rows at row.words ∙ p.rows;
  all = all_set (words_fit w m) t.rows at row.words e p.all;
}

-- no shape leads to none
no_shape : (is : List Index) (scope : Scope) (s : Shape) → (indexed is scope None).shape ≡ Some s → ⊥
no_shape [] scope s e = cc
no_shape (i ∷ is) scope s e = no_shape is scope s e

-- what an index leads to
abbrev rule : Shape → Index → Scope → Own
rule s i scope = index_rule (Some s) i.bracket (typing i.at scope).part

-- an index without a type error stands at a row or a table, and the others go on with its part
pub record Step (s : Shape) (i : Index) (is : List Index) (scope : Scope) (found : Shape) : Type 0 where
  pub compound : is_word s ≡ false
  pub type_errors : none (indexed is scope (Some (part_shape s))).type_errors ≡ true
  pub shape : (indexed is scope (Some (part_shape s))).shape ≡ Some found

step : (s : Shape) (i : Index) (is : List Index) (scope : Scope) (found : Shape) → none (indexed (i ∷ is) scope (Some s)).type_errors ≡ true →
    (indexed (i ∷ is) scope (Some s)).shape ≡ Some found → Step s i is scope found
step s i is scope found e f = cases (typing i.at scope).part.shape (typing i.at scope).part.place
    (second_of (none (typing i.at scope).type_errors) (none (rule s i scope).type_errors)
    (first_of _ (none (indexed is scope (rule s i scope).shape).type_errors) e))
    (second_of (none (typing i.at scope).type_errors && none (rule s i scope).type_errors) _ e) f
  where
    open_rule : (b : Bool) (o : Option Shape) → b ≡ true → (if b then o else None) ≡ o
    open_rule true o e = refl
    open_rule false o e = absurd (cc)

    cases : (o : Option Shape) (at : _) → none (index_rule (Some s) i.bracket (record { place = at; shape = o })).type_errors ≡ true
        → none (indexed is scope (index_rule (Some s) i.bracket (record { place = at; shape = o })).shape).type_errors ≡ true
        → (indexed is scope (index_rule (Some s) i.bracket (record { place = at; shape = o })).shape).shape ≡ Some found → Step s i is scope found
    cases None at e g f = absurd (no_shape is scope found f)
    cases (Some t) at e g f =
        let shown = open_rule (none (both (unless (not (is_word s)) reason.Shape i.bracket) (wanted_word (record { place = at; shape = Some t }))))
        (Some (part_shape s)) e in
        record {
          compound = turned (is_word s) (passed (not (is_word s)) reason.Shape i.bracket
              (first_of _ (none (wanted_word (record { place = at; shape = Some t }))) e));
          type_errors = subst (λ o. none (indexed is scope o).type_errors ≡ true) shown g;
          shape = subst (λ o. (indexed is scope o).shape ≡ Some found) shown f;
        }

shape_is : (s t : Shape) → Some s ≡ Some t → s ≡ t
shape_is s t e = cc

-- the value with the part that indices lead to written anew, where the new part has the part's shape
pub part_fits : (is : List Index) (scope : Scope) (eval : Eval) (env : Env) (s found : Shape) (old new : Value)
    → none (indexed is scope (Some s)).type_errors ≡ true → (indexed is scope (Some s)).shape ≡ Some found
    → fits s old ≡ true → fits found new ≡ true → fits s (with_part old (indices_of eval is env) new) ≡ true
part_fits [] scope eval env s found old new e f o n = subst (λ x. fits x new ≡ true) (sym (shape_is s found f)) n
part_fits (i ∷ is) scope eval env (shape.Word w) found old new e f o n = let p = (step (shape.Word w) i is scope found e f).compound in absurd (cc)
part_fits (i ∷ []) scope eval env (shape.Row m w) found (Row r) new e f o n =
    let p = step (shape.Row m w) i [] scope found e f in
    let bits = word_bits w new (subst (λ x. fits x new ≡ true) (sym (shape_is (shape.Word w) found p.shape)) n) in
    both_of (r.width == w) _ (first_of (r.width == w) (words_fit w m r.words) o)
    (words_written w m r.words _ _ bits (second_of (r.width == w) (words_fit w m r.words) o))
part_fits (i ∷ j ∷ is) scope eval env (shape.Row m w) found old new e f o n =
    let p = step (shape.Row m w) i (j ∷ is) scope found e f in
    let q = (step (shape.Word w) j is scope found p.type_errors p.shape).compound in absurd (cc)
part_fits (i ∷ []) scope eval env (shape.Row m w) found (Word v) new e f o n = absurd (cc)
part_fits (i ∷ []) scope eval env (shape.Row m w) found (Table v) new e f o n = absurd (cc)
part_fits (i ∷ []) scope eval env (shape.Table k m w) found (Table t) new e f o n =
    let p = step (shape.Table k m w) i [] scope found e f in
    let row = row_bits m w new (subst (λ x. fits x new ≡ true) (sym (shape_is (shape.Row m w) found p.shape)) n) in
    table_whole k m w _ (row_written k m w t _ (row_in new) (table_parts k m w t o) row)
part_fits (i ∷ j ∷ []) scope eval env (shape.Table k m w) found (Table t) new e f o n =
    let p = step (shape.Table k m w) i (j ∷ []) scope found e f in
    let q = step (shape.Row m w) j [] scope found p.type_errors p.shape in
    let bits = word_bits w new (subst (λ x. fits x new ≡ true) (sym (shape_is (shape.Word w) found q.shape)) n) in
    let parts = table_parts k m w t o in
    let at = (word_in (eval i.at env)).bits in
    let within = (word_in (eval j.at env)).bits in
    let row = row_write (table_read t at) within (word_in new) in
    table_whole k m w (table_write t at row) (row_written k m w t at row parts
    (words_written w m (table_read t at).words within (word_in new).bits bits (row_read_fits k m w t at parts)))
part_fits (i ∷ j ∷ l ∷ is) scope eval env (shape.Table k m w) found old new e f o n =
    let p = step (shape.Table k m w) i (j ∷ l ∷ is) scope found e f in
    let q = step (shape.Row m w) j (l ∷ is) scope found p.type_errors p.shape in
    let r = (step (shape.Word w) l is scope found q.type_errors q.shape).compound in absurd (cc)
part_fits (i ∷ []) scope eval env (shape.Table k m w) found (Word v) new e f o n = absurd (cc)
part_fits (i ∷ []) scope eval env (shape.Table k m w) found (Row v) new e f o n = absurd (cc)
part_fits (i ∷ j ∷ []) scope eval env (shape.Table k m w) found (Word v) new e f o n = absurd (cc)
part_fits (i ∷ j ∷ []) scope eval env (shape.Table k m w) found (Row v) new e f o n = absurd (cc)
