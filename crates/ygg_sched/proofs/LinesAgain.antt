-- Lines that are printed are read again.
use Rattle.std.proofs.Common.{◌≡◌, ℕ, ◌+◌, ◌<◌, Bool, true, false, List, [], ◌∷◌, ◌++◌, length, Some, Ok, refl, ◌∙◌, append_assoc, arith}
use Rattle.std.specs.Prelude.{◌==◌, not, codes, IsTrue}
use Rattle.std.specs.List.{list_all, list_any}
use Rattle.std.proofs.lemmas.Bool.{and_parts, and_from}
use Rattle.std.proofs.lemmas.List.Folds.{list_all-append}
use Rattle.ygg_value.specs.declared.row.Value.{Value}
use Rattle.ygg_syntax.specs.declared.tree.Declared.{Declared}
use Rattle.ygg_sched.specs.Words.{is_empty, is_word, words_in}
use Rattle.ygg_sched.specs.Values.{value_text}
use Rattle.ygg_sched.specs.Lines.{Left, Read, line_at, fixed_at, variable_in, variable_at}
use Rattle.ygg_sched.specs.Printing.{line_of, variable_line, variable_lines}
use Rattle.ygg_sched.specs.Reading.{variables_at}
use Rattle.ygg_sched.specs.Fitting.{IsOfType, AreOfTypes, is_plain, all_plain}
use Rattle.ygg_sched.proofs.Cutting.{after_append, eq_self}
use Rattle.ygg_sched.proofs.PiecesAgain.{is_other, cut_through}
use Rattle.ygg_sched.proofs.ValuesAgain.{value_other, value_again, value_is_some}

-- what is left from a line on
abbrev pub left : ℕ → List ℕ → Left
left n bytes = record { line = n; bytes = bytes }

-- a line without a line feed
pub line_again : (n : ℕ) (line rest : List ℕ) → list_all (is_other 10) line ≡ true → line_at (left n (line_of line ++ rest)) ≡ Ok (line, left (n + 1) rest)
line_again n line rest others = rw (append_assoc line (10 ∷ []) rest, cut_through 10 line rest others) refl

-- a line that is always the same
pub fixed_again : (n : ℕ) (text rest : List ℕ) → list_all (is_other 10) text ≡ true → fixed_at text (left n (line_of text ++ rest)) ≡ Ok (left (n + 1) rest)
unfolding fixed_at
fixed_again n text rest others = rw (line_again n text rest others, eq_self text) refl

-- some bytes without a space are a word
any_none : (bytes : List ℕ) → list_all (is_other 32) bytes ≡ true → list_any (λ b. b == 32) bytes ≡ false
any_none [] others = refl
any_none (b ∷ bytes) others =
    let p = and_parts (is_other 32 b) (list_all (is_other 32) bytes) others in
    let one : (b == 32) ≡ false = turned (b == 32) p.0 in
    rw (one, any_none bytes p.1) refl
  where
    turned : (test : Bool) → not test ≡ true → test ≡ false
    turned false e = refl
    turned true e = absurd cc

pub word_again : (bytes : List ℕ) → 0 < length bytes → list_all (is_other 32) bytes ≡ true → is_word bytes ≡ true
word_again [] some others = absurd (omega arith)
word_again (b ∷ bytes) some others = rw (any_none (b ∷ bytes) others) refl

-- a word has no space
none_any : (bytes : List ℕ) → list_any (λ b. b == 32) bytes ≡ false → list_all (is_other 32) bytes ≡ true
none_any [] none = refl
none_any (b ∷ bytes) none = by_test (b == 32) refl (none_any bytes)
  where
    by_test : (test : Bool) → (b == 32) ≡ test → (list_any (λ c. c == 32) bytes ≡ false → list_all (is_other 32) bytes ≡ true) →
        list_all (is_other 32) (b ∷ bytes) ≡ true
    by_test true e others = let h : true ≡ false = rw e at none in absurd cc
    by_test false e others = let h : list_any (λ c. c == 32) bytes ≡ false = rw e at none in rw e (others h)

pub word_other : (bytes : List ℕ) → is_word bytes ≡ true → list_all (is_other 32) bytes ≡ true
word_other bytes is =
    let p = and_parts (not (is_empty bytes)) (not (list_any (λ b. b == 32) bytes)) is in
    none_any bytes (turned (list_any (λ b. b == 32) bytes) p.1)
  where
    turned : (test : Bool) → not test ≡ true → test ≡ false
    turned false e = refl
    turned true e = absurd cc

-- two words
pub words_again : (first second : List ℕ) → is_word first ≡ true → is_word second ≡ true → words_in (first ++ 32 ∷ second) ≡ Some (first, second)
words_again first second one two = rw (cut_through 32 first second (word_other first one), one, two) refl

-- the variable and the value
variable_again : (word name text : List ℕ) → is_word name ≡ true → is_word text ≡ true →
    variable_in word (word ++ name ++ codes " " ++ text) ≡ Some (name, text)
variable_again word name text one two =
    let grouped : word ++ name ++ codes " " ++ text ≡ word ++ (name ++ 32 ∷ text) =
    append_assoc (word ++ name) (codes " ") text ∙ append_assoc word name (32 ∷ text) in
    rw (grouped, after_append word (name ++ 32 ∷ text)) (words_again name text one two)

-- the line of a variable
pub variable_line_again : (n : ℕ) (word : List ℕ) (d : Declared) (v : Value) (rest : List ℕ) → list_all (is_other 10) word ≡ true →
    IsTrue (is_plain d.name.text) → IsOfType d.shape v
    → variable_at word d.name.text d.shape (left n (variable_line word d.name.text v ++ rest)) ≡ Ok (v, left (n + 1) rest)
unfolding variable_at
variable_line_again n word d v rest plain named is =
    let p = and_parts (is_word d.name.text) (list_all (is_other 10) d.name.text) named in
    let text : List ℕ = value_text v in
    let second : is_word text ≡ true = word_again text (value_is_some v is.value) (value_other 32 v refl refl refl) in
    let whole : list_all (is_other 10) (word ++ d.name.text ++ codes " " ++ text) ≡ true =
    list_all-append (is_other 10) (word ++ d.name.text ++ codes " ") text
    ∙ and_from (list_all (is_other 10) (word ++ d.name.text ++ codes " ")) (list_all (is_other 10) text)
    (list_all-append (is_other 10) (word ++ d.name.text) (codes " ")
    ∙ and_from (list_all (is_other 10) (word ++ d.name.text)) true
    (list_all-append (is_other 10) word d.name.text ∙ and_from (list_all (is_other 10) word) (list_all (is_other 10) d.name.text) plain p.1) refl)
    (value_other 10 v refl refl refl) in
    rw (
      line_again n (word ++ d.name.text ++ codes " " ++ text) rest whole,
      variable_again word d.name.text text p.0 second,
      eq_self d.name.text,
      value_again d.shape v is,
    )
    refl

-- what is read of a section, and that its end is some line
pub record ReadsTo {A : Type 0} (read : Left → Read (A × Left)) (value : A) (n : ℕ) (text rest : List ℕ) : Type 0 where
  pub next : ℕ
  pub is : read (left n (text ++ rest)) ≡ Ok (value, left next rest)

-- the lines of variables
pub variables_again : (n : ℕ) (word : List ℕ) (ds : List Declared) (vs : List Value) (rest : List ℕ) → list_all (is_other 10) word ≡ true →
    IsTrue (all_plain ds) → AreOfTypes ds vs → ReadsTo (variables_at word ds) vs n (variable_lines word ds vs) rest
unfolding variables_at
variables_again n word [] [] rest plain named are = record { next = n; is = refl }
variables_again n word (d ∷ ds) (v ∷ vs) rest plain named are =
    let p = and_parts (is_plain d.name.text) (all_plain ds) named in
    let one = variable_line_again n word d v (variable_lines word ds vs ++ rest) plain p.0 are.0 in
    let others = variables_again (n + 1) word ds vs rest plain p.1 are.1 in
    record {
      next = others.next;
      is = rw (append_assoc (variable_line word d.name.text v) (variable_lines word ds vs) rest, one, others.is) refl;
    }
variables_again n word [] (v ∷ vs) rest plain named are = absurd are
variables_again n word (d ∷ ds) [] rest plain named are = absurd are
