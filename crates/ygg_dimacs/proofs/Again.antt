-- The text of clauses is read as the same clauses.
use Rattle.std.proofs.Common.{◌≡◌, ℕ, suc, ◌+◌, ◌^◌, ◌<◌, ◌≤◌, Bool, true, false, List, [], ◌∷◌}
use Rattle.std.proofs.Common.{◌++◌, append_assoc, length, length-append, All, Some, Ok, map, refl, sym, ap, ◌∙◌, subst, arith}
use Rattle.std.specs.Prelude.{◌==◌, ◌||◌, if◌then◌else◌, codes}
use Rattle.std.specs.List.{list_all, slice_split}
use Rattle.std.specs.Fmt.{decimal}
use Rattle.std.proofs.lemmas.Bool.{and_from, and_parts}
use Rattle.std.proofs.lemmas.Bool.Decides.{nat_tests}
use Rattle.std.proofs.lemmas.List.Folds.{list_all-append}
use Rattle.std.proofs.lemmas.List.Splits.{slice_split_at, slice_split_none}
use Rattle.std.proofs.lemmas.List.Elements.{All-nil, All-cons, All-head, All-tail}
use Rattle.ygg_base.specs.Lexing.{is_empty, is_blank}
use Rattle.ygg_cnf.specs.declared.lit.Lit.{Lit}
use Rattle.ygg_cnf.specs.Literals.{once, with_literals, with_literal, IsOnce}
use Rattle.ygg_cnf.proofs.Once.{once_is_kept}
use Rattle.ygg_cnf.specs.Lines.{literal_word, literal_words, clause_line}
use Rattle.ygg_dimacs.specs.Places.{TextPlace, Line, TextWord, place, word_at}
use Rattle.ygg_dimacs.specs.Lines.{numbered, pieces_of, is_last, is_passed_over, content_of, end_from}
use Rattle.ygg_dimacs.specs.Words.{words_among, words_from, words_of_all}
use Rattle.ygg_dimacs.specs.Numbers.{literal}
use Rattle.ygg_dimacs.proofs.Taking.{by_literal, next_word, by_some, by_none}
use Rattle.ygg_dimacs.specs.Headers.{header, header_in, header_of, most_variables, most_clauses}
use Rattle.ygg_dimacs.specs.Reading.{after_clauses, clauses_in, cnf, over, cnf_in}
use Rattle.ygg_dimacs.specs.Printing.{header_line, clause_lines, cnf_text, AreWithin}
use Rattle.ygg_dimacs.specs.Laws.{PrintedIsRead}
use Rattle.ygg_dimacs.proofs.Decimals.{number_again, is_literal_byte, literal_bytes, literal_some, literal_again, zero_again, decimal_digits, decimal_some}
use Rattle.ygg_dimacs.proofs.Numbered.{by_header, header_step}
use Rattle.ygg_dimacs.proofs.Lining.{line, content_kept}

-- a literal that a text may have
record IsFit (variables : ℕ) (x : Lit) : Type 0 where
  some : 0 < x.var
  within : x.var ≤ variables
  few : x.var < 10 ^ 10

-- the line of a clause without its line feed
abbrev body : List Lit → List ℕ
body xs = literal_words xs ++ 48 ∷ []

-- a byte of such a line: one of a literal, or a space
abbrev is_line_byte : ℕ → Bool
is_line_byte b = is_literal_byte b || b == 32

line_bytes : (bytes : List ℕ) → list_all is_literal_byte bytes ≡ true → list_all is_line_byte bytes ≡ true
line_bytes [] all = refl
line_bytes (b ∷ bytes) all =
    let p = and_parts (is_literal_byte b) (list_all is_literal_byte bytes) all in
    let here : is_line_byte b ≡ true = rw p.0 refl in
    and_from (is_line_byte b) (list_all is_line_byte bytes) here (line_bytes bytes p.1)

both : (xs ys : List ℕ) → list_all is_line_byte xs ≡ true → list_all is_line_byte ys ≡ true → list_all is_line_byte (xs ++ ys) ≡ true
both xs ys p q = list_all-append is_line_byte xs ys ∙ and_from (list_all is_line_byte xs) (list_all is_line_byte ys) p q

-- the body of a clause with one literal more in front
body_more : (x : Lit) (xs : List Lit) → body (x ∷ xs) ≡ literal_word x ++ 32 ∷ body xs
body_more x xs = simp append_assoc

body_bytes : (variables : ℕ) (xs : List Lit) → All (IsFit variables) xs → list_all is_line_byte (body xs) ≡ true
body_bytes variables [] all = refl
body_bytes variables (x ∷ xs) all =
    let fit = All-head (IsFit variables) x xs all in
    let others = body_bytes variables xs (All-tail (IsFit variables) x xs all) in
    ap (list_all is_line_byte) (body_more x xs)
    ∙ both (literal_word x) (32 ∷ body xs) (line_bytes (literal_word x) (literal_bytes x (omega (arith, fit.few))))
    (and_from true (list_all is_line_byte (body xs)) refl others)

-- none of them is a line feed
no_feed : (bytes : List ℕ) → list_all is_line_byte bytes ≡ true → All (λ b. (b == 10) ≡ false) bytes
no_feed [] all = All-nil (λ b. (b == 10) ≡ false)
no_feed (b ∷ bytes) all =
    let p = and_parts (is_line_byte b) (list_all is_line_byte bytes) all in
    let here : (b == 10) ≡ false = grind (arith, nat_tests, p.0) in
    All-cons (λ c. (c == 10) ≡ false) b bytes here (no_feed bytes p.1)

-- and none of a literal's is a blank
no_blank : (bytes : List ℕ) → list_all is_literal_byte bytes ≡ true → All (λ b. is_blank b ≡ false) bytes
no_blank [] all = All-nil (λ b. is_blank b ≡ false)
no_blank (b ∷ bytes) all =
    let p = and_parts (is_literal_byte b) (list_all is_literal_byte bytes) all in
    let here : is_blank b ≡ false = grind (arith, nat_tests, p.0) in
    All-cons (λ c. is_blank c ≡ false) b bytes here (no_blank bytes p.1)

-- a line that begins with a byte of a literal counts
counts : (n b : ℕ) (bytes : List ℕ) → is_literal_byte b ≡ true → (is_last (line n (b ∷ bytes)) ≡ false) × (is_passed_over (b ∷ bytes) ≡ false)
counts n b bytes is =
    let last : (b == 37) ≡ false = grind (arith, nat_tests) in
    let comment : (b == 99) ≡ false = grind (arith, nat_tests) in
    let blank : is_blank b ≡ false = grind (arith, nat_tests) in
    (last, rw (comment, blank) refl)

-- so does that of a clause
front_counts : (n : ℕ) (front rest : List ℕ) → list_all is_literal_byte front ≡ true → is_empty front ≡ false →
    (is_last (line n (front ++ rest)) ≡ false) × (is_passed_over (front ++ rest) ≡ false)
front_counts n [] rest all some = absurd (cc some)
front_counts n (b ∷ bytes) rest all some = counts n b (bytes ++ rest) (and_parts (is_literal_byte b) (list_all is_literal_byte bytes) all).0

body_counts : (variables n : ℕ) (xs : List Lit) → All (IsFit variables) xs → (is_last (line n (body xs)) ≡ false) × (is_passed_over (body xs) ≡ false)
body_counts variables n [] all = (refl, refl)
body_counts variables n (x ∷ xs) all =
    let fit = All-head (IsFit variables) x xs all in
    subst (λ (bytes : List ℕ). (is_last (line n bytes) ≡ false) × (is_passed_over bytes ≡ false)) (sym (body_more x xs))
    (front_counts n (literal_word x) (32 ∷ body xs) (literal_bytes x (omega (arith, fit.few))) (literal_some x (omega (arith, fit.few))))

-- the words of a clause's line
body_words : (variables n column : ℕ) (x : Lit) (xs : List Lit) → IsFit variables x →
    words_from n column (body (x ∷ xs)) ≡ word_at n column (literal_word x) ∷ words_from n (column + length (literal_word x) + 1) (body xs)
body_words variables n column x xs fit =
    ap (words_from n column) (body_more x xs)
    ∙ ap (words_among n column)
    (slice_split_at is_blank (literal_word x) 32 (body xs) (no_blank (literal_word x) (literal_bytes x (omega (arith, fit.few)))) refl)
    ∙ ap (λ (test : Bool). (if test then [] else word_at n column (literal_word x) ∷ []) ++ words_from n (column + length (literal_word x) + 1) (body xs))
    (literal_some x (omega (arith, fit.few)))

-- they are read as the clause
clause_read : (variables : ℕ) (end : TextPlace) (left : ℕ) (part xs : List Lit) (n column : ℕ) (ws : List TextWord) → All (IsFit variables) xs →
    clauses_in variables end (suc left) part (words_from n column (body xs) ++ ws)
    ≡ after_clauses (with_literals part xs ∷ []) (clauses_in variables end left [] ws)
clause_read variables end left part [] n column ws all =
    next_word variables end left part (word_at n column (48 ∷ [])) ws
    ∙ ap (by_literal variables end left part (word_at n column (48 ∷ [])) ws) (zero_again variables)
    ∙ by_none variables end left part (word_at n column (48 ∷ [])) ws (literal false 0) refl
clause_read variables end left part (x ∷ xs) n column ws all =
    let fit = All-head (IsFit variables) x xs all in
    let some_var : (x.var == 0) ≡ false = let s = fit.some in grind (arith, nat_tests) in
    let next : ℕ = column + length (literal_word x) + 1 in
    let first : TextWord = word_at n column (literal_word x) in
    let others : List TextWord = words_from n next (body xs) ++ ws in
    let here : clauses_in variables end (suc left) part (word_at n column (literal_word x) ∷ (words_from n next (body xs) ++ ws))
    ≡ clauses_in variables end (suc left) (with_literal part x) (words_from n next (body xs) ++ ws) =
    next_word variables end left part first others ∙ ap (by_literal variables end left part first others) (literal_again variables x fit.within fit.few)
    ∙ by_some variables end left part first others x some_var in
    ap (λ (v : List TextWord). clauses_in variables end (suc left) part (v ++ ws)) (body_words variables n column x xs fit)
    ∙ here
    ∙ clause_read variables end left (with_literal part x) xs n next ws (All-tail (IsFit variables) x xs all)

-- the lines of clauses
lines_more : (xs : List Lit) (others : List ℕ) → clause_line xs ++ others ≡ body xs ++ 10 ∷ others
lines_more xs others = simp append_assoc

-- are read as the clauses
lines_read : (variables : ℕ) (end : TextPlace) (k : ℕ) (cs : List (List Lit)) → All (All (IsFit variables)) cs →
    clauses_in variables end (length cs) [] (words_of_all (content_of (numbered k (pieces_of (clause_lines cs))))) ≡ Ok (map once cs)
lines_read variables end k [] all = refl
lines_read variables end k (xs ∷ cs) all =
    let fit = All-head (All (IsFit variables)) xs cs all in
    let rest : List Line = numbered (k + 1) (pieces_of (clause_lines cs)) in
    let pieces : pieces_of (clause_lines (xs ∷ cs)) ≡ body xs ∷ pieces_of (clause_lines cs) =
    ap pieces_of (lines_more xs (clause_lines cs))
    ∙ slice_split_at (λ b. b == 10) (body xs) 10 (clause_lines cs) (no_feed (body xs) (body_bytes variables xs fit)) refl in
    let counted = body_counts variables k xs fit in
    ap (λ (p : List (List ℕ)). clauses_in variables end (suc (length cs)) [] (words_of_all (content_of (numbered k p)))) pieces
    ∙ ap (λ (ls : List Line). clauses_in variables end (suc (length cs)) [] (words_of_all ls)) (content_kept (line k (body xs)) rest counted.0 counted.1)
    ∙ clause_read variables end (length cs) [] xs k 1 (words_of_all (content_of rest)) fit
    ∙ ap (after_clauses (once xs ∷ [])) (lines_read variables end (k + 1) cs (All-tail (All (IsFit variables)) xs cs all))

-- the header without its line feed
abbrev head : ℕ → ℕ → List ℕ
head variables clauses = 112 ∷ 32 ∷ 99 ∷ 110 ∷ 102 ∷ 32 ∷ (decimal variables ++ 32 ∷ decimal clauses)

head_line : (variables clauses : ℕ) (others : List ℕ) → header_line variables clauses ++ others ≡ head variables clauses ++ 10 ∷ others
head_line variables clauses others = simp append_assoc

head_bytes : (variables clauses : ℕ) → variables < 2 ^ 64 → clauses < 2 ^ 64 → All (λ b. (b == 10) ≡ false) (head variables clauses)
head_bytes variables clauses v c =
    let P : ℕ → Type 0 = λ b. (b == 10) ≡ false in
    let t : List ℕ = decimal variables ++ 32 ∷ decimal clauses in
    let numbers : All P t =
    no_feed t (both (decimal variables) (32 ∷ decimal clauses) (line_bytes (decimal variables) (decimal_digits variables v))
    (and_from true (list_all is_line_byte (decimal clauses)) refl (line_bytes (decimal clauses) (decimal_digits clauses c)))) in
    All-cons P 112 (32 ∷ 99 ∷ 110 ∷ 102 ∷ 32 ∷ t) refl
    (All-cons P 32 (99 ∷ 110 ∷ 102 ∷ 32 ∷ t) refl
    (All-cons P 99 (110 ∷ 102 ∷ 32 ∷ t) refl
    (All-cons P 110 (102 ∷ 32 ∷ t) refl
    (All-cons P 102 (32 ∷ t) refl
    (All-cons P 32 t refl numbers)))))

-- it is read again
head_again : (variables clauses : ℕ) → variables ≤ most_variables → clauses ≤ most_clauses →
    header_in (head variables clauses) ≡ Some (header variables clauses)
head_again variables clauses v c =
    let numbers : slice_split is_blank (decimal variables ++ 32 ∷ decimal clauses) ≡ decimal variables ∷ decimal clauses ∷ [] =
    slice_split_at is_blank (decimal variables) 32 (decimal clauses) (no_blank (decimal variables) (decimal_digits variables (omega arith))) refl
    ∙ ap (λ (x : List (List ℕ)). decimal variables ∷ x)
    (slice_split_none is_blank (decimal clauses) (no_blank (decimal clauses) (decimal_digits clauses (omega arith)))) in
    let pieces : slice_split is_blank (head variables clauses) ≡ (112 ∷ []) ∷ (99 ∷ 110 ∷ 102 ∷ []) ∷ decimal variables ∷ decimal clauses ∷ [] =
    rw numbers refl in
    let words : words_from 1 1 (head variables clauses)
    ≡ word_at 1 1 (112 ∷ []) ∷ word_at 1 3 (99 ∷ 110 ∷ 102 ∷ []) ∷ word_at 1 7 (decimal variables)
    ∷ word_at 1 (7 + length (decimal variables) + 1) (decimal clauses) ∷ [] =
    ap (words_among 1 1) pieces ∙ rw (decimal_some variables (omega arith), decimal_some clauses (omega arith)) refl in
    ap header_of words ∙ rw (number_again most_variables variables v (omega arith), number_again most_clauses clauses c (omega arith)) refl

-- a line for each clause
long : (cs : List (List Lit)) → length cs ≤ length (clause_lines cs)
long [] = omega arith
long (xs ∷ cs) =
    omega (arith, long cs, length-append (clause_line xs) (clause_lines cs), length-append (literal_words xs) (codes "0\n"))

all_fit : (variables : ℕ) (cs : List (List Lit)) → variables ≤ most_variables → All (All (λ (x : Lit). 0 < x.var)) cs → AreWithin variables cs →
    All (All (IsFit variables)) cs
all_fit variables [] few some within = All-nil (All (IsFit variables))
all_fit variables (xs ∷ cs) few some within =
    All-cons (All (IsFit variables)) xs cs
    (each xs (All-head (All (λ (x : Lit). 0 < x.var)) xs cs some) (All-head (All (λ (x : Lit). x.var ≤ variables)) xs cs within))
    (all_fit variables cs few (All-tail (All (λ (x : Lit). 0 < x.var)) xs cs some) (All-tail (All (λ (x : Lit). x.var ≤ variables)) xs cs within))
  where
    each : (ys : List Lit) → All (λ (x : Lit). 0 < x.var) ys → All (λ (x : Lit). x.var ≤ variables) ys → All (IsFit variables) ys
    each [] s w = All-nil (IsFit variables)
    each (y ∷ ys) s w =
        let s0 = All-head (λ (x : Lit). 0 < x.var) y ys s in
        let w0 = All-head (λ (x : Lit). x.var ≤ variables) y ys w in
        All-cons (IsFit variables) y ys (record { some = s0; within = w0; few = omega (arith, s0, w0) })
        (each ys (All-tail (λ (x : Lit). 0 < x.var) y ys s) (All-tail (λ (x : Lit). x.var ≤ variables) y ys w))

once_all : (cs : List (List Lit)) → All IsOnce cs → map once cs ≡ cs
once_all [] all = refl
once_all (xs ∷ cs) all =
    let here : once xs ≡ xs = once_is_kept xs (All-head IsOnce xs cs all) in
    let rest : map once cs ≡ cs = once_all cs (All-tail IsOnce xs cs all) in
    rw (here, rest) refl

-- the whole text
pub again : PrintedIsRead
again c p =
    let n : ℕ = length c.clauses in
    let few : n ≤ 67108864 = omega (arith, p.short, long c.clauses, length-append (header_line c.variables n) (clause_lines c.clauses)) in
    let v : c.variables ≤ most_variables = p.variables in
    let h : List ℕ = head c.variables n in
    let pieces : pieces_of (cnf_text c) ≡ h ∷ pieces_of (clause_lines c.clauses) =
    ap pieces_of (head_line c.variables n (clause_lines c.clauses))
    ∙ slice_split_at (λ b. b == 10) h 10 (clause_lines c.clauses) (head_bytes c.variables n (omega arith) (omega arith)) refl in
    let rest : List Line = numbered 2 (pieces_of (clause_lines c.clauses)) in
    let read : (end : TextPlace) → cnf_in (line 1 h ∷ content_of rest) end ≡ Ok (cnf c.variables (map once c.clauses)) = λ end.
    header_step (line 1 h) (content_of rest) end
    ∙ ap (by_header (line 1 h) (content_of rest) end) (head_again c.variables n v (omega arith))
    ∙ ap (over c.variables) (lines_read c.variables end 2 c.clauses (all_fit c.variables c.clauses v p.numbered p.within)) in
    ap (λ (x : List (List ℕ)). cnf_in (content_of (numbered 1 x)) (end_from (place 1 1) (numbered 1 x))) pieces
    ∙ ap (λ (ls : List Line). cnf_in ls (end_from (place 1 1) (line 1 h ∷ rest))) (content_kept (line 1 h) rest refl refl)
    ∙ read (end_from (place 1 1) (line 1 h ∷ rest))
    ∙ ap (λ (cs : List (List Lit)). Ok (cnf c.variables cs)) (once_all c.clauses p.once)
