-- The rules give what the definition says.
use Rattle.std.proofs.Common.{
  ◌≡◌,
  ◌⊎◌,
  inl,
  inr,
  ℕ,
  ◌+◌,
  true,
  false,
  ◌==◌,
  is_some,
  List,
  [],
  ◌∷◌,
  ◌++◌,
  length,
  Option,
  Some,
  None,
  arith,
  refl,
  sym,
  append_assoc,
  subst,
}
use Rattle.std.specs.List.{list_all}
use Rattle.std.proofs.lemmas.Bool.{cases_Bool, both_ways, eqb-true, eqb-false}
use Rattle.std.proofs.lemmas.List.{length_push}
use Rattle.ygg_base.specs.declared.reason.Reason.TheVariants as reason
use Rattle.ygg_base.specs.declared.token.Mark.{Mark}
use Rattle.ygg_base.specs.Lexing.{
  is_lower,
  is_digit,
  is_past_ascii,
  is_blank,
  symbol_of,
  extends,
  closed,
  refused,
  ended,
  lex,
  Lexed,
  recognized,
  token_before,
  line_after,
  column_after,
}
use Rattle.ygg_lex.specs.Rules.{
  IsLexeme,
  IsLongest,
  BeginsNone,
  is_comment_byte,
  Reads,
  at_end,
  blank,
  comment,
  token,
  no_number,
  stray,
  past_ascii,
  past_ascii_in_comment,
}
use Rattle.ygg_lex.proofs.Lexemes.{first_of, munch, next_is_ascii, grows, not_recognized, pair_is_lexeme, all_more}
use Rattle.ygg_lex.proofs.Runs.{step, closes, Stops}
use Rattle.ygg_lex.proofs.Agree.{begins_part}

-- what the rules give after a front of a text, for what is left of it
record Claim (text : List ℕ) : Type 0 where
  pub nothing : (c line column : ℕ) → Reads text line column (lex [] c line column text)
  pub in_comment : (words : List ℕ) (begun line column : ℕ) → column ≡ begun + 1 + length words → list_all is_comment_byte words ≡ true
      → Reads (35 ∷ words ++ text) line begun (lex (35 ∷ words) begun line column text)
  pub in_lexeme : (first : ℕ) (others : List ℕ) (begun line column : ℕ) → column ≡ begun + length (first ∷ others) → IsLexeme (first ∷ others)
      → Reads (first ∷ others ++ text) line begun (lex (first ∷ others) begun line column text)
  pub after_stray : (b begun line column : ℕ) → column ≡ begun + 1 → is_past_ascii b ≡ false → is_blank b ≡ false → (b == 35) ≡ false → (IsLexeme (b ∷ []) → ⊥)
      → Reads (b ∷ text) line begun (lex (b ∷ []) begun line column text)

no_cons : (x y : ℕ) (xs ys : List ℕ) → x ∷ xs ≡ y ∷ ys → (x ≡ y) × (xs ≡ ys)
no_cons x y xs ys is = (cc, cc)

not_nil : (b : ℕ) (bs : List ℕ) → [] ≡ b ∷ bs → ⊥
not_nil b bs is = cc

longest_of : (first : ℕ) (others rest : List ℕ) → IsLexeme (first ∷ others) → Stops (first ∷ others) rest → IsLongest (first ∷ others) rest
longest_of first others rest lexeme stops = record { lexeme = lexeme; longest = none_longer rest stops }
  where
    none_longer : (rest : List ℕ) → Stops (first ∷ others) rest → (more after : List ℕ) → rest ≡ more ++ after → IsLexeme (first ∷ others ++ more) → more ≡ []
    none_longer rest stops [] after is longer = refl
    none_longer [] stops (m ∷ more) after is longer = absurd (not_nil m (more ++ after) is)
    none_longer (b ∷ bs) stops (m ∷ more) after is longer =
        let same = no_cons b m bs (more ++ after) is in
        absurd (both_ways _ (stops (rw same.0 (next_is_ascii first others m more longer))) (rw same.0 (munch first others m more longer)))

none_of : (b : ℕ) (rest : List ℕ) → (IsLexeme (b ∷ []) → ⊥) → Stops (b ∷ []) rest → BeginsNone (b ∷ rest)
none_of b rest none stops [] after is lexeme = lexeme
none_of b rest none stops (x ∷ []) after is lexeme = none (rw (no_cons b x rest after is).0 lexeme)
none_of b [] none stops (x ∷ y ∷ ys) after is lexeme = not_nil y (ys ++ after) (no_cons b x [] (y ∷ ys ++ after) is).1
none_of b (d ∷ ds) none stops (x ∷ y ∷ ys) after is lexeme =
    let first = no_cons b x (d ∷ ds) (y ∷ ys ++ after) is in
    let second = no_cons d y ds (ys ++ after) first.1 in
    both_ways _ (stops (rw second.0 (next_is_ascii x [] y ys lexeme))) (rw (first.0, second.0) (munch x [] y ys lexeme))

-- a lexeme that ends here
as_token : (first : ℕ) (others rest : List ℕ) (begun line column : ℕ) (later : Lexed) → column ≡ begun + length (first ∷ others) → IsLexeme (first ∷ others)
    → Stops (first ∷ others) rest → Reads rest line column later → Reads (first ∷ others ++ rest) line begun (closed (first ∷ others) line begun later)
as_token first others rest begun line column later columns lexeme stops reads =
    rw (first_of first others lexeme).comment (by_mark (recognized (first ∷ others)) refl)
  where
    by_mark : (mark : Option Mark) → recognized (first ∷ others) ≡ mark → Reads (first ∷ others ++ rest) line begun (token_before mark line begun later)
    by_mark None is = no_number (first ∷ others) rest line begun (longest_of first others rest lexeme stops) is
    by_mark (Some mark) is =
        let P : ℕ → Type 0 = λ k. Reads rest line k later in
        token (first ∷ others) rest line begun mark later (longest_of first others rest lexeme stops) is (subst P columns reads)

as_stray : (b : ℕ) (rest : List ℕ) (begun line : ℕ) (later : Lexed) → is_past_ascii b ≡ false → is_blank b ≡ false → (b == 35) ≡ false → (IsLexeme (b ∷ []) → ⊥)
    → Stops (b ∷ []) rest → Reads (b ∷ rest) line begun (closed (b ∷ []) line begun later)
as_stray b rest begun line later ascii solid other none stops =
    rw (other, not_recognized b none) (stray b rest line begun ascii solid (eqb-false b 35 other) (none_of b rest none stops))

claim_end : Claim []
claim_end = record {
  nothing = λ c line column. at_end line column;
  in_comment = λ words begun line column columns all.
      let P : ℕ → Type 0 = λ k. Reads [] line k (ended line column) in
      comment words [] line begun (ended line column) all tt (subst P columns (at_end line column));
  in_lexeme = λ first others begun line column columns lexeme. as_token first others [] begun line column (ended line column) columns lexeme tt
      (at_end line column);
  after_stray = λ b begun line column columns ascii solid other none. as_stray b [] begun line (ended line column) ascii solid other none tt;
}

none_is : (b : ℕ) → is_lower b ≡ false → is_digit b ≡ false → is_some (symbol_of (b ∷ [])) ≡ false → IsLexeme (b ∷ []) → ⊥
none_is b lower digit symbol (inl word) = both_ways _ lower word.0
none_is b lower digit symbol (inr (inl digits)) = both_ways _ digit digits.0
none_is b lower digit symbol (inr (inr sign)) = both_ways _ symbol sign

lexeme_or_none : (b : ℕ) → IsLexeme (b ∷ []) ⊎ (IsLexeme (b ∷ []) → ⊥)
lexeme_or_none b =
    elim (cases_Bool (is_lower b)) [
      | inl lower ↦ inl (inl (lower, refl))
      | inr lower ↦ elim (cases_Bool (is_digit b)) [
        | inl digit ↦ inl (inr (inl (digit, refl)))
        | inr digit ↦ elim (cases_Bool (is_some (symbol_of (b ∷ [])))) [
          | inl symbol ↦ inl (inr (inr symbol))
          | inr symbol ↦ inr (none_is b lower digit symbol)
        ]
      ]
    ]

-- a byte after nothing
nothing_byte : (b : ℕ) (bs : List ℕ) → Claim bs → (c line column : ℕ) → Reads (b ∷ bs) line column (lex [] c line column (b ∷ bs))
nothing_byte b bs later c line column =
    elim (cases_Bool (is_past_ascii b)) [
      | inl past ↦ rw past (past_ascii b bs line column past)
      | inr ascii ↦ elim (cases_Bool (is_blank b)) [
        | inl gap ↦ rw (ascii, gap) (blank b bs line column _ gap (later.nothing column (line_after b line) (column_after b column)))
        | inr solid ↦ rw (begins_part b bs c line column ascii solid) (part_byte ascii solid)
      ]
    ]
  where
    part_byte : is_past_ascii b ≡ false → is_blank b ≡ false → Reads (b ∷ bs) line column (lex (b ∷ []) column line (column + 1) bs)
    part_byte ascii solid =
        elim (cases_Bool (b == 35)) [
          | inl sign ↦ rw (eqb-true b 35 sign) (later.in_comment [] column line (column + 1) (omega arith) refl)
          | inr other ↦ elim (lexeme_or_none b) [
            | inl lexeme ↦ later.in_lexeme b [] column line (column + 1) refl lexeme
            | inr none ↦ later.after_stray b column line (column + 1) refl ascii solid other none
          ]
        ]

-- a byte in a comment
comment_byte : (b : ℕ) (bs : List ℕ) → Claim bs → (words : List ℕ) (begun line column : ℕ) → column ≡ begun + 1 + length words →
    list_all is_comment_byte words ≡ true
    → Reads (35 ∷ words ++ b ∷ bs) line begun (lex (35 ∷ words) begun line column (b ∷ bs))
comment_byte b bs later words begun line column columns all =
    elim (cases_Bool (is_past_ascii b)) [
      | inl past ↦
          let P : ℕ → Type 0 = λ k. Reads (35 ∷ words ++ b ∷ bs) line begun (refused reason.NotAscii line k) in
          rw past (subst P (sym columns) (past_ascii_in_comment words b bs line begun all past))
      | inr ascii ↦ elim (cases_Bool (b == 10)) [
        | inl feed ↦
            let P : ℕ → Type 0 = λ k. Reads (b ∷ bs) line k (lex [] 0 line column (b ∷ bs)) in
            rw (closes (35 ∷ words) (b ∷ bs) begun line column 0 (λ _. rw feed refl))
            (comment words (b ∷ bs) line begun _ all (eqb-true b 10 feed) (subst P columns (nothing_byte b bs later 0 line column)))
        | inr more ↦
            let whole : words ++ b ∷ [] ++ bs ≡ words ++ (b ∷ bs) = append_assoc words (b ∷ []) bs in
            let one : is_comment_byte b ≡ true = rw (ascii, more) refl in
            let further : column + 1 ≡ begun + 1 + length (words ++ b ∷ []) = omega (arith, length_push words b) in
            rw (step (35 ∷ words) b bs begun line column ascii (rw more refl))
            (rw whole at (later.in_comment (words ++ b ∷ []) begun line (column + 1) further (all_more is_comment_byte words b all one)))
      ]
    ]

-- whether a byte makes a part longer or stops it
cases_Stops : (part : List ℕ) (b : ℕ) (bs : List ℕ) → ((is_past_ascii b ≡ false) × (extends part b ≡ true)) ⊎ Stops part (b ∷ bs)
cases_Stops part b bs =
    elim (cases_Bool (is_past_ascii b)) [
      | inl past ↦ inr (λ ascii. absurd (both_ways _ ascii past))
      | inr ascii ↦ elim (cases_Bool (extends part b)) [ inl more ↦ inl (ascii, more) | inr ends ↦ inr (λ _. ends) ]
    ]

-- a byte after a lexeme's bytes
lexeme_byte : (b : ℕ) (bs : List ℕ) → Claim bs → (first : ℕ) (others : List ℕ) (begun line column : ℕ) → column ≡ begun + length (first ∷ others)
    → IsLexeme (first ∷ others) → Reads (first ∷ others ++ b ∷ bs) line begun (lex (first ∷ others) begun line column (b ∷ bs))
lexeme_byte b bs later first others begun line column columns lexeme =
    elim (cases_Stops (first ∷ others) b bs) [
      | inl more ↦
          let whole : others ++ b ∷ [] ++ bs ≡ others ++ (b ∷ bs) = append_assoc others (b ∷ []) bs in
          let further : column + 1 ≡ begun + length (first ∷ (others ++ b ∷ [])) = omega (arith, length_push others b) in
          rw (step (first ∷ others) b bs begun line column more.0 more.1)
          (rw whole at (later.in_lexeme first (others ++ b ∷ []) begun line (column + 1) further (grows first others b lexeme more.1)))
      | inr stops ↦
          rw (closes (first ∷ others) (b ∷ bs) begun line column 0 stops)
          (as_token first others (b ∷ bs) begun line column (lex [] 0 line column (b ∷ bs)) columns lexeme stops (nothing_byte b bs later 0 line column))
    ]

-- a byte after one that is no lexeme
stray_byte : (b : ℕ) (bs : List ℕ) → Claim bs → (a begun line column : ℕ) → column ≡ begun + 1 → is_past_ascii a ≡ false → is_blank a ≡ false →
    (a == 35) ≡ false
    → (IsLexeme (a ∷ []) → ⊥) → Reads (a ∷ b ∷ bs) line begun (lex (a ∷ []) begun line column (b ∷ bs))
stray_byte b bs later a begun line column columns ascii solid other none =
    elim (cases_Stops (a ∷ []) b bs) [
      | inl more ↦
          rw (step (a ∷ []) b bs begun line column more.0 more.1)
          (later.in_lexeme a (b ∷ []) begun line (column + 1) (omega arith) (pair_is_lexeme a b none other more.1))
      | inr stops ↦
          rw (closes (a ∷ []) (b ∷ bs) begun line column 0 stops)
          (as_stray a (b ∷ bs) begun line (lex [] 0 line column (b ∷ bs)) ascii solid other none stops)
    ]

claim_byte : (b : ℕ) (bs : List ℕ) → Claim bs → Claim (b ∷ bs)
claim_byte b bs later = record {
  nothing = nothing_byte b bs later;
  in_comment = comment_byte b bs later;
  in_lexeme = lexeme_byte b bs later;
  after_stray = stray_byte b bs later;
}

claim : (text : List ℕ) → Claim text
claim [] = claim_end
claim (b ∷ bs) = claim_byte b bs (claim bs)

pub follows : (text : List ℕ) → Reads text 1 1 (lex [] 1 1 1 text)
follows text = (claim text).nothing 1 1 1
