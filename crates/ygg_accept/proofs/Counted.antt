-- A text has at most as many tokens as bytes.
use Rattle.std.proofs.Common.{
  ◌≡◌,
  ℕ,
  ◌+◌,
  ◌≤◌,
  ◌<◌,
  ◌^◌,
  Bool,
  true,
  false,
  if◌then◌else◌,
  List,
  [],
  ◌∷◌,
  ◌++◌,
  length,
  Option,
  Some,
  None,
  Ok,
  Err,
  subst,
  arith,
}
use Rattle.ygg_base.specs.declared.reason.Reason.TheVariants as reason
use Rattle.ygg_base.specs.declared.token.Mark.{Mark}
use Rattle.ygg_base.specs.declared.tokens.Tokens.{Tokens}
use Rattle.ygg_base.specs.Lexing.{
  Lexed,
  lex,
  begin,
  closed,
  ended,
  extends,
  is_past_ascii,
  refused,
  token_before,
  tokens_of,
  line_after,
  column_after,
  recognized,
}

-- 1 where a token or comment has begun
abbrev held : List ℕ → ℕ
held [] = 0
held (b ∷ bs) = 1

held_most : (part : List ℕ) → held part ≤ 1
held_most [] = omega arith
held_most (b ∷ bs) = omega arith

-- at most so many tokens
abbrev AtMost : Lexed → ℕ → Type 0
AtMost (Ok tokens) n = length tokens.items ≤ n
AtMost (Err refusal) n = Unit {0}

weaker : (found : Lexed) (m n : ℕ) → m ≤ n → AtMost found m → AtMost found n
weaker (Ok tokens) m n less most = omega (arith, less, most)
weaker (Err refusal) m n less most = tt

either_most : (b : Bool) (x y : Lexed) (n : ℕ) → AtMost x n → AtMost y n → AtMost (if b then x else y) n
either_most true x y n first second = first
either_most false x y n first second = second

token_most : (what : Option Mark) (line column : ℕ) (others : Lexed) (n : ℕ) → AtMost others n → AtMost (token_before what line column others) (1 + n)
token_most None line column others n most = tt
token_most (Some what) line column (Ok others) n most = omega (arith, most)
token_most (Some what) line column (Err refusal) n most = tt

closed_most : (part : List ℕ) (line column : ℕ) (others : Lexed) (n : ℕ) → AtMost others n → AtMost (closed part line column others) (held part + n)
closed_most [] line column others n most = weaker others n (0 + n) (omega arith) most
closed_most (first ∷ more) line column others n most =
    either_most _ others (token_before (recognized (first ∷ more)) line column others) (1 + n)
    (weaker others n (1 + n) (omega arith) most) (token_most _ line column others n most)

lex_most : (part : List ℕ) (begun line column : ℕ) (text : List ℕ) → AtMost (lex part begun line column text) (held part + length text)
lex_most part begun line column [] = closed_most part line begun (ended line column) 0 (omega arith)
lex_most part begun line column (b ∷ bs) =
    let n : ℕ = held part + length (b ∷ bs) in
    let longer = lex_most (part ++ b ∷ []) begun line (column + 1) bs in
    let others = lex_most (begin b) column (line_after b line) (column_after b column) bs in
    let one = held_most (part ++ b ∷ []) in
    let none = held_most (begin b) in
    let more : Lexed = lex (part ++ b ∷ []) begun line (column + 1) bs in
    let anew : Lexed = lex (begin b) column (line_after b line) (column_after b column) bs in
    let stopped : Lexed = refused reason.NotAscii line column in
    either_most (is_past_ascii b) (closed part line begun stopped) (if extends part b then more else closed part line begun anew) n
    (closed_most part line begun stopped (length (b ∷ bs)) tt)
    (either_most (extends part b) more (closed part line begun anew) n
    (weaker more (held (part ++ b ∷ []) + length bs) n (omega (arith, one)) longer)
    (weaker (closed part line begun anew) (held part + (held (begin b) + length bs)) n (omega (arith, none))
    (closed_most part line begun anew (held (begin b) + length bs) others)))

pub few_tokens : (text : List ℕ) (tokens : Tokens) → length text ≤ 1048576 → tokens_of text ≡ Ok tokens → length tokens.items < 2 ^ 32
few_tokens text tokens small spells =
    let P : Lexed → Type 0 = λ found. AtMost found (0 + length text) in
    let most : length tokens.items ≤ 0 + length text = subst P spells (lex_most [] 1 1 1 text) in
    omega (arith, most, small)
