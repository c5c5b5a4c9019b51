-- What is read of a line, and that it can be continued.
use Rattle.std.proofs.Common.{◌≡◌, ℕ, true, List, [], ◌∷◌, ◌++◌, refl, sym, ap, subst, ◌∙◌, append_assoc, arith}
use Rattle.std.specs.Prelude.{codes}
use Rattle.std.specs.Fmt.{decimal}
use Rattle.std.proofs.lemmas.Fmt.{decimal_digit}
use Rattle.std.proofs.lemmas.List.Elements.{All-nil, All-push}
use Rattle.ygg_cnf.specs.declared.lit.Lit.{Lit}
use Rattle.ygg_cnf.specs.declared.log.Step.{Step}
use Rattle.ygg_cnf.specs.declared.log.Step.TheVariants.{Added}
use Rattle.ygg_cnf.specs.Lines.{literal_word, literal_words, number_words, step_line}
use Rattle.ygg_cnf.specs.declared.spot.Spot.{Spot}
use Rattle.ygg_cnf.specs.declared.spot.Spot.TheVariants as spot
use Rattle.ygg_cnf.specs.declared.spot.SpotTurn.TheVariants as turn
use Rattle.ygg_cnf.specs.declared.reader.StepReader.{StepReader}
use Rattle.ygg_cnf.specs.Steps.{IsNumber, IsLiteral, IsStep, HasStep, BeginsStep}
use Rattle.ygg_cnf.specs.Spots.{IsSpot, front_of, GoesOn, Leads, Turns}
use Rattle.ygg_cnf.specs.Reading.{IsReading}
use Rattle.ygg_cnf.proofs.Words.{line_goes_on, literals_more, numbers_more}

-- no bytes
pub reads_none : (clause : List Lit) (chain : List ℕ) → clause ≡ [] → chain ≡ []
    → IsReading [] (record { spot = spot.Begin; clause = clause; chain = chain })
reads_none clause chain no_literals no_numbers = record {
  front = refl;
  on = λ more has. line_goes_on more has;
  place = tt;
  bare = (no_literals, no_numbers);
  may = record { literals = rw no_literals (All-nil IsLiteral); numbers = rw no_numbers (All-nil IsNumber) };
}

-- one more byte
pub reads_on : (before : List ℕ) (byte : ℕ) (from to : Spot) (grow : List Lit → List Lit) (reach : List ℕ → List ℕ) (clause : List Lit) (chain : List ℕ) →
    IsReading before (record { spot = from; clause = clause; chain = chain })
    → Leads from byte to grow reach → IsStep (Added (grow clause) (reach chain))
    → IsReading (before ++ byte ∷ []) (record { spot = to; clause = grow clause; chain = reach chain })
reads_on before byte from to grow reach clause chain was leads may = record {
  front = ap (λ (x : List ℕ). x ++ byte ∷ []) was.front ∙ sym (leads.front clause chain was.bare);
  on = λ more has. leads.on more (was.on (byte ∷ more) (subst HasStep (append_assoc before (byte ∷ []) more) has));
  place = leads.is;
  bare = leads.bare clause chain was.bare;
  may = may;
}

-- a byte that is wrong
pub reads_wrong : (before : List ℕ) (byte : ℕ) (from : Spot) (clause : List Lit) (chain : List ℕ) →
    IsReading before (record { spot = from; clause = clause; chain = chain })
    → ((bytes : List ℕ) → GoesOn from (byte ∷ bytes) → ⊥) → BeginsStep (before ++ byte ∷ []) → ⊥
reads_wrong before byte from clause chain was wrong (more, has) =
    wrong more (was.on (byte ∷ more) (subst HasStep (append_assoc before (byte ∷ []) more) has))

-- one more literal, and one more number
pub with_literal : (clause : List Lit) (chain : List ℕ) (x : Lit) → IsStep (Added clause chain) → IsLiteral x → IsStep (Added (clause ++ x ∷ []) chain)
with_literal clause chain x may is = record { literals = All-push IsLiteral clause x may.literals is; numbers = may.numbers }

pub with_number : (clause : List Lit) (chain : List ℕ) (n : ℕ) → IsStep (Added clause chain) → IsNumber n → IsStep (Added clause (chain ++ n ∷ []))
with_number clause chain n may is = record { literals = may.literals; numbers = All-push IsNumber chain n may.numbers is }

-- a byte that ends a literal, and one that ends a number
pub reads_literal : (before : List ℕ) (byte : ℕ) (from : Spot) (clause : List Lit) (chain : List ℕ) (x : Lit) (longer : List Lit) →
    IsReading before (record { spot = from; clause = clause; chain = chain })
    → (IsSpot from → Turns from byte (turn.Literal x)) → longer ≡ clause ++ x ∷ []
    → IsReading (before ++ byte ∷ []) (record { spot = spot.Literal; clause = longer; chain = chain })
reads_literal before byte from clause chain x longer was turns is =
    let turned = turns was.place in
    rw is
    (reads_on before byte from spot.Literal (λ c. c ++ x ∷ []) (λ h. h) clause chain was turned.1 (with_literal clause chain x was.may turned.0))

pub reads_number : (before : List ℕ) (byte : ℕ) (from : Spot) (clause : List Lit) (chain : List ℕ) (n : ℕ) (longer : List ℕ) →
    IsReading before (record { spot = from; clause = clause; chain = chain })
    → (IsSpot from → Turns from byte (turn.Number n)) → longer ≡ chain ++ n ∷ []
    → IsReading (before ++ byte ∷ []) (record { spot = spot.Number; clause = clause; chain = longer })
reads_number before byte from clause chain n longer was turns is =
    let turned = turns was.place in
    rw is
    (reads_on before byte from spot.Number (λ c. c) (λ h. h ++ n ∷ []) clause chain was turned.1 (with_number clause chain n was.may turned.0))

-- some bytes continue these to the line of a step
pub record CanEnd (bytes : List ℕ) : Type 0 where
  pub step : Step
  pub may : IsStep step
  pub next : ℕ
  pub others : List ℕ
  pub is : bytes ++ next ∷ others ≡ step_line step

-- a literal that ends a line
one_literal : (clause : List Lit) (x : Lit) (word : List ℕ) → literal_word x ≡ word
    → step_line (Added (clause ++ x ∷ []) []) ≡ (codes "c " ++ literal_words clause ++ word) ++ codes " 0 0\n"
one_literal clause x word is =
    ap (λ (y : List ℕ). codes "c " ++ y ++ codes "0 " ++ [] ++ codes "0\n") (literals_more clause x)
    ∙ ap (λ (w : List ℕ). codes "c " ++ (literal_words clause ++ w ++ 32 ∷ []) ++ codes "0 " ++ [] ++ codes "0\n") is
    ∙ grouped (literal_words clause) word
  where
    grouped : (xs w : List ℕ) → codes "c " ++ (xs ++ w ++ 32 ∷ []) ++ codes "0 " ++ [] ++ codes "0\n" ≡ (codes "c " ++ xs ++ w) ++ codes " 0 0\n"
    grouped xs w = simp append_assoc

-- a number that ends a line
one_number : (clause : List Lit) (chain : List ℕ) (n : ℕ)
    → step_line (Added clause (chain ++ n ∷ [])) ≡ (codes "c " ++ literal_words clause ++ codes "0 " ++ number_words chain ++ decimal n) ++ codes " 0\n"
one_number clause chain n =
    ap (λ (y : List ℕ). codes "c " ++ literal_words clause ++ codes "0 " ++ y ++ codes "0\n") (numbers_more chain n)
    ∙ grouped (codes "c " ++ literal_words clause ++ codes "0 ") (number_words chain) (decimal n)
  where
    grouped : (xs ns d : List ℕ) → xs ++ (ns ++ d ++ 32 ∷ []) ++ codes "0\n" ≡ (xs ++ ns ++ d) ++ codes " 0\n"
    grouped xs ns d = simp append_assoc

-- what is read can be continued to a line
pub can_end : (bytes : List ℕ) (reader : StepReader) → IsReading bytes reader → CanEnd bytes
can_end bytes reader was = by_spot reader.spot was.place was.front
  where
    no_literals : IsStep (Added [] [])
    no_literals = record { literals = All-nil IsLiteral; numbers = All-nil IsNumber }

    no_numbers : IsStep (Added reader.clause [])
    no_numbers = record { literals = was.may.literals; numbers = All-nil IsNumber }

    with_one : (x : Lit) → IsLiteral x → IsStep (Added (reader.clause ++ x ∷ []) [])
    with_one x is = record { literals = All-push IsLiteral reader.clause x was.may.literals is; numbers = All-nil IsNumber }

    minus_one : Lit
    minus_one = record { var = 1; negated = true }

    plain : (xs : List ℕ) → (codes "c " ++ xs) ++ codes "0 0\n" ≡ codes "c " ++ xs ++ codes "0 " ++ [] ++ codes "0\n"
    plain xs = simp append_assoc

    zero_read : (xs : List ℕ) → (codes "c " ++ xs ++ codes "0") ++ codes " 0\n" ≡ codes "c " ++ xs ++ codes "0 " ++ [] ++ codes "0\n"
    zero_read xs = simp append_assoc

    minus_read : (xs : List ℕ) → (codes "c " ++ xs ++ codes "-") ++ codes "1 0 0\n" ≡ (codes "c " ++ xs ++ 45 ∷ 49 ∷ []) ++ codes " 0 0\n"
    minus_read xs = simp append_assoc

    last_read : (xs ns : List ℕ) → (xs ++ ns ++ codes "0") ++ codes "\n" ≡ xs ++ ns ++ codes "0\n"
    last_read xs ns = simp append_assoc

    by_spot : (s : Spot) → IsSpot s → bytes ≡ front_of s reader.clause reader.chain → CanEnd bytes
    by_spot spot.Begin is front = record { step = Added [] []; may = no_literals; next = 99; others = codes " 0 0\n"; is = rw front refl }
    by_spot spot.Opened is front = record { step = Added [] []; may = no_literals; next = 32; others = codes "0 0\n"; is = rw front refl }
    by_spot spot.Literal is front = record {
      step = Added reader.clause [];
      may = no_numbers;
      next = 48;
      others = codes " 0\n";
      is = ap (λ (x : List ℕ). x ++ codes "0 0\n") front ∙ plain (literal_words reader.clause);
    }
    by_spot spot.Minus is front = record {
      step = Added (reader.clause ++ minus_one ∷ []) [];
      may = with_one minus_one (omega arith, omega arith);
      next = 49;
      others = codes " 0 0\n";
      is = ap (λ (x : List ℕ). x ++ codes "1 0 0\n") front ∙ minus_read (literal_words reader.clause)
          ∙ sym (one_literal reader.clause minus_one (45 ∷ 49 ∷ []) (ap (λ (x : List ℕ). 45 ∷ x) (decimal_digit 1 (omega arith))));
    }
    by_spot (spot.Variable negated n) is front = record {
      step = Added (reader.clause ++ record { var = n; negated = negated } ∷ []) [];
      may = with_one (record { var = n; negated = negated }) is;
      next = 32;
      others = codes "0 0\n";
      is = ap (λ (x : List ℕ). x ++ codes " 0 0\n") front
          ∙ sym (one_literal reader.clause (record { var = n; negated = negated }) (literal_word (record { var = n; negated = negated })) refl);
    }
    by_spot spot.Middle is front = record {
      step = Added reader.clause [];
      may = no_numbers;
      next = 32;
      others = codes "0\n";
      is = ap (λ (x : List ℕ). x ++ codes " 0\n") front ∙ zero_read (literal_words reader.clause);
    }
    by_spot spot.Number is front = record {
      step = Added reader.clause reader.chain;
      may = was.may;
      next = 48;
      others = codes "\n";
      is = ap (λ (x : List ℕ). x ++ codes "0\n") front;
    }
    by_spot (spot.Digits n) is front = record {
      step = Added reader.clause (reader.chain ++ n ∷ []);
      may = with_number reader.clause reader.chain n was.may is;
      next = 32;
      others = codes "0\n";
      is = ap (λ (x : List ℕ). x ++ codes " 0\n") front ∙ sym (one_number reader.clause reader.chain n);
    }
    by_spot spot.End is front = record {
      step = Added reader.clause reader.chain;
      may = was.may;
      next = 10;
      others = [];
      is = ap (λ (x : List ℕ). x ++ codes "\n") front ∙ last_read (codes "c " ++ literal_words reader.clause ++ codes "0 ") (number_words reader.chain);
    }
