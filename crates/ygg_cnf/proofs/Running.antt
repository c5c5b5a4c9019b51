-- Literals and the numbers of clauses, byte by byte.
use Rattle.std.proofs.Common.{
  ◌≡◌,
  ℕ,
  zero,
  suc,
  ◌+◌,
  ◌-◌,
  ◌*◌,
  ◌^◌,
  ◌<◌,
  ◌≤◌,
  Bool,
  true,
  false,
  List,
  [],
  ◌∷◌,
  ◌++◌,
  length,
  take,
  get_or,
  refl,
  sym,
  ap,
  subst,
  ◌∙◌,
  append_assoc,
  arith,
}
use Rattle.std.proofs.lemmas.List.{append-nil, take_more}
use Rattle.ygg_cnf.specs.declared.lit.Lit.{Lit}
use Rattle.ygg_cnf.specs.declared.spot.Spot.{Spot}
use Rattle.ygg_cnf.specs.declared.spot.Spot.TheVariants as spot
use Rattle.ygg_cnf.specs.declared.spot.SpotTurn.TheVariants as turn
use Rattle.ygg_cnf.specs.declared.reader.StepReader.{StepReader}
use Rattle.ygg_cnf.specs.Spots.{IsSpot, Turns}
use Rattle.ygg_cnf.specs.Reading.{IsReading}
use Rattle.ygg_cnf.specs.Runs.{spot_of, part_spot, reader_at, IsRun}
use Rattle.ygg_cnf.proofs.Turning.{number_digit, digits_digit, digits_space}
use Rattle.ygg_cnf.proofs.Turning.{literal_digit, literal_minus, minus_digit, variable_digit, variable_space}
use Rattle.ygg_cnf.proofs.Ending.{reads_on, reads_literal, reads_number}

-- in the digits of a number
pub some_spot : (n : ℕ) → 0 < n → spot_of n ≡ spot.Digits n
some_spot zero some = absurd (omega (arith, some))
some_spot (suc n) some = refl

pub no_spot : (n : ℕ) → n ≡ 0 → spot_of n ≡ spot.Number
no_spot n e = rw e refl

pub some_of : (n : ℕ) → (n ≡ 0 → ⊥) → 0 < n
some_of zero never = absurd (never refl)
some_of (suc n) never = omega arith

-- one more digit
digit_from : (n m b : ℕ) → n < 2 ^ 64 → 48 ≤ b → b < 58 → m ≡ 10 * n + (b - 48) → 0 < m → m < 2 ^ 64 → Turns (spot_of n) b (turn.To (spot.Digits m))
digit_from zero m b fits low high e some small = number_digit b m (omega (arith, e, some)) high (omega (arith, e))
digit_from (suc n) m b fits low high e some small = digits_digit (suc n) m b (omega arith, fits) low high e small

pub digit_turns : (n m b : ℕ) → n < 2 ^ 64 → 48 ≤ b → b < 58 → m ≡ 10 * n + (b - 48) → 0 < m → m < 2 ^ 64 → Turns (spot_of n) b (turn.To (spot_of m))
digit_turns n m b fits low high e some small = rw (some_spot m some) (digit_from n m b fits low high e some small)

pub space_turns : (n b : ℕ) → n < 2 ^ 64 → 0 < n → b ≡ 32 → Turns (spot_of n) b (turn.Number n)
space_turns n b fits some is = rw (some_spot n some, is) (digits_space n (some, fits))

-- in the digits of a literal's variable
pub some_part : (n : ℕ) (negated : Bool) → 0 < n → part_spot n negated ≡ spot.Variable negated n
some_part zero negated some = absurd (omega (arith, some))
some_part (suc n) negated some = refl

part_from : (n m b : ℕ) (negated : Bool) → n < 2 ^ 64 → 48 ≤ b → b < 58 → m ≡ 10 * n + (b - 48) → 0 < m → m < 2 ^ 64 →
    Turns (part_spot n negated) b (turn.To (spot.Variable negated m))
part_from zero m b false fits low high e some small = literal_digit b m (omega (arith, e, some)) high (omega (arith, e))
part_from zero m b true fits low high e some small = minus_digit b m (omega (arith, e, some)) high (omega (arith, e))
part_from (suc n) m b negated fits low high e some small = variable_digit negated (suc n) m b (omega arith, fits) low high e small

pub part_turns : (n m b : ℕ) (negated : Bool) → n < 2 ^ 64 → 48 ≤ b → b < 58 → m ≡ 10 * n + (b - 48) → 0 < m → m < 2 ^ 64 →
    Turns (part_spot n negated) b (turn.To (part_spot m negated))
part_turns n m b negated fits low high e some small = rw (some_part m negated some) (part_from n m b negated fits low high e some small)

pub part_ends : (n b : ℕ) (negated : Bool) → n < 2 ^ 64 → 0 < n → b ≡ 32 →
    Turns (part_spot n negated) b (turn.Literal (record { var = n; negated = negated }))
part_ends n b negated fits some is = rw (some_part n negated some, is) (variable_space negated n (some, fits))

pub part_minus : (n b : ℕ) (negated : Bool) → n ≡ 0 → negated ≡ false → b ≡ 45 → Turns (part_spot n negated) b (turn.To (part_spot 0 true))
part_minus n b negated none plain is = rw (none, plain, is) literal_minus

-- a run of no bytes
pub no_run : (piece : List ℕ) (r : StepReader) → IsRun piece r r 0
no_run piece r = record { within = omega arith; reading = λ before was. subst (λ (x : List ℕ). IsReading x r) (sym (append-nil before)) was }

-- the bytes of a run are counted
pub counted : (piece : List ℕ) (old new : StepReader) (count i : ℕ) → count ≡ i → IsRun piece old new i → IsRun piece old new count
counted piece old new count i e run = subst (IsRun piece old new) (sym e) run

-- a run of one more byte
pub one_more : (piece : List ℕ) (i : ℕ) (old now new : StepReader) → i < length piece → IsRun piece old now i
    → ((bytes : List ℕ) → IsReading bytes now → IsReading (bytes ++ get_or piece i 0 ∷ []) new) → IsRun piece old new (i + 1)
one_more piece i old now new within run on = record {
  within = omega (arith, within);
  reading = λ before was.
      subst (λ (x : List ℕ). IsReading x new)
      (append_assoc before (take i piece) (get_or piece i 0 ∷ []) ∙ ap (λ (x : List ℕ). before ++ x) (sym (take_more piece i 0 within)))
      (on (before ++ take i piece) (run.reading before was));
}

pub run_digit : (piece : List ℕ) (i : ℕ) (old : StepReader) (clause : List Lit) (chain : List ℕ) (n m : ℕ) → i < length piece →
    IsRun piece old (reader_at n clause chain) i → Turns (spot_of n) (get_or piece i 0) (turn.To (spot_of m))
    → IsRun piece old (reader_at m clause chain) (i + 1)
run_digit piece i old clause chain n m within run turns =
    one_more piece i old (reader_at n clause chain) (reader_at m clause chain) within run
    (λ bytes was. reads_on bytes (get_or piece i 0) (spot_of n) (spot_of m) (λ c. c) (λ h. h) clause chain was turns was.may)

pub run_number : (piece : List ℕ) (i : ℕ) (old : StepReader) (clause : List Lit) (chain longer : List ℕ) (n m : ℕ) → i < length piece →
    IsRun piece old (reader_at n clause chain) i → Turns (spot_of n) (get_or piece i 0) (turn.Number m) → longer ≡ chain ++ m ∷ []
    → IsRun piece old (reader_at 0 clause longer) (i + 1)
run_number piece i old clause chain longer n m within run turns is =
    one_more piece i old (reader_at n clause chain) (reader_at 0 clause longer) within run
    (λ bytes was. reads_number bytes (get_or piece i 0) (spot_of n) clause chain m longer was (λ _. turns) is)

-- a run of one more byte that leads to another place, or ends a literal
pub run_to : (piece : List ℕ) (i : ℕ) (old : StepReader) (clause : List Lit) (chain : List ℕ) (from to : Spot) → i < length piece →
    IsRun piece old (record { spot = from; clause = clause; chain = chain }) i → (IsSpot from → Turns from (get_or piece i 0) (turn.To to))
    → IsRun piece old (record { spot = to; clause = clause; chain = chain }) (i + 1)
run_to piece i old clause chain from to within run turns =
    one_more piece i old (record { spot = from; clause = clause; chain = chain }) (record { spot = to; clause = clause; chain = chain }) within run
    (λ bytes was. reads_on bytes (get_or piece i 0) from to (λ c. c) (λ h. h) clause chain was (turns was.place) was.may)

pub run_literal : (piece : List ℕ) (i : ℕ) (old : StepReader) (clause longer : List Lit) (chain : List ℕ) (from : Spot) (x : Lit) → i < length piece →
    IsRun piece old (record { spot = from; clause = clause; chain = chain }) i → (IsSpot from → Turns from (get_or piece i 0) (turn.Literal x))
    → longer ≡ clause ++ x ∷ [] → IsRun piece old (record { spot = spot.Literal; clause = longer; chain = chain }) (i + 1)
run_literal piece i old clause longer chain from x within run turns is =
    one_more piece i old (record { spot = from; clause = clause; chain = chain }) (record { spot = spot.Literal; clause = longer; chain = chain }) within run
    (λ bytes was. reads_literal bytes (get_or piece i 0) from clause chain x longer was turns is)

-- a run from the place of a number
pub run_from : (piece : List ℕ) (clause : List Lit) (old new : List ℕ) (n m count : ℕ) (from to : Spot) → (IsSpot from → from ≡ spot_of n) → to ≡ spot_of m
    → IsRun piece (reader_at n clause old) (reader_at m clause new) count
    → IsRun piece (record { spot = from; clause = clause; chain = old }) (record { spot = to; clause = clause; chain = new }) count
run_from piece clause old new n m count from to here there run = rw there (record {
  within = run.within;
  reading = λ before was.
      run.reading before (subst (λ (s : Spot). IsReading before (record { spot = s; clause = clause; chain = old })) (here was.place) was);
})

-- a run from the place in a literal
pub run_within : (piece : List ℕ) (old new : List Lit) (chain : List ℕ) (count : ℕ) (from to here there : Spot) → (IsSpot from → from ≡ here) → to ≡ there →
    IsRun piece (record { spot = here; clause = old; chain = chain }) (record { spot = there; clause = new; chain = chain }) count
    → IsRun piece (record { spot = from; clause = old; chain = chain }) (record { spot = to; clause = new; chain = chain }) count
run_within piece old new chain count from to here there is at run = rw at (record {
  within = run.within;
  reading = λ before was.
      run.reading before (subst (λ (s : Spot). IsReading before (record { spot = s; clause = old; chain = chain })) (is was.place) was);
})

-- in the digits of a number
pub digits_spot : (n : ℕ) (from : Spot) → from ≡ spot.Digits n → IsSpot from → from ≡ spot_of n
digits_spot n from e is = let may : IsSpot (spot.Digits n) = subst IsSpot e is in e ∙ sym (some_spot n may.0)
