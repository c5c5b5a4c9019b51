-- The lines of a log, byte by byte.
use Rattle.std.proofs.Common.{◌≡◌, ℕ, ◌+◌, ◌<◌, List, [], ◌∷◌, ◌++◌, length, take, refl, sym, ap, subst, ◌∙◌, append_assoc, arith, ◌⊎◌, inl, inr}
use Rattle.std.specs.Prelude.{codes}
use Rattle.std.proofs.lemmas.List.{append-nil}
use Rattle.ygg_cnf.specs.declared.lit.Lit.{Lit}
use Rattle.ygg_cnf.specs.declared.log.Step.{Step}
use Rattle.ygg_cnf.specs.declared.log.Step.TheVariants.{Added}
use Rattle.ygg_cnf.specs.Lines.{step_line}
use Rattle.ygg_cnf.specs.Steps.{IsStep, BeginsStep}
use Rattle.ygg_cnf.specs.Runs.{IsRun}
use Rattle.ygg_cnf.specs.Reading.{IsReading}
use Rattle.ygg_cnf.specs.declared.reader.StepReader.{StepReader}
use Rattle.ygg_cert.specs.declared.item.Goal.{Goal}
use Rattle.ygg_cert.specs.declared.verdict.Heard.{Heard}
use Rattle.ygg_cert.specs.declared.verdict.Heard.TheVariants as heard
use Rattle.ygg_cert.specs.declared.log.LogReading.{LogReading}
use Rattle.ygg_cert.specs.declared.log.LogLine.TheVariants as line
use Rattle.ygg_cert.specs.Texts.{closing_line}
use Rattle.ygg_cert.specs.Places.{Within, IsLineOf, IsDerived, GoesOn}
use Rattle.ygg_cert.specs.Standing.{IsInLine, IsLogAt, IsStepAt, Turns, Closes, Adds}

-- a new log
pub log_none : (name : List ℕ) (checker : List (List Lit)) (held : ℕ) (step : StepReader) → held ≡ length checker → IsReading [] step
    → IsLogAt [] (record { name = name; checker = checker; held = held; at = line.Begin; step = step })
log_none name checker held step counted reading = record { counted = counted; line = (refl, reading) }

-- the line after the log
pub closes_turns : (log : LogReading) (h : Heard) → Closes log h → Turns log closing_line log h
closes_turns log heard.More closes = absurd closes
closes_turns log heard.Added closes = absurd closes
closes_turns log heard.Whole closes = λ gs. inl (refl, closes, refl)
closes_turns log (heard.Bad number) closes = (refl, λ gs. (refl, inl (refl, closes.1, closes.0)))
closes_turns log heard.Wrong closes = absurd closes
closes_turns log heard.Nothing closes = absurd closes

-- the line of a step
pub adds_turns : (old mid new : LogReading) (bytes : List ℕ) (h : Heard) → mid.name ≡ old.name → mid.checker ≡ old.checker →
    IsStep (Added mid.step.clause mid.step.chain) → bytes ≡ step_line (Added mid.step.clause mid.step.chain) → Adds mid new h
    → Turns old bytes new h
adds_turns old mid new bytes heard.More named held may is adds = absurd adds
adds_turns old mid new bytes heard.Added named held may is adds =
    λ gs. (inr (Added mid.step.clause mid.step.chain, (record { may = may; is = is }, derived, leads gs)), adds.1.2)
  where
    derived : IsDerived old.checker (Added mid.step.clause mid.step.chain)
    derived = subst (λ (x : List (List Lit)). IsDerived x (Added mid.step.clause mid.step.chain)) held adds.0

    leads : (gs : List Goal) → Within new.name new.checker gs ≡ Within old.name (old.checker ++ mid.step.clause ∷ []) gs
    leads gs =
        ap (λ (n : List ℕ). Within n new.checker gs) (adds.1.1 ∙ named)
        ∙ ap (λ (x : List (List Lit)). Within old.name x gs) (adds.1.0 ∙ ap (λ (x : List (List Lit)). x ++ mid.step.clause ∷ []) held)
adds_turns old mid new bytes heard.Whole named held may is adds = absurd adds
adds_turns old mid new bytes (heard.Bad number) named held may is adds =
    (adds.2 ∙ named, λ gs. (refl, inr (Added mid.step.clause mid.step.chain, (record { may = may; is = is }, never, count))))
  where
    never : IsDerived old.checker (Added mid.step.clause mid.step.chain) → ⊥
    never derived = adds.0 (subst (λ (x : List (List Lit)). IsDerived x (Added mid.step.clause mid.step.chain)) (sym held) derived)

    count : number ≡ length old.checker + 1
    count = adds.1 ∙ ap (λ (x : List (List Lit)). length x + 1) held
adds_turns old mid new bytes heard.Wrong named held may is adds = absurd adds
adds_turns old mid new bytes heard.Nothing named held may is adds = absurd adds

-- bytes that are neither
pub turns_wrong : (old : LogReading) (bytes : List ℕ) → ((more others : List ℕ) → bytes ++ more ≡ closing_line ++ others → ⊥) → (BeginsStep bytes → ⊥)
    → (gs : List Goal) → GoesOn (Within old.name old.checker gs) bytes → ⊥
turns_wrong old bytes no_closing no_step gs on = by_line on.may
  where
    by_line : (on.line ≡ closing_line) ⊎ ((step : Step) × IsLineOf step on.line) → ⊥
    by_line (inl same) = no_closing on.more on.others (on.is ∙ ap (λ (x : List ℕ). x ++ on.others) same)
    by_line (inr (step, of)) =
        no_step (on.more, record { step = step; others = on.others; may = of.may; is = on.is ∙ ap (λ (x : List ℕ). x ++ on.others) of.is })

-- some bytes of the line of a step
pub turns_more : (old new : LogReading) (before : List ℕ) (byte : ℕ) → IsStepAt before byte old → new.name ≡ old.name → new.checker ≡ old.checker →
    new.held ≡ old.held → new.at ≡ line.Step → IsReading (before ++ byte ∷ []) new.step → Turns old (before ++ byte ∷ []) new heard.More
turns_more old new before byte was named held counted at reading =
    (record { counted = counted ∙ was.counted ∙ ap length (sym held); line = in_line }, named, held)
  where
    in_line : IsInLine (before ++ byte ∷ []) new
    in_line = rw at (reading, was.other)

-- the first byte of the line of a step
pub step_begins : (log : LogReading) (byte : ℕ) → IsLogAt [] log → log.at ≡ line.Begin → (byte ≡ 101 → ⊥) → IsStepAt [] byte log
step_begins log byte was at other = record { counted = was.counted; line = reading; other = λ more others is. other (first more others is) }
  where
    reading : IsReading [] log.step
    reading = let l = rw at at was.line in l.1

    first : (more others : List ℕ) → byte ∷ more ≡ closing_line ++ others → byte ≡ 101
    first more others is = cc

-- a further byte of the line of a step
pub step_goes_on : (log : LogReading) (before : List ℕ) (byte : ℕ) → IsLogAt before log → log.at ≡ line.Step → IsStepAt before byte log
step_goes_on log before byte was at = record {
  counted = was.counted;
  line = l.0;
  other = λ more others is. l.1 (byte ∷ more) others (sym (append_assoc before (byte ∷ []) more) ∙ is);
}
  where
    l : IsReading before log.step × ((more others : List ℕ) → before ++ more ≡ closing_line ++ others → ⊥)
    l = rw at at was.line

-- no byte is read before the first
pub begins_empty : (log : LogReading) (before : List ℕ) → IsLogAt before log → log.at ≡ line.Begin → before ≡ []
begins_empty log before was at = let l = rw at at was.line in l.0

-- the same, whatever is read before
pub begin_step : (log : LogReading) (before : List ℕ) (byte : ℕ) → IsLogAt before log → log.at ≡ line.Begin → (byte ≡ 101 → ⊥) → IsStepAt before byte log
begin_step log before byte was at other =
    let none : before ≡ [] = begins_empty log before was at in
    subst (λ (b : List ℕ). IsStepAt b byte log) (sym none) (step_begins log byte (subst (λ (b : List ℕ). IsLogAt b log) none was) at other)

-- the first byte of the line after the log
pub closing_begins : (old new : LogReading) (before : List ℕ) (byte : ℕ) → IsLogAt before old → old.at ≡ line.Begin → byte ≡ 101 →
    new.name ≡ old.name → new.checker ≡ old.checker → new.held ≡ old.held → new.at ≡ line.Closing → Turns old (before ++ byte ∷ []) new heard.More
closing_begins old new before byte was at is named held counted closing =
    (record { counted = counted ∙ was.counted ∙ ap length (sym held); line = in_line }, named, held)
  where
    in_line : IsInLine (before ++ byte ∷ []) new
    in_line = rw closing (ap (λ (x : List ℕ). x ++ byte ∷ []) (begins_empty old before was at) ∙ ap (λ (b : ℕ). b ∷ []) is)

-- the `e` of the line after the log
e_read : (log : LogReading) (before : List ℕ) → IsLogAt before log → log.at ≡ line.Closing → before ≡ codes "e"
e_read log before was at = rw at at was.line

-- the line after the log up to its line feed
pub closing_read : (log : LogReading) (before : List ℕ) (byte : ℕ) → IsLogAt before log → log.at ≡ line.Closing → byte ≡ 10 → before ++ byte ∷ [] ≡ closing_line
closing_read log before byte was at feed = ap (λ (x : List ℕ). x ++ byte ∷ []) (e_read log before was at) ∙ ap (λ (b : ℕ). 101 ∷ b ∷ []) feed

-- two bytes that differ
differ : (a b : ℕ) (xs ys : List ℕ) → a ∷ xs ≡ b ∷ ys → b < a → ⊥
differ a b xs ys same less = let head : a ≡ b = cc in omega arith

-- another byte in the line after the log
pub closing_wrong : (log : LogReading) (before : List ℕ) (byte : ℕ) → IsLogAt before log → log.at ≡ line.Closing → (byte ≡ 10 → ⊥)
    → (gs : List Goal) → GoesOn (Within log.name log.checker gs) (before ++ byte ∷ []) → ⊥
closing_wrong log before byte was at other = turns_wrong log (before ++ byte ∷ []) no_closing no_step
  where
    whole : before ++ byte ∷ [] ≡ 101 ∷ byte ∷ []
    whole = ap (λ (x : List ℕ). x ++ byte ∷ []) (e_read log before was at)

    no_closing : (more others : List ℕ) → (before ++ byte ∷ []) ++ more ≡ closing_line ++ others → ⊥
    no_closing more others is =
        let e : 101 ∷ byte ∷ more ≡ 101 ∷ 10 ∷ others = sym (ap (λ (x : List ℕ). x ++ more) whole) ∙ is in
        other cc

    no_step : BeginsStep (before ++ byte ∷ []) → ⊥
    no_step (more, has) = by_step has.step has.is
      where
        by_step : (step : Step) → (before ++ byte ∷ []) ++ more ≡ step_line step ++ has.others → ⊥
        by_step (Added clause chain) is = differ 101 99 _ _ (sym (ap (λ (x : List ℕ). x ++ more) whole) ∙ is) (omega arith)

-- some more bytes of the line of a step, and none
pub run_turns : (old new : LogReading) (before piece : List ℕ) (count : ℕ) → old.at ≡ line.Step → IsLogAt before old → new.name ≡ old.name →
    new.checker ≡ old.checker → new.held ≡ old.held → new.at ≡ line.Step → IsRun piece old.step new.step count
    → Turns old (before ++ take count piece) new heard.More
run_turns old new before piece count here was named held counted at run =
    (record { counted = counted ∙ was.counted ∙ ap length (sym held); line = in_line }, named, held)
  where
    in_line : IsInLine (before ++ take count piece) new
    in_line = let step = rw here at was.line in rw at (
      run.reading before step.0,
      (λ more others is. step.1 (take count piece ++ more) others (sym (append_assoc before (take count piece) more) ∙ is)),
    )

pub none_turns : (log : LogReading) (before piece : List ℕ) → IsLogAt before log → Turns log (before ++ take 0 piece) log heard.More
none_turns log before piece was = (subst (λ (x : List ℕ). IsLogAt x log) (sym (append-nil before)) was, refl, refl)
