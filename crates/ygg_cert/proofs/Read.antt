-- What a reader of certificates has read after a byte and after a piece.
use Rattle.std.proofs.Common.{
  ◌≡◌,
  ℕ,
  ◌+◌,
  ◌-◌,
  ◌<◌,
  ◌≤◌,
  List,
  [],
  ◌∷◌,
  ◌++◌,
  length,
  take,
  drop,
  get_or,
  Result,
  Ok,
  refl,
  sym,
  ap,
  subst,
  ◌∙◌,
  append_assoc,
  ◌⊎◌,
  inl,
  inr,
  arith,
}
use Rattle.std.proofs.lemmas.List.{append-nil, take_more, take_all, length-append, take-take, drop-take, take-append-drop, take_rest, length-drop}
use Rattle.ygg_cert.specs.declared.item.Goal.{Goal}
use Rattle.ygg_cert.specs.declared.expected.Expected.{Expected}
use Rattle.ygg_cert.specs.declared.verdict.Heard.{Heard}
use Rattle.ygg_cert.specs.declared.verdict.Heard.TheVariants as heard
use Rattle.ygg_cert.specs.declared.verdict.CertEnd.TheVariants as cert
use Rattle.ygg_cert.specs.declared.log.LogReading.{LogReading}
use Rattle.ygg_cert.specs.declared.phase.Next.{Next}
use Rattle.ygg_cert.specs.declared.phase.Phase.{Phase}
use Rattle.ygg_cert.specs.declared.phase.Phase.TheVariants as phase
use Rattle.ygg_cert.specs.declared.reading.Reading.{Reading}
use Rattle.ygg_cert.specs.Texts.{first_line}
use Rattle.ygg_cert.specs.Places.{Place, Start}
use Rattle.ygg_cert.specs.Judging.{Reaches, IsBadAt, IsWrongAt, wrong_after}
use Rattle.ygg_cert.specs.Standing.{IsAt, IsDone, IsEnded, Hears, IsOn, IsFed}
use Rattle.ygg_cert.proofs.Matched.{match_none}
use Rattle.ygg_cert.proofs.Reached.{reaches_none, reaches_more, reaches_line, faulty_more}

-- what is on is fed
on_fed_by : (goals : List Goal) (text : List ℕ) (p : Phase) (line : Expected) (log : LogReading) (passed lines column : ℕ) →
    IsOn goals text (record { next = record { phase = p; line = line; log = log; passed = passed }; lines = lines; column = column })
    → IsFed goals text (record { next = record { phase = p; line = line; log = log; passed = passed }; lines = lines; column = column })
on_fed_by goals text phase.First line log passed lines column on = on
on_fed_by goals text phase.Opening line log passed lines column on = on
on_fed_by goals text phase.Log line log passed lines column on = on
on_fed_by goals text phase.Last line log passed lines column on = on
on_fed_by goals text phase.End line log passed lines column on = on
on_fed_by goals text (phase.Bad number) line log passed lines column on = absurd on.at
on_fed_by goals text phase.Wrong line log passed lines column on = absurd on.at
on_fed_by goals text phase.GivenUp line log passed lines column on = tt

on_fed : (goals : List Goal) (text : List ℕ) (r : Reading) → IsOn goals text r → IsFed goals text r
on_fed goals text r on = on_fed_by goals text r.next.phase r.next.line r.next.log r.next.passed r.lines r.column on

-- nothing is read
pub none_fed : (goals : List Goal) (r : Reading) → r.next.phase ≡ phase.First → r.next.line.line ≡ first_line → r.next.line.matched ≡ 0 → r.next.passed ≡ 0 →
    r.lines ≡ 0 → r.column ≡ 0
    → IsFed goals [] r
none_fed goals r is line none passed lines column = on_fed goals [] r on
  where
    on : IsOn goals [] r
    on = record {
      place = Start goals;
      bytes = [];
      reaches = subst (λ (n : ℕ). Reaches goals [] (Start goals) n []) (sym lines) (reaches_none goals);
      column = column;
      at = rw is (refl, match_none first_line _ _ r.next.line refl line none, passed);
    }

-- what is fed is on, unless it has ended
fed_on_by : (goals : List Goal) (text : List ℕ) (p : Phase) (line : Expected) (log : LogReading) (passed lines column : ℕ) →
    IsFed goals text (record { next = record { phase = p; line = line; log = log; passed = passed }; lines = lines; column = column })
    → IsEnded p ⊎ IsOn goals text (record { next = record { phase = p; line = line; log = log; passed = passed }; lines = lines; column = column })
fed_on_by goals text phase.First line log passed lines column was = inr was
fed_on_by goals text phase.Opening line log passed lines column was = inr was
fed_on_by goals text phase.Log line log passed lines column was = inr was
fed_on_by goals text phase.Last line log passed lines column was = inr was
fed_on_by goals text phase.End line log passed lines column was = inr was
fed_on_by goals text (phase.Bad number) line log passed lines column was = inl tt
fed_on_by goals text phase.Wrong line log passed lines column was = inl tt
fed_on_by goals text phase.GivenUp line log passed lines column was = inl tt

fed_on : (goals : List Goal) (text : List ℕ) (r : Reading) → IsFed goals text r → IsEnded r.next.phase ⊎ IsOn goals text r
fed_on goals text r was = fed_on_by goals text r.next.phase r.next.line r.next.log r.next.passed r.lines r.column was

-- what is said of a byte, by what is read next before and after it
abbrev pub Heeds : List Goal → ℕ → Next → Next → Heard → Type 0
Heeds goals byte old new h = (place : Place) (before : List ℕ) → IsAt goals place before old → Hears goals place (before ++ byte ∷ []) new h

-- what is heard of a byte where the reading goes on
ok_is : {E : Type 0} (r : Result Heard E) (a b : Heard) → r ≡ Ok a → r ≡ Ok b → a ≡ b
ok_is r a b one two = cc

pub heard_live : {E : Type 0} (r : Result Heard E) (h other : Heard) → (other ≡ heard.Nothing → ⊥) → h ≡ other → r ≡ Ok h → r ≡ Ok heard.Nothing → ⊥
heard_live r h other differ is ok ended = differ (sym is ∙ ok_is r h heard.Nothing ok ended)

pub more_differs : heard.More ≡ heard.Nothing → ⊥
more_differs e = absurd cc

pub added_differs : heard.Added ≡ heard.Nothing → ⊥
added_differs e = absurd cc

pub whole_differs : heard.Whole ≡ heard.Nothing → ⊥
whole_differs e = absurd cc

pub bad_differs : (number : ℕ) → heard.Bad number ≡ heard.Nothing → ⊥
bad_differs number e = absurd cc

pub wrong_differs : heard.Wrong ≡ heard.Nothing → ⊥
wrong_differs e = absurd cc

-- one more byte of a line
pub byte_more : (goals : List Goal) (text : List ℕ) (byte : ℕ) (old new : Reading) → (IsEnded old.next.phase → ⊥) →
    Heeds goals byte old.next new.next heard.More → new.lines ≡ old.lines → new.column ≡ old.column + 1 → IsFed goals text old
    → IsFed goals (text ++ byte ∷ []) new
byte_more goals text byte old new live heeds lines column was = by_fed (fed_on goals text old was)
  where
    by_fed : IsEnded old.next.phase ⊎ IsOn goals text old → IsFed goals (text ++ byte ∷ []) new
    by_fed (inl ended) = absurd (live ended)
    by_fed (inr on) =
        on_fed goals (text ++ byte ∷ []) new
        (record {
          place = on.place;
          bytes = on.bytes ++ byte ∷ [];
          reaches =
              subst (λ (n : ℕ). Reaches goals (text ++ byte ∷ []) on.place n (on.bytes ++ byte ∷ [])) (sym lines)
              (reaches_more goals text on.place old.lines on.bytes (byte ∷ []) on.reaches);
          column = column ∙ ap (λ (n : ℕ). n + 1) on.column ∙ sym (length-append on.bytes (byte ∷ []));
          at = heeds on.place on.bytes on.at;
        })

-- the last byte of the line of a step
pub byte_added : (goals : List Goal) (text : List ℕ) (byte : ℕ) (old : Reading) (mid : Next) (new : Reading) → (IsEnded old.next.phase → ⊥) →
    Heeds goals byte old.next mid heard.Added → new.next ≡ mid → new.lines ≡ old.lines + 1 → new.column ≡ 0 → IsFed goals text old
    → IsFed goals (text ++ byte ∷ []) new
byte_added goals text byte old mid new live heeds kept lines column was = by_fed (fed_on goals text old was)
  where
    by_fed : IsEnded old.next.phase ⊎ IsOn goals text old → IsFed goals (text ++ byte ∷ []) new
    by_fed (inl ended) = absurd (live ended)
    by_fed (inr on) =
        let h = heeds on.place on.bytes on.at in
        on_fed goals (text ++ byte ∷ []) new
        (record {
          place = h.0;
          bytes = [];
          reaches =
              subst (λ (n : ℕ). Reaches goals (text ++ byte ∷ []) h.0 n []) (sym lines)
              (reaches_line goals (text ++ byte ∷ []) on.place old.lines (on.bytes ++ byte ∷ []) h.0
              (reaches_more goals text on.place old.lines on.bytes (byte ∷ []) on.reaches) h.1.0);
          column = column;
          at = subst (λ (n : Next). IsAt goals h.0 [] n) (sym kept) h.1.1;
        })

-- the last byte of a line after which others come
pub byte_whole : (goals : List Goal) (text : List ℕ) (byte : ℕ) (old : Reading) (mid after : Next) (new : Reading) → (IsEnded old.next.phase → ⊥) →
    Heeds goals byte old.next mid heard.Whole → ((to : Place) → IsDone goals to mid → IsAt goals to [] after) → new.next ≡ after →
    new.lines ≡ old.lines + 1 → new.column ≡ 0 → IsFed goals text old
    → IsFed goals (text ++ byte ∷ []) new
byte_whole goals text byte old mid after new live heeds goes_on kept lines column was = by_fed (fed_on goals text old was)
  where
    by_fed : IsEnded old.next.phase ⊎ IsOn goals text old → IsFed goals (text ++ byte ∷ []) new
    by_fed (inl ended) = absurd (live ended)
    by_fed (inr on) =
        let h = heeds on.place on.bytes on.at in
        on_fed goals (text ++ byte ∷ []) new
        (record {
          place = h.0;
          bytes = [];
          reaches =
              subst (λ (n : ℕ). Reaches goals (text ++ byte ∷ []) h.0 n []) (sym lines)
              (reaches_line goals (text ++ byte ∷ []) on.place old.lines (on.bytes ++ byte ∷ []) h.0
              (reaches_more goals text on.place old.lines on.bytes (byte ∷ []) on.reaches) h.1.0);
          column = column;
          at = subst (λ (n : Next). IsAt goals h.0 [] n) (sym kept) (goes_on h.0 h.1.1);
        })

-- a line at fault in a log
pub byte_bad : (goals : List Goal) (text : List ℕ) (byte number : ℕ) (old : Reading) (mid : Next) → (IsEnded old.next.phase → ⊥) →
    Heeds goals byte old.next mid (heard.Bad number) → IsFed goals text old
    → IsBadAt goals (text ++ byte ∷ []) mid.log.name number
byte_bad goals text byte number old mid live heeds was = by_fed (fed_on goals text old was)
  where
    by_fed : IsEnded old.next.phase ⊎ IsOn goals text old → IsBadAt goals (text ++ byte ∷ []) mid.log.name number
    by_fed (inl ended) = absurd (live ended)
    by_fed (inr on) = record {
      place = on.place;
      count = old.lines;
      line = on.bytes ++ byte ∷ [];
      others = [];
      reaches =
          subst (λ (x : List ℕ). Reaches goals (text ++ byte ∷ []) on.place old.lines x) (sym (append-nil (on.bytes ++ byte ∷ [])))
          (reaches_more goals text on.place old.lines on.bytes (byte ∷ []) on.reaches);
      bad = heeds on.place on.bytes on.at;
    }

-- another line than may stand there
pub byte_wrong : (goals : List Goal) (text : List ℕ) (byte : ℕ) (old : Reading) (mid : Next) → (IsEnded old.next.phase → ⊥) →
    Heeds goals byte old.next mid heard.Wrong → IsFed goals text old
    → IsWrongAt goals (text ++ byte ∷ []) (wrong_after old.lines)
byte_wrong goals text byte old mid live heeds was = by_fed (fed_on goals text old was)
  where
    by_fed : IsEnded old.next.phase ⊎ IsOn goals text old → IsWrongAt goals (text ++ byte ∷ []) (wrong_after old.lines)
    by_fed (inl ended) = absurd (live ended)
    by_fed (inr on) = record {
      place = on.place;
      count = old.lines;
      rest = on.bytes ++ byte ∷ [];
      reaches = reaches_more goals text on.place old.lines on.bytes (byte ∷ []) on.reaches;
      wrong = heeds on.place on.bytes on.at;
      is = refl;
    }

-- a byte after the reading has ended
ended_fed : (goals : List Goal) (text : List ℕ) (byte : ℕ) (p : Phase) (line : Expected) (log : LogReading) (passed lines column : ℕ) → IsEnded p →
    IsFed goals text (record { next = record { phase = p; line = line; log = log; passed = passed }; lines = lines; column = column })
    → IsFed goals (text ++ byte ∷ []) (record { next = record { phase = p; line = line; log = log; passed = passed }; lines = lines; column = column })
ended_fed goals text byte phase.First line log passed lines column ended was = absurd ended
ended_fed goals text byte phase.Opening line log passed lines column ended was = absurd ended
ended_fed goals text byte phase.Log line log passed lines column ended was = absurd ended
ended_fed goals text byte phase.Last line log passed lines column ended was = absurd ended
ended_fed goals text byte phase.End line log passed lines column ended was = absurd ended
ended_fed goals text byte (phase.Bad number) line log passed lines column ended was = faulty_more goals text (byte ∷ []) (cert.Bad log.name number) was
ended_fed goals text byte phase.Wrong line log passed lines column ended was = faulty_more goals text (byte ∷ []) (cert.Refused (wrong_after lines)) was
ended_fed goals text byte phase.GivenUp line log passed lines column ended was = tt

pub byte_nothing : (goals : List Goal) (text : List ℕ) (byte : ℕ) (old new : Reading) → Heeds goals byte old.next new.next heard.Nothing →
    (IsEnded old.next.phase → new ≡ old) → IsFed goals text old
    → IsFed goals (text ++ byte ∷ []) new
byte_nothing goals text byte old new heeds same was = by_fed (fed_on goals text old was)
  where
    by_fed : IsEnded old.next.phase ⊎ IsOn goals text old → IsFed goals (text ++ byte ∷ []) new
    by_fed (inl ended) =
        subst (λ (r : Reading). IsFed goals (text ++ byte ∷ []) r) (sym (same ended))
        (ended_fed goals text byte old.next.phase old.next.line old.next.log old.next.passed old.lines old.column ended was)
    by_fed (inr on) = absurd (heeds on.place on.bytes on.at)

-- one more byte of a piece, and all of its bytes
pub piece_more : (goals : List Goal) (text piece : List ℕ) (i : ℕ) (r : Reading) → i < length piece →
    IsFed goals ((text ++ take i piece) ++ get_or piece i 0 ∷ []) r
    → IsFed goals (text ++ take (i + 1) piece) r
piece_more goals text piece i r within was =
    subst (λ (x : List ℕ). IsFed goals x r)
    (append_assoc text (take i piece) (get_or piece i 0 ∷ []) ∙ ap (λ (x : List ℕ). text ++ x) (sym (take_more piece i 0 within))) was

pub piece_all : (goals : List Goal) (text piece : List ℕ) (i : ℕ) (r : Reading) → length piece ≤ i → IsFed goals (text ++ take i piece) r
    → IsFed goals (text ++ piece) r
piece_all goals text piece i r past was = subst (λ (x : List ℕ). IsFed goals (text ++ x) r) (take_all i piece past) was

pub piece_none : (goals : List Goal) (text piece : List ℕ) (r : Reading) → IsFed goals text r → IsFed goals (text ++ take 0 piece) r
piece_none goals text piece r was = subst (λ (x : List ℕ). IsFed goals x r) (sym (append-nil text)) was

-- some more bytes of a line, or none where nothing more is read
pub run_fed : (goals : List Goal) (text bytes : List ℕ) (old new : Reading) → (IsEnded old.next.phase → (bytes ≡ []) × (new ≡ old)) →
    ((place : Place) (before : List ℕ) → IsAt goals place before old.next → IsAt goals place (before ++ bytes) new.next) → new.lines ≡ old.lines →
    new.column ≡ old.column + length bytes → IsFed goals text old
    → IsFed goals (text ++ bytes) new
run_fed goals text bytes old new ends goes_on lines column was = by_fed (fed_on goals text old was)
  where
    by_fed : IsEnded old.next.phase ⊎ IsOn goals text old → IsFed goals (text ++ bytes) new
    by_fed (inl ended) =
        let (none, same) = ends ended in
        subst (λ (r : Reading). IsFed goals (text ++ bytes) r) (sym same)
        (subst (λ (x : List ℕ). IsFed goals (text ++ x) old) (sym none) (subst (λ (x : List ℕ). IsFed goals x old) (sym (append-nil text)) was))
    by_fed (inr on) =
        on_fed goals (text ++ bytes) new
        (record {
          place = on.place;
          bytes = on.bytes ++ bytes;
          reaches =
              subst (λ (n : ℕ). Reaches goals (text ++ bytes) on.place n (on.bytes ++ bytes)) (sym lines)
              (reaches_more goals text on.place old.lines on.bytes bytes on.reaches);
          column = column ∙ ap (λ (n : ℕ). n + length bytes) on.column ∙ sym (length-append on.bytes bytes);
          at = goes_on on.place on.bytes on.at;
        })

-- the bytes of a run in a piece
run_taken : (piece : List ℕ) (i count : ℕ) → take i piece ++ take count (drop i piece) ≡ take (i + count) piece
run_taken piece i count =
    ap (λ (x : List ℕ). x ++ take count (drop i piece)) (sym (take-take i (i + count) piece (omega arith)))
    ∙ ap (λ (x : List ℕ). take i (take (i + count) piece) ++ x) (sym (drop-take i count piece))
    ∙ take-append-drop i (take (i + count) piece)

pub piece_run : (goals : List Goal) (text piece : List ℕ) (i count : ℕ) (r : Reading) →
    IsFed goals ((text ++ take i piece) ++ take count (take (length piece - i) (drop i piece))) r → IsFed goals (text ++ take (i + count) piece) r
piece_run goals text piece i count r was =
    subst (λ (x : List ℕ). IsFed goals x r)
    (ap (λ (x : List ℕ). (text ++ take i piece) ++ take count x) (take_rest piece i)
    ∙ append_assoc text (take i piece) (take count (drop i piece)) ∙ ap (λ (x : List ℕ). text ++ x) (run_taken piece i count)) was

pub run_within : (piece : List ℕ) (i count : ℕ) → i ≤ length piece → count ≤ length (take (length piece - i) (drop i piece)) → i + count ≤ length piece
run_within piece i count start within =
    let rest = ap length (take_rest piece i) in let left = length-drop i piece in omega (arith, rest, left, within, start)

-- the number that is given
pub ok_count : {E : Type 0} (r : Result ℕ E) (a b : ℕ) → r ≡ Ok a → r ≡ Ok b → a ≡ b
ok_count r a b one two = cc
