-- What an open file gives, and what is said of it.
use Rattle.std.proofs.Common.{◌≡◌, ℕ, ◌+◌, ◌<◌, ◌≤◌, List, [], ◌++◌, length, take, drop, Option, Some, None, refl, sym, ap, subst, ◌∙◌, append_assoc, arith}
use Rattle.std.specs.Prelude.{IfSome, option_map}
use Rattle.std.proofs.lemmas.List.{append-nil, length-append, take-append-drop, length-take-le}
use Rattle.ygg_base.specs.Outside.{Reading, IsOpen, IsNext, Gives, behind}
use Rattle.ygg_base.specs.declared.outside.Piece.TheVariants as piece
use Rattle.ygg_cert.specs.declared.expected.Expected.{Expected}
use Rattle.ygg_cert.specs.declared.item.Goal.{Goal}
use Rattle.ygg_cert.specs.declared.log.LogReading.{LogReading}
use Rattle.ygg_cert.specs.declared.phase.Phase.{Phase}
use Rattle.ygg_cert.specs.declared.phase.Phase.TheVariants as phase
use Rattle.ygg_cert.specs.declared.reading.Reading as reader
use Rattle.ygg_cert.specs.declared.verdict.CertEnd.{CertEnd}
use Rattle.ygg_cert.specs.declared.verdict.CertEnd.TheVariants as cert
use Rattle.ygg_cert.specs.declared.verdict.Fed.TheVariants as fed
use Rattle.ygg_cert.specs.Judging.{Judges, wrong_after}
use Rattle.ygg_cert.specs.Standing.{IsEnded, IsFed}
use Rattle.ygg_cert.specs.Telling.{fed_of}
use Rattle.ygg_cert.proofs.Reached.{faulty_more}
use Rattle.ygg_cert.specs.Opened.{JudgesOpen, HasGiven, IsReadTo, IsDecided, IsOver, IsLess}

-- a slice has place for what is given
pub fits : (before now : Option Reading) (count : ℕ) (bytes : List ℕ) → IsOpen before → Gives before (piece.Got count) bytes now → count ≤ length bytes
fits None now count bytes is gives = absurd is
fits (Some r) now count bytes is gives = gives.0.fits

-- less may be given after a piece
pub gives_less : (before now : Option Reading) (count : ℕ) (bytes : List ℕ) → IsOpen before → Gives before (piece.Got count) bytes now → IsLess before now
gives_less None now count bytes is gives = absurd is
gives_less (Some r) now count bytes is gives = subst (λ (o : Option Reading). IsLess (Some r) o) (sym gives.1) (below gives.0)
  where
    below : IsNext r count bytes → IsLess (Some r) (Some (behind count r))
    below next = let some = next.some in let within = next.within in omega arith

-- nothing more is fed where a reader is over or given up
pub over_ended : (p : Phase) → fed.Over ≡ fed_of p → IsEnded p
over_ended phase.First over = absurd cc
over_ended phase.Opening over = absurd cc
over_ended phase.Log over = absurd cc
over_ended phase.Last over = absurd cc
over_ended phase.End over = absurd cc
over_ended (phase.Bad number) over = tt
over_ended phase.Wrong over = tt
over_ended phase.GivenUp over = tt

pub lost_ended : (p : Phase) → fed.Memory ≡ fed_of p → IsEnded p
lost_ended phase.First lost = absurd cc
lost_ended phase.Opening lost = absurd cc
lost_ended phase.Log lost = absurd cc
lost_ended phase.Last lost = absurd cc
lost_ended phase.End lost = absurd cc
lost_ended (phase.Bad number) lost = tt
lost_ended phase.Wrong lost = tt
lost_ended phase.GivenUp lost = tt

-- what has ended a reading is not mended by more bytes
ended_by : (goals : List Goal) (text more : List ℕ) (p : Phase) (line : Expected) (log : LogReading) (passed lines column : ℕ) → IsEnded p →
    IsFed goals text (record { next = record { phase = p; line = line; log = log; passed = passed }; lines = lines; column = column })
    → IsFed goals (text ++ more) (record { next = record { phase = p; line = line; log = log; passed = passed }; lines = lines; column = column })
ended_by goals text more phase.First line log passed lines column ended was = absurd ended
ended_by goals text more phase.Opening line log passed lines column ended was = absurd ended
ended_by goals text more phase.Log line log passed lines column ended was = absurd ended
ended_by goals text more phase.Last line log passed lines column ended was = absurd ended
ended_by goals text more phase.End line log passed lines column ended was = absurd ended
ended_by goals text more (phase.Bad number) line log passed lines column ended was = faulty_more goals text more (cert.Bad log.name number) was
ended_by goals text more phase.Wrong line log passed lines column ended was = faulty_more goals text more (cert.Refused (wrong_after lines)) was
ended_by goals text more phase.GivenUp line log passed lines column ended was = tt

ended_fed : (goals : List Goal) (text more : List ℕ) (r : reader.Reading) → IsEnded r.next.phase → IsFed goals text r → IsFed goals (text ++ more) r
ended_fed goals text more r ended was = ended_by goals text more r.next.phase r.next.line r.next.log r.next.passed r.lines r.column ended was

-- a file that has given a piece more
given_more : (file left : Reading) (read : List ℕ) (count : ℕ) (bytes : List ℕ) → HasGiven file read left → IsNext left count bytes
    → HasGiven file (read ++ take count bytes) (behind count left)
given_more file left read count bytes given next = record { room = room; rest = by_rest left.rest given.rest next.told }
  where
    room : length (read ++ take count bytes) + (behind count left).room ≡ file.room
    room =
        let so_far = given.room in
        let within = next.within in
        let fits = next.fits in
        let longer = length-append read (take count bytes) in
        let taken = length-take-le count bytes fits in
        omega arith

    by_rest : (rest : Option (List ℕ)) → file.rest ≡ option_map (λ (x : List ℕ). read ++ x) rest →
        IfSome rest (λ (x : List ℕ). (count ≤ length x) × (take count bytes ≡ take count x))
        → file.rest ≡ option_map (λ (x : List ℕ). (read ++ take count bytes) ++ x) (option_map (drop count) rest)
    by_rest None is told = is
    by_rest (Some rest) is told =
        is
        ∙ ap (λ (x : List ℕ). Some (read ++ x)) (sym (take-append-drop count rest))
        ∙ ap (λ (x : List ℕ). Some (read ++ (x ++ drop count rest))) (sym told.1)
        ∙ ap (λ (x : List ℕ). Some x) (sym (append_assoc read (take count bytes) (drop count rest)))

-- what a reader is decided by, where what it has read ended it
decided_early : (goals : List Goal) (file left : Reading) (read : List ℕ) (r : reader.Reading) → HasGiven file read left → IsEnded r.next.phase →
    IsFed goals read r
    → IsDecided goals file r
decided_early goals file left read r given ended was = record { read = read; few = few; fed = was; whole = by_rest left.rest given.rest }
  where
    few : length read ≤ file.room
    few = let so_far = given.room in omega arith

    by_rest : (rest : Option (List ℕ)) → file.rest ≡ option_map (λ (x : List ℕ). read ++ x) rest → IfSome file.rest (λ (all : List ℕ). IsFed goals all r)
    by_rest None is = subst (λ (o : Option (List ℕ)). IfSome o (λ (all : List ℕ). IsFed goals all r)) (sym is) tt
    by_rest (Some rest) is =
        subst (λ (o : Option (List ℕ)). IfSome o (λ (all : List ℕ). IsFed goals all r)) (sym is) (ended_fed goals read rest r ended was)

-- and where it has read all
decided_late : (goals : List Goal) (file left : Reading) (read : List ℕ) (r : reader.Reading) → HasGiven file read left →
    IfSome left.rest (λ (rest : List ℕ). rest ≡ []) → IsFed goals read r
    → IsDecided goals file r
decided_late goals file left read r given none was = record { read = read; few = few; fed = was; whole = by_rest left.rest given.rest none }
  where
    few : length read ≤ file.room
    few = let so_far = given.room in omega arith

    by_rest : (rest : Option (List ℕ)) → file.rest ≡ option_map (λ (x : List ℕ). read ++ x) rest → IfSome rest (λ (x : List ℕ). x ≡ [])
        → IfSome file.rest (λ (all : List ℕ). IsFed goals all r)
    by_rest None is no_more = subst (λ (o : Option (List ℕ)). IfSome o (λ (all : List ℕ). IsFed goals all r)) (sym is) tt
    by_rest (Some rest) is no_more =
        subst (λ (o : Option (List ℕ)). IfSome o (λ (all : List ℕ). IsFed goals all r))
        (sym (is ∙ ap (λ (x : List ℕ). Some (read ++ x)) no_more ∙ ap (λ (x : List ℕ). Some x) (append-nil read))) was

-- after a piece more may follow
pub piece_more : (goals : List Goal) (file before now : Option Reading) (count : ℕ) (bytes fed_bytes : List ℕ) (old new : reader.Reading) →
    Gives before (piece.Got count) bytes now → fed_bytes ≡ take count bytes →
    ((text : List ℕ) → IsFed goals text old → IsFed goals (text ++ fed_bytes) new) → IsReadTo goals file before old
    → IsReadTo goals file now new
piece_more goals None before now count bytes fed_bytes old new gives is feeds was = absurd was
piece_more goals (Some file) None now count bytes fed_bytes old new gives is feeds was = absurd was
piece_more goals (Some file) (Some left) now count bytes fed_bytes old new gives is feeds (read, given, fed_so) =
    subst (λ (o : Option Reading). IsReadTo goals (Some file) o new) (sym gives.1)
    (read ++ take count bytes, given_more file left read count bytes given gives.0, subst (λ (x : List ℕ). IsFed goals (read ++ x) new) is (feeds read fed_so))

-- or it decides
pub piece_over : (goals : List Goal) (file now : Option Reading) (r : reader.Reading) → IsEnded r.next.phase → IsReadTo goals file now r → IsOver goals file r
piece_over goals None now r ended was = absurd was
piece_over goals (Some file) None r ended was = absurd was
piece_over goals (Some file) (Some left) r ended (read, given, fed_so) = decided_early goals file left read r given ended fed_so

-- the end of the file decides
pub end_over : (goals : List Goal) (file before now : Option Reading) (bytes : List ℕ) (r : reader.Reading) → Gives before piece.End bytes now →
    IsReadTo goals file before r
    → IsOver goals file r
end_over goals None before now bytes r gives was = absurd was
end_over goals (Some file) None now bytes r gives was = absurd was
end_over goals (Some file) (Some left) now bytes r gives (read, given, fed_so) = decided_late goals file left read r given gives.0 fed_so

-- what is open is still open where less may be given of it
pub less_open : (before now : Option Reading) → IsLess before now → IsOpen now
less_open None now less = absurd less
less_open (Some before) None less = absurd less
less_open (Some before) (Some now) less = tt

-- how much may be given of what is open
abbrev pub room_of : Option Reading → ℕ
room_of None = 0
room_of (Some r) = r.room

pub less_room : (before now : Option Reading) → IsLess before now → room_of now < room_of before
less_room None now less = absurd less
less_room (Some before) None less = absurd less
less_room (Some before) (Some now) less = less

-- what is said of a file where the reader is decided
pub over_judges : (goals : List Goal) (file : Option Reading) (r : reader.Reading) (end : CertEnd) →
    ((text : List ℕ) → IsFed goals text r → Judges goals text end) → IsOver goals file r
    → JudgesOpen goals file end
over_judges goals None r end judges over = absurd over
over_judges goals (Some file) r end judges over =
    record { read = over.read; few = over.few; judged = judges over.read over.fed; whole = by_rest file.rest over.whole }
  where
    by_rest : (rest : Option (List ℕ)) → IfSome rest (λ (all : List ℕ). IsFed goals all r) → IfSome rest (λ (all : List ℕ). Judges goals all end)
    by_rest None was = tt
    by_rest (Some all) was = judges all was

-- where nothing was read, all is still to come
pub none_read : (goals : List Goal) (file : Option Reading) (r : reader.Reading) → IsOpen file → IsFed goals [] r → IsReadTo goals file file r
none_read goals None r is was = absurd is
none_read goals (Some file) r is was = ([], record { room = omega arith; rest = by_rest file.rest }, was)
  where
    by_rest : (rest : Option (List ℕ)) → rest ≡ option_map (λ (x : List ℕ). [] ++ x) rest
    by_rest None = refl
    by_rest (Some rest) = refl

-- where no memory was left, nothing is said
pub lost_judges : (goals : List Goal) (file : Option Reading) → IsOpen file → JudgesOpen goals file cert.Memory
lost_judges goals None is = absurd is
lost_judges goals (Some file) is = record { read = []; few = omega arith; judged = tt; whole = by_rest file.rest }
  where
    by_rest : (rest : Option (List ℕ)) → IfSome rest (λ (all : List ℕ). Judges goals all cert.Memory)
    by_rest None = tt
    by_rest (Some all) = tt
