-- What is said of a file that a library has open as a certificate.
use Rattle.std.specs.Prelude.{◌≡◌, ℕ, ◌+◌, ◌<◌, ◌≤◌, List, ◌++◌, length, Option, None, Some, Result, IfSome, IfOk, option_map}
use Rattle.ygg_base.specs.Outside.{Reading}
use Rattle.ygg_cert.specs.declared.item.Goal.{Goal}
use Rattle.ygg_cert.specs.declared.reading.Reading as reader
use Rattle.ygg_cert.specs.declared.verdict.CertEnd.{CertEnd}
use Rattle.ygg_cert.specs.Judging.{Judges}
use Rattle.ygg_cert.specs.Standing.{IsFed}
use Rattle.ygg_cert.specs.declared.opened.Came.{Came}
use Rattle.ygg_cert.specs.declared.opened.LibraryFailed.{LibraryFailed}
use Rattle.ygg_cert.specs.declared.opened.Came.TheVariants.{More, Over, Failed}

-- What is said of an open file as a certificate for goals: of the bytes that were read, which are no more than it may give, and, where its bytes from the
-- position on are told, of all of these, whether or not all were read.
pub record JudgesFile (goals : List Goal) (file : Reading) (end : CertEnd) : Type 0 where
  pub read : List ℕ
  pub few : length read ≤ file.room
  pub judged : Judges goals read end
  pub whole : IfSome file.rest (λ all. Judges goals all end)

-- the same of what is open
abbrev pub JudgesOpen : List Goal → Option Reading → CertEnd → Type 0
JudgesOpen goals None end = ⊥
JudgesOpen goals (Some file) end = JudgesFile goals file end

-- an open file gave these bytes, and this is left of it
pub record HasGiven (file : Reading) (read : List ℕ) (left : Reading) : Type 0 where
  pub room : length read + left.room ≡ file.room
  pub rest : file.rest ≡ option_map (λ rest. read ++ rest) left.rest

-- the reader of certificates for goals has read all that the file gave until this is left of it
abbrev pub IsReadTo : List Goal → Option Reading → Option Reading → reader.Reading → Type 0
IsReadTo goals (Some file) (Some left) r = (read : List ℕ) × HasGiven file read left × IsFed goals read r
IsReadTo goals _ _ r = ⊥

-- the reader knows what is said of the file: it has read all, or what it has read decides
pub record IsDecided (goals : List Goal) (file : Reading) (r : reader.Reading) : Type 0 where
  pub read : List ℕ
  pub few : length read ≤ file.room
  pub fed : IsFed goals read r
  pub whole : IfSome file.rest (λ all. IsFed goals all r)

-- the same of what is open
abbrev pub IsOver : List Goal → Option Reading → reader.Reading → Type 0
IsOver goals None r = ⊥
IsOver goals (Some file) r = IsDecided goals file r

-- what comes of a piece: more may follow it, or it decides
abbrev pub Comes : List Goal → Option Reading → Option Reading → reader.Reading → Came → Type 0
Comes goals file left r More = IsReadTo goals file left r
Comes goals file left r Over = IsOver goals file r
Comes goals file left r Failed = Unit {0}

-- so it is whatever was open at first, of which this was left and had been read, and this is left now
abbrev pub ReadsOn : List Goal → (before now : Option Reading) → (old new : reader.Reading) → Came → Type 0
ReadsOn goals before now old new came = (file : Option Reading) → IsReadTo goals file before old → Comes goals file now new came

-- what is said, if the library doesn't fail, of whatever was open at first, of which this is left and has been read
abbrev pub JudgesOn : List Goal → Option Reading → reader.Reading → Result CertEnd LibraryFailed → Type 0
JudgesOn goals left r result = (file : Option Reading) → IsReadTo goals file left r → IfOk result (JudgesOpen goals file)

-- less may be given of what is open than before
abbrev pub IsLess : Option Reading → Option Reading → Type 0
IsLess (Some before) (Some now) = now.room < before.room
IsLess _ _ = ⊥
