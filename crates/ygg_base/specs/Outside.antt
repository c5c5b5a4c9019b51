-- What libraries and sinks answer.
use Rattle.std.specs.Prelude.{
  ◌≡◌,
  ℕ,
  ◌+◌,
  ◌-◌,
  ◌<◌,
  ◌≤◌,
  ◌^◌,
  min,
  List,
  ◌++◌,
  [],
  ◌∷◌,
  Option,
  None,
  Some,
  IfSome,
  option_map,
  length,
  take,
  drop,
  if◌then◌else◌,
}
use Rattle.std.specs.Str.{bytes_eq}
use Rattle.ygg_base.specs.declared.lists.Held.{Held}
use Rattle.ygg_base.specs.declared.outside.Fetch.{Fetch}
use Rattle.ygg_base.specs.declared.outside.Fetch.TheVariants.{Found, Absent, TooLarge, Failed, Memory}
use Rattle.ygg_base.specs.declared.outside.Opened.{Opened}
use Rattle.ygg_base.specs.declared.outside.Opened.TheVariants as opened
use Rattle.ygg_base.specs.declared.outside.Piece.{Piece}
use Rattle.ygg_base.specs.declared.outside.Piece.TheVariants as piece
use Rattle.ygg_base.specs.declared.outside.Moved.{Moved}
use Rattle.ygg_base.specs.declared.outside.Moved.TheVariants as moved

-- a count of faults has risen, or stands at the end of its type
abbrev pub Rose : ℕ → ℕ → Type 0
Rose before now = min (before + 1) (2 ^ 64 - 1) ≤ now

-- the bytes of the first file of that name
abbrev pub bytes_of : List Held → List ℕ → Option (List ℕ)
bytes_of [] name = None
bytes_of (file ∷ files) name = if bytes_eq file.name name then Some file.bytes else bytes_of files name

-- an answer for a name that stands for these bytes, or for no file
abbrev pub FitsFile : Option (List ℕ) → ℕ → Fetch → Type 0
FitsFile stored limit (Found text) = stored ≡ Some text
FitsFile stored limit Absent = stored ≡ None
FitsFile stored limit TooLarge = (text : List ℕ) × (stored ≡ Some text) × (limit < length text)
FitsFile stored limit Failed = Unit {0}
FitsFile stored limit Memory = Unit {0}

-- a file that is found has at most so many bytes
abbrev pub IsWithin : ℕ → Fetch → Type 0
IsWithin limit (Found text) = length text ≤ limit
IsWithin limit Absent = Unit {0}
IsWithin limit TooLarge = Unit {0}
IsWithin limit Failed = Unit {0}
IsWithin limit Memory = Unit {0}

-- an open file: the bytes from the position on, where they are told, and how many it may still give at most
pub record Reading : Type 0 where
  pub rest : Option (List ℕ)
  pub room : ℕ

-- a file is open
abbrev pub IsOpen : Option Reading → Type 0
IsOpen None = ⊥
IsOpen (Some r) = Unit {0}

-- what is open after an answer to `open`: a file that may give at most so many bytes, or none
abbrev pub Opens : ℕ → Opened → Option Reading → Type 0
Opens limit opened.Open None = ⊥
Opens limit opened.Open (Some r) = r.room ≤ limit
Opens limit opened.Absent now = now ≡ None
Opens limit opened.TooLarge now = now ≡ None
Opens limit opened.Failed now = now ≡ None
Opens limit opened.Memory now = now ≡ None

-- an answer to `open` for a name that stands for these bytes, or for no file: what is open stands at their beginning
abbrev pub FitsOpened : Option (List ℕ) → ℕ → Opened → Option Reading → Type 0
FitsOpened stored limit opened.Open now = (text : List ℕ) × (stored ≡ Some text) × (length text ≤ limit) × IfSome now (λ r. r.rest ≡ Some text)
FitsOpened stored limit opened.Absent now = stored ≡ None
FitsOpened stored limit opened.TooLarge now = (text : List ℕ) × (stored ≡ Some text) × (limit < length text)
FitsOpened stored limit opened.Failed now = Unit {0}
FitsOpened stored limit opened.Memory now = Unit {0}

-- so many bytes, in front of a slice, are the next ones of an open file
pub record IsNext (r : Reading) (count : ℕ) (bytes : List ℕ) : Type 0 where
  pub some : 1 ≤ count
  pub fits : count ≤ length bytes
  pub within : count ≤ r.room
  pub told : IfSome r.rest (λ rest. (count ≤ length rest) × (take count bytes ≡ take count rest))

-- the open file behind so many bytes
abbrev pub behind : ℕ → Reading → Reading
behind count r = record { rest = option_map (drop count) r.rest; room = r.room - count }

-- what an open file gives into a slice that is these bytes afterwards, and what is open then: a file whose bytes are told ends exactly where none is left
abbrev pub Gives : Option Reading → Piece → List ℕ → Option Reading → Type 0
Gives (Some r) (piece.Got count) bytes now = IsNext r count bytes × (now ≡ Some (behind count r))
Gives (Some r) piece.End bytes now = IfSome r.rest (λ rest. rest ≡ []) × (now ≡ Some r)
Gives (Some r) piece.Failed bytes now = now ≡ Some r
Gives None given bytes now = Unit {0}

-- what has been taken after a `put` of these bytes: all of them besides, or a front of them where it failed
abbrev pub Takes : List ℕ → List ℕ → Moved → List ℕ → Type 0
Takes before bytes moved.Done now = now ≡ before ++ bytes
Takes before bytes moved.Failed now = (count : ℕ) × (count ≤ length bytes) × (now ≡ before ++ take count bytes)

-- a sink that tells its bytes goes on telling them, and one that doesn't never begins to
abbrev pub PutGives : Option (List ℕ) → List ℕ → Moved → Option (List ℕ) → Type 0
PutGives None bytes outcome now = now ≡ None
PutGives (Some before) bytes outcome now = (text : List ℕ) × (now ≡ Some text) × Takes before bytes outcome text
