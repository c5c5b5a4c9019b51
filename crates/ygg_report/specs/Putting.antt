-- What a sink takes of a text that a command prints, whole or cut short.
use Rattle.std.specs.Prelude.{◌≡◌, ◌⊎◌, ℕ, List, ◌++◌, Option, Some, IfSome, Result, Ok, Err}
use Rattle.ygg_base.specs.declared.status.Status.{Status}
use Rattle.ygg_base.specs.declared.status.Status.TheVariants.{Refused, Fault, NoMemory}

-- a sink that tells its bytes has taken these besides
abbrev pub Adds : Option (List ℕ) → List ℕ → Option (List ℕ) → Type 0
Adds before bytes now = IfSome before (λ b. now ≡ Some (b ++ bytes))

-- a front of the bytes
pub record IsFront (front bytes : List ℕ) : Type 0 where
  pub rest : List ℕ
  pub is : bytes ≡ front ++ rest

-- a text that is put whole, or cut short with a fault
abbrev pub IsPut : Option (List ℕ) → Option (List ℕ) → List ℕ → (SinkRose : Type 0) → Result (Unit {0}) Status → Type 0
IsPut before now text SinkRose (Ok done) = Adds before text now
IsPut before now text SinkRose (Err Fault) = SinkRose × (front : List ℕ) × IsFront front text × Adds before front now
IsPut before now text SinkRose (Err other) = ⊥

-- a text that is put whole with its status, or cut short with a fault
abbrev pub IsPutSo : Option (List ℕ) → Option (List ℕ) → List ℕ → Status → (SinkRose : Type 0) → Status → Type 0
IsPutSo before now text status SinkRose result =
    ((result ≡ status) × Adds before text now)
    ⊎ ((result ≡ Fault) × SinkRose × (front : List ℕ) × IsFront front text × Adds before front now)

-- a front of the text of a status and a text of this kind
abbrev pub IsCutOf : (Status → List ℕ → Type 0) → List ℕ → Type 0
IsCutOf Ended front = (status : Status) × (text : List ℕ) × Ended status text × IsFront front text

-- What the sink has taken by the end of what ends with a status and a text of this kind: the text, or a front of one where the sink failed. Where no memory
-- was left, nothing was taken, or a front of this kind.
abbrev pub Puts : (Status → List ℕ → Type 0) → (List ℕ → Type 0) → Option (List ℕ) → Option (List ℕ) → (SinkRose : Type 0) → Status → Type 0
Puts Ended Left before now SinkRose Fault = SinkRose × (front : List ℕ) × IsCutOf Ended front × Adds before front now
Puts Ended Left before now SinkRose NoMemory = (now ≡ before) ⊎ ((front : List ℕ) × Left front × Adds before front now)
Puts Ended Left before now SinkRose Refused = ⊥
Puts Ended Left before now SinkRose status = (text : List ℕ) × Ended status text × Adds before text now

-- no front
abbrev pub NoFront : List ℕ → Type 0
NoFront front = ⊥
