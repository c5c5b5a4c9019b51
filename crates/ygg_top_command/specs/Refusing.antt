-- The one refusal of each file that is no layer file, and of each file that is not read.
use Rattle.std.specs.Prelude.{◌≡◌, ◌⊎◌, ℕ, ◌≤◌, ◌<◌, List, length, Option, Some, None}
use Rattle.ygg_base.specs.declared.failure.Refusal.{Refusal}
use Rattle.ygg_base.specs.declared.reason.Reason.TheVariants as reason
use Rattle.ygg_base.specs.Reason.{refusal_at}
use Rattle.ygg_base.specs.declared.tokens.Tokens.{Tokens}
use Rattle.ygg_syntax.specs.declared.tree.File.{File}
use Rattle.ygg_accept.specs.Accepting.{IsAccepted, RefusesLayers}

-- the most bytes of a layer file, or of a schedule
abbrev pub most_bytes : ℕ
most_bytes = 1048576

-- the bytes are this layer file without a fault
pub record IsLayerFile (bytes : List ℕ) (f : File) : Type 0 where
  pub small : length bytes ≤ most_bytes
  pub tokens : Tokens
  pub accepted : IsAccepted bytes tokens f

-- a refusal of what stands under the name that is the word at this place, before its bytes are looked at: nothing stands there, or more bytes than so many
abbrev pub RefusesUnread : (most place : ℕ) → Option (List ℕ) → Refusal → Type 0
RefusesUnread most place None r = r ≡ refusal_at reason.Absent 0 place
RefusesUnread most place (Some bytes) r = (most < length bytes) × (r ≡ refusal_at reason.TooLarge 0 place)

-- a refusal of the bytes that stand under a name
abbrev pub RefusesRead : Option (List ℕ) → Refusal → Type 0
RefusesRead None r = ⊥
RefusesRead (Some bytes) r = (length bytes ≤ most_bytes) × RefusesLayers bytes r

-- the refusal of the layer file of a command, which is the word after it
abbrev pub RefusesFile : Option (List ℕ) → Refusal → Type 0
RefusesFile stored r = RefusesUnread most_bytes 1 stored r ⊎ RefusesRead stored r
