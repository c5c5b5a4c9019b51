-- The machine of a disk.
use Rattle.std.specs.Prelude.{◌≡◌, Bool, if◌then◌else◌, List, [], ◌∷◌, codes, replicate, Option, Some, None}
use Rattle.std.specs.Str.{bytes_eq}
use Rattle.ygg_value.specs.Number.{Grid}
use Rattle.ygg_value.specs.Values.{word_in, row_in}
use Rattle.ygg_value.specs.declared.row.Value.{Value}
use Rattle.ygg_value.specs.declared.row.Value.TheVariants.{Row, Table}
use Rattle.ygg_syntax.specs.declared.tree.DiskText.{DiskText}
use Rattle.ygg_base.specs.declared.geometry.DiskKind.{DiskKind}
use Rattle.ygg_base.specs.declared.geometry.DiskKind.TheVariants.{Sync, Async}
use Rattle.ygg_disk.specs.Disk as disk
use Rattle.ygg_disk.specs.Kinds.{model_of}
use Rattle.ygg_meaning.specs.Environments.{Name, Env}
use Rattle.ygg_meaning.specs.Progress.{Answer}
use Rattle.ygg_meaning.specs.Machine.{based, Machine}

-- the disk call of an operation's name and arguments: `read(at)`, `write(at, row)` or `flush()`
abbrev pub disk_call : Name → List Value → Option disk.Call
disk_call name [] = if bytes_eq name (codes "flush") then Some disk.Flush else None
disk_call name (at ∷ []) = if bytes_eq name (codes "read") then Some (disk.Read (word_in at).bits) else None
disk_call name (at ∷ row ∷ []) = if bytes_eq name (codes "write") then Some (disk.Write (word_in at).bits (row_in row)) else None
disk_call name _ = None

-- a disk's reply as an answer
abbrev pub answer_to : disk.Reply → Answer
answer_to None = None
answer_to (Some row) = Some (Row row)

-- the tables that a disk of a kind shows, by name: a synchronous disk has one, an asynchronous disk what reads see and what power loss leaves
abbrev pub tables_in : (kind : DiskKind) → (model_of kind).State → Env
tables_in Sync view = (codes "view", Table view) ∷ []
tables_in Async d = (codes "view", Table d.view) ∷ (codes "stable", Table d.stable) ∷ []

-- a table of zeros of the disk's size
abbrev pub zeros_on : DiskText → Grid
zeros_on d = record { width = d.width.value; words = d.words.value; rows = replicate d.rows.value (replicate d.words.value 0) }

-- Whatever disk calls are made on: its states, and its steps with what is noted of each.
pub record Store (B X : Type 0) : Type 1 where
  pub Starts : B → Type 0
  pub Calls : B → disk.Call → List X → disk.Reply → B → Type 0
  -- power fails within a call
  pub Falls : B → disk.Call → List X → B → Type 0
  -- power fails between calls
  pub Loses : B → B → Type 0

-- The machine of whatever disk calls are made on. It has no background steps, and waking it makes no call.
abbrev pub machine_on : {B X : Type 0} → Store B X → Machine B X
machine_on {B} {X} K = record {
  Starts = λ s notes. (b : B) × (notes ≡ []) × (s ≡ based b) × K.Starts b;
  Calls = λ s name args notes y s'. (b b' : B) × (call : disk.Call) × (reply : disk.Reply) × (disk_call name args ≡ Some call)
      × (s ≡ based b) × K.Calls b call notes reply b' × (y ≡ answer_to reply) × (s' ≡ based b');
  Falls = λ s name args notes f. (b : B) × (call : disk.Call) × (disk_call name args ≡ Some call) × (s ≡ based b) × K.Falls b call notes f;
  Ticks = λ s name notes s'. ⊥;
  TickFalls = λ s name notes f. ⊥;
  Loses = λ s notes f. (b : B) × (notes ≡ []) × (s ≡ based b) × K.Loses b f;
  Wakes = λ f notes s. (notes ≡ []) × (s ≡ based f);
  WakeFalls = λ f notes f'. ⊥;
}

-- the disk that a file names as a store of its tables, which start with zeros
abbrev pub disk_store : DiskText → Store Env Bool
disk_store d = record {
  Starts = λ e. e ≡ tables_in d.kind ((model_of d.kind).start (zeros_on d));
  Calls = λ e call picks reply e'. (from to : (model_of d.kind).State)
      × (e ≡ tables_in d.kind from) × (model_of d.kind).Calls from call picks reply to × (e' ≡ tables_in d.kind to);
  Falls = λ e call picks e'. (from to : (model_of d.kind).State) × (e ≡ tables_in d.kind from) × (model_of d.kind).Falls from call picks to
      × (e' ≡ tables_in d.kind to);
  Loses = λ e e'. (from : (model_of d.kind).State) × (e ≡ tables_in d.kind from) × (e' ≡ tables_in d.kind ((model_of d.kind).lost from));
}

-- the machine of the disk that a file names
abbrev pub DiskMachine : DiskText → Machine Env Bool
DiskMachine d = machine_on (disk_store d)
