-- Which tokens a layer file is derived from, by the grammar
--   file   = "yggdrasil" "1" ";" disk {def} layer {layer}
--   disk   = "disk" ("sync" | "async") NUM "of" NUM "of" NUM ";"
--   def    = "def" NAME "(" [param {"," param}] ")" "->" type "=" expr ";"
--   param  = NAME ":" type
--   type   = small | "table" NUM "of" NUM "of" NUM
--   small  = "word" NUM | "row" NUM "of" NUM
--   layer  = "layer" NAME "{"
--              {"state" NAME ":" type ";"} ["start" plain]
--              {"memory" NAME ":" type ";"} ["format" impl]
--              {op} ["crash" spec] {"tick" NAME impl} ["recover" impl]
--              "relate" expr ";" {"always" expr ";"}
--              {"settled" expr ";"} {"maybe" expr ";"} "}"
--   op     = "op" NAME "(" [arg {"," arg}] ")"
--              ( "spec" spec ["on" "crash" spec] "impl" impl
--              | "->" small "spec" specR ["on" "crash" spec] "impl" implR )
--   arg    = NAME ":" small
use Rattle.std.specs.Prelude.{◌≡◌, ◌<◌, ◌^◌, ◌&&◌, if◌then◌else◌, List, [], ◌∷◌, length, map, Option, Some, None}
use Rattle.ygg_base.specs.declared.token.Keyword.{Keyword}
use Rattle.ygg_base.specs.declared.token.Keyword.TheVariants as word
use Rattle.ygg_base.specs.declared.token.Symbol.TheVariants as sign
use Rattle.ygg_base.specs.declared.token.Mark.TheVariants as mark
use Rattle.ygg_base.specs.declared.token.Token.{Token}
use Rattle.ygg_syntax.specs.declared.tree.Place.{Place}
use Rattle.ygg_syntax.specs.declared.tree.TypeText.{TypeText}
use Rattle.ygg_syntax.specs.declared.tree.TypeText.TheVariants as shape
use Rattle.ygg_syntax.specs.declared.tree.Declared.{Declared}
use Rattle.ygg_syntax.specs.declared.tree.Expr.{Expr}
use Rattle.ygg_syntax.specs.declared.tree.Block.{Block}
use Rattle.ygg_base.specs.declared.geometry.DiskKind.{DiskKind}
use Rattle.ygg_base.specs.declared.geometry.DiskKind.TheVariants as disk
use Rattle.ygg_syntax.specs.declared.tree.DiskText.{DiskText}
use Rattle.ygg_syntax.specs.declared.tree.Def.{Def}
use Rattle.ygg_syntax.specs.declared.tree.Operation.{Operation}
use Rattle.ygg_syntax.specs.declared.tree.Tick.{Tick}
use Rattle.ygg_syntax.specs.declared.tree.Layer.{Layer}
use Rattle.ygg_syntax.specs.declared.tree.File.{File}
use Rattle.ygg_syntax.specs.Reading.{Reading, starts, passes, takes, in_turn, impossible}
use Rattle.ygg_syntax.specs.Expressions.{keyword, symbol, named, numbered, expr}
use Rattle.ygg_syntax.specs.declared.grammar.BlockKind.TheVariants.{Plain, Spec, Impl}
use Rattle.ygg_syntax.specs.declared.grammar.Sort.{Sort}
use Rattle.ygg_syntax.specs.declared.grammar.Sort.TheVariants as sorts
use Rattle.ygg_syntax.specs.Blocks.{block, answering, optional, block_phrase, is_nowhere, is_unwritten}

-- a table, where one may stand
abbrev pub table_in : Sort → List Reading → Reading
table_in sorts.All parts = in_turn parts
table_in sorts.Small parts = impossible

-- a type
abbrev pub type_in : Sort → TypeText → Reading
type_in sort (shape.Word w) = in_turn (keyword word.Word ∷ numbered w ∷ [])
type_in sort (shape.Row m w) = in_turn (keyword word.Row ∷ numbered m ∷ keyword word.Of ∷ numbered w ∷ [])
type_in sort (shape.Table n m w) = table_in sort (keyword word.Table ∷ numbered n ∷ keyword word.Of ∷ numbered m ∷ keyword word.Of ∷ numbered w ∷ [])

-- a name and its type
abbrev pub declared : Sort → Declared → Reading
declared sort d = in_turn (named d.name ∷ symbol sign.Colon ∷ type_in sort d.shape ∷ [])

-- names and their types, with a comma before each
abbrev pub more_declared : Sort → List Declared → List Reading
more_declared sort [] = []
more_declared sort (d ∷ ds) = symbol sign.Comma ∷ declared sort d ∷ more_declared sort ds

-- names and their types with commas between them, or none
abbrev pub any_declared : Sort → List Declared → Reading
any_declared sort [] = in_turn []
any_declared sort (d ∷ ds) = in_turn (declared sort d ∷ more_declared sort ds)

-- the keyword of a kind of disk
abbrev pub disk_word : DiskKind → Keyword
disk_word disk.Sync = word.Sync
disk_word disk.Async = word.Async

-- the disk
abbrev pub disk_text : DiskText → Reading
disk_text d =
    in_turn (keyword word.Disk ∷ keyword (disk_word d.kind) ∷ numbered d.rows ∷ keyword word.Of ∷ numbered d.words ∷ keyword word.Of
    ∷ numbered d.width ∷ symbol sign.Semicolon ∷ [])

-- a definition
abbrev pub definition : Def → Reading
definition d =
    in_turn (keyword word.Def ∷ named d.name ∷ symbol sign.RoundOpen ∷ any_declared sorts.All d.parameters ∷ symbol sign.RoundClose
    ∷ symbol sign.Arrow ∷ type_in sorts.All d.shape ∷ symbol sign.Assign ∷ expr d.body ∷ symbol sign.Semicolon ∷ [])

-- a state or memory variable, after its keyword
abbrev pub variable : Keyword → Declared → Reading
variable k d = in_turn (keyword k ∷ declared sorts.All d ∷ symbol sign.Semicolon ∷ [])

-- an expression that is claimed, after its keyword
abbrev pub claim : Keyword → Expr → Reading
claim k e = in_turn (keyword k ∷ expr e ∷ symbol sign.Semicolon ∷ [])

-- the block for a crash, where one is written
abbrev pub on_crash : Option Block → Reading
on_crash None = in_turn []
on_crash (Some b) = in_turn (keyword word.On ∷ keyword word.Crash ∷ block Spec b ∷ [])

-- the blocks of an operation without and with an answer
abbrev pub operation_blocks : Operation → Option TypeText → Reading
operation_blocks o None = in_turn (keyword word.Spec ∷ block Spec o.spec ∷ on_crash o.on_crash ∷ keyword word.Impl ∷ block Impl o.implementation ∷ [])
operation_blocks o (Some t) =
    in_turn (symbol sign.Arrow ∷ type_in sorts.Small t ∷ keyword word.Spec ∷ answering Spec o.spec ∷ on_crash o.on_crash ∷ keyword word.Impl
    ∷ answering Impl o.implementation ∷ [])

-- an operation
abbrev pub operation : Operation → Reading
operation o =
    in_turn (keyword word.Op ∷ named o.name ∷ symbol sign.RoundOpen ∷ any_declared sorts.Small o.arguments ∷ symbol sign.RoundClose
    ∷ operation_blocks o o.answer ∷ [])

-- a background step
abbrev pub tick : Tick → Reading
tick t = in_turn (keyword word.Tick ∷ named t.name ∷ block Impl t.body ∷ [])

-- the block `crash`, whose keyword has its place in the tree
abbrev pub crash_block : Place → Block → Reading
crash_block at b from =
    if starts (mark.Keyword word.Crash) from then in_turn (takes (mark.Keyword word.Crash) at ∷ block Spec b ∷ []) from
    else if is_nowhere at && is_unwritten (block_phrase b) then Some from else None

-- a layer
abbrev pub layer : Layer → Reading
layer l =
    in_turn (takes (mark.Keyword word.Layer) l.place ∷ named l.name ∷ symbol sign.BraceOpen
    ∷ in_turn (map (variable word.State) l.state) ∷ optional word.Start Plain l.start
    ∷ in_turn (map (variable word.Memory) l.memory) ∷ optional word.Format Impl l.format
    ∷ in_turn (map operation l.operations) ∷ crash_block l.crash_place l.crash ∷ in_turn (map tick l.ticks) ∷ optional word.Recover Impl l.recover
    ∷ claim word.Relate l.relate ∷ in_turn (map (claim word.Always) l.always)
    ∷ in_turn (map (claim word.Settled) l.settled) ∷ in_turn (map (claim word.Maybe) l.maybe) ∷ symbol sign.BraceClose ∷ [])

-- one layer or more
abbrev pub layers : List Layer → Reading
layers [] = impossible
layers (l ∷ ls) = in_turn (map layer (l ∷ ls))

-- a file
abbrev pub whole_file : File → Reading
whole_file f =
    in_turn (keyword word.Yggdrasil ∷ passes (mark.Num 1) ∷ symbol sign.Semicolon ∷ disk_text f.disk ∷ in_turn (map definition f.defs) ∷ layers f.layers ∷ [])

-- the file derives from these tokens, all of them
pub record Derives (tokens : List Token) (file : File) : Type 0 where
  pub derives : whole_file file tokens ≡ Some []

-- some list of tokens derives the file
abbrev pub IsDerived : File → Type 0
IsDerived file = (tokens : List Token) × Derives tokens file

-- some list of fewer than 2 ^ 32 tokens derives the file
abbrev pub IsDerivable : File → Type 0
IsDerivable file = (tokens : List Token) × (length tokens < 2 ^ 32) × Derives tokens file
