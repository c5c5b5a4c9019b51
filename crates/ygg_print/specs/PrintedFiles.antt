-- The marks of a layer file in its one canonical text.
use Rattle.std.specs.Prelude.{if◌then◌else◌, List, [], ◌∷◌, ◌++◌, map, Option, Some, None}
use Rattle.ygg_base.specs.declared.token.Keyword as base
use Rattle.ygg_base.specs.declared.token.Keyword.TheVariants as word
use Rattle.ygg_base.specs.declared.token.Symbol.TheVariants as sign
use Rattle.ygg_base.specs.declared.token.Mark.{Mark}
use Rattle.ygg_base.specs.declared.token.Mark.TheVariants.{Name, Num, Keyword, Symbol}
use Rattle.ygg_syntax.specs.declared.tree.TypeText.{TypeText}
use Rattle.ygg_syntax.specs.declared.tree.TypeText.TheVariants as shape
use Rattle.ygg_syntax.specs.declared.tree.Declared.{Declared}
use Rattle.ygg_syntax.specs.declared.tree.Expr.{Expr}
use Rattle.ygg_syntax.specs.declared.tree.Block.{Block}
use Rattle.ygg_syntax.specs.declared.tree.DiskText.{DiskText}
use Rattle.ygg_syntax.specs.declared.tree.Def.{Def}
use Rattle.ygg_syntax.specs.declared.tree.Operation.{Operation}
use Rattle.ygg_syntax.specs.declared.tree.Tick.{Tick}
use Rattle.ygg_syntax.specs.declared.tree.Layer.{Layer}
use Rattle.ygg_syntax.specs.declared.tree.File.{File}
use Rattle.ygg_syntax.specs.Files.{disk_word}
use Rattle.ygg_print.specs.Printed.{printed, list_printed}
use Rattle.ygg_print.specs.PrintedBlocks.{all_printed, block_printed}

-- the marks of a type
abbrev pub type_printed : TypeText → List Mark
type_printed (shape.Word w) = Keyword word.Word ∷ Num w.value ∷ []
type_printed (shape.Row m w) = Keyword word.Row ∷ Num m.value ∷ Keyword word.Of ∷ Num w.value ∷ []
type_printed (shape.Table n m w) = Keyword word.Table ∷ Num n.value ∷ Keyword word.Of ∷ Num m.value ∷ Keyword word.Of ∷ Num w.value ∷ []

-- the marks of a name and its type
abbrev pub declared_printed : Declared → List Mark
declared_printed d = Name d.name.text ∷ Symbol sign.Colon ∷ type_printed d.shape

-- the marks of the disk
abbrev pub disk_printed : DiskText → List Mark
disk_printed d =
    Keyword word.Disk ∷ Keyword (disk_word d.kind) ∷ Num d.rows.value ∷ Keyword word.Of ∷ Num d.words.value ∷ Keyword word.Of ∷ Num d.width.value
    ∷ Symbol sign.Semicolon ∷ []

-- the marks of the name of a definition and its types
abbrev pub signature_printed : Def → List Mark
signature_printed d =
    Keyword word.Def ∷ Name d.name.text ∷ Symbol sign.RoundOpen ∷
    (list_printed (map declared_printed d.parameters) ++ Symbol sign.RoundClose ∷ Symbol sign.Arrow ∷ type_printed d.shape)

-- the marks of a definition
abbrev pub definition_printed : Def → List Mark
definition_printed d = signature_printed d ++ Symbol sign.Assign ∷ (printed d.body ++ Symbol sign.Semicolon ∷ [])

-- the marks of a variable after its keyword
abbrev pub variable_printed : base.Keyword → Declared → List Mark
variable_printed k d = Keyword k ∷ (declared_printed d ++ Symbol sign.Semicolon ∷ [])

-- the marks of a claim after its keyword
abbrev pub claim_printed : base.Keyword → Expr → List Mark
claim_printed k e = Keyword k ∷ (printed e ++ Symbol sign.Semicolon ∷ [])

-- the marks of a block that may be left out, after its keyword: an empty one is left out
abbrev pub optional_printed : base.Keyword → Block → List Mark
optional_printed k b = if (block_printed b).empty then [] else Keyword k ∷ (block_printed b).marks

-- the marks of the block for a crash, where one is written: an empty one is not left out
abbrev pub on_crash_printed : Option Block → List Mark
on_crash_printed None = []
on_crash_printed (Some b) = Keyword word.On ∷ Keyword word.Crash ∷ (block_printed b).marks

-- the marks of the type of an answer
abbrev pub answer_type_printed : Option TypeText → List Mark
answer_type_printed None = []
answer_type_printed (Some t) = Symbol sign.Arrow ∷ type_printed t

-- the marks of an operation before its blocks
abbrev pub heading_printed : Operation → List Mark
heading_printed o =
    Keyword word.Op ∷ Name o.name.text ∷ Symbol sign.RoundOpen ∷
    (list_printed (map declared_printed o.arguments) ++ Symbol sign.RoundClose ∷ answer_type_printed o.answer)

-- the marks of the blocks of an operation
abbrev pub bodies_printed : Operation → List Mark
bodies_printed o = Keyword word.Spec ∷ ((block_printed o.spec).marks
    ++ (on_crash_printed o.on_crash ++ Keyword word.Impl ∷ (block_printed o.implementation).marks))

-- the marks of an operation
abbrev pub operation_printed : Operation → List Mark
operation_printed o = heading_printed o ++ bodies_printed o

-- the marks of a background step
abbrev pub tick_printed : Tick → List Mark
tick_printed t = Keyword word.Tick ∷ Name t.name.text ∷ (block_printed t.body).marks

-- the marks of the variables of a layer, each kind with the block that sets it up
abbrev pub variables_printed : Layer → List Mark
variables_printed l =
    all_printed (map (variable_printed word.State) l.state) ++ (optional_printed word.Start l.start
    ++ (all_printed (map (variable_printed word.Memory) l.memory) ++ optional_printed word.Format l.format))

-- the marks of what a layer does
abbrev pub steps_printed : Layer → List Mark
steps_printed l =
    all_printed (map operation_printed l.operations) ++ (optional_printed word.Crash l.crash
    ++ (all_printed (map tick_printed l.ticks) ++ optional_printed word.Recover l.recover))

-- the marks of what a layer claims
abbrev pub claims_printed : Layer → List Mark
claims_printed l =
    claim_printed word.Relate l.relate ++ (all_printed (map (claim_printed word.Always) l.always)
    ++ (all_printed (map (claim_printed word.Settled) l.settled) ++ all_printed (map (claim_printed word.Maybe) l.maybe)))

-- the marks of a layer
abbrev pub layer_printed : Layer → List Mark
layer_printed l = Keyword word.Layer ∷ Name l.name.text ∷ Symbol sign.BraceOpen ∷
    (variables_printed l ++ (steps_printed l ++ (claims_printed l ++ Symbol sign.BraceClose ∷ [])))

-- the marks of the version of the language and of the disk
abbrev pub head_printed : DiskText → List Mark
head_printed d = Keyword word.Yggdrasil ∷ Num 1 ∷ Symbol sign.Semicolon ∷ disk_printed d

-- the marks of a layer file
abbrev pub file_printed : File → List Mark
file_printed f = head_printed f.disk ++ (all_printed (map definition_printed f.defs) ++ all_printed (map layer_printed f.layers))
