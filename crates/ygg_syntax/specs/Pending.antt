-- The symbols of the grammar that are still to come after some tokens.
use Rattle.std.specs.Prelude.{ℕ, Bool, true, false, if◌then◌else◌, List, [], ◌∷◌, ◌++◌, length, Option, Some, None, is_some}
use Rattle.ygg_base.specs.declared.token.Keyword.{Keyword}
use Rattle.ygg_base.specs.declared.token.Keyword.TheVariants as word
use Rattle.ygg_base.specs.declared.token.Symbol.{Symbol}
use Rattle.ygg_base.specs.declared.token.Symbol.TheVariants as sign
use Rattle.ygg_base.specs.declared.token.Mark.{Mark}
use Rattle.ygg_base.specs.declared.token.Mark.TheVariants as mark
use Rattle.ygg_base.specs.declared.token.Token.{Token}
use Rattle.ygg_value.specs.declared.operation.Op.{Op}
use Rattle.ygg_value.specs.declared.operation.Op.TheVariants as op
use Rattle.ygg_syntax.specs.Reading.{same_mark}
use Rattle.ygg_syntax.specs.declared.grammar.BlockKind.{BlockKind}
use Rattle.ygg_syntax.specs.declared.grammar.BlockKind.TheVariants.{Plain, Spec, Impl}
use Rattle.ygg_syntax.specs.declared.grammar.Sort.{Sort}
use Rattle.ygg_syntax.specs.declared.grammar.Sort.TheVariants as sorts

-- a part of a rule that may be left out, or be repeated. It begins with a token of its own
pub data Part : Type 0 where
  -- "[" expr "]"
  index : Part
  -- "(" [expr {"," expr}] ")"
  argument_list : Part
  -- "," expr
  next_expression : Part
  -- "," NAME ":" type, with these types
  next_declared : Sort → Part
  -- def
  definition : Part
  -- layer
  next_layer : Part
  -- "state" NAME ":" type ";"
  state_variable : Part
  -- "start" plain
  start_block : Part
  -- "memory" NAME ":" type ";"
  memory_variable : Part
  -- "format" impl
  format_block : Part
  -- op
  operation : Part
  -- "on" "crash" spec
  on_crash : Part
  -- "crash" spec
  crash_block : Part
  -- "tick" NAME impl
  tick : Part
  -- "recover" impl
  recover_block : Part
  -- "always" expr ";"
  always : Part
  -- "settled" expr ";"
  settled : Part
  -- "maybe" expr ";"
  maybe : Part
  -- "else" K
  else_block : BlockKind → Part

-- a symbol of the grammar
pub data Pending : Type 0 where
  -- a token of this mark
  exactly : Mark → Pending
  -- NAME
  name : Pending
  -- NUM
  number : Pending
  -- OP
  operator : Pending
  -- a part in square brackets
  perhaps : Part → Pending
  -- a part in braces
  repeated : Part → Pending
  -- expr
  expression : Pending
  -- [expr {"," expr}] ")"
  rest_of_arguments : Pending
  -- type, or small
  some_type : Sort → Pending
  -- [NAME ":" type {"," NAME ":" type}] ")", with these types
  rest_of_declared : Sort → Pending
  -- K
  block : BlockKind → Pending
  -- KR
  answering : BlockKind → Pending
  -- {stmtK}
  statements : BlockKind → Pending
  -- fromK
  right_side : BlockKind → Pending
  -- "sync" | "async"
  disk_kind : Pending
  -- what follows the arguments of an operation
  rest_of_operation : Pending
  -- file
  file : Pending

-- what becomes of a symbol with the next token
pub data After : Type 0 where
  -- the token is taken, and these symbols come next
  leaves : List Pending → After
  -- the symbol may be left out, and the token is the next symbol's
  drops : After
  -- the token can't come here
  refuses : After

-- a keyword of the language
abbrev pub word_of : Keyword → Pending
word_of k = exactly (mark.Keyword k)

-- a sign of the language
abbrev pub sign_of : Symbol → Pending
sign_of s = exactly (mark.Symbol s)

-- {"[" expr "]"}
abbrev pub indices : Pending
indices = repeated index

-- ["(" [expr {"," expr}] ")"]
abbrev pub arguments : Pending
arguments = perhaps argument_list

-- {"," expr}
abbrev pub more_expressions : Pending
more_expressions = repeated next_expression

-- these come after the others
abbrev pub then_come : After → List Pending → After
then_come (leaves qs) ps = leaves (qs ++ ps)
then_come drops ps = drops
then_come refuses ps = refuses

-- the operation that a symbol stands for
abbrev pub operation_of : Symbol → Option Op
operation_of sign.Plus = Some op.Add
operation_of sign.Minus = Some op.Sub
operation_of sign.Star = Some op.Mul
operation_of sign.Ampersand = Some op.And
operation_of sign.Bar = Some op.Or
operation_of sign.Caret = Some op.Xor
operation_of sign.ShiftLeft = Some op.Shl
operation_of sign.ShiftRight = Some op.Shr
operation_of sign.Equal = Some op.Eq
operation_of sign.NotEqual = Some op.Ne
operation_of sign.Less = Some op.Lt
operation_of sign.LessOrEqual = Some op.Le
operation_of sign.Greater = Some op.Gt
operation_of sign.GreaterOrEqual = Some op.Ge
operation_of sign.Implies = Some op.Imp
operation_of _ = None

-- an operator
abbrev pub after_operator : Mark → After
after_operator (mark.Symbol s) = if is_some (operation_of s) then leaves [] else refuses
after_operator _ = refuses

-- NAME ":" NUM "below" NUM
abbrev pub range : List Pending
range = name ∷ sign_of sign.Colon ∷ number ∷ word_of word.Below ∷ number ∷ []

-- what follows `all` or `any`
abbrev pub quantified : List Pending
quantified = sign_of sign.RoundOpen ∷ range ++ (sign_of sign.Comma ∷ expression ∷ sign_of sign.RoundClose ∷ [])

-- the alternatives of an atom
abbrev pub after_atom : Mark → After
after_atom (mark.Num n) = leaves (sign_of sign.Colon ∷ number ∷ [])
after_atom (mark.Name text) = leaves (arguments ∷ [])
after_atom (mark.Symbol sign.RoundOpen) = leaves (expression ∷ operator ∷ expression ∷ sign_of sign.RoundClose ∷ [])
after_atom (mark.Keyword word.Low) = leaves (sign_of sign.Dot ∷ name ∷ [])
after_atom (mark.Keyword word.Pick) =
    leaves (sign_of sign.RoundOpen ∷ expression ∷ sign_of sign.Comma ∷ expression ∷ sign_of sign.Comma ∷ expression ∷ sign_of sign.RoundClose ∷ [])
after_atom (mark.Keyword word.Resize) = leaves (sign_of sign.RoundOpen ∷ expression ∷ sign_of sign.Comma ∷ number ∷ sign_of sign.RoundClose ∷ [])
after_atom (mark.Keyword word.Fill) = leaves (sign_of sign.RoundOpen ∷ number ∷ sign_of sign.Comma ∷ expression ∷ sign_of sign.RoundClose ∷ [])
after_atom (mark.Keyword word.Row) = leaves (sign_of sign.RoundOpen ∷ expression ∷ more_expressions ∷ sign_of sign.RoundClose ∷ [])
after_atom (mark.Keyword word.All) = leaves quantified
after_atom (mark.Keyword word.Any) = leaves quantified
after_atom _ = refuses

-- the alternatives of an expression
abbrev pub after_expression : Mark → After
after_expression (mark.Symbol sign.Tilde) = leaves (expression ∷ [])
after_expression m = then_come (after_atom m) (indices ∷ [])

-- expressions and a bracket, or the bracket at once
abbrev pub after_arguments : Mark → After
after_arguments (mark.Symbol sign.RoundClose) = leaves []
after_arguments m = then_come (after_expression m) (more_expressions ∷ sign_of sign.RoundClose ∷ [])

-- the alternatives of a type
abbrev pub after_type : Sort → Mark → After
after_type sort (mark.Keyword word.Word) = leaves (number ∷ [])
after_type sort (mark.Keyword word.Row) = leaves (number ∷ word_of word.Of ∷ number ∷ [])
after_type sorts.All (mark.Keyword word.Table) = leaves (number ∷ word_of word.Of ∷ number ∷ word_of word.Of ∷ number ∷ [])
after_type sort m = refuses

-- names with their types and a bracket, or the bracket at once
abbrev pub after_declared : Sort → Mark → After
after_declared sort (mark.Symbol sign.RoundClose) = leaves []
after_declared sort (mark.Name text) = leaves (sign_of sign.Colon ∷ some_type sort ∷ repeated (next_declared sort) ∷ sign_of sign.RoundClose ∷ [])
after_declared sort m = refuses

-- the alternatives of a statement, and the statements after it
abbrev pub after_statements : BlockKind → Mark → After
after_statements kind (mark.Keyword word.Let) = leaves (name ∷ sign_of sign.Assign ∷ right_side kind ∷ sign_of sign.Semicolon ∷ statements kind ∷ [])
after_statements kind (mark.Name text) = leaves (indices ∷ sign_of sign.Assign ∷ right_side kind ∷ sign_of sign.Semicolon ∷ statements kind ∷ [])
after_statements kind (mark.Keyword word.If) = leaves (expression ∷ block kind ∷ perhaps (else_block kind) ∷ statements kind ∷ [])
after_statements kind (mark.Keyword word.For) = leaves (range ++ (block kind ∷ statements kind ∷ []))
after_statements Impl (mark.Keyword word.Call) = leaves (name ∷ sign_of sign.RoundOpen ∷ rest_of_arguments ∷ sign_of sign.Semicolon ∷ statements Impl ∷ [])
after_statements kind m = drops

-- the alternatives of a right side
abbrev pub after_source : BlockKind → Mark → After
after_source Spec (mark.Keyword word.Choose) = leaves []
after_source Impl (mark.Keyword word.Call) = leaves (name ∷ sign_of sign.RoundOpen ∷ rest_of_arguments ∷ [])
after_source kind m = after_expression m

-- the two kinds of disk
abbrev pub after_disk : Mark → After
after_disk (mark.Keyword word.Sync) = leaves []
after_disk (mark.Keyword word.Async) = leaves []
after_disk m = refuses

-- the blocks of an operation, or the type of its answer first
abbrev pub after_operation : Mark → After
after_operation (mark.Keyword word.Spec) = leaves (block Spec ∷ perhaps on_crash ∷ word_of word.Impl ∷ block Impl ∷ [])
after_operation (mark.Symbol sign.Arrow) = leaves (some_type sorts.Small ∷ word_of word.Spec ∷ answering Spec ∷ perhaps on_crash ∷ word_of word.Impl
    ∷ answering Impl ∷ [])
after_operation m = refuses

-- the token that a part begins with
abbrev pub beginning : Part → Mark
beginning index = mark.Symbol sign.SquareOpen
beginning argument_list = mark.Symbol sign.RoundOpen
beginning next_expression = mark.Symbol sign.Comma
beginning (next_declared sort) = mark.Symbol sign.Comma
beginning definition = mark.Keyword word.Def
beginning next_layer = mark.Keyword word.Layer
beginning state_variable = mark.Keyword word.State
beginning start_block = mark.Keyword word.Start
beginning memory_variable = mark.Keyword word.Memory
beginning format_block = mark.Keyword word.Format
beginning operation = mark.Keyword word.Op
beginning on_crash = mark.Keyword word.On
beginning crash_block = mark.Keyword word.Crash
beginning tick = mark.Keyword word.Tick
beginning recover_block = mark.Keyword word.Recover
beginning always = mark.Keyword word.Always
beginning settled = mark.Keyword word.Settled
beginning maybe = mark.Keyword word.Maybe
beginning (else_block kind) = mark.Keyword word.Else

-- a variable after its keyword
abbrev pub rest_of_variable : List Pending
rest_of_variable = name ∷ sign_of sign.Colon ∷ some_type sorts.All ∷ sign_of sign.Semicolon ∷ []

-- a layer after its keyword
abbrev pub rest_of_layer : List Pending
rest_of_layer =
    name ∷ sign_of sign.BraceOpen ∷ repeated state_variable ∷ perhaps start_block ∷ repeated memory_variable ∷ perhaps format_block
    ∷ repeated operation ∷ perhaps crash_block ∷ repeated tick ∷ perhaps recover_block
    ∷ word_of word.Relate ∷ expression ∷ sign_of sign.Semicolon ∷ repeated always ∷ repeated settled ∷ repeated maybe ∷ sign_of sign.BraceClose ∷ []

-- a part after its first token
abbrev pub rest_of : Part → List Pending
rest_of index = expression ∷ sign_of sign.SquareClose ∷ []
rest_of argument_list = rest_of_arguments ∷ []
rest_of next_expression = expression ∷ []
rest_of (next_declared sort) = name ∷ sign_of sign.Colon ∷ some_type sort ∷ []
rest_of definition =
    name ∷ sign_of sign.RoundOpen ∷ rest_of_declared sorts.All ∷ sign_of sign.Arrow ∷ some_type sorts.All ∷ sign_of sign.Assign ∷ expression
    ∷ sign_of sign.Semicolon ∷ []
rest_of next_layer = rest_of_layer
rest_of state_variable = rest_of_variable
rest_of start_block = block Plain ∷ []
rest_of memory_variable = rest_of_variable
rest_of format_block = block Impl ∷ []
rest_of operation = name ∷ sign_of sign.RoundOpen ∷ rest_of_declared sorts.Small ∷ rest_of_operation ∷ []
rest_of on_crash = word_of word.Crash ∷ block Spec ∷ []
rest_of crash_block = block Spec ∷ []
rest_of tick = name ∷ block Impl ∷ []
rest_of recover_block = block Impl ∷ []
rest_of always = expression ∷ sign_of sign.Semicolon ∷ []
rest_of settled = expression ∷ sign_of sign.Semicolon ∷ []
rest_of maybe = expression ∷ sign_of sign.Semicolon ∷ []
rest_of (else_block kind) = block kind ∷ []

-- a whole file
abbrev pub rest_of_file : List Pending
rest_of_file =
    exactly (mark.Num 1) ∷ sign_of sign.Semicolon
    ∷ word_of word.Disk ∷ disk_kind ∷ number ∷ word_of word.Of ∷ number ∷ word_of word.Of ∷ number ∷ sign_of sign.Semicolon
    ∷ repeated definition ∷ word_of word.Layer ∷ rest_of_layer ++ repeated next_layer ∷ []

-- the rules: what each symbol becomes with the next token
abbrev pub after : Pending → Mark → After
after (exactly wanted) m = if same_mark wanted m then leaves [] else refuses
after name (mark.Name text) = leaves []
after name _ = refuses
after number (mark.Num n) = leaves []
after number _ = refuses
after operator m = after_operator m
after (perhaps p) m = if same_mark (beginning p) m then leaves (rest_of p) else drops
after (repeated p) m = if same_mark (beginning p) m then leaves (rest_of p ++ repeated p ∷ []) else drops
after expression m = after_expression m
after rest_of_arguments m = after_arguments m
after (some_type sort) m = after_type sort m
after (rest_of_declared sort) m = after_declared sort m
after (block kind) m = if same_mark (mark.Symbol sign.BraceOpen) m then leaves (statements kind ∷ sign_of sign.BraceClose ∷ []) else refuses
after (answering kind) m =
    if same_mark (mark.Symbol sign.BraceOpen) m
    then leaves (statements kind ∷ word_of word.Return ∷ expression ∷ sign_of sign.Semicolon ∷ sign_of sign.BraceClose ∷ []) else refuses
after (statements kind) m = after_statements kind m
after (right_side kind) m = after_source kind m
after disk_kind m = after_disk m
after rest_of_operation m = after_operation m
after file m = if same_mark (mark.Keyword word.Yggdrasil) m then leaves rest_of_file else refuses

-- whether the symbol may be left out at the end of the text
abbrev pub may_end : Pending → Bool
may_end (perhaps p) = true
may_end (repeated p) = true
may_end (statements kind) = true
may_end _ = false

-- whether all may
abbrev pub all_may_end : List Pending → Bool
all_may_end [] = true
all_may_end (p ∷ ps) = if may_end p then all_may_end ps else false

-- the symbols still to come after one more token, or nothing where it can't come
abbrev pub step : List Pending → Mark → Option (List Pending)
step [] m = None
step (p ∷ ps) m = elim (after p m) [ leaves qs ↦ Some (qs ++ ps) | drops ↦ step ps m | refuses ↦ None ]

-- how reading ends
pub data End : Type 0 where
  -- the text may end here
  reads : End
  -- at the first token that can't come, or at the end, with so many tokens left
  stops : ℕ → End

-- how reading ends where these symbols are to come
unfoldable pub outcome : List Pending → List Token → End
outcome ps [] = if all_may_end ps then reads else stops 0
outcome ps (t ∷ ts) = elim (step ps t.mark) [ None ↦ stops (length (t ∷ ts)) | Some qs ↦ outcome qs ts ]
