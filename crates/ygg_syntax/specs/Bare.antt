-- A tree without its places: each is put to line 0 and column 0. Two trees are the same but for places where these are equal.
use Rattle.std.specs.Prelude.{map, option_map}
use Rattle.ygg_syntax.specs.declared.tree.Place.{Place}
use Rattle.ygg_syntax.specs.declared.tree.Name.{Name}
use Rattle.ygg_syntax.specs.declared.tree.Numeral.{Numeral}
use Rattle.ygg_syntax.specs.declared.tree.TypeText.{TypeText}
use Rattle.ygg_syntax.specs.declared.tree.TypeText.TheVariants as shape
use Rattle.ygg_syntax.specs.declared.tree.Declared.{Declared}
use Rattle.ygg_syntax.specs.declared.tree.Expr.{Expr, roll-Expr}
use Rattle.ygg_syntax.specs.declared.tree.Expr.TheOpen.{Expr-F}
use Rattle.ygg_syntax.specs.declared.tree.Expr.TheFolds.{fold-Expr}
use Rattle.ygg_syntax.specs.declared.tree.Source.{Source}
use Rattle.ygg_syntax.specs.declared.tree.Source.TheVariants as source
use Rattle.ygg_syntax.specs.declared.tree.Index.{Index}
use Rattle.ygg_syntax.specs.declared.tree.Stmt.{Stmt, roll-Stmt}
use Rattle.ygg_syntax.specs.declared.tree.Block.{Block}
use Rattle.ygg_syntax.specs.declared.tree.Stmt.TheOpen.{Stmt-F, Block-F}
use Rattle.ygg_syntax.specs.declared.tree.Stmt.TheFolds.{fold-Stmt}
use Rattle.ygg_syntax.specs.declared.tree.DiskText.{DiskText}
use Rattle.ygg_syntax.specs.declared.tree.Def.{Def}
use Rattle.ygg_syntax.specs.declared.tree.Operation.{Operation}
use Rattle.ygg_syntax.specs.declared.tree.Tick.{Tick}
use Rattle.ygg_syntax.specs.declared.tree.Layer.{Layer}
use Rattle.ygg_syntax.specs.declared.tree.File.{File}

-- no place
abbrev pub nowhere : Place
nowhere = record { line = 0; column = 0 }

-- a name without its place
abbrev pub bare_name : Name → Name
bare_name x = record { text = x.text; place = nowhere }

-- a number without its place
abbrev pub bare_number : Numeral → Numeral
bare_number n = record { value = n.value; place = nowhere }

-- a type without its places
abbrev pub bare_type : TypeText → TypeText
bare_type (shape.Word w) = shape.Word (bare_number w)
bare_type (shape.Row m w) = shape.Row (bare_number m) (bare_number w)
bare_type (shape.Table n m w) = shape.Table (bare_number n) (bare_number m) (bare_number w)

-- an opened expression without its places, where its parts have none
abbrev pub node_bare : Expr-F Expr → Expr-F Expr
node_bare (Expr-F.Constant v w) = Expr-F.Constant (bare_number v) (bare_number w)
node_bare (Expr-F.Low at x) = Expr-F.Low nowhere (bare_name x)
node_bare (Expr-F.Variable x) = Expr-F.Variable (bare_name x)
node_bare (Expr-F.Apply f arguments) = Expr-F.Apply (bare_name f) arguments
node_bare (Expr-F.Binary first a op at b) = Expr-F.Binary nowhere a op nowhere b
node_bare (Expr-F.Not first a) = Expr-F.Not nowhere a
node_bare (Expr-F.At a bracket i) = Expr-F.At a nowhere i
node_bare (Expr-F.Pick first c a b) = Expr-F.Pick nowhere c a b
node_bare (Expr-F.Resize first a w) = Expr-F.Resize nowhere a (bare_number w)
node_bare (Expr-F.Fill first m a) = Expr-F.Fill nowhere (bare_number m) a
node_bare (Expr-F.Row first parts) = Expr-F.Row nowhere parts
node_bare (Expr-F.Quantified first which x w n e) = Expr-F.Quantified nowhere which (bare_name x) (bare_number w) (bare_number n) e

-- an expression without its places
abbrev pub bare : Expr → Expr
bare = fold-Expr Expr (λ e. roll-Expr (node_bare e))

-- a right side without its places
abbrev pub bare_source : Source → Source
bare_source (source.Value e) = source.Value (bare e)
bare_source (source.Choose at) = source.Choose nowhere
bare_source (source.Call at f arguments) = source.Call nowhere (bare_name f) (map bare arguments)

-- an index without its places
abbrev pub bare_index : Index → Index
bare_index i = record { bracket = nowhere; at = bare i.at }

-- an opened statement without its places, where the blocks inside have none
abbrev pub node_bare_statement : Stmt-F Stmt Block → Stmt-F Stmt Block
node_bare_statement (Stmt-F.Let x from) = Stmt-F.Let (bare_name x) (bare_source from)
node_bare_statement (Stmt-F.Assign x indices from) = Stmt-F.Assign (bare_name x) (map bare_index indices) (bare_source from)
node_bare_statement (Stmt-F.If test first second) = Stmt-F.If (bare test) first second
node_bare_statement (Stmt-F.For x w n each) = Stmt-F.For (bare_name x) (bare_number w) (bare_number n) each
node_bare_statement (Stmt-F.Call f arguments) = Stmt-F.Call (bare_name f) (map bare arguments)

-- an opened block without its places, where its statements have none
abbrev pub node_bare_block : Block-F Stmt Block → Block
node_bare_block b = record { place = nowhere; statements = b.statements; answer = option_map bare b.answer }

-- a statement without its places
abbrev pub bare_statement : Stmt → Stmt
bare_statement = fold-Stmt Stmt Block (λ s. roll-Stmt (node_bare_statement s)) node_bare_block

-- a block without its places
abbrev pub bare_block : Block → Block
bare_block b = record { place = nowhere; statements = map bare_statement b.statements; answer = option_map bare b.answer }

-- a declaration without its places
abbrev pub bare_declared : Declared → Declared
bare_declared d = record { name = bare_name d.name; shape = bare_type d.shape }

-- a disk without its places
abbrev pub bare_disk : DiskText → DiskText
bare_disk d = record { kind = d.kind; rows = bare_number d.rows; words = bare_number d.words; width = bare_number d.width }

-- a definition without its places
abbrev pub bare_def : Def → Def
bare_def d = record { name = bare_name d.name; parameters = map bare_declared d.parameters; shape = bare_type d.shape; body = bare d.body }

-- an operation without its places
abbrev pub bare_operation : Operation → Operation
bare_operation o = record {
  name = bare_name o.name;
  arguments = map bare_declared o.arguments;
  answer = option_map bare_type o.answer;
  spec = bare_block o.spec;
  on_crash = option_map bare_block o.on_crash;
  implementation = bare_block o.implementation;
}

-- a background step without its places
abbrev pub bare_tick : Tick → Tick
bare_tick t = record { name = bare_name t.name; body = bare_block t.body }

-- a layer without its places
abbrev pub bare_layer : Layer → Layer
bare_layer l = record {
  place = nowhere;
  name = bare_name l.name;
  state = map bare_declared l.state;
  start = bare_block l.start;
  memory = map bare_declared l.memory;
  format = bare_block l.format;
  operations = map bare_operation l.operations;
  crash_place = nowhere;
  crash = bare_block l.crash;
  ticks = map bare_tick l.ticks;
  recover = bare_block l.recover;
  relate = bare l.relate;
  always = map bare l.always;
  settled = map bare l.settled;
  maybe = map bare l.maybe;
}

-- a file without its places
abbrev pub bare_file : File → File
bare_file f = record { disk = bare_disk f.disk; defs = map bare_def f.defs; layers = map bare_layer f.layers }
