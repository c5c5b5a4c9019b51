-- The tree of the file that is made for a number of operations, wherever its tokens stand.
use Rattle.std.specs.Prelude.{ℕ, zero, suc, List, [], ◌∷◌, ◌++◌, codes, None}
use Rattle.std.specs.Fmt.{decimal}
use Rattle.ygg_base.specs.declared.geometry.DiskKind.TheVariants as disk
use Rattle.ygg_value.specs.declared.operation.Op.TheVariants as op
use Rattle.ygg_syntax.specs.declared.tree.Place.{Place}
use Rattle.ygg_syntax.specs.declared.tree.Name.{Name}
use Rattle.ygg_syntax.specs.declared.tree.Numeral.{Numeral}
use Rattle.ygg_syntax.specs.declared.tree.TypeText.TheVariants as shape
use Rattle.ygg_syntax.specs.declared.tree.Declared.{Declared}
use Rattle.ygg_syntax.specs.declared.tree.Expr.{Expr}
use Rattle.ygg_syntax.specs.declared.tree.Expr.TheVariants as expr
use Rattle.ygg_syntax.specs.declared.tree.Source.TheVariants as source
use Rattle.ygg_syntax.specs.declared.tree.Index.{Index}
use Rattle.ygg_syntax.specs.declared.tree.Stmt.{Stmt}
use Rattle.ygg_syntax.specs.declared.tree.Stmt.TheVariants as stmt
use Rattle.ygg_syntax.specs.declared.tree.Block.{Block}
use Rattle.ygg_syntax.specs.declared.tree.DiskText.{DiskText}
use Rattle.ygg_syntax.specs.declared.tree.Operation.{Operation}
use Rattle.ygg_syntax.specs.declared.tree.Layer.{Layer}
use Rattle.ygg_syntax.specs.declared.tree.File.{File}

-- where the tokens of such a file stand: those before its operations, those of each operation, and those after them, each by its number from 0
pub record Places : Type 0 where
  pub head : ℕ → Place
  pub operation : ℕ → ℕ → Place
  pub tail : ℕ → Place

-- a name at a place
abbrev pub name_at : List ℕ → Place → Name
name_at text place = record { text = text; place = place }

-- a number at a place
abbrev pub number_at : ℕ → Place → Numeral
number_at value place = record { value = value; place = place }

-- no place
abbrev pub nowhere : Place
nowhere = record { line = 0; column = 0 }

-- a block that isn't written
abbrev pub unwritten : Block
unwritten = record { place = nowhere; statements = []; answer = None }

-- the name of the operation of a number
abbrev pub put_name : ℕ → List ℕ
put_name number = codes "put_" ++ decimal number

-- the operation of a number, whose tokens stand at these places
module _ (at : ℕ → Place) (number : ℕ) where
  -- `number:8`, whose first token is this
  abbrev pub row_number : ℕ → ℕ → Expr
  row_number value width = expr.Constant (number_at number (at value)) (number_at 8 (at width))

  -- `row(v)`
  abbrev pub row_given : ℕ → ℕ → Expr
  row_given first given = expr.Row (at first) (expr.Variable (name_at (codes "v") (at given)) ∷ [])

  -- `v : word 8`
  abbrev pub given_made : Declared
  given_made = record { name = name_at (codes "v") (at 3); shape = shape.Word (number_at 8 (at 6)) }

  -- the place `[number:8]`
  abbrev pub index_made : Index
  index_made = record { bracket = at 11; at = row_number 12 14 }

  -- `t[number:8] = row(v);`
  abbrev pub put_made : Stmt
  put_made = stmt.Assign (name_at (codes "t") (at 10)) (index_made ∷ []) (source.Value (row_given 17 19))

  -- `call write(number:8, row(v));`
  abbrev pub write_made : Stmt
  write_made = stmt.Call (name_at (codes "write") (at 26)) (row_number 28 30 ∷ row_given 32 34 ∷ [])

  abbrev pub operation_made : Operation
  operation_made = record {
    name = name_at (put_name number) (at 1);
    arguments = given_made ∷ [];
    answer = None;
    spec = record { place = at 9; statements = put_made ∷ []; answer = None };
    on_crash = None;
    implementation = record { place = at 24; statements = write_made ∷ []; answer = None };
  }

-- the operations of the numbers below this one, in order
abbrev pub operations_made : (ℕ → ℕ → Place) → ℕ → List Operation
operations_made at zero = []
operations_made at (suc number) = operations_made at number ++ operation_made (at number) number ∷ []

module _ (at : Places) (count : ℕ) where
  -- `disk sync count of 1 of 8;`
  abbrev pub disk_made : DiskText
  disk_made = record {
    kind = disk.Sync;
    rows = number_at count (at.head 5);
    words = number_at 1 (at.head 7);
    width = number_at 8 (at.head 9);
  }

  -- `t : table count of 1 of 8`
  abbrev pub table_made : Declared
  table_made = record {
    name = name_at (codes "t") (at.head 15);
    shape = shape.Table (number_at count (at.head 18)) (number_at 1 (at.head 20)) (number_at 8 (at.head 22));
  }

  -- `(low.view == t)`
  abbrev pub relation_made : Expr
  relation_made =
      expr.Binary (at.tail 1) (expr.Low (at.tail 2) (name_at (codes "view") (at.tail 4))) op.Eq (at.tail 5)
      (expr.Variable (name_at (codes "t") (at.tail 6)))

  -- the layer
  abbrev pub layer_made : Layer
  layer_made = record {
    place = at.head 11;
    name = name_at (codes "cells") (at.head 12);
    state = table_made ∷ [];
    start = unwritten;
    memory = [];
    format = unwritten;
    operations = operations_made at.operation count;
    crash_place = nowhere;
    crash = unwritten;
    ticks = [];
    recover = unwritten;
    relate = relation_made;
    always = [];
    settled = [];
    maybe = [];
  }

  -- the file with so many operations
  abbrev pub file_made : File
  file_made = record { disk = disk_made; defs = []; layers = layer_made ∷ [] }
