-- The type errors of statements and blocks, and what is in scope after them.
use Rattle.std.specs.Prelude.{ℕ, Bool, true, false, not, ◌||◌, if◌then◌else◌, List, [], ◌∷◌, map, Option, Some, None}
use Rattle.ygg_base.specs.declared.reason.Reason.TheVariants as reason
use Rattle.ygg_value.specs.declared.shape.Shape.{Shape}
use Rattle.ygg_value.specs.declared.shape.Shape.TheVariants.{Word}
use Rattle.ygg_syntax.specs.declared.tree.Place.{Place}
use Rattle.ygg_syntax.specs.declared.tree.Name.{Name}
use Rattle.ygg_syntax.specs.declared.tree.Index.{Index}
use Rattle.ygg_syntax.specs.declared.tree.Expr.{Expr}
use Rattle.ygg_syntax.specs.declared.tree.Source.{Source}
use Rattle.ygg_syntax.specs.declared.tree.Source.TheVariants as source
use Rattle.ygg_syntax.specs.declared.tree.Stmt.{Stmt}
use Rattle.ygg_syntax.specs.declared.tree.Block.{Block}
use Rattle.ygg_syntax.specs.declared.tree.Stmt.TheOpen.{Stmt-F, Block-F}
use Rattle.ygg_syntax.specs.declared.tree.Stmt.TheFolds.{fold-Stmt}
use Rattle.ygg_type_rules.specs.Names.{look_up}
use Rattle.ygg_type_rules.specs.declared.scope.Local.{Local}
use Rattle.ygg_type_rules.specs.declared.scope.TypedExpr.{TypedExpr}
use Rattle.ygg_type_rules.specs.declared.scope.Signature.{Signature}
use Rattle.ygg_type_rules.specs.TypeErrors.{TypeErrors, nothing, one, both, type_error, unless}
use Rattle.ygg_type_rules.specs.Limits.{weight_fits}
use Rattle.ygg_type_rules.specs.Scopes.{Scope, name_in, is_taken, with_local}
use Rattle.ygg_type_rules.specs.Expressions.{
  Typing,
  Own,
  own,
  construct,
  parts_of,
  all_shaped,
  wanted,
  arguments_errors,
  index_rule,
  number_errors,
  with_number,
  typing,
  typings,
  expected_errors,
}

-- `call NAME(..)`: `Unknown` at NAME unless an operation of the machine below; `Shape` at NAME where the answer is used and there is
-- none; else its arguments
abbrev pub call_rule : Bool → Name → Option Signature → List TypedExpr → Own
call_rule used f None parts = own (one (type_error f.place reason.Unknown)) None
call_rule used f (Some o) parts =
    own (both (unless (not used || o.answers) reason.Shape f.place) (arguments_errors f o.arguments parts)) (if all_shaped parts then o.answer else None)

-- a call whose first token stands there
abbrev pub call_typing : Place → Bool → Name → List Expr → Scope → Typing
call_typing at used f es scope = construct at (typings es scope) (call_rule used f (look_up f.text scope.lower) (parts_of (typings es scope)))

-- a right side: `choose` is a word of width 1; the places of `choose` and `call` are the keywords'
abbrev pub source_typing : Source → Scope → Typing
source_typing (source.Value e) scope = typing e scope
source_typing (source.Choose at) scope = construct at [] (own nothing (Some (Word 1)))
source_typing (source.Call at f es) scope = call_typing at true f es scope

-- the name that is assigned to: `Unknown` unless it is assignable
abbrev pub target_rule : Name → Option Local → Own
target_rule x None = own (one (type_error x.place reason.Unknown)) None
target_rule x (Some l) = if l.assignable then own nothing l.shape else own (one (type_error x.place reason.Unknown)) None

-- an index and what comes of those that follow it, which begin with the shape that it leads to
abbrev pub then_indexed : Typing → Own → (Option Shape → Own) → Own
then_indexed i o others = record { type_errors = both (both i.type_errors o.type_errors) (others o.shape).type_errors; shape = (others o.shape).shape }

-- the part of a value of this shape that indices lead to, step by step as `e[i]`
abbrev pub indexed : List Index → Scope → Option Shape → Own
indexed [] scope shape = record { type_errors = nothing; shape = shape }
indexed (i ∷ is) scope shape = then_indexed (typing i.at scope) (index_rule shape i.bracket (typing i.at scope).part) (indexed is scope)

-- the place of an assignment
abbrev pub place_rule : Name → List Index → Scope → Own
place_rule x indices scope =
    let target = target_rule x (name_in x.text scope) in
    let place = indexed indices scope target.shape in
    record { type_errors = both target.type_errors place.type_errors; shape = place.shape }

-- an assignment: the right side has the shape of the place
abbrev pub assignment_errors : Own → Typing → TypeErrors
assignment_errors place from = both place.type_errors (both from.type_errors (wanted from.part place.shape))

-- the type errors of a statement, and what is in scope after it
pub record Walked : Type 0 where
  pub type_errors : TypeErrors
  pub scope : Scope

-- statements one after another
abbrev pub in_order : List (Scope → Walked) → Scope → Walked
in_order [] scope = record { type_errors = nothing; scope = scope }
in_order (s ∷ ss) scope =
    let first = s scope in
    let others = in_order ss first.scope in
    record { type_errors = both first.type_errors others.type_errors; scope = others.scope }

-- `return`: its expression has the shape of the answer
abbrev pub return_errors : Option Expr → Option Shape → Scope → TypeErrors
return_errors None shape scope = nothing
return_errors (Some e) shape scope = expected_errors e shape scope

-- a block with an answer of this shape; its `let` names are seen to its end
abbrev pub inside : List (Scope → Walked) → Option Expr → Option Shape → Scope → TypeErrors
inside statements answer shape scope =
    let walked = in_order statements scope in
    both walked.type_errors (return_errors answer shape walked.scope)

-- `let`: `Twice` at its name where that is taken; the right side doesn't see the name
abbrev pub let_rule : Name → Typing → Scope → Walked
let_rule x from scope = record {
  type_errors = both (unless (not (is_taken x.text scope)) reason.Twice x.place) from.type_errors;
  scope = with_local x.text from.part.shape true scope;
}

-- a statement that leaves the scope as it is
abbrev pub leaving : Scope → TypeErrors → Walked
leaving scope type_errors = record { type_errors = type_errors; scope = scope }

-- a statement, where what the statements and blocks inside give in each scope stands in their places
abbrev pub node_walked : Stmt-F (Scope → Walked) (Scope → TypeErrors) → Scope → Walked
node_walked (Stmt-F.Let x from) scope = let_rule x (source_typing from scope) scope
node_walked (Stmt-F.Assign x indices from) scope = leaving scope (assignment_errors (place_rule x indices scope) (source_typing from scope))
node_walked (Stmt-F.If test first second) scope = leaving scope (both (expected_errors test (Some (Word 1)) scope) (both (first scope) (second scope)))
node_walked (Stmt-F.For x w n each) scope = leaving scope (both (number_errors x (is_taken x.text scope) w n) (each (with_number x w scope)))
node_walked (Stmt-F.Call f es) scope = leaving scope (call_typing f.place false f es scope).type_errors

-- a block inside a statement, which has no answer
abbrev pub node_inside : Block-F (Scope → Walked) (Scope → TypeErrors) → Scope → TypeErrors
node_inside b = inside b.statements b.answer None

-- a statement in a scope
abbrev pub walked : Stmt → Scope → Walked
walked = fold-Stmt (Scope → Walked) (Scope → TypeErrors) node_walked node_inside

-- a block in a scope, with an answer of this shape
abbrev pub block_errors : Block → Option Shape → Scope → TypeErrors
block_errors b = inside (map walked b.statements) b.answer

-- a block that stands in no other and has this weight: `TooLong` at its `{` where the weight is too great
abbrev pub body_errors : Block → Option Shape → ℕ → Scope → TypeErrors
body_errors b shape weight scope = both (block_errors b shape scope) (unless (weight_fits weight) reason.TooLong b.place)
