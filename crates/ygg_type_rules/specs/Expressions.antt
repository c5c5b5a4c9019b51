-- The type errors of expressions, and their shapes. A construct compares its parts only where all of them have shapes.
use Rattle.std.specs.Prelude.{ℕ, Bool, true, false, not, ◌==◌, if◌then◌else◌, List, [], ◌∷◌, map, length, slice_get, Option, Some, None}
use Rattle.ygg_base.specs.declared.reason.Reason.{Reason}
use Rattle.ygg_base.specs.declared.reason.Reason.TheVariants as reason
use Rattle.ygg_value.specs.declared.operation.Op.{Op}
use Rattle.ygg_value.specs.declared.shape.Shape.{Shape}
use Rattle.ygg_value.specs.declared.shape.Shape.TheVariants.{Word, Row}
use Rattle.ygg_syntax.specs.declared.tree.Place.{Place}
use Rattle.ygg_syntax.specs.declared.tree.Name.{Name}
use Rattle.ygg_syntax.specs.declared.tree.Numeral.{Numeral}
use Rattle.ygg_syntax.specs.declared.tree.Expr.{Expr}
use Rattle.ygg_syntax.specs.declared.tree.Expr.TheOpen.{Expr-F}
use Rattle.ygg_syntax.specs.declared.tree.Expr.TheFolds.{fold-Expr}
use Rattle.ygg_type_rules.specs.Names.{look_up}
use Rattle.ygg_type_rules.specs.declared.scope.Local.{Local}
use Rattle.ygg_type_rules.specs.declared.scope.TypedExpr.{TypedExpr}
use Rattle.ygg_type_rules.specs.declared.scope.Signature.{Signature}
use Rattle.ygg_type_rules.specs.TypeErrors.{TypeErrors, nothing, one, both, none, type_error, type_error_at, unless}
use Rattle.ygg_type_rules.specs.Limits.{width_fits, value_fits, words_fit, bound_fits}
use Rattle.ygg_type_rules.specs.Shapes.{is_word, width_of, part_shape, word_shape}
use Rattle.ygg_type_rules.specs.Comparisons.{wanted_error, operator_error, operator_shape}
use Rattle.ygg_type_rules.specs.Scopes.{Scope, name_in, low_in, is_taken, with_local}

-- what an expression is to those around it, and all type errors inside it
pub record Typing : Type 0 where
  pub part : TypedExpr
  pub type_errors : TypeErrors

-- what the rule of a construct adds to its parts: type errors of its own, and a shape
pub record Own : Type 0 where
  pub type_errors : TypeErrors
  pub shape : Option Shape

-- with a type error of its own a construct has no shape
abbrev pub own : TypeErrors → Option Shape → Own
own type_errors shape = record { type_errors = type_errors; shape = if none type_errors then shape else None }

-- all type errors inside some expressions
abbrev pub type_errors_in : List Typing → TypeErrors
type_errors_in [] = nothing
type_errors_in (t ∷ ts) = both t.type_errors (type_errors_in ts)

-- a construct whose first token stands there: the type errors of its parts, and then its own
abbrev pub construct : Place → List Typing → Own → Typing
construct at parts o = record { part = record { place = at; shape = o.shape }; type_errors = both (type_errors_in parts) o.type_errors }

-- the parts of some expressions
abbrev pub parts_of : List Typing → List TypedExpr
parts_of = map (λ (t : Typing). t.part)

-- whether all of them have shapes
abbrev pub all_shaped : List TypedExpr → Bool
all_shaped [] = true
all_shaped (p ∷ ps) = elim p.shape [ None ↦ false | Some s ↦ all_shaped ps ]

-- a shape where another is wanted, at the first token of its expression; nothing is compared where one of them isn't there
abbrev pub wanted : TypedExpr → Option Shape → TypeErrors
wanted p None = nothing
wanted p (Some w) = elim p.shape [ None ↦ nothing | Some s ↦ type_error_at p.place (wanted_error s w) ]

-- `Shape` unless a word, at the first token of the expression
abbrev pub wanted_word : TypedExpr → TypeErrors
wanted_word p = elim p.shape [ None ↦ nothing | Some s ↦ unless (is_word s) reason.Shape p.place ]

-- `v:w`: `Width` at w unless 1 to 64; `Width` at v where v isn't below 2 ^ w
abbrev pub constant_rule : Numeral → Numeral → Own
constant_rule v w = own (both (unless (value_fits v.value w.value) reason.Width v.place) (unless (width_fits w.value) reason.Width w.place))
    (Some (Word w.value))

-- NAME: `Unknown` where it isn't in scope
abbrev pub name_rule : Name → Option Local → Own
name_rule x None = own (one (type_error x.place reason.Unknown)) None
name_rule x (Some l) = own nothing l.shape

-- `low.NAME`: `Unknown` at NAME where it isn't in scope
abbrev pub low_rule : Name → Option (Option Shape) → Own
low_rule x None = own (one (type_error x.place reason.Unknown)) None
low_rule x (Some shape) = own nothing shape

-- each argument has its wanted shape
abbrev pub arguments_wanted : List TypedExpr → List (Option Shape) → TypeErrors
arguments_wanted [] ws = nothing
arguments_wanted (p ∷ ps) [] = nothing
arguments_wanted (p ∷ ps) (w ∷ ws) = both (wanted p w) (arguments_wanted ps ws)

-- arguments of something that takes these: `Shape` at its name for a wrong count; each has its wanted shape
abbrev pub arguments_errors : Name → List (Option Shape) → List TypedExpr → TypeErrors
arguments_errors f ws parts =
    if length parts == length ws
    then (if all_shaped parts then arguments_wanted parts ws else nothing)
    else one (type_error f.place reason.Shape)

-- NAME(..): `Unknown` at NAME where no earlier definition has it; else its arguments
abbrev pub apply_rule : Name → Option Signature → List TypedExpr → Own
apply_rule f None parts = own (one (type_error f.place reason.Unknown)) None
apply_rule f (Some d) parts = own (arguments_errors f d.arguments parts) (if all_shaped parts then d.answer else None)

-- an operator: its operands, at OP
abbrev pub operator_rule : Op → Place → TypedExpr → TypedExpr → Own
operator_rule op at a b = elim a.shape [
  | None ↦ own nothing None
  | Some s ↦ elim b.shape [ None ↦ own nothing None | Some t ↦ own (type_error_at at (operator_error op s t)) (Some (operator_shape op s)) ]
]

-- `~e`: `Shape` at the operand unless a word
abbrev pub not_rule : TypedExpr → Own
not_rule a = own (wanted_word a) a.shape

-- `e[i]`: `Shape` at `[` unless e is a row or a table, `Shape` at the index unless a word
abbrev pub index_rule : Option Shape → Place → TypedExpr → Own
index_rule None bracket i = own nothing None
index_rule (Some s) bracket i = elim i.shape [
  | None ↦ own nothing None
  | Some t ↦ own (both (unless (not (is_word s)) reason.Shape bracket) (wanted_word i)) (Some (part_shape s))
]

-- `pick`: the first is wanted as a word of width 1; the third has the second's shape
abbrev pub pick_rule : TypedExpr → TypedExpr → TypedExpr → Own
pick_rule c a b =
    if all_shaped (c ∷ a ∷ b ∷ []) then own (both (wanted c (Some (Word 1))) (wanted b a.shape)) a.shape
    else own nothing None

-- `resize(e, w)`: `Shape` at e unless a word, `Width` at w unless 1 to 64
abbrev pub resize_rule : TypedExpr → Numeral → Own
resize_rule a w = own (both (wanted_word a) (unless (width_fits w.value) reason.Width w.place)) (elim a.shape [ None ↦ None | Some s ↦ Some (Word w.value) ])

-- `fill(m, e)`: `Limit` at m unless 1 to 64, `Shape` at e unless a word
abbrev pub fill_rule : Numeral → TypedExpr → Own
fill_rule m a = own (both (unless (words_fit m.value) reason.Limit m.place) (wanted_word a))
    (elim a.shape [ None ↦ None | Some s ↦ Some (Row m.value (width_of s)) ])

-- a word of a row: `Shape` unless a word; it is wanted with the width of the first one, where that is a word
abbrev pub row_word_error : Shape → Shape → Option Reason
row_word_error first s = if is_word s then (if is_word first then wanted_error s first else None) else Some reason.Shape

-- a part of a row whose first one has this shape
abbrev pub row_word : Shape → TypedExpr → TypeErrors
row_word first p = elim p.shape [ None ↦ nothing | Some s ↦ type_error_at p.place (row_word_error first s) ]

-- the parts of a row whose first one has this shape
abbrev pub row_words : Shape → List TypedExpr → TypeErrors
row_words first [] = nothing
row_words first (p ∷ ps) = both (row_word first p) (row_words first ps)

-- `Limit` at the 65th part of a row; by the grammar a row has one part at least, and a row without any has its `Limit` at its first token
abbrev pub row_count : Place → List TypedExpr → TypeErrors
row_count at [] = one (type_error at reason.Limit)
row_count at (p ∷ ps) = elim (slice_get (p ∷ ps) 64) [ None ↦ nothing | Some over ↦ one (type_error over.place reason.Limit) ]

-- the shape of the first part
abbrev pub first_shape : List TypedExpr → Option Shape
first_shape [] = None
first_shape (p ∷ ps) = p.shape

-- `row(..)`: `Limit` at the 65th part; each a word of the first one's width
abbrev pub row_rule : Place → List TypedExpr → Own
row_rule at parts =
    if all_shaped parts
    then elim (first_shape parts) [
      | None ↦ own (row_count at parts) None
      | Some first ↦ own (both (row_count at parts) (row_words first parts)) (Some (Row (length parts) (width_of first)))
    ]
    else own (row_count at parts) None

-- a loop's or a quantifier's number: `Twice` at its name where that is taken, `Width` at its width unless 1 to 64, `Limit` at its bound
-- unless 1 to 4,096 and at most 2 ^ w
abbrev pub number_errors : Name → Bool → Numeral → Numeral → TypeErrors
number_errors x taken w n =
    both (unless (not taken) reason.Twice x.place) (both (unless (width_fits w.value) reason.Width w.place)
    (unless (bound_fits n.value w.value) reason.Limit n.place))

-- with a loop's or a quantifier's number
abbrev pub with_number : Name → Numeral → Scope → Scope
with_number x w scope = with_local x.text (word_shape w.value) false scope

-- `all` and `any`: their number; the expression is wanted as a word of width 1
abbrev pub quantified_rule : TypeErrors → TypedExpr → Own
quantified_rule number e = own (both number (wanted e (Some (Word 1)))) (elim e.shape [ None ↦ None | Some s ↦ Some (Word 1) ])

-- several expressions in a scope
abbrev pub all_in : Scope → List (Scope → Typing) → List Typing
all_in scope = map (λ (part : Scope → Typing). part scope)

-- an expression, where what its parts are in each scope stands in their places
abbrev pub node_typing : Expr-F (Scope → Typing) → Scope → Typing
node_typing (Expr-F.Constant v w) scope = construct v.place [] (constant_rule v w)
node_typing (Expr-F.Low at x) scope = construct at [] (low_rule x (low_in x.text scope))
node_typing (Expr-F.Variable x) scope = construct x.place [] (name_rule x (name_in x.text scope))
node_typing (Expr-F.Apply f es) scope = construct f.place (all_in scope es) (apply_rule f (look_up f.text scope.defs) (parts_of (all_in scope es)))
node_typing (Expr-F.Binary first a op at b) scope = construct first (a scope ∷ b scope ∷ []) (operator_rule op at (a scope).part (b scope).part)
node_typing (Expr-F.Not first a) scope = construct first (a scope ∷ []) (not_rule (a scope).part)
node_typing (Expr-F.At a bracket i) scope = construct (a scope).part.place (a scope ∷ i scope ∷ []) (index_rule (a scope).part.shape bracket (i scope).part)
node_typing (Expr-F.Pick first c a b) scope = construct first (c scope ∷ a scope ∷ b scope ∷ []) (pick_rule (c scope).part (a scope).part (b scope).part)
node_typing (Expr-F.Resize first a w) scope = construct first (a scope ∷ []) (resize_rule (a scope).part w)
node_typing (Expr-F.Fill first m a) scope = construct first (a scope ∷ []) (fill_rule m (a scope).part)
node_typing (Expr-F.Row first es) scope = construct first (all_in scope es) (row_rule first (parts_of (all_in scope es)))
node_typing (Expr-F.Quantified first which x w n e) scope =
    construct first (e (with_number x w scope) ∷ []) (quantified_rule (number_errors x (is_taken x.text scope) w n) (e (with_number x w scope)).part)

-- what an expression is in a scope
abbrev pub typing : Expr → Scope → Typing
typing = fold-Expr (Scope → Typing) node_typing

-- what several expressions are in a scope
abbrev pub typings : List Expr → Scope → List Typing
typings es scope = all_in scope (map typing es)

-- an expression where a shape is wanted
abbrev pub expected_errors : Expr → Option Shape → Scope → TypeErrors
expected_errors e shape scope = both (typing e scope).type_errors (wanted (typing e scope).part shape)
