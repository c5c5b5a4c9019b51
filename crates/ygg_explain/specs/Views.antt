-- What formulas are evaluated with.
use Rattle.std.specs.Prelude.{Bool, List, ℕ}
use Rattle.ygg_syntax.specs.declared.tree.Expr.{Expr}
use Rattle.ygg_eval.specs.ygg_meaning.Meaning.{functions_of}
use Rattle.ygg_eval_expr.specs.Held.{env_of}
use Rattle.ygg_eval_expr.specs.Known.{Known, scope_in}
use Rattle.ygg_explain.specs.declared.parts.View.{View}
use Rattle.ygg_explain.specs.Parts.{AreAllParts, AreParts, IsPart, IsWhy}

-- the definitions that are seen, and names with values
abbrev pub known_in : View → Known
known_in v = record { defs = v.defs.now; own = env_of v.own.now; low = env_of v.low.now }

-- what is told of why an expression is false
abbrev pub WhyIn : View → Expr → List ℕ → Type 0
WhyIn v e text = IsWhy (functions_of v.defs.now) (scope_in (known_in v)) e text

-- what is told of a part
abbrev pub PartIn : View → Bool → List ℕ → Expr → List ℕ → Type 0
PartIn v wanted which e text = IsPart (functions_of v.defs.now) (scope_in (known_in v)) wanted which e text

-- what is told of a formula
abbrev pub PartsIn : View → Bool → List ℕ → Expr → List ℕ → Type 0
PartsIn v wanted which e text = AreParts (functions_of v.defs.now) (scope_in (known_in v)) wanted which e text

-- what is told of several
abbrev pub AllPartsIn : View → Bool → List ℕ → List Expr → List ℕ → Type 0
AllPartsIn v wanted which es text = AreAllParts (functions_of v.defs.now) (scope_in (known_in v)) wanted which es text
