-- Ends of runs, compared.
use Rattle.std.proofs.Common.{◌≡◌, ℕ, List, [], Option, Some, None, sym, subst, Result, Ok, Err, OnOk, IsErr}
use Rattle.ygg_syntax.specs.declared.tree.Declared.{Declared}
use Rattle.ygg_oblige_parts.specs.ygg_meaning.Obligations.{Obligation}
use Rattle.ygg_oblige_parts.specs.ygg_bank_proofs_Widths.{wider}
use Rattle.ygg_oblige_parts.specs.ygg_bank.Nodes.{Extends}
use Rattle.ygg_oblige_parts.specs.ygg_bank.declared.node.Id.{Id}
use Rattle.ygg_oblige_parts.specs.ygg_bank.declared.node.Node.{Node}
use Rattle.ygg_oblige_parts.specs.ygg_shape.Wholes.{AllAlike}
use Rattle.ygg_oblige_parts.specs.ygg_shape_cells.declared.terms.SymValue.{SymValue}
use Rattle.ygg_oblige_parts.specs.ygg_sym_runs_proofs_Lows.{low_wider}
use Rattle.ygg_oblige_parts.specs.ygg_sym_runs.Lows.{LowShaped}
use Rattle.ygg_oblige_parts.proofs.of_ygg_sym_runs.MergedLows.{lows_alike}
use Rattle.ygg_oblige_parts.specs.ygg_sym_runs_proofs_Shaped.{some_wider}
use Rattle.ygg_oblige_parts.specs.ygg_sym_runs.Lower.{SingleFrom}
use Rattle.ygg_oblige_parts.specs.ygg_sym_runs.Meaning.{AnswerShaped}
use Rattle.ygg_oblige_parts.specs.SymLayer.{SymLayer}
use Rattle.ygg_oblige_parts.specs.Layers.{closed}
use Rattle.ygg_sym.specs.ygg_sym_spec.declared.below.SymBelow.{SymBelow}
use Rattle.ygg_sym.specs.declared.runs.SymEnd.{SymEnd}
use Rattle.ygg_oblige_parts.specs.ygg_oblige_laws.Numbers.{arguments_of}
use Rattle.ygg_oblige_parts.specs.ObligePiecesSteps.{variables_of}
use Rattle.ygg_oblige.specs.Making.{CanWake, EndShaped}

-- values that are two states of the same names are alike
pub alike_is : (nodes : List Node) (ds : List Declared) (es bs xs ys : List SymValue) → es ≡ xs → bs ≡ ys → LowShaped nodes ds xs → LowShaped nodes ds ys →
    AllAlike nodes es bs
alike_is nodes ds es bs xs ys e f p q =
    subst (λ zs. AllAlike nodes zs bs) (sym e) (subst (λ bs. AllAlike nodes xs bs) (sym f) (lows_alike nodes ds xs ys p q))

pub answer_wider : (old new : List Node) (y : Option SymValue) → Extends old new → AnswerShaped old y → AnswerShaped new y
answer_wider old new None g s = tt
answer_wider old new (Some x) g s = some_wider old new x g s

-- an end keeps its shape as nodes are added
pub end_wider : (l : SymLayer) (old new : List Node) (e : SymEnd) → Extends old new → EndShaped l old e → EndShaped l new e
end_wider l old new e g s = record {
  memory = low_wider old new (l.layer.now).memory e.memory g s.memory;
  low = low_wider old new l.low.now e.low g s.low;
  answer = answer_wider old new e.answer g s.answer;
}

-- no values for no names
pub no_values : (nodes : List Node) (xs : List SymValue) → xs ≡ [] → LowShaped nodes [] xs
no_values nodes xs e = subst (λ (zs : List SymValue). LowShaped nodes [] zs) (sym e) tt

-- what a step after a recovery wants stays as nodes are added
pub wake_later : (l : SymLayer) (g : SymBelow) (old new : List Node) (o : Obligation) (first : ℕ) (hypothesis : Id) (vars args fallen : List SymValue) →
    Extends old new → SingleFrom first new → CanWake l g old o first hypothesis vars args fallen → CanWake l g new o first hypothesis vars args fallen
wake_later l g old new o first hypothesis vars args fallen e k f = record {
  recovers = record { site = f.recovers.site; low_are = low_wider old new l.low.now fallen e f.recovers.low_are; single = k };
  typed = f.typed;
  has = f.has;
  silent = f.silent;
  hypothesis_is = wider old new hypothesis 1 e f.hypothesis_is;
  vars_are = low_wider old new (variables_of (closed l) o) vars e f.vars_are;
  args_are = low_wider old new (arguments_of o) args e f.args_are;
}

-- an error owes nothing of a value
pub on_ok_refused : {A E : Type 0} (r : Result A E) (P : Type 0) → IsErr r → OnOk r P
on_ok_refused (Ok a) P h = absurd (cc)
on_ok_refused (Err e) P h = tt
