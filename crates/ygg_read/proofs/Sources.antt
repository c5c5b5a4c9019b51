-- What derives from a right side is taken by a pending one.
use Rattle.std.proofs.Common.{◌≡◌, false, List, [], ◌∷◌, ◌++◌, map, Some, refl, sym, ap, ◌∙◌, subst, append_assoc}
use Rattle.ygg_base.specs.declared.token.Keyword.TheVariants as word
use Rattle.ygg_base.specs.declared.token.Symbol.TheVariants as sign
use Rattle.ygg_base.specs.declared.token.Mark.TheVariants as mark
use Rattle.ygg_base.specs.declared.token.Token.{Token}
use Rattle.ygg_syntax.specs.declared.grammar.BlockKind.{BlockKind}
use Rattle.ygg_syntax.specs.declared.grammar.BlockKind.TheVariants.{Plain, Spec, Impl}
use Rattle.ygg_syntax.specs.declared.tree.Name.{Name}
use Rattle.ygg_syntax.specs.declared.tree.Expr.{Expr}
use Rattle.ygg_syntax.specs.declared.tree.Source.{Source}
use Rattle.ygg_syntax.specs.declared.tree.Source.TheVariants as source
use Rattle.ygg_syntax.specs.Reading.{Reading, starts, takes, in_turn, impossible}
use Rattle.ygg_syntax.specs.Expressions.{Phrase, phrase, expr, any, symbol, named}
use Rattle.ygg_syntax.specs.Blocks.{bracketed, source_in}
use Rattle.ygg_syntax.specs.Pending.{Pending, name, expression, right_side, rest_of_arguments, sign_of, outcome}
use Rattle.ygg_read.proofs.ExpressionPhrases.{joined}
use Rattle.ygg_read.proofs.Marks.{took}
use Rattle.ygg_read.proofs.Stopped.{dropped_indices}
use Rattle.ygg_read.proofs.ExpressionSources.{plain_value, spec_value, impl_value, begins_choose, begins_call}
use Rattle.ygg_read.proofs.TakenWhole.{split, Runs, next_mark, next_name, next_part, next_any, Shown, phrases, all_claims}

-- a rule inside another
pub next_rule : {inner : List Reading} {ps : List Pending} → Runs inner ps → {rs : List Reading} {qs : List Pending} → Runs rs qs →
    Runs (in_turn inner ∷ rs) (ps ++ qs)
next_rule {inner} {ps} a {rs} {qs} r = record {
  runs = λ from rest h xs. let s = split (in_turn inner) rs from rest h in
      ap (λ (zs : List Pending). outcome zs from) (append_assoc ps qs xs) ∙ a.runs from s.mid s.first (qs ++ xs) ∙ r.runs s.mid rest s.others xs;
}

-- what nothing derives from
pub never : {rs : List Reading} {qs : List Pending} → Runs (impossible ∷ rs) qs
never {rs} {qs} = record { runs = λ from rest h xs. let s = split impossible rs from rest h in absurd (let k = s.first in cc) }

-- an expression, where neither arguments nor an index can follow
pub expression_goes : (e : Expr) (from mid : List Token) → expr e from ≡ Some mid → starts (mark.Symbol sign.RoundOpen) mid ≡ false →
    starts (mark.Symbol sign.SquareOpen) mid ≡ false
    → (ps : List Pending) → outcome (expression ∷ ps) from ≡ outcome ps mid
expression_goes e from mid h round square ps = (all_claims e).claims from mid h round ps ∙ dropped_indices mid square ps

abbrev shown : List Expr → List Shown
shown [] = []
shown (e ∷ es) = (e, all_claims e) ∷ shown es

shown_is : (es : List Expr) → phrases (shown es) ≡ map phrase es
shown_is [] = refl
shown_is (e ∷ es) = ap (λ (ps : List Phrase). phrase e ∷ ps) (shown_is es)

-- arguments in their brackets
next_arguments : (arguments : List Expr) → Runs (symbol sign.RoundOpen ∷ any (map phrase arguments) ∷ symbol sign.RoundClose ∷ [])
    (sign_of sign.RoundOpen ∷ rest_of_arguments ∷ [])
next_arguments arguments =
    subst (λ (ps : List Phrase). Runs (symbol sign.RoundOpen ∷ any ps ∷ symbol sign.RoundClose ∷ [])
    (sign_of sign.RoundOpen ∷ rest_of_arguments ∷ [])) (shown_is arguments)
    (next_mark (mark.Symbol sign.RoundOpen) (next_any (shown arguments)))

-- a call after its keyword
pub next_call : (f : Name) (arguments : List Expr) {rs : List Reading} {qs : List Pending} → Runs rs qs →
    Runs (named f ∷ bracketed arguments ∷ rs) (name ∷ sign_of sign.RoundOpen ∷ rest_of_arguments ∷ qs)
next_call f arguments {rs} {qs} r = next_name f (next_rule (next_arguments arguments) r)

value : (kind : BlockKind) (from : List Token) → starts (mark.Keyword word.Choose) from ≡ false → starts (mark.Keyword word.Call) from ≡ false →
    (qs : List Pending)
    → outcome (right_side kind ∷ qs) from ≡ outcome (expression ∷ qs) from
value Plain from choose call qs = plain_value from qs
value Spec from choose call qs = spec_value from choose qs
value Impl from choose call qs = impl_value from call qs

-- a right side and the semicolon after it
pub next_source : (kind : BlockKind) (s : Source) {rs : List Reading} {qs : List Pending} → Runs rs qs →
    Runs (source_in kind s ∷ symbol sign.Semicolon ∷ rs) (right_side kind ∷ sign_of sign.Semicolon ∷ qs)
next_source kind (source.Value e) {rs} {qs} r = record {
  runs = λ from rest h ps.
      let s = split (expr e) (symbol sign.Semicolon ∷ rs) from rest h in
      value kind from ((all_claims e).opens from s.mid s.first (mark.Keyword word.Choose) refl)
      ((all_claims e).opens from s.mid s.first (mark.Keyword word.Call) refl) (sign_of sign.Semicolon ∷ qs ++ ps)
      ∙ (next_part (phrase e) (mark.Symbol sign.Semicolon) (all_claims e) refl refl r).runs from rest h ps;
}
next_source Plain (source.Choose at) r = never
next_source Impl (source.Choose at) r = never
next_source Spec (source.Choose at) {rs} {qs} r = record {
  runs = λ from rest h ps.
      let s = split (takes (mark.Keyword word.Choose) at) (symbol sign.Semicolon ∷ rs) from rest h in
      ap (outcome (right_side Spec ∷ sign_of sign.Semicolon ∷ qs ++ ps)) (took (mark.Keyword word.Choose) at from s.mid s.first)
      ∙ begins_choose at s.mid (sign_of sign.Semicolon ∷ qs ++ ps) ∙ (next_mark (mark.Symbol sign.Semicolon) r).runs s.mid rest s.others ps;
}
next_source Plain (source.Call at f arguments) r = never
next_source Spec (source.Call at f arguments) r = never
next_source Impl (source.Call at f arguments) {rs} {qs} r = record {
  runs = λ from rest h ps.
      let k = sym (joined (takes (mark.Keyword word.Call) at ∷ named f ∷ bracketed arguments ∷ []) (symbol sign.Semicolon ∷ rs) from) ∙ h in
      let s = split (takes (mark.Keyword word.Call) at) (named f ∷ bracketed arguments ∷ symbol sign.Semicolon ∷ rs) from rest k in
      ap (outcome (right_side Impl ∷ sign_of sign.Semicolon ∷ qs ++ ps)) (took (mark.Keyword word.Call) at from s.mid s.first)
      ∙ begins_call at s.mid (sign_of sign.Semicolon ∷ qs ++ ps)
      ∙ (next_call f arguments (next_mark (mark.Symbol sign.Semicolon) r)).runs s.mid rest s.others ps;
}
