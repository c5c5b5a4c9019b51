-- Right sides, by the kind of their block.
use Rattle.std.proofs.Common.{◌≡◌, false, List, [], ◌∷◌, map, Option, Some, None, refl, sym, ◌∙◌}
use Rattle.ygg_base.specs.declared.token.Keyword.TheVariants as word
use Rattle.ygg_base.specs.declared.token.Symbol.TheVariants as sign
use Rattle.ygg_base.specs.declared.token.Mark.{Mark}
use Rattle.ygg_base.specs.declared.token.Mark.TheVariants as mark
use Rattle.ygg_base.specs.declared.token.Token.{Token}
use Rattle.ygg_syntax.specs.declared.grammar.BlockKind.TheVariants as purpose
use Rattle.ygg_syntax.specs.declared.tree.Place.{Place}
use Rattle.ygg_syntax.specs.declared.tree.Name.{Name}
use Rattle.ygg_syntax.specs.declared.tree.Expr.{Expr}
use Rattle.ygg_syntax.specs.declared.tree.Source.TheVariants as source
use Rattle.ygg_syntax.specs.Reading.{Reading, token, same_mark, starts, takes, in_turn}
use Rattle.ygg_syntax.specs.Expressions.{phrase, symbol, named, any}
use Rattle.ygg_syntax.specs.Blocks.{bracketed, source_in}
use Rattle.ygg_syntax.specs.Pending.{Pending, After, after, name, expression, right_side, rest_of_arguments, sign_of, outcome}
use Rattle.ygg_read.proofs.Stopped.{next}
use Rattle.ygg_read.proofs.ExpressionPhrases.{joined, reads_token}

-- symbols that become the same with each token are the same
same_after : (p q : Pending) (t : Token) (ts : List Token) (a : After) → after p t.mark ≡ a → after q t.mark ≡ a → (qs : List Pending) →
    outcome (p ∷ qs) (t ∷ ts) ≡ outcome (q ∷ qs) (t ∷ ts)
same_after p q t ts a h k qs = next p qs t ts a h ∙ sym (next q qs t ts a k)

pub plain_value : (from : List Token) (qs : List Pending) → outcome (right_side purpose.Plain ∷ qs) from ≡ outcome (expression ∷ qs) from
unfolding outcome
plain_value [] qs = refl
plain_value (t ∷ ts) qs = same_after (right_side purpose.Plain) expression t ts (after expression t.mark) refl refl qs

no_choice : (m : Mark) → same_mark (mark.Keyword word.Choose) m ≡ false → after (right_side purpose.Spec) m ≡ after expression m
no_choice (mark.Keyword word.Choose) h = absurd (cc)
no_choice (mark.Keyword k) h = refl
no_choice (mark.Symbol s) h = refl
no_choice (mark.Name text) h = refl
no_choice (mark.Num n) h = refl

pub spec_value : (from : List Token) → starts (mark.Keyword word.Choose) from ≡ false → (qs : List Pending) →
    outcome (right_side purpose.Spec ∷ qs) from ≡ outcome (expression ∷ qs) from
unfolding outcome
spec_value [] h qs = refl
spec_value (t ∷ ts) h qs = same_after (right_side purpose.Spec) expression t ts (after expression t.mark) (no_choice t.mark h) refl qs

no_call : (m : Mark) → same_mark (mark.Keyword word.Call) m ≡ false → after (right_side purpose.Impl) m ≡ after expression m
no_call (mark.Keyword word.Call) h = absurd (cc)
no_call (mark.Keyword k) h = refl
no_call (mark.Symbol s) h = refl
no_call (mark.Name text) h = refl
no_call (mark.Num n) h = refl

pub impl_value : (from : List Token) → starts (mark.Keyword word.Call) from ≡ false → (qs : List Pending) →
    outcome (right_side purpose.Impl ∷ qs) from ≡ outcome (expression ∷ qs) from
unfolding outcome
impl_value [] h qs = refl
impl_value (t ∷ ts) h qs = same_after (right_side purpose.Impl) expression t ts (after expression t.mark) (no_call t.mark h) refl qs

pub begins_choose : (at : Place) (rest : List Token) (qs : List Pending) →
    outcome (right_side purpose.Spec ∷ qs) (token (mark.Keyword word.Choose) at ∷ rest) ≡ outcome qs rest
unfolding outcome
begins_choose at rest qs = refl

pub reads_choose : (at : Place) (rest : List Token) (qs : List Reading) →
    in_turn (source_in purpose.Spec (source.Choose at) ∷ qs) (token (mark.Keyword word.Choose) at ∷ rest) ≡ in_turn qs rest
reads_choose at rest qs = reads_token (mark.Keyword word.Choose) at (token (mark.Keyword word.Choose) at ∷ rest) rest refl qs

pub begins_call : (at : Place) (rest : List Token) (qs : List Pending) →
    outcome (right_side purpose.Impl ∷ qs) (token (mark.Keyword word.Call) at ∷ rest) ≡ outcome (name ∷ sign_of sign.RoundOpen ∷ rest_of_arguments ∷ qs) rest
unfolding outcome
begins_call at rest qs = refl

pub reads_call : (at : Place) (f : Name) (arguments : List Expr) (rest : List Token) (qs : List Reading) →
    in_turn (source_in purpose.Impl (source.Call at f arguments) ∷ qs) (token (mark.Keyword word.Call) at ∷ rest) ≡ in_turn
    (named f ∷ bracketed arguments ∷ qs) rest
reads_call at f arguments rest qs =
    joined (takes (mark.Keyword word.Call) at ∷ named f ∷ bracketed arguments ∷ []) qs (token (mark.Keyword word.Call) at ∷ rest)
    ∙ reads_token (mark.Keyword word.Call) at (token (mark.Keyword word.Call) at ∷ rest) rest refl (named f ∷ bracketed arguments ∷ qs)

pub reads_bracketed : (arguments : List Expr) (from : List Token) (qs : List Reading) →
    in_turn (bracketed arguments ∷ qs) from ≡ in_turn (symbol sign.RoundOpen ∷ any (map phrase arguments) ∷ symbol sign.RoundClose ∷ qs) from
reads_bracketed arguments from qs = joined (symbol sign.RoundOpen ∷ any (map phrase arguments) ∷ symbol sign.RoundClose ∷ []) qs from

reads_next : (rs ss : List Reading) → ((s : List Token) → in_turn rs s ≡ in_turn ss s) → (o : Option (List Token)) →
    elim o as (λ o. Option (List Token)) [ None ↦ None | Some s ↦ in_turn rs s ] ≡ elim o as (λ o. Option (List Token)) [ None ↦ None | Some s ↦ in_turn ss s ]
reads_next rs ss same None = refl
reads_next rs ss same (Some s) = same s

-- a name and arguments in brackets
pub reads_called : (x : Name) (arguments : List Expr) (from : List Token) (qs : List Reading) → in_turn (named x ∷ bracketed arguments ∷ qs) from
    ≡ in_turn (named x ∷ symbol sign.RoundOpen ∷ any (map phrase arguments) ∷ symbol sign.RoundClose ∷ qs) from
unfolding in_turn
reads_called x arguments from qs = reads_next (bracketed arguments ∷ qs)
    (symbol sign.RoundOpen ∷ any (map phrase arguments) ∷ symbol sign.RoundClose ∷ qs) (λ s. reads_bracketed arguments s qs) (named x from)
