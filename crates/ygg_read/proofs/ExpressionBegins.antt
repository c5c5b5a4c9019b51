-- What the first token of an expression leaves to come.
use Rattle.std.proofs.Common.{◌≡◌, ℕ, List, ◌∷◌, refl}
use Rattle.ygg_base.specs.declared.token.Keyword.TheVariants as word
use Rattle.ygg_base.specs.declared.token.Symbol.TheVariants as sign
use Rattle.ygg_base.specs.declared.token.Mark.TheVariants as mark
use Rattle.ygg_base.specs.declared.token.Token.{Token}
use Rattle.ygg_syntax.specs.declared.tree.Place.{Place}
use Rattle.ygg_syntax.specs.declared.tree.Quantifier.{Quantifier}
use Rattle.ygg_syntax.specs.declared.tree.Quantifier.TheVariants as quantifier
use Rattle.ygg_syntax.specs.Expressions.{quantifier_word}
use Rattle.ygg_syntax.specs.Reading.{token}
use Rattle.ygg_syntax.specs.Pending.{Pending, exactly, name, number, operator, expression, indices, arguments, rest_of_arguments, more_expressions, sign_of}
use Rattle.ygg_syntax.specs.Pending.{outcome}

pub begins_constant : (n : ℕ) (at : Place) (rest : List Token) (qs : List Pending) →
    outcome (expression ∷ qs) (token (mark.Num n) at ∷ rest) ≡ outcome (sign_of sign.Colon ∷ number ∷ indices ∷ qs) rest
unfolding outcome
begins_constant n at rest qs = refl

pub begins_low : (at : Place) (rest : List Token) (qs : List Pending) →
    outcome (expression ∷ qs) (token (mark.Keyword word.Low) at ∷ rest) ≡ outcome (sign_of sign.Dot ∷ name ∷ indices ∷ qs) rest
unfolding outcome
begins_low at rest qs = refl

pub begins_name : (text : List ℕ) (at : Place) (rest : List Token) (qs : List Pending) →
    outcome (expression ∷ qs) (token (mark.Name text) at ∷ rest) ≡ outcome (arguments ∷ indices ∷ qs) rest
unfolding outcome
begins_name text at rest qs = refl

pub begins_binary : (at : Place) (rest : List Token) (qs : List Pending) →
    outcome (expression ∷ qs) (token (mark.Symbol sign.RoundOpen) at ∷ rest) ≡ outcome
    (expression ∷ operator ∷ expression ∷ sign_of sign.RoundClose ∷ indices ∷ qs) rest
unfolding outcome
begins_binary at rest qs = refl

pub begins_not : (at : Place) (rest : List Token) (qs : List Pending) →
    outcome (expression ∷ qs) (token (mark.Symbol sign.Tilde) at ∷ rest) ≡ outcome (expression ∷ qs) rest
unfolding outcome
begins_not at rest qs = refl

pub begins_pick : (at : Place) (rest : List Token) (qs : List Pending) →
    outcome (expression ∷ qs) (token (mark.Keyword word.Pick) at ∷ rest) ≡ outcome
    (sign_of sign.RoundOpen ∷ expression ∷ sign_of sign.Comma ∷ expression ∷ sign_of sign.Comma ∷ expression ∷ sign_of sign.RoundClose ∷ indices ∷ qs) rest
unfolding outcome
begins_pick at rest qs = refl

pub begins_resize : (at : Place) (rest : List Token) (qs : List Pending) →
    outcome (expression ∷ qs) (token (mark.Keyword word.Resize) at ∷ rest) ≡ outcome
    (sign_of sign.RoundOpen ∷ expression ∷ sign_of sign.Comma ∷ number ∷ sign_of sign.RoundClose ∷ indices ∷ qs) rest
unfolding outcome
begins_resize at rest qs = refl

pub begins_fill : (at : Place) (rest : List Token) (qs : List Pending) →
    outcome (expression ∷ qs) (token (mark.Keyword word.Fill) at ∷ rest) ≡ outcome
    (sign_of sign.RoundOpen ∷ number ∷ sign_of sign.Comma ∷ expression ∷ sign_of sign.RoundClose ∷ indices ∷ qs) rest
unfolding outcome
begins_fill at rest qs = refl

pub begins_row : (at : Place) (rest : List Token) (qs : List Pending) →
    outcome (expression ∷ qs) (token (mark.Keyword word.Row) at ∷ rest) ≡ outcome
    (sign_of sign.RoundOpen ∷ expression ∷ more_expressions ∷ sign_of sign.RoundClose ∷ indices ∷ qs) rest
unfolding outcome
begins_row at rest qs = refl

pub begins_quantified : (which : Quantifier) (at : Place) (rest : List Token) (qs : List Pending) →
    outcome (expression ∷ qs) (token (mark.Keyword (quantifier_word which)) at ∷ rest)
    ≡ outcome (sign_of sign.RoundOpen ∷ name ∷ sign_of sign.Colon ∷ number ∷ exactly (mark.Keyword word.Below) ∷ number ∷ sign_of sign.Comma
    ∷ expression ∷ sign_of sign.RoundClose ∷ indices ∷ qs) rest
unfolding outcome
begins_quantified quantifier.All at rest qs = refl
begins_quantified quantifier.Any at rest qs = refl

pub begins_index : (at : Place) (rest : List Token) (qs : List Pending) →
    outcome (indices ∷ qs) (token (mark.Symbol sign.SquareOpen) at ∷ rest) ≡ outcome (expression ∷ sign_of sign.SquareClose ∷ indices ∷ qs) rest
unfolding outcome
begins_index at rest qs = refl

pub begins_arguments : (at : Place) (rest : List Token) (qs : List Pending) →
    outcome (arguments ∷ qs) (token (mark.Symbol sign.RoundOpen) at ∷ rest) ≡ outcome (rest_of_arguments ∷ qs) rest
unfolding outcome
begins_arguments at rest qs = refl

pub begins_no_arguments : (at : Place) (rest : List Token) (qs : List Pending) →
    outcome (rest_of_arguments ∷ qs) (token (mark.Symbol sign.RoundClose) at ∷ rest) ≡ outcome qs rest
unfolding outcome
begins_no_arguments at rest qs = refl

pub begins_more : (at : Place) (rest : List Token) (qs : List Pending) →
    outcome (more_expressions ∷ qs) (token (mark.Symbol sign.Comma) at ∷ rest) ≡ outcome (expression ∷ more_expressions ∷ qs) rest
unfolding outcome
begins_more at rest qs = refl
