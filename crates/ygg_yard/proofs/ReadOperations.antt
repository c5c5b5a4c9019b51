-- What one mark after another is read as, where others follow.
use Rattle.std.proofs.Common.{◌≡◌, ℕ, List, [], ◌∷◌, ◌++◌, codes, refl, ◌∙◌}
use Rattle.ygg_base.specs.declared.token.Keyword.TheVariants as word
use Rattle.ygg_base.specs.declared.token.Symbol.TheVariants as sign
use Rattle.ygg_base.specs.declared.token.Mark.{Mark}
use Rattle.ygg_base.specs.declared.token.Mark.TheVariants as mark
use Rattle.ygg_base.specs.declared.token.Token.{Token}
use Rattle.ygg_syntax.specs.declared.grammar.BlockKind.TheVariants.{Spec}
use Rattle.ygg_syntax.specs.declared.tree.Place.{Place}
use Rattle.ygg_syntax.specs.declared.tree.Expr.TheVariants as expr
use Rattle.ygg_syntax.specs.declared.tree.Source.TheVariants as source
use Rattle.ygg_syntax.specs.Reading.{Reading, token, takes, passes, in_turn}
use Rattle.ygg_syntax.specs.Files.{operation}
use Rattle.ygg_read.proofs.ExpressionPhrases.{joined, reads_token, reads_mark, reads_constant, reads_variable, reads_row}
use Rattle.ygg_read.proofs.Phrases.{reads_assign, reads_call}
use Rattle.ygg_yard.specs.Trees.{name_at, number_at, put_name, row_number, row_given, index_made, operation_made}
use Rattle.ygg_yard.specs.Marks.{operation_marks}
use Rattle.ygg_yard.proofs.Standing.{stand}

pub passed : (m : Mark) (at : Place) (rest : List Token) (qs : List Reading) → in_turn (passes m ∷ qs) (token m at ∷ rest) ≡ in_turn qs rest
passed m at rest qs = reads_mark m at (token m at ∷ rest) rest refl qs

pub took : (m : Mark) (at : Place) (rest : List Token) (qs : List Reading) → in_turn (takes m at ∷ qs) (token m at ∷ rest) ≡ in_turn qs rest
took m at rest qs = reads_token m at (token m at ∷ rest) rest refl qs

pub opened : (rs qs : List Reading) (from : List Token) → in_turn (in_turn rs ∷ qs) from ≡ in_turn (rs ++ qs) from
opened rs qs from = joined rs qs from

-- an operation
pub reads_operation : (at : ℕ → Place) (number : ℕ) (rest : List Token) (qs : List Reading) →
    in_turn (operation (operation_made at number) ∷ qs) (stand at (operation_marks number) ++ rest) ≡ in_turn qs rest
reads_operation at number rest qs =
    opened _ _ _ ∙ passed (mark.Keyword word.Op) (at 0) _ _ ∙ took (mark.Name (put_name number)) (at 1) _ _ ∙ passed (mark.Symbol sign.RoundOpen) (at 2) _ _
    ∙ opened _ _ _ ∙ opened _ _ _ ∙ took (mark.Name (codes "v")) (at 3) _ _ ∙ passed (mark.Symbol sign.Colon) (at 4) _ _
    ∙ opened _ _ _ ∙ passed (mark.Keyword word.Word) (at 5) _ _ ∙ took (mark.Num 8) (at 6) _ _ ∙ passed (mark.Symbol sign.RoundClose) (at 7) _ _
    ∙ opened _ _ _ ∙ passed (mark.Keyword word.Spec) (at 8) _ _ ∙ opened _ _ _ ∙ took (mark.Symbol sign.BraceOpen) (at 9) _ _
    ∙ opened _ _ _ ∙ reads_assign (name_at (codes "t") (at 10)) (index_made at number ∷ []) (source.Value (row_given at number 17 19)) Spec _ _
    ∙ took (mark.Symbol sign.SquareOpen) (at 11) _ _ ∙ reads_constant (number_at number (at 12)) (number_at 8 (at 14)) _ _
    ∙ passed (mark.Symbol sign.Colon) (at 13) _ _ ∙ took (mark.Num 8) (at 14) _ _ ∙ passed (mark.Symbol sign.SquareClose) (at 15) _ _
    ∙ passed (mark.Symbol sign.Assign) (at 16) _ _ ∙ reads_row (at 17) (expr.Variable (name_at (codes "v") (at 19)) ∷ []) _ _
    ∙ passed (mark.Symbol sign.RoundOpen) (at 18) _ _ ∙ opened _ _ _ ∙ reads_variable (name_at (codes "v") (at 19)) _ _
    ∙ passed (mark.Symbol sign.RoundClose) (at 20) _ _ ∙ passed (mark.Symbol sign.Semicolon) (at 21) _ _ ∙ passed (mark.Symbol sign.BraceClose) (at 22) _ _
    ∙ opened _ _ _ ∙ passed (mark.Keyword word.Impl) (at 23) _ _ ∙ opened _ _ _ ∙ took (mark.Symbol sign.BraceOpen) (at 24) _ _
    ∙ opened _ _ _ ∙ reads_call (name_at (codes "write") (at 26)) (row_number at number 28 30 ∷ row_given at number 32 34 ∷ []) (at 25) _ _
    ∙ took (mark.Name (codes "write")) (at 26) _ _ ∙ opened _ _ _
    ∙ passed (mark.Symbol sign.RoundOpen) (at 27) _ _ ∙ opened _ _ _ ∙ reads_constant (number_at number (at 28)) (number_at 8 (at 30)) _ _
    ∙ passed (mark.Symbol sign.Colon) (at 29) _ _ ∙ took (mark.Num 8) (at 30) _ _ ∙ passed (mark.Symbol sign.Comma) (at 31) _ _
    ∙ reads_row (at 32) (expr.Variable (name_at (codes "v") (at 34)) ∷ []) _ _
    ∙ passed (mark.Symbol sign.RoundOpen) (at 33) _ _ ∙ opened _ _ _ ∙ reads_variable (name_at (codes "v") (at 34)) _ _
    ∙ passed (mark.Symbol sign.RoundClose) (at 35) _ _ ∙ passed (mark.Symbol sign.RoundClose) (at 36) _ _ ∙ passed (mark.Symbol sign.Semicolon) (at 37) _ _
    ∙ passed (mark.Symbol sign.BraceClose) (at 38) _ _
