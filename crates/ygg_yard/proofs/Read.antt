-- The text of the file that is made is read as this file.
use Rattle.std.proofs.Common.{◌≡◌, ℕ, ◌<◌, ◌^◌, Ok, Err, refl, sym, ap, ◌∙◌, subst}
use Rattle.ygg_base.specs.Lexing.{Lexed, tokens_of}
use Rattle.ygg_syntax.specs.Files.{whole_file}
use Rattle.ygg_yard.specs.Texts.{made}
use Rattle.ygg_print.specs.Layout.{layout}
use Rattle.ygg_print.specs.TreeLaws.{HasMarks, LaidOut}
use Rattle.ygg_yard.specs.Trees.{file_made}
use Rattle.ygg_yard.specs.Marks.{made_marks}
use Rattle.ygg_yard.specs.ReadLaws.{IsReadAt}
use Rattle.ygg_yard.proofs.Standing.{standing}
use Rattle.ygg_yard.proofs.Files.{places, derived}
use Rattle.ygg_yard.proofs.Known.{known}
use Rattle.ygg_yard.proofs.Spelled.{is_canonical}

pub is_read : LaidOut → (count : ℕ) → count < 2 ^ 64 → IsReadAt count
is_read laid_out count small =
    by (tokens_of (made count)) refl (ap tokens_of (is_canonical count)) (laid_out (made_marks count) (known count small))
  where
    by : (found : Lexed) → tokens_of (made count) ≡ found → tokens_of (made count) ≡ tokens_of (layout (made_marks count)) →
        HasMarks (made_marks count) (tokens_of (layout (made_marks count))) → IsReadAt count
    by (Ok tokens) e same h =
        let marks = subst (HasMarks (made_marks count)) (sym same ∙ e) h in
        let stand = standing tokens.items (made_marks count) marks in
        record {
          tokens = tokens;
          spells = e;
          at = places stand.0 count;
          derives = record { derives = ap (whole_file (file_made (places stand.0 count) count)) stand.1 ∙ derived stand.0 count };
        }
    by (Err refusal) e same h = absurd (subst (HasMarks (made_marks count)) (sym same ∙ e) h)
