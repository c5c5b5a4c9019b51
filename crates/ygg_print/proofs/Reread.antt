-- What the tokens of a canonical text derive.
use Rattle.std.proofs.Common.{◌≡◌, ℕ, List, ◌∷◌, Ok, Err, sym, ap, ◌∙◌, subst}
use Rattle.std.specs.List.{All}
use Rattle.std.proofs.lemmas.List.Elements.{All-nil, All-cons, All-head, All-tail}
use Rattle.ygg_base.specs.declared.token.Symbol.TheVariants as sign
use Rattle.ygg_base.specs.declared.token.Mark.{Mark}
use Rattle.ygg_base.specs.declared.token.Mark.TheVariants as mark
use Rattle.ygg_base.specs.declared.token.Token.{Token}
use Rattle.ygg_base.specs.declared.tokens.Tokens.{Tokens}
use Rattle.ygg_base.specs.Lexing.{Lexed, tokens_of}
use Rattle.ygg_syntax.specs.declared.tree.File.{File}
use Rattle.ygg_syntax.specs.Files.{Derives}
use Rattle.ygg_print.specs.PrintedFiles.{file_printed}
use Rattle.ygg_print.specs.Layout.{layout}
use Rattle.ygg_print.specs.TreeLaws.{HasMarks, IsMark}
use Rattle.ygg_print.proofs.Relexed.{relexed}
use Rattle.ygg_print.specs.UniqueLaws.{LeftOut, nothing, keeps, leaves, DerivesAs}
use Rattle.ygg_syntax.specs.Bare.{bare_file}
use Rattle.ygg_print.specs.Laws.{IsRead}
use Rattle.ygg_print.proofs.AgainFiles.{left_out, derives_as}
use Rattle.ygg_print.proofs.Printed.{same_printed}
use Rattle.ygg_print.specs.Canonical.{AreOfLanguage, GivesAgain, IsReadAgain, canonical}

abbrev brace : Mark
brace = mark.Symbol sign.BraceOpen

abbrev close : Mark
close = mark.Symbol sign.BraceClose

-- what holds of each mark holds of each that isn't left out
all_left : (P : Mark → Type 0) {written printed : List Mark} → LeftOut written printed → All P written → All P printed
all_left P nothing all = All-nil P
all_left P (keeps {m = m} {written = written} {printed = printed} w) all =
    All-cons P m printed (All-head P m written all) (all_left P w (All-tail P m written all))
all_left P (leaves {k = k} {written = written} may w) all =
    all_left P w (All-tail P close written (All-tail P brace (close ∷ written) (All-tail P (mark.Keyword k) (brace ∷ close ∷ written) all)))

-- the printed marks of a file that derives from tokens of the language are marks of the language
pub printed_are : (source : List Token) (file : File) → AreOfLanguage source → Derives source file → All IsMark (file_printed file)
printed_are source file are d = all_left IsMark (left_out source file d) are

-- a canonical text is read again
pub read_again : (file : File) → IsReadAgain (canonical file) file
read_again file source are d = cases (tokens_of (canonical file)) (relexed (file_printed file) (printed_are source file are d))
  where
    cases : (lexed : Lexed) → HasMarks (file_printed file) lexed → GivesAgain lexed file
    cases (Ok found) h = derives_as source file d found.items h
    cases (Err refusal) h = h

pub text_again : (file : File) (text : List ℕ) → text ≡ canonical file → IsReadAgain text file
text_again file text e = subst (λ (t : List ℕ). IsReadAgain t file) (sym e) (read_again file)

-- reading gives the file again
pub is_read : (source : List Token) (file : File) → AreOfLanguage source → Derives source file → (tokens : Tokens) →
    tokens_of (canonical file) ≡ Ok tokens → IsRead tokens file
is_read source file are d tokens e =
    let a : DerivesAs tokens.items file = subst (λ (lexed : Lexed). GivesAgain lexed file) e (read_again file source are d) in
    let same : (read : File) → Derives tokens.items read → bare_file read ≡ bare_file file = λ read derives. ap bare_file (a.only read derives) ∙ a.same in
    record {
      accepted = λ refusal refused. refused.nothing a.read a.derives;
      same = same;
      text = λ read derives. ap layout (same_printed read file (same read derives));
    }
