-- What reading answers for a canonical text.
use Rattle.std.specs.Prelude.{◌≡◌, List, Ok}
use Rattle.ygg_base.specs.declared.failure.Refusal.{Refusal}
use Rattle.ygg_base.specs.declared.token.Token.{Token}
use Rattle.ygg_base.specs.declared.tokens.Tokens.{Tokens}
use Rattle.ygg_base.specs.Lexing.{tokens_of}
use Rattle.ygg_syntax.specs.declared.tree.File.{File}
use Rattle.ygg_syntax.specs.Files.{Derives}
use Rattle.ygg_syntax.specs.Bare.{bare_file}
use Rattle.ygg_read.specs.Refused.{IsRefusal}
use Rattle.ygg_print.specs.Canonical.{AreOfLanguage, canonical}

-- `read` refuses the tokens nowhere, and what it answers is this file but for places, with the same canonical text
pub record IsRead (tokens : Tokens) (file : File) : Type 0 where
  pub accepted : (refusal : Refusal) → IsRefusal tokens refusal → ⊥
  pub same : (read : File) → Derives tokens.items read → bare_file read ≡ bare_file file
  pub text : (read : File) → Derives tokens.items read → canonical read ≡ canonical file

-- where the file derives from some tokens of the language, `read` of the tokens of its canonical text gives it again
abbrev pub CanonicalIsRead : Type 0
CanonicalIsRead = (source : List Token) (file : File) → AreOfLanguage source → Derives source file → (tokens : Tokens) →
    tokens_of (canonical file) ≡ Ok tokens → IsRead tokens file
