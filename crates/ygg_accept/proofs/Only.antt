-- From given tokens no file derives but the one that was read.
use Rattle.std.proofs.Common.{◌≡◌, ℕ, List, Result, Ok, Err, IfErr, inr}
use Rattle.std.specs.Result.{IsErrAnd}
use Rattle.ygg_base.specs.declared.token.Token.{Token}
use Rattle.ygg_base.specs.declared.tokens.Tokens.{Tokens}
use Rattle.ygg_base.specs.declared.failure.Refusal.{Refusal}
use Rattle.ygg_base.specs.declared.failure.Refuse.{Refuse}
use Rattle.ygg_base.specs.declared.failure.Refuse.TheVariants.{At, Memory}
use Rattle.ygg_base.specs.Failure.{IfRefused}
use Rattle.ygg_base.specs.Lexing.{tokens_of}
use Rattle.ygg_syntax.specs.declared.tree.File.{File}
use Rattle.ygg_syntax.specs.Files.{Derives}
use Rattle.ygg_print.specs.UniqueLaws.{OneFileDerives}
use Rattle.ygg_type.specs.Typed.{IsFirstTypeError}
use Rattle.ygg_accept.specs.Accepting.{IsMistyped, RefusesLayers}

pub no_other : OneFileDerives → (tokens : List Token) (file : File) → Derives tokens file → (other : File) → Derives tokens other → other ≡ file
no_other one tokens file derives other others = one tokens other file others derives

is_mistyped : OneFileDerives → (tokens : Tokens) (file : File) (r : Refusal) → Derives tokens.items file → IsFirstTypeError file r → IsMistyped tokens r
is_mistyped one tokens file r derives first = record {
  file = file;
  derives = derives;
  only = no_other one tokens.items file derives;
  first = first;
}

-- the refusal of a file is that of the text that it is
mistyped : OneFileDerives → (text : List ℕ) (tokens : Tokens) (file : File) (refuse : Refuse) → tokens_of text ≡ Ok tokens → Derives tokens.items file →
    IfRefused refuse (IsFirstTypeError file)
    → IfRefused refuse (RefusesLayers text)
mistyped one text tokens file (At r) spells derives first = inr (tokens, spells, inr (is_mistyped one tokens file r derives first))
mistyped one text tokens file Memory spells derives first = tt

-- the same of what the exit of a `?` returns
pub mistyped_on : {T : Type 0} → OneFileDerives → (text : List ℕ) (tokens : Tokens) (file : File) (result : Result T Refuse) (refuse : Refuse) →
    IsErrAnd result (λ r. r ≡ refuse)
    → tokens_of text ≡ Ok tokens → Derives tokens.items file → IfRefused refuse (IsFirstTypeError file) → IfErr result (λ r. IfRefused r (RefusesLayers text))
mistyped_on one text tokens file (Ok x) refuse same spells derives first = tt
mistyped_on one text tokens file (Err r) refuse same spells derives first = rw same (mistyped one text tokens file refuse spells derives first)
