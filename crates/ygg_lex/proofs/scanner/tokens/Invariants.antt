use Rattle.std.proofs.Common.{◌≡◌}
use Rattle.ygg_base.specs.Lexing.{tokens_of}
use Rattle.ygg_lex.specs.Scanning.{from_here, IsWithin}
use Rattle.ygg_lex.proofs.scanner.tokens.Given as goal

abbrev pub invariant-loop-place : goal.invariant-loop-place
invariant-loop-place l = (from_here l.scanner l.text l.place ≡ tokens_of l.text) × IsWithin l.scanner l.place
