-- Tokens that are no names.
use Rattle.ygg_base.specs.declared.token.Mark.{Mark}
use Rattle.ygg_base.specs.declared.token.Mark.TheVariants as mark
use Rattle.ygg_print.specs.declared.printer.Plain.{Plain}
use Rattle.ygg_print.specs.declared.printer.Plain.TheVariants as plain

-- the mark of such a token
abbrev pub plain_mark : Plain → Mark
plain_mark (plain.Keyword keyword) = mark.Keyword keyword
plain_mark (plain.Symbol symbol) = mark.Symbol symbol
plain_mark (plain.Number number) = mark.Num number
