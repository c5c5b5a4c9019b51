use Rattle.std.proofs.Common.{[], ◌∷◌, ◌∙◌}
use Rattle.ygg_base.specs.declared.token.Keyword.TheVariants as word
use Rattle.ygg_base.specs.declared.token.Symbol.TheVariants as sign
use Rattle.ygg_syntax.specs.Expressions.{keyword, numbered, symbol}
use Rattle.ygg_syntax.specs.Files.{disk_word}
use Rattle.ygg_read.proofs.ExpressionPhrases.{joined}
use Rattle.ygg_read.proofs.disk.disk.Goals as goal

pub returns-clause-reads : goal.returns-clause-reads
returns-clause-reads c =
    let kind = keyword (disk_word c.in-Some-kind.kind) in
    let rows = numbered c.in-Some-three.rows in
    let words = numbered c.in-Some-three.words in
    let width = numbered c.in-Some-three.width in
    λ qs. joined (keyword word.Disk ∷ kind ∷ rows ∷ keyword word.Of ∷ words ∷ keyword word.Of ∷ width ∷ symbol sign.Semicolon ∷ []) qs c.args.reader.now
    ∙ c.in-Some.ensures.reads (kind ∷ rows ∷ keyword word.Of ∷ words ∷ keyword word.Of ∷ width ∷ symbol sign.Semicolon ∷ qs)
    ∙ c.in-Some-kind.ensures.reads (rows ∷ keyword word.Of ∷ words ∷ keyword word.Of ∷ width ∷ symbol sign.Semicolon ∷ qs)
    ∙ c.in-Some-three.ensures.reads (symbol sign.Semicolon ∷ qs) ∙ c.in-Some-symbol.ensures.reads qs
