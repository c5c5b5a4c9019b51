use Rattle.std.proofs.Common.{List, [], ◌∷◌, ◌++◌, ◌∙◌, map}
use Rattle.ygg_base.specs.declared.token.Keyword.TheVariants as word
use Rattle.ygg_base.specs.declared.token.Symbol.TheVariants as sign
use Rattle.ygg_base.specs.declared.token.Mark.TheVariants as mark
use Rattle.ygg_syntax.specs.Reading.{passes, in_turn}
use Rattle.ygg_syntax.specs.Expressions.{keyword, symbol}
use Rattle.ygg_syntax.specs.Files.{disk_text, definition, layers}
use Rattle.ygg_syntax.specs.Pending.{Pending, number, disk_kind, repeated, rest_of_layer, word_of, sign_of}
use Rattle.ygg_syntax.specs.Pending as pending
use Rattle.ygg_read.proofs.ExpressionPhrases.{joined}
use Rattle.ygg_read.proofs.Files.{file_opens}
use Rattle.ygg_read.proofs.file.file.Goals as goal

-- what comes after the definitions, and after the version
abbrev after_defs : List Pending → List Pending
after_defs qs = word_of word.Layer ∷ rest_of_layer ++ (repeated pending.next_layer ∷ qs)

abbrev after_version : List Pending → List Pending
after_version qs = word_of word.Disk ∷ disk_kind ∷ number ∷ word_of word.Of ∷ number ∷ word_of word.Of ∷ number ∷ sign_of sign.Semicolon
    ∷ repeated pending.definition ∷ after_defs qs

pub returns-in_default-clause-refused : goal.returns-in_default-clause-refused
returns-in_default-clause-refused c = λ qs. file_opens c.args.reader.now qs ∙ c.in_default.ensures.refused (after_version qs)

pub returns-in_default-disk-clause-refused : goal.returns-in_default-disk-clause-refused
returns-in_default-disk-clause-refused c =
    λ qs. file_opens c.args.reader.now qs ∙ c.in-Some.ensures.goes (after_version qs)
    ∙ c.in_default-disk.ensures.refused (repeated pending.definition ∷ after_defs qs)

pub returns-in_default-2-clause-refused : goal.returns-in_default-2-clause-refused
returns-in_default-2-clause-refused c =
    let stopped = rw c.in_default-2.is at c.in_ok-defs.ensures.refused in
    λ qs. file_opens c.args.reader.now qs ∙ c.in-Some.ensures.goes (after_version qs)
    ∙ c.in-Some-disk.ensures.goes (repeated pending.definition ∷ after_defs qs) ∙ stopped (after_defs qs)

pub returns-in_default-3-clause-refused : goal.returns-in_default-3-clause-refused
returns-in_default-3-clause-refused c =
    let defs = rw c.in-Some-2.is at c.in_ok-defs.ensures.goes in
    let none = rw c.in_default-3.is at c.in_ok-defs-2.ensures.refused in
    let stopped = rw none at c.layers.ensures.refused in
    λ qs. file_opens c.args.reader.now qs ∙ c.in-Some.ensures.goes (after_version qs)
    ∙ c.in-Some-disk.ensures.goes (repeated pending.definition ∷ after_defs qs) ∙ defs (after_defs qs) ∙ stopped qs

pub returns-clause-reads : goal.returns-clause-reads
returns-clause-reads c =
    let d = c.in-Some-disk.disk in
    let ds = c.in-Some-3.defs in
    let ls = c.in-Some-3.layers in
    let parts = rw c.in-Some-3.is at c.in_ok-defs-2.ensures.read in
    let first = rw c.in-Some-2.is at c.in_ok-defs.ensures.reads in
    let defs = rw parts.0 at first in
    let rest = rw parts.1 at c.layers.ensures.reads in
    λ qs. joined (keyword word.Yggdrasil ∷ passes (mark.Num 1) ∷ symbol sign.Semicolon ∷ disk_text d ∷ in_turn (map definition ds) ∷ layers ls ∷ []) qs
    c.args.reader.now
    ∙ c.in-Some.ensures.reads (disk_text d ∷ in_turn (map definition ds) ∷ layers ls ∷ qs)
    ∙ c.in-Some-disk.ensures.reads (in_turn (map definition ds) ∷ layers ls ∷ qs) ∙ defs (layers ls ∷ qs) ∙ rest qs

pub returns-clause-goes : goal.returns-clause-goes
returns-clause-goes c =
    let parts = rw c.in-Some-3.is at c.in_ok-defs-2.ensures.read in
    let defs = rw c.in-Some-2.is at c.in_ok-defs.ensures.goes in
    let rest = rw parts.1 at c.layers.ensures.goes in
    λ qs. file_opens c.args.reader.now qs ∙ c.in-Some.ensures.goes (after_version qs)
    ∙ c.in-Some-disk.ensures.goes (repeated pending.definition ∷ after_defs qs) ∙ defs (after_defs qs) ∙ rest qs
