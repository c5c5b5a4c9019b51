use Rattle.std.proofs.Common.{length, refl, sym, ap, ◌∙◌}
use Rattle.std.proofs.lemmas.Option.{slice_get_read}
use Rattle.ygg_type_rules.specs.TypeErrors.{none, first_after}
use Rattle.ygg_type.proofs.RowCounts.{no_parts, few_parts, many_parts}
use Rattle.ygg_type.proofs.first.First.row_count.Goals as goal

pub returns-then-is_empty-clause-none : goal.returns-then-is_empty-clause-none
returns-then-is_empty-clause-none c =
    sym (ap none (no_parts c.args.at c.args.parts.now (sym c.if-is_empty.true ∙ c.is_empty.ensures)))

pub returns-then-is_empty-clause-first : goal.returns-then-is_empty-clause-first
returns-then-is_empty-clause-first c =
    let none_there = no_parts c.args.at c.args.parts.now (sym c.if-is_empty.true ∙ c.is_empty.ensures) in
    c.add.ensures ∙ sym (ap (first_after c.args.self.now.type_error) none_there)

pub returns-in-None-clause-none : goal.returns-in-None-clause-none
returns-in-None-clause-none c =
    sym (ap none (few_parts c.args.at c.args.parts.now (sym c.if-is_empty.false ∙ c.is_empty.ensures) c.in-None.ensures.lookup.3))

pub returns-in-None-clause-first : goal.returns-in-None-clause-first
returns-in-None-clause-first c =
    let few = few_parts c.args.at c.args.parts.now (sym c.if-is_empty.false ∙ c.is_empty.ensures) c.in-None.ensures.lookup.3 in
    sym (ap (first_after c.args.self.now.type_error) few)

pub returns-in-Some-clause-none : goal.returns-in-Some-clause-none
returns-in-Some-clause-none c =
    let parts = c.args.parts.now in
    let there = slice_get_read parts (length parts) 64 c.in-Some.over.now refl c.in-Some.ensures.lookup.3.0 c.in-Some.ensures.lookup.1 in
    sym (ap none (many_parts c.args.at parts c.in-Some.over.now there))

pub returns-in-Some-clause-first : goal.returns-in-Some-clause-first
returns-in-Some-clause-first c =
    let parts = c.args.parts.now in
    let there = slice_get_read parts (length parts) 64 c.in-Some.over.now refl c.in-Some.ensures.lookup.3.0 c.in-Some.ensures.lookup.1 in
    c.add-in-Some.ensures ∙ sym (ap (first_after c.args.self.now.type_error) (many_parts c.args.at parts c.in-Some.over.now there))
