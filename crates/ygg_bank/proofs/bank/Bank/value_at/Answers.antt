use Rattle.std.proofs.Common.{nat_eq, ap, sym, ◌∙◌}
use Rattle.indexmap.specs.IndexMap.{get}
use Rattle.ygg_value.specs.Number.{Number}
use Rattle.ygg_bank.proofs.Children.{one_child, two_child, only_child, test_child, yes_child, no_child}
use Rattle.ygg_bank.proofs.Reading.{can_values, child_there, is_bin, is_constant, is_given, is_not, is_other, is_picked, is_resize, is_zero}
use Rattle.ygg_bank.specs.Values.{numbers_given}
use Rattle.ygg_bank.specs.declared.node.Node.TheVariants.{Bin, Not, Resize, Pick}
use Rattle.ygg_bank.proofs.bank.Bank.value_at.Goals as goal

pub word_at-one-requires : goal.word_at-one-requires
word_at-one-requires c =
    child_there (numbers_given (get nat_eq c.args.given.now)) c.args.self.now c.args.place (get nat_eq c.args.values.now) c.requires.children
    (Bin c.in-Bin.op c.in-Bin.a c.in-Bin.b) c.in-Bin.a c.in-Bin.ensures.there (one_child c.in-Bin.op c.in-Bin.a c.in-Bin.b)

pub word_at-two-requires : goal.word_at-two-requires
word_at-two-requires c =
    child_there (numbers_given (get nat_eq c.args.given.now)) c.args.self.now c.args.place (get nat_eq c.args.values.now) c.requires.children
    (Bin c.in-Bin.op c.in-Bin.a c.in-Bin.b) c.in-Bin.b c.in-Bin.ensures.there (two_child c.in-Bin.op c.in-Bin.a c.in-Bin.b)

pub word_at-requires : goal.word_at-requires
word_at-requires c =
    child_there (numbers_given (get nat_eq c.args.given.now)) c.args.self.now c.args.place (get nat_eq c.args.values.now) c.requires.children
    (Not c.in-Not.a) c.in-Not.a c.in-Not.ensures.there (only_child c.in-Not.a)

pub word_at-requires-in-Resize : goal.word_at-requires-in-Resize
word_at-requires-in-Resize c =
    child_there (numbers_given (get nat_eq c.args.given.now)) c.args.self.now c.args.place (get nat_eq c.args.values.now) c.requires.children
    (Resize c.in-Resize.a c.in-Resize.width) c.in-Resize.a c.in-Resize.ensures.there (only_child c.in-Resize.a)

pub word_at-chosen-requires : goal.word_at-chosen-requires
word_at-chosen-requires c =
    child_there (numbers_given (get nat_eq c.args.given.now)) c.args.self.now c.args.place (get nat_eq c.args.values.now) c.requires.children
    (Pick c.in-Pick.test c.in-Pick.yes c.in-Pick.no) c.in-Pick.test c.in-Pick.ensures.there (test_child c.in-Pick.test c.in-Pick.yes c.in-Pick.no)

pub word_at-requires-then-chosen-eq1 : goal.word_at-requires-then-chosen-eq1
word_at-requires-then-chosen-eq1 c =
    child_there (numbers_given (get nat_eq c.args.given.now)) c.args.self.now c.args.place (get nat_eq c.args.values.now) c.requires.children
    (Pick c.in-Pick.test c.in-Pick.yes c.in-Pick.no) c.in-Pick.yes c.in-Pick.ensures.there (yes_child c.in-Pick.test c.in-Pick.yes c.in-Pick.no)

pub word_at-requires-else-chosen-eq1 : goal.word_at-requires-else-chosen-eq1
word_at-requires-else-chosen-eq1 c =
    child_there (numbers_given (get nat_eq c.args.given.now)) c.args.self.now c.args.place (get nat_eq c.args.values.now) c.requires.children
    (Pick c.in-Pick.test c.in-Pick.yes c.in-Pick.no) c.in-Pick.no c.in-Pick.ensures.there (no_child c.in-Pick.test c.in-Pick.yes c.in-Pick.no)

pub apply-requires : goal.apply-requires
apply-requires c =
    can_values (numbers_given (get nat_eq c.args.given.now)) c.args.self.now c.args.place (get nat_eq c.args.values.now) c.requires.children
    c.stored.ensures.ordered c.in-Bin.op c.in-Bin.a c.in-Bin.b c.word_at-one.result c.word_at-two.result c.in-Bin.ensures.can c.in-Bin.ensures.there
    c.word_at-one.ensures c.word_at-two.ensures

pub returns-in-Some : goal.returns-in-Some
returns-in-Some c =
    is_given (get nat_eq c.args.given.now) c.args.self.now c.args.place c.stored.ensures.ordered c.requires.given c.in-Input.number c.in-Input.width
    c.in-Some.word.now c.in-Input.ensures.there (sym c.in-Some.ensures.value)

pub returns-in-None : goal.returns-in-None
returns-in-None c =
    is_zero (get nat_eq c.args.given.now) c.args.self.now c.args.place c.stored.ensures.ordered c.in-Input.number c.in-Input.width
    c.in-Input.ensures.there (sym c.in-None.ensures.value)

pub returns-in-Const : goal.returns-in-Const
returns-in-Const c =
    is_constant (numbers_given (get nat_eq c.args.given.now)) c.args.self.now c.args.place (get nat_eq c.args.values.now) c.stored.ensures.ordered
    c.in-Const.word c.in-Const.ensures.there

pub returns-in-Bin : goal.returns-in-Bin
returns-in-Bin c =
    is_bin (numbers_given (get nat_eq c.args.given.now)) c.args.self.now c.args.place (get nat_eq c.args.values.now) c.requires.children
    c.stored.ensures.ordered c.in-Bin.op c.in-Bin.a c.in-Bin.b c.word_at-one.result c.word_at-two.result c.apply.result c.in-Bin.ensures.there
    c.word_at-one.ensures c.word_at-two.ensures c.apply.ensures

pub returns-in-Not : goal.returns-in-Not
returns-in-Not c =
    is_not (numbers_given (get nat_eq c.args.given.now)) c.args.self.now c.args.place (get nat_eq c.args.values.now) c.requires.children
    c.stored.ensures.ordered c.in-Not.a c.word_at.result c.not.result c.in-Not.ensures.there c.word_at.ensures c.not.ensures

pub returns-in-Resize : goal.returns-in-Resize
returns-in-Resize c =
    is_resize (numbers_given (get nat_eq c.args.given.now)) c.args.self.now c.args.place (get nat_eq c.args.values.now) c.requires.children
    c.stored.ensures.ordered c.in-Resize.a c.in-Resize.width c.word_at-in-Resize.result c.resize.result c.in-Resize.ensures.there
    c.word_at-in-Resize.ensures c.resize.ensures

pub returns-then-chosen-eq1 : goal.returns-then-chosen-eq1
returns-then-chosen-eq1 c =
    is_picked (numbers_given (get nat_eq c.args.given.now)) c.args.self.now c.args.place (get nat_eq c.args.values.now) c.requires.children
    c.stored.ensures.ordered c.in-Pick.test c.in-Pick.yes c.in-Pick.no c.word_at-chosen.result c.word_at-then-chosen-eq1.result
    c.in-Pick.ensures.there c.word_at-chosen.ensures (ap (λ (n : Number). n.bits) (sym c.chosen.view_is) ∙ c.if-chosen-eq1.true)
    c.word_at-then-chosen-eq1.ensures

pub returns-else-chosen-eq1 : goal.returns-else-chosen-eq1
returns-else-chosen-eq1 c =
    is_other (numbers_given (get nat_eq c.args.given.now)) c.args.self.now c.args.place (get nat_eq c.args.values.now) c.requires.children
    c.stored.ensures.ordered c.in-Pick.test c.in-Pick.yes c.in-Pick.no c.word_at-chosen.result c.word_at-else-chosen-eq1.result
    c.in-Pick.ensures.there c.word_at-chosen.ensures (λ z. c.if-chosen-eq1.false (ap (λ (n : Number). n.bits) c.chosen.view_is ∙ z))
    c.word_at-else-chosen-eq1.ensures
