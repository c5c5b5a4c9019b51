use Rattle.std.proofs.Common.{[], ◌∷◌, refl}
use Rattle.ygg_shape_words.specs.ygg_bank_proofs_Widths.{stands}
use Rattle.ygg_shape_words.specs.ygg_bank.Nodes.{Stands}
use Rattle.ygg_shape_sums.proofs.PlainWords.{both_stand, both_plain, rest_all, last_is, all_again}
use Rattle.ygg_shape_sums.specs.Plain.{IsPlain}
use Rattle.ygg_shape_sums.proofs.plain.are_plain.Goals as goal

pub loop-init : goal.loop-init
loop-init c =
    let bank = c.args.bank.now in
    let w = c.requires.words in
    let a = c.args.one in
    let b = c.args.two in
    let e = c.in_ok-todo.ensures in
    record {
      stand = both_stand bank a b [] (a ∷ []) c.in_ok-todo.todo.items refl refl e (stands bank a w.width w.one_has) (stands bank b w.width w.two_has);
      leads = both_plain bank a b [] (a ∷ []) c.in_ok-todo.todo.items refl refl e;
    }

pub enter-requires-clause-term : goal.enter-requires-clause-term
enter-requires-clause-term c =
    last_is (Stands c.args.bank.now) c.in-Some.term c.loop.todo.items c.pop.new.self.items c.in-Some.ensures.items c.loop.invariant.stand

pub loop-preserved : goal.loop-preserved
loop-preserved c =
    let bank = c.args.bank.now in
    let a = c.in-Some.term in
    let old = c.loop.todo.items in
    let rest = c.pop.new.self.items in
    record {
      stand = c.in_ok-enter.ensures.stand (rest_all (Stands bank) a old rest c.in-Some.ensures.items c.loop.invariant.stand);
      leads = λ h. c.loop.invariant.leads (all_again (IsPlain bank) a old rest c.in-Some.ensures.items (c.in_ok-enter.ensures.leads c.if-not-branch.false h));
    }
