use Rattle.std.proofs.Common.{◌≡◌, OnOk, IfOk, refl, subst}
use Rattle.ygg_oblige_parts.specs.ygg_bank.Makes.{Make}
use Rattle.ygg_oblige_parts.specs.ygg_bank.declared.node.Id.{Id}
use Rattle.ygg_oblige_parts.specs.Layers.{closed}
use Rattle.ygg_oblige_parts.specs.Sites.{below_in}
use Rattle.ygg_oblige_parts.specs.Makers.{starting_of}
use Rattle.ygg_oblige_list.specs.InCode.{obligation_of}
use Rattle.ygg_oblige_list.specs.declared.obligation.SymObligation.TheVariants as asked
use Rattle.ygg_oblige.specs.Making.{SpeaksOfNoAnswer}
use Rattle.ygg_oblige.specs.Numbering.{numbers_in}
use Rattle.ygg_oblige.proofs.Cases.{begun, case_has, cut_is, single_begun, whole_is}
use Rattle.ygg_oblige.proofs.Sites.{after_run}
use Rattle.ygg_oblige.proofs.terms.term.Goals as goal

pub formats-requires-clause-single : goal.formats-requires-clause-single
formats-requires-clause-single g c =
    single_begun (below_in c.args.maker.now.below) (closed c.args.maker.now.layer) (obligation_of c.args.obligation) c.args.start (numbers_in c.args.n)
    c.args.bank.now c.requires.numbers c.requires.free

pub whole_term-requires-clause-can : goal.whole_term-requires-clause-can
whole_term-requires-clause-can g c =
    begun c.args.maker.now.layer c.args.maker.now.below c.args.bank.now c.args.obligation (asked.Call c.in-Call.field-0) (numbers_in c.args.n) (starting_of
    c.args.s.now) c.args.start
    c.in-Call.is tt refl c.requires.site c.requires.typed c.requires.tick c.requires.starting c.requires.numbers c.requires.free

pub cut_term-requires-clause-can : goal.cut_term-requires-clause-can
cut_term-requires-clause-can g c =
    begun c.args.maker.now.layer c.args.maker.now.below c.args.bank.now c.args.obligation (asked.Cut c.in-Cut.field-0) (numbers_in c.args.n) (starting_of
    c.args.s.now) c.args.start
    c.in-Cut.is tt refl c.requires.site c.requires.typed c.requires.tick c.requires.starting c.requires.numbers c.requires.free

pub cut_term-requires-clause-silent : goal.cut_term-requires-clause-silent
cut_term-requires-clause-silent g c = case_has SpeaksOfNoAnswer c.args.obligation (asked.Cut c.in-Cut.field-0) c.in-Cut.is (λ v answer. tt)

pub whole_term-requires-in-Tick-clause-can : goal.whole_term-requires-in-Tick-clause-can
whole_term-requires-in-Tick-clause-can g c =
    begun c.args.maker.now.layer c.args.maker.now.below c.args.bank.now c.args.obligation (asked.Tick c.in-Tick.field-0) (numbers_in c.args.n) (starting_of
    c.args.s.now) c.args.start
    c.in-Tick.is tt refl c.requires.site c.requires.typed c.requires.tick c.requires.starting c.requires.numbers c.requires.free

pub cut_term-requires-in-CutTick-clause-can : goal.cut_term-requires-in-CutTick-clause-can
cut_term-requires-in-CutTick-clause-can g c =
    begun c.args.maker.now.layer c.args.maker.now.below c.args.bank.now c.args.obligation (asked.CutTick c.in-CutTick.field-0) (numbers_in c.args.n)
    (starting_of c.args.s.now) c.args.start
    c.in-CutTick.is tt refl c.requires.site c.requires.typed c.requires.tick c.requires.starting c.requires.numbers c.requires.free

pub cut_term-requires-in-CutTick-clause-silent : goal.cut_term-requires-in-CutTick-clause-silent
cut_term-requires-in-CutTick-clause-silent g c =
    case_has SpeaksOfNoAnswer c.args.obligation (asked.CutTick c.in-CutTick.field-0) c.in-CutTick.is (λ v answer. tt)

pub idles-requires-clause-single : goal.idles-requires-clause-single
idles-requires-clause-single g c =
    single_begun (below_in c.args.maker.now.below) (closed c.args.maker.now.layer) (obligation_of c.args.obligation) c.args.start (numbers_in c.args.n)
    c.args.bank.now c.requires.numbers c.requires.free

pub idles-requires-clause-after : goal.idles-requires-clause-after
idles-requires-clause-after g c =
    after_run (below_in c.args.maker.now.below) (closed c.args.maker.now.layer) (obligation_of c.args.obligation) c.args.start (numbers_in c.args.n)
    c.requires.numbers

pub recovers_again-requires-clause-single : goal.recovers_again-requires-clause-single
recovers_again-requires-clause-single g c =
    single_begun (below_in c.args.maker.now.below) (closed c.args.maker.now.layer) (obligation_of c.args.obligation) c.args.start (numbers_in c.args.n)
    c.args.bank.now c.requires.numbers c.requires.free

pub recovers_again-requires-clause-after : goal.recovers_again-requires-clause-after
recovers_again-requires-clause-after g c =
    after_run (below_in c.args.maker.now.below) (closed c.args.maker.now.layer) (obligation_of c.args.obligation) c.args.start (numbers_in c.args.n)
    c.requires.numbers

pub returns-in-Call-clause-nodes : goal.returns-in-Call-clause-nodes
returns-in-Call-clause-nodes g c =
    subst (λ (m : Make Id). OnOk c.whole_term.result (c.whole_term.new.bank ≡ (m c.args.bank.now).nodes))
    (whole_is (g.B.Book.kinds c.args.maker.now.book.now) c.args.maker.now.layer c.args.maker.now.below c.args.obligation (asked.Call c.in-Call.field-0)
    (numbers_in c.args.n) (starting_of c.args.s.now) c.in-Call.is refl) c.whole_term.ensures.nodes

pub returns-in-Call-clause-id : goal.returns-in-Call-clause-id
returns-in-Call-clause-id g c =
    subst (λ (m : Make Id). IfOk c.whole_term.result (λ (id : Id). id ≡ (m c.args.bank.now).value))
    (whole_is (g.B.Book.kinds c.args.maker.now.book.now) c.args.maker.now.layer c.args.maker.now.below c.args.obligation (asked.Call c.in-Call.field-0)
    (numbers_in c.args.n) (starting_of c.args.s.now) c.in-Call.is refl) c.whole_term.ensures.id

pub returns-in-Cut-clause-nodes : goal.returns-in-Cut-clause-nodes
returns-in-Cut-clause-nodes g c =
    subst (λ (m : Make Id). OnOk c.cut_term.result (c.cut_term.new.bank ≡ (m c.args.bank.now).nodes))
    (cut_is (g.B.Book.kinds c.args.maker.now.book.now) c.args.maker.now.layer c.args.maker.now.below c.args.obligation (asked.Cut c.in-Cut.field-0)
    (numbers_in c.args.n) (starting_of c.args.s.now) c.in-Cut.is refl) c.cut_term.ensures.nodes

pub returns-in-Cut-clause-id : goal.returns-in-Cut-clause-id
returns-in-Cut-clause-id g c =
    subst (λ (m : Make Id). IfOk c.cut_term.result (λ (id : Id). id ≡ (m c.args.bank.now).value))
    (cut_is (g.B.Book.kinds c.args.maker.now.book.now) c.args.maker.now.layer c.args.maker.now.below c.args.obligation (asked.Cut c.in-Cut.field-0)
    (numbers_in c.args.n) (starting_of c.args.s.now) c.in-Cut.is refl) c.cut_term.ensures.id

pub returns-in-Tick-clause-nodes : goal.returns-in-Tick-clause-nodes
returns-in-Tick-clause-nodes g c =
    subst (λ (m : Make Id). OnOk c.whole_term-in-Tick.result (c.whole_term-in-Tick.new.bank ≡ (m c.args.bank.now).nodes))
    (whole_is (g.B.Book.kinds c.args.maker.now.book.now) c.args.maker.now.layer c.args.maker.now.below c.args.obligation (asked.Tick c.in-Tick.field-0)
    (numbers_in c.args.n) (starting_of c.args.s.now) c.in-Tick.is refl) c.whole_term-in-Tick.ensures.nodes

pub returns-in-Tick-clause-id : goal.returns-in-Tick-clause-id
returns-in-Tick-clause-id g c =
    subst (λ (m : Make Id). IfOk c.whole_term-in-Tick.result (λ (id : Id). id ≡ (m c.args.bank.now).value))
    (whole_is (g.B.Book.kinds c.args.maker.now.book.now) c.args.maker.now.layer c.args.maker.now.below c.args.obligation (asked.Tick c.in-Tick.field-0)
    (numbers_in c.args.n) (starting_of c.args.s.now) c.in-Tick.is refl) c.whole_term-in-Tick.ensures.id

pub returns-in-CutTick-clause-nodes : goal.returns-in-CutTick-clause-nodes
returns-in-CutTick-clause-nodes g c =
    subst (λ (m : Make Id). OnOk c.cut_term-in-CutTick.result (c.cut_term-in-CutTick.new.bank ≡ (m c.args.bank.now).nodes))
    (cut_is (g.B.Book.kinds c.args.maker.now.book.now) c.args.maker.now.layer c.args.maker.now.below c.args.obligation (asked.CutTick c.in-CutTick.field-0)
    (numbers_in c.args.n) (starting_of c.args.s.now) c.in-CutTick.is refl) c.cut_term-in-CutTick.ensures.nodes

pub returns-in-CutTick-clause-id : goal.returns-in-CutTick-clause-id
returns-in-CutTick-clause-id g c =
    subst (λ (m : Make Id). IfOk c.cut_term-in-CutTick.result (λ (id : Id). id ≡ (m c.args.bank.now).value))
    (cut_is (g.B.Book.kinds c.args.maker.now.book.now) c.args.maker.now.layer c.args.maker.now.below c.args.obligation (asked.CutTick c.in-CutTick.field-0)
    (numbers_in c.args.n) (starting_of c.args.s.now) c.in-CutTick.is refl) c.cut_term-in-CutTick.ensures.id
