use Rattle.std.proofs.Common.{◌≡◌, List, IfOk, OnOk, sym, ap, ◌∙◌, subst}
use Rattle.ygg_bank.proofs.Widths.{has_width, width_is, extends_self, extends_both}
use Rattle.ygg_bank.specs.Nodes.{HasWidth}
use Rattle.ygg_bank.specs.declared.node.Id.{Id}
use Rattle.ygg_shape_words.proofs.Fit.{other_has, other_and, other_or}
use Rattle.std.proofs.lemmas.Result.{IfOk-from_err}
use Rattle.ygg_bank.specs.Makes.{Out}
use Rattle.ygg_bank.specs.Making.{made}
use Rattle.ygg_bank.specs.declared.node.Node.{Node}
use Rattle.ygg_bank.specs.declared.node.Node.TheVariants.{Bin, Not}
use Rattle.ygg_value.specs.declared.operation.Op.TheVariants.{And, Or}
use Rattle.ygg_rules.specs.declared.rule.RuleKind.{RuleKind}
use Rattle.ygg_shape_words.specs.Picking.{choice_at, picked, picked_as}
use Rattle.ygg_shape_words.specs.declared.picking.Choice.{Choice}
use Rattle.ygg_shape_words.specs.declared.picking.Choice.TheVariants as choice
use Rattle.ygg_shape_words.proofs.picking.pick_by.Goals as goal

-- what is made by the way in which the pick is made
made_as : (kinds : List RuleKind) (t a b : Id) (way : Choice) (old : List Node) → way ≡ choice_at old a b →
    picked_as kinds t a b way old ≡ picked kinds t a b old
made_as kinds t a b way old e = ap (λ (w : Choice). picked_as kinds t a b w old) e

-- the same of a node over the complement of the test
made_over : (kinds : List RuleKind) (t : Id) (old mid : List Node) (n : Id) (over : Id → Node) → mid ≡ (made kinds (Not t) old).nodes
    → n ≡ (made kinds (Not t) old).value → made kinds (over n) mid ≡ made kinds (over (made kinds (Not t) old).value) (made kinds (Not t) old).nodes
made_over kinds t old mid n over p q =
    ap (λ (z : Id). made kinds (over z) mid) q ∙ ap (λ (z : List Node). made kinds (over (made kinds (Not t) old).value) z) p

pub make-requires-in-YesIsZero-2 : goal.make-requires-in-YesIsZero-2
make-requires-in-YesIsZero-2 g c =
    other_and c.args.bank.now c.make-in-YesIsZero.new.self c.args.test c.args.yes c.args.no c.in_ok-other-in-YesIsZero.other c.requires.pick
    c.in-YesIsZero.ensures.fits c.make-in-YesIsZero.ensures.grows
    c.in_ok-other-in-YesIsZero.ensures.width

pub make-requires-in-NoIsOne-2 : goal.make-requires-in-NoIsOne-2
make-requires-in-NoIsOne-2 g c =
    other_or c.args.bank.now c.make-in-NoIsOne.new.self c.args.test c.args.yes c.args.no c.in_ok-other-in-NoIsOne.other c.requires.pick
    c.in-NoIsOne.ensures.fits c.make-in-NoIsOne.ensures.grows
    c.in_ok-other-in-NoIsOne.ensures.width

pub returns-in-One-clause-width : goal.returns-in-One-clause-width
returns-in-One-clause-width g c = has_width c.args.bank.now c.args.yes c.requires.pick.yes

pub returns-in_ok-other-in-YesIsZero-clause-width : goal.returns-in_ok-other-in-YesIsZero-clause-width
returns-in_ok-other-in-YesIsZero-clause-width g c =
    subst (λ w. IfOk c.make-in-YesIsZero-2.result (λ (id : Id). HasWidth c.make-in-YesIsZero-2.new.self id w))
    (width_is c.make-in-YesIsZero.new.self c.in_ok-other-in-YesIsZero.other 1
    (other_has c.args.bank.now c.make-in-YesIsZero.new.self c.args.test c.args.yes c.args.no c.in_ok-other-in-YesIsZero.other c.requires.pick
    c.in_ok-other-in-YesIsZero.ensures.width)
    ∙ sym c.in-YesIsZero.ensures.fits) c.make-in-YesIsZero-2.ensures.width

pub returns-in_ok-other-in-NoIsOne-clause-width : goal.returns-in_ok-other-in-NoIsOne-clause-width
returns-in_ok-other-in-NoIsOne-clause-width g c =
    subst (λ w. IfOk c.make-in-NoIsOne-2.result (λ (id : Id). HasWidth c.make-in-NoIsOne-2.new.self id w))
    (width_is c.make-in-NoIsOne.new.self c.in_ok-other-in-NoIsOne.other 1
    (other_has c.args.bank.now c.make-in-NoIsOne.new.self c.args.test c.args.yes c.args.no c.in_ok-other-in-NoIsOne.other c.requires.pick
    c.in_ok-other-in-NoIsOne.ensures.width)
    ∙ sym c.in-NoIsOne.ensures.fits) c.make-in-NoIsOne-2.ensures.width

pub returns-in_ok-other-in-YesIsZero-clause-inputs : goal.returns-in_ok-other-in-YesIsZero-clause-inputs
returns-in_ok-other-in-YesIsZero-clause-inputs g c = λ next h. c.make-in-YesIsZero-2.ensures.inputs next (c.make-in-YesIsZero.ensures.inputs next h)

pub returns-in_ok-other-in-NoIsOne-clause-inputs : goal.returns-in_ok-other-in-NoIsOne-clause-inputs
returns-in_ok-other-in-NoIsOne-clause-inputs g c = λ next h. c.make-in-NoIsOne-2.ensures.inputs next (c.make-in-NoIsOne.ensures.inputs next h)

pub returns-in_ok-other-in-YesIsZero-clause-grows : goal.returns-in_ok-other-in-YesIsZero-clause-grows
returns-in_ok-other-in-YesIsZero-clause-grows g c =
    extends_both c.args.bank.now c.make-in-YesIsZero.new.self c.make-in-YesIsZero-2.new.self c.make-in-YesIsZero.ensures.grows
    c.make-in-YesIsZero-2.ensures.grows

pub returns-in_ok-other-in-NoIsOne-clause-grows : goal.returns-in_ok-other-in-NoIsOne-clause-grows
returns-in_ok-other-in-NoIsOne-clause-grows g c =
    extends_both c.args.bank.now c.make-in-NoIsOne.new.self c.make-in-NoIsOne-2.new.self c.make-in-NoIsOne.ensures.grows
    c.make-in-NoIsOne-2.ensures.grows

pub returns-in-YesIsOne-clause-nodes : goal.returns-in-YesIsOne-clause-nodes
returns-in-YesIsOne-clause-nodes g c =
    subst (λ (m : Out Id). OnOk c.make.result (c.make.new.self ≡ m.nodes))
    (made_as (g.B.Book.kinds c.args.book.now) c.args.test c.args.yes c.args.no choice.YesIsOne c.args.bank.now c.in-YesIsOne.ensures.value)
    c.make.ensures.nodes

pub returns-in-YesIsOne-clause-form : goal.returns-in-YesIsOne-clause-form
returns-in-YesIsOne-clause-form g c =
    subst (λ (m : Out Id). IfOk c.make.result (λ (id : Id). id ≡ m.value))
    (made_as (g.B.Book.kinds c.args.book.now) c.args.test c.args.yes c.args.no choice.YesIsOne c.args.bank.now c.in-YesIsOne.ensures.value)
    c.make.ensures.id

pub returns-in-NoIsZero-clause-nodes : goal.returns-in-NoIsZero-clause-nodes
returns-in-NoIsZero-clause-nodes g c =
    subst (λ (m : Out Id). OnOk c.make-in-NoIsZero.result (c.make-in-NoIsZero.new.self ≡ m.nodes))
    (made_as (g.B.Book.kinds c.args.book.now) c.args.test c.args.yes c.args.no choice.NoIsZero c.args.bank.now c.in-NoIsZero.ensures.value)
    c.make-in-NoIsZero.ensures.nodes

pub returns-in-NoIsZero-clause-form : goal.returns-in-NoIsZero-clause-form
returns-in-NoIsZero-clause-form g c =
    subst (λ (m : Out Id). IfOk c.make-in-NoIsZero.result (λ (id : Id). id ≡ m.value))
    (made_as (g.B.Book.kinds c.args.book.now) c.args.test c.args.yes c.args.no choice.NoIsZero c.args.bank.now c.in-NoIsZero.ensures.value)
    c.make-in-NoIsZero.ensures.id

pub returns-in-Plain-clause-nodes : goal.returns-in-Plain-clause-nodes
returns-in-Plain-clause-nodes g c =
    subst (λ (m : Out Id). OnOk c.make-in-Plain.result (c.make-in-Plain.new.self ≡ m.nodes))
    (made_as (g.B.Book.kinds c.args.book.now) c.args.test c.args.yes c.args.no choice.Plain c.args.bank.now c.in-Plain.ensures.value)
    c.make-in-Plain.ensures.nodes

pub returns-in-Plain-clause-form : goal.returns-in-Plain-clause-form
returns-in-Plain-clause-form g c =
    subst (λ (m : Out Id). IfOk c.make-in-Plain.result (λ (id : Id). id ≡ m.value))
    (made_as (g.B.Book.kinds c.args.book.now) c.args.test c.args.yes c.args.no choice.Plain c.args.bank.now c.in-Plain.ensures.value)
    c.make-in-Plain.ensures.id

pub returns-in_ok-other-in-YesIsZero-clause-nodes : goal.returns-in_ok-other-in-YesIsZero-clause-nodes
returns-in_ok-other-in-YesIsZero-clause-nodes g c =
    subst (λ (m : Out Id). OnOk c.make-in-YesIsZero-2.result (c.make-in-YesIsZero-2.new.self ≡ m.nodes))
    (made_over (g.B.Book.kinds c.args.book.now) c.args.test c.args.bank.now c.make-in-YesIsZero.new.self c.in_ok-other-in-YesIsZero.other
    (λ z. Bin And z c.args.no)
    c.in_ok-other-in-YesIsZero.ensures.nodes c.in_ok-other-in-YesIsZero.ensures.id ∙ made_as (g.B.Book.kinds c.args.book.now) c.args.test c.args.yes c.args.no
    choice.YesIsZero c.args.bank.now c.in-YesIsZero.ensures.value)
    c.make-in-YesIsZero-2.ensures.nodes

pub returns-in_ok-other-in-YesIsZero-clause-form : goal.returns-in_ok-other-in-YesIsZero-clause-form
returns-in_ok-other-in-YesIsZero-clause-form g c =
    subst (λ (m : Out Id). IfOk c.make-in-YesIsZero-2.result (λ (id : Id). id ≡ m.value))
    (made_over (g.B.Book.kinds c.args.book.now) c.args.test c.args.bank.now c.make-in-YesIsZero.new.self c.in_ok-other-in-YesIsZero.other
    (λ z. Bin And z c.args.no)
    c.in_ok-other-in-YesIsZero.ensures.nodes c.in_ok-other-in-YesIsZero.ensures.id ∙ made_as (g.B.Book.kinds c.args.book.now) c.args.test c.args.yes c.args.no
    choice.YesIsZero c.args.bank.now c.in-YesIsZero.ensures.value)
    c.make-in-YesIsZero-2.ensures.id

pub returns-in_ok-other-in-NoIsOne-clause-nodes : goal.returns-in_ok-other-in-NoIsOne-clause-nodes
returns-in_ok-other-in-NoIsOne-clause-nodes g c =
    subst (λ (m : Out Id). OnOk c.make-in-NoIsOne-2.result (c.make-in-NoIsOne-2.new.self ≡ m.nodes))
    (made_over (g.B.Book.kinds c.args.book.now) c.args.test c.args.bank.now c.make-in-NoIsOne.new.self c.in_ok-other-in-NoIsOne.other (λ z. Bin Or z c.args.yes)
    c.in_ok-other-in-NoIsOne.ensures.nodes c.in_ok-other-in-NoIsOne.ensures.id ∙ made_as (g.B.Book.kinds c.args.book.now) c.args.test c.args.yes c.args.no
    choice.NoIsOne c.args.bank.now c.in-NoIsOne.ensures.value)
    c.make-in-NoIsOne-2.ensures.nodes

pub returns-in_ok-other-in-NoIsOne-clause-form : goal.returns-in_ok-other-in-NoIsOne-clause-form
returns-in_ok-other-in-NoIsOne-clause-form g c =
    subst (λ (m : Out Id). IfOk c.make-in-NoIsOne-2.result (λ (id : Id). id ≡ m.value))
    (made_over (g.B.Book.kinds c.args.book.now) c.args.test c.args.bank.now c.make-in-NoIsOne.new.self c.in_ok-other-in-NoIsOne.other (λ z. Bin Or z c.args.yes)
    c.in_ok-other-in-NoIsOne.ensures.nodes c.in_ok-other-in-NoIsOne.ensures.id ∙ made_as (g.B.Book.kinds c.args.book.now) c.args.test c.args.yes c.args.no
    choice.NoIsOne c.args.bank.now c.in-NoIsOne.ensures.value)
    c.make-in-NoIsOne-2.ensures.id

pub returns-in_err-other-in-YesIsZero-clause-nodes : goal.returns-in_err-other-in-YesIsZero-clause-nodes
returns-in_err-other-in-YesIsZero-clause-nodes g c = IfOk-from_err c.from_residual.result _ c.from_residual.ensures.0

pub returns-in_err-other-in-YesIsZero-clause-form : goal.returns-in_err-other-in-YesIsZero-clause-form
returns-in_err-other-in-YesIsZero-clause-form g c = IfOk-from_err c.from_residual.result _ c.from_residual.ensures.0

pub returns-in_err-other-in-YesIsZero-clause-width : goal.returns-in_err-other-in-YesIsZero-clause-width
returns-in_err-other-in-YesIsZero-clause-width g c = IfOk-from_err c.from_residual.result _ c.from_residual.ensures.0

pub returns-in_err-other-in-YesIsZero-clause-grows : goal.returns-in_err-other-in-YesIsZero-clause-grows
returns-in_err-other-in-YesIsZero-clause-grows g c = c.make-in-YesIsZero.ensures.grows

pub returns-in_err-other-in-YesIsZero-clause-bank : goal.returns-in_err-other-in-YesIsZero-clause-bank
returns-in_err-other-in-YesIsZero-clause-bank g c = c.make-in-YesIsZero.ensures.bank

pub returns-in_err-other-in-YesIsZero-clause-inputs : goal.returns-in_err-other-in-YesIsZero-clause-inputs
returns-in_err-other-in-YesIsZero-clause-inputs g c = c.make-in-YesIsZero.ensures.inputs

pub returns-in_err-other-in-NoIsOne-clause-nodes : goal.returns-in_err-other-in-NoIsOne-clause-nodes
returns-in_err-other-in-NoIsOne-clause-nodes g c =
    IfOk-from_err c.from_residual-in_err-other-in-NoIsOne.result _ c.from_residual-in_err-other-in-NoIsOne.ensures.0

pub returns-in_err-other-in-NoIsOne-clause-form : goal.returns-in_err-other-in-NoIsOne-clause-form
returns-in_err-other-in-NoIsOne-clause-form g c =
    IfOk-from_err c.from_residual-in_err-other-in-NoIsOne.result _ c.from_residual-in_err-other-in-NoIsOne.ensures.0

pub returns-in_err-other-in-NoIsOne-clause-width : goal.returns-in_err-other-in-NoIsOne-clause-width
returns-in_err-other-in-NoIsOne-clause-width g c =
    IfOk-from_err c.from_residual-in_err-other-in-NoIsOne.result _ c.from_residual-in_err-other-in-NoIsOne.ensures.0

pub returns-in_err-other-in-NoIsOne-clause-grows : goal.returns-in_err-other-in-NoIsOne-clause-grows
returns-in_err-other-in-NoIsOne-clause-grows g c = c.make-in-NoIsOne.ensures.grows

pub returns-in_err-other-in-NoIsOne-clause-bank : goal.returns-in_err-other-in-NoIsOne-clause-bank
returns-in_err-other-in-NoIsOne-clause-bank g c = c.make-in-NoIsOne.ensures.bank

pub returns-in_err-other-in-NoIsOne-clause-inputs : goal.returns-in_err-other-in-NoIsOne-clause-inputs
returns-in_err-other-in-NoIsOne-clause-inputs g c = c.make-in-NoIsOne.ensures.inputs

pub returns-in-YesIsOne-clause-grows : goal.returns-in-YesIsOne-clause-grows
returns-in-YesIsOne-clause-grows g c = c.make.ensures.grows

pub returns-in-YesIsOne-clause-bank : goal.returns-in-YesIsOne-clause-bank
returns-in-YesIsOne-clause-bank g c = c.make.ensures.bank

pub returns-in-YesIsOne-clause-inputs : goal.returns-in-YesIsOne-clause-inputs
returns-in-YesIsOne-clause-inputs g c = c.make.ensures.inputs

pub returns-in-NoIsZero-clause-grows : goal.returns-in-NoIsZero-clause-grows
returns-in-NoIsZero-clause-grows g c = c.make-in-NoIsZero.ensures.grows

pub returns-in-NoIsZero-clause-bank : goal.returns-in-NoIsZero-clause-bank
returns-in-NoIsZero-clause-bank g c = c.make-in-NoIsZero.ensures.bank

pub returns-in-NoIsZero-clause-inputs : goal.returns-in-NoIsZero-clause-inputs
returns-in-NoIsZero-clause-inputs g c = c.make-in-NoIsZero.ensures.inputs

pub returns-in-Plain-clause-grows : goal.returns-in-Plain-clause-grows
returns-in-Plain-clause-grows g c = c.make-in-Plain.ensures.grows

pub returns-in-Plain-clause-bank : goal.returns-in-Plain-clause-bank
returns-in-Plain-clause-bank g c = c.make-in-Plain.ensures.bank

pub returns-in-Plain-clause-inputs : goal.returns-in-Plain-clause-inputs
returns-in-Plain-clause-inputs g c = c.make-in-Plain.ensures.inputs

pub returns-in_ok-other-in-YesIsZero-clause-bank : goal.returns-in_ok-other-in-YesIsZero-clause-bank
returns-in_ok-other-in-YesIsZero-clause-bank g c = c.make-in-YesIsZero-2.ensures.bank

pub make-requires-in-YesIsZero : goal.make-requires-in-YesIsZero
make-requires-in-YesIsZero g c = c.requires.pick.test

pub returns-in_ok-other-in-NoIsOne-clause-bank : goal.returns-in_ok-other-in-NoIsOne-clause-bank
returns-in_ok-other-in-NoIsOne-clause-bank g c = c.make-in-NoIsOne-2.ensures.bank

pub make-requires-in-NoIsOne : goal.make-requires-in-NoIsOne
make-requires-in-NoIsOne g c = c.requires.pick.test

pub make-requires-in-Plain : goal.make-requires-in-Plain
make-requires-in-Plain g c = c.requires.pick

pub choice_at-requires-clause-yes : goal.choice_at-requires-clause-yes
choice_at-requires-clause-yes g c = c.requires.pick.yes

pub choice_at-requires-clause-no : goal.choice_at-requires-clause-no
choice_at-requires-clause-no g c = c.requires.pick.no

pub make-requires : goal.make-requires
make-requires g c = record {
  one = c.requires.pick.test;
  two = c.requires.pick.no;
  widths = c.requires.pick.digit ∙ sym c.in-YesIsOne.ensures.fits ∙ c.requires.pick.widths;
}

pub make-requires-in-NoIsZero : goal.make-requires-in-NoIsZero
make-requires-in-NoIsZero g c = record {
  one = c.requires.pick.test;
  two = c.requires.pick.yes;
  widths = c.requires.pick.digit ∙ sym c.in-NoIsZero.ensures.fits;
}

pub returns-in-YesIsOne-clause-width : goal.returns-in-YesIsOne-clause-width
returns-in-YesIsOne-clause-width g c =
    subst (λ w. IfOk c.make.result (λ (id : Id). HasWidth c.make.new.self id w)) (c.requires.pick.digit ∙ sym c.in-YesIsOne.ensures.fits) c.make.ensures.width

pub returns-in-NoIsZero-clause-width : goal.returns-in-NoIsZero-clause-width
returns-in-NoIsZero-clause-width g c =
    subst (λ w. IfOk c.make-in-NoIsZero.result (λ (id : Id). HasWidth c.make-in-NoIsZero.new.self id w))
    (c.requires.pick.digit ∙ sym c.in-NoIsZero.ensures.fits) c.make-in-NoIsZero.ensures.width

pub returns-in-Plain-clause-width : goal.returns-in-Plain-clause-width
returns-in-Plain-clause-width g c = c.make-in-Plain.ensures.width

pub returns-in-One-clause-nodes : goal.returns-in-One-clause-nodes
returns-in-One-clause-nodes g c =
    ap (λ (w : Choice). (picked_as (g.B.Book.kinds c.args.book.now) c.args.test c.args.yes c.args.no w c.args.bank.now).nodes) c.in-One.ensures.value

pub returns-in-One-clause-form : goal.returns-in-One-clause-form
returns-in-One-clause-form g c =
    ap (λ (w : Choice). (picked_as (g.B.Book.kinds c.args.book.now) c.args.test c.args.yes c.args.no w c.args.bank.now).value) c.in-One.ensures.value

pub returns-in-One-clause-grows : goal.returns-in-One-clause-grows
returns-in-One-clause-grows g c = extends_self c.args.bank.now

pub returns-in-One-clause-bank : goal.returns-in-One-clause-bank
returns-in-One-clause-bank g c = c.requires.bank

pub returns-in-One-clause-inputs : goal.returns-in-One-clause-inputs
returns-in-One-clause-inputs g c = λ next h. h
