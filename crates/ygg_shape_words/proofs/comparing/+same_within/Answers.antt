use Rattle.std.proofs.Common.{rules, ◌<◌, Some, sym, ap, ◌∙◌, subst, arith}
use Rattle.std.proofs.lemmas.Result.{IfOk-from_err}
use Rattle.ygg_bank.proofs.Widths.{wider, width_is, extends_self, extends_both}
use Rattle.ygg_shape_words.proofs.Each.{each_ok, this_ok, on_ok}
use Rattle.ygg_shape_words.proofs.Fit.{alike, alike_wider, can_pick, known_wider, known_learned}
use Rattle.ygg_shape_words.proofs.Steps.{zero_answer, one_answer, known_answer, plain_answer, split_answer, either_answer, never_answer, against_answer}
use Rattle.ygg_shape_words.specs.Same.{SoFar, KnownFit}
use Rattle.ygg_shape_words.proofs.comparing.+same_within.Goals as goal

pub returns-then-depth-eq0-clause-made : goal.returns-then-depth-eq0-clause-made
returns-then-depth-eq0-clause-made g t c =
    each_ok c.plain.result c.plain.ensures.nodes c.plain.ensures.form
    (λ answer. zero_answer (g.B.Book.kinds c.args.book.now) c.args.depth c.args.progress.now c.args.one c.args.two c.args.bank.now c.plain.new.bank
    answer c.if-depth-eq0.true)

pub returns-then-depth-eq0-clause-known : goal.returns-then-depth-eq0-clause-known
returns-then-depth-eq0-clause-known g t c =
    on_ok c.plain.result c.plain.ensures.nodes
    (λ made. known_wider c.args.bank.now c.plain.new.bank (c.args.progress.now).known c.plain.ensures.grows c.requires.known)

pub returns-in-One-clause-made : goal.returns-in-One-clause-made
returns-in-One-clause-made g t c =
    let l : 0 < c.args.depth = omega arith in
    each_ok c.make.result c.make.ensures.nodes c.make.ensures.id
    (λ answer. one_answer (g.B.Book.kinds c.args.book.now) c.args.depth c.args.progress.now c.args.one c.args.two c.args.bank.now c.make.new.self
    answer l c.in-One.ensures.value)

pub returns-in-One-clause-known : goal.returns-in-One-clause-known
returns-in-One-clause-known g t c =
    on_ok c.make.result c.make.ensures.nodes
    (λ made. known_wider c.args.bank.now c.make.new.self (c.args.progress.now).known c.make.ensures.grows c.requires.known)

pub returns-in-Known-clause-made : goal.returns-in-Known-clause-made
returns-in-Known-clause-made g t c =
    let l : 0 < c.args.depth = omega arith in
    known_answer (g.B.Book.kinds c.args.book.now) c.args.depth c.args.progress.now c.args.one c.args.two c.args.bank.now c.in-Known.answer l
    c.in-Known.ensures.value

pub returns-in-Plain-clause-made : goal.returns-in-Plain-clause-made
returns-in-Plain-clause-made g t c =
    let l : 0 < c.args.depth = omega arith in
    each_ok c.plain-in-Plain.result c.plain-in-Plain.ensures.nodes c.plain-in-Plain.ensures.form
    (λ answer. plain_answer (g.B.Book.kinds c.args.book.now) c.args.depth c.args.progress.now c.args.one c.args.two c.args.bank.now
    c.plain-in-Plain.new.bank answer l c.in-Plain.ensures.value)

pub returns-in-Plain-clause-known : goal.returns-in-Plain-clause-known
returns-in-Plain-clause-known g t c =
    on_ok c.plain-in-Plain.result c.plain-in-Plain.ensures.nodes
    (λ made. known_wider c.args.bank.now c.plain-in-Plain.new.bank (c.args.progress.now).known c.plain-in-Plain.ensures.grows c.requires.known)

pub same_within-requires-in-Split : goal.same_within-requires-in-Split
same_within-requires-in-Split g t c κs within = (
  omega arith,
  (
    search rules,
    (
      c.same_within.ensures.bank,
      (
        alike_wider c.args.bank.now c.same_within.new.bank c.in-Split.no_one c.in-Split.no_two c.same_within.ensures.grows c.in-Split.ensures.fits.2,
        c.in_ok-yes-in-Split.ensures.known,
      ),
    ),
  ),
)

pub pick-requires-clause-pick : goal.pick-requires-clause-pick
pick-requires-clause-pick g t c =
    let a = c.args.bank.now in let b = c.same_within.new.bank in let n = c.same_within-in-Split.new.bank in
    can_pick n c.in-Split.test c.in_ok-yes-in-Split.yes c.in_ok-no-in-Split.no 1
    (wider a n c.in-Split.test 1 (extends_both a b n c.same_within.ensures.grows c.same_within-in-Split.ensures.grows) c.in-Split.ensures.fits.0)
    (wider b n c.in_ok-yes-in-Split.yes 1 c.same_within-in-Split.ensures.grows c.in_ok-yes-in-Split.ensures.width) c.in_ok-no-in-Split.ensures.width

pub returns-in_ok-answer-in-Split-clause-made : goal.returns-in_ok-answer-in-Split-clause-made
returns-in_ok-answer-in-Split-clause-made g t c =
    let l : 0 < c.args.depth = omega arith in
    this_ok _ c.learn.result c.in_ok-answer-in-Split.answer c.learn.ensures.learned c.learn.ensures.answer
    (λ learned. split_answer (g.B.Book.kinds c.args.book.now) c.args.depth c.args.progress.now c.spend.new.self c.same_within.new.progress
    c.same_within-in-Split.new.progress c.learn.new.self
    c.args.one c.args.two c.in-Split.test c.in-Split.yes_one c.in-Split.yes_two c.in-Split.no_one c.in-Split.no_two c.in_ok-yes-in-Split.yes
    c.in_ok-no-in-Split.no c.in_ok-answer-in-Split.answer
    c.args.bank.now c.same_within.new.bank c.same_within-in-Split.new.bank c.pick.new.bank l c.in-Split.ensures.value c.spend.ensures
    c.in_ok-yes-in-Split.ensures.made c.in_ok-no-in-Split.ensures.made c.in_ok-answer-in-Split.ensures.nodes c.in_ok-answer-in-Split.ensures.form
    learned)

pub returns-in_ok-answer-in-Split-clause-known : goal.returns-in_ok-answer-in-Split-clause-known
returns-in_ok-answer-in-Split-clause-known g t c =
    let n = c.same_within-in-Split.new.bank in
    on_ok c.learn.result c.learn.ensures.learned
    (λ learned. known_learned n c.pick.new.bank c.same_within-in-Split.new.progress c.learn.new.self c.args.one c.args.two c.in_ok-answer-in-Split.answer
    c.pick.ensures.grows c.in_ok-no-in-Split.ensures.known
    (c.in_ok-answer-in-Split.ensures.width ∙ ap (λ z. Some z) (width_is n c.in_ok-yes-in-Split.yes 1
    (wider c.same_within.new.bank n c.in_ok-yes-in-Split.yes 1 c.same_within-in-Split.ensures.grows c.in_ok-yes-in-Split.ensures.width)))
    learned)

pub returns-in_ok-answer-in-Split-clause-width : goal.returns-in_ok-answer-in-Split-clause-width
returns-in_ok-answer-in-Split-clause-width g t c =
    let n = c.same_within-in-Split.new.bank in
    this_ok _ c.learn.result c.in_ok-answer-in-Split.answer c.learn.ensures.learned c.learn.ensures.answer
    (λ learned. c.in_ok-answer-in-Split.ensures.width ∙ ap (λ z. Some z) (width_is n c.in_ok-yes-in-Split.yes 1
    (wider c.same_within.new.bank n c.in_ok-yes-in-Split.yes 1 c.same_within-in-Split.ensures.grows c.in_ok-yes-in-Split.ensures.width)))

pub same_within-requires-in-Either-2 : goal.same_within-requires-in-Either-2
same_within-requires-in-Either-2 g t c κs within = (
  omega arith,
  (
    search rules,
    (
      c.same_within-in-Either.ensures.bank,
      (
        alike_wider c.args.bank.now c.same_within-in-Either.new.bank c.in-Either.other_one c.in-Either.other_two c.same_within-in-Either.ensures.grows
            c.in-Either.ensures.fits.1,
        c.in_ok-first-in-Either.ensures.known,
      ),
    ),
  ),
)

pub either-requires-clause-one : goal.either-requires-clause-one
either-requires-clause-one g t c =
    wider c.same_within-in-Either.new.bank c.same_within-in-Either-2.new.bank c.in_ok-first-in-Either.first 1 c.same_within-in-Either-2.ensures.grows
    c.in_ok-first-in-Either.ensures.width

pub returns-in_ok-answer-in-Either-clause-made : goal.returns-in_ok-answer-in-Either-clause-made
returns-in_ok-answer-in-Either-clause-made g t c =
    let l : 0 < c.args.depth = omega arith in
    this_ok _ c.learn-in-Either.result c.in_ok-answer-in-Either.answer c.learn-in-Either.ensures.learned c.learn-in-Either.ensures.answer
    (λ learned. either_answer (g.B.Book.kinds c.args.book.now) c.args.depth c.args.progress.now c.spend-in-Either.new.self c.same_within-in-Either.new.progress
    c.same_within-in-Either-2.new.progress
    c.learn-in-Either.new.self c.args.one c.args.two c.in-Either.x c.in-Either.y c.in-Either.other_one c.in-Either.other_two
    c.in_ok-first-in-Either.first c.in_ok-second-in-Either.second
    c.in_ok-answer-in-Either.answer c.args.bank.now c.same_within-in-Either.new.bank c.same_within-in-Either-2.new.bank c.either.new.bank l
    c.in-Either.ensures.value c.spend-in-Either.ensures
    c.in_ok-first-in-Either.ensures.made c.in_ok-second-in-Either.ensures.made c.in_ok-answer-in-Either.ensures.nodes
    c.in_ok-answer-in-Either.ensures.form learned)

pub returns-in_ok-answer-in-Either-clause-known : goal.returns-in_ok-answer-in-Either-clause-known
returns-in_ok-answer-in-Either-clause-known g t c =
    on_ok c.learn-in-Either.result c.learn-in-Either.ensures.learned
    (λ learned. known_learned c.same_within-in-Either-2.new.bank c.either.new.bank c.same_within-in-Either-2.new.progress c.learn-in-Either.new.self c.args.one
    c.args.two c.in_ok-answer-in-Either.answer
    c.either.ensures.grows c.in_ok-second-in-Either.ensures.known c.in_ok-answer-in-Either.ensures.width learned)

pub returns-in-Never-clause-made : goal.returns-in-Never-clause-made
returns-in-Never-clause-made g t c =
    let l : 0 < c.args.depth = omega arith in
    each_ok c.make-in-Never.result c.make-in-Never.ensures.nodes c.make-in-Never.ensures.id
    (λ answer. never_answer (g.B.Book.kinds c.args.book.now) c.args.depth c.args.progress.now c.args.one c.args.two c.args.bank.now
    c.make-in-Never.new.self answer l c.in-Never.ensures.value)

pub returns-in-Never-clause-known : goal.returns-in-Never-clause-known
returns-in-Never-clause-known g t c =
    on_ok c.make-in-Never.result c.make-in-Never.ensures.nodes
    (λ made. known_wider c.args.bank.now c.make-in-Never.new.self (c.args.progress.now).known c.make-in-Never.ensures.grows c.requires.known)

pub same_within-requires-in-Against : goal.same_within-requires-in-Against
same_within-requires-in-Against g t c κs within =
    let old = c.args.bank.now in
    let new = c.make-in-Against.new.self in
    let n = c.in-Against.word in (
      omega arith,
      (
        search rules,
        (
          c.make-in-Against.ensures.bank,
          (
            alike new c.in-Against.term c.in_ok-constant-in-Against.constant n.width
                (wider old new c.in-Against.term n.width c.make-in-Against.ensures.grows c.in-Against.ensures.fits.0)
                c.in_ok-constant-in-Against.ensures.width,
            subst (λ (s : SoFar). KnownFit new s.known) (sym c.spend-in-Against.ensures)
                (known_wider old new (c.args.progress.now).known c.make-in-Against.ensures.grows c.requires.known),
          ),
        ),
      ),
    )

pub returns-in_ok-answer-in-Against-clause-made : goal.returns-in_ok-answer-in-Against-clause-made
returns-in_ok-answer-in-Against-clause-made g t c =
    let l : 0 < c.args.depth = omega arith in
    this_ok _ c.learn-in-Against.result c.in_ok-answer-in-Against.answer c.learn-in-Against.ensures.learned c.learn-in-Against.ensures.answer
    (λ learned. against_answer (g.B.Book.kinds c.args.book.now) c.args.depth c.args.progress.now c.spend-in-Against.new.self
    c.same_within-in-Against.new.progress
    c.learn-in-Against.new.self c.args.one c.args.two c.in-Against.term c.in-Against.word c.in_ok-constant-in-Against.constant
    c.in_ok-answer-in-Against.answer c.args.bank.now c.make-in-Against.new.self c.same_within-in-Against.new.bank l c.in-Against.ensures.value
    c.spend-in-Against.ensures c.in_ok-constant-in-Against.ensures.nodes c.in_ok-constant-in-Against.ensures.id c.in_ok-answer-in-Against.ensures.made
    learned)

pub returns-in_err-no-in-Split-clause-inputs : goal.returns-in_err-no-in-Split-clause-inputs
returns-in_err-no-in-Split-clause-inputs g t c = λ next h. c.same_within-in-Split.ensures.inputs next (c.same_within.ensures.inputs next h)

pub returns-in_err-answer-in-Split-clause-inputs : goal.returns-in_err-answer-in-Split-clause-inputs
returns-in_err-answer-in-Split-clause-inputs g t c = λ next h. c.pick.ensures.inputs next
    (c.same_within-in-Split.ensures.inputs next (c.same_within.ensures.inputs next h))

pub returns-in_ok-answer-in-Split-clause-inputs : goal.returns-in_ok-answer-in-Split-clause-inputs
returns-in_ok-answer-in-Split-clause-inputs g t c = λ next h. c.pick.ensures.inputs next
    (c.same_within-in-Split.ensures.inputs next (c.same_within.ensures.inputs next h))

pub returns-in_err-second-in-Either-clause-inputs : goal.returns-in_err-second-in-Either-clause-inputs
returns-in_err-second-in-Either-clause-inputs g t c = λ next h. c.same_within-in-Either-2.ensures.inputs next (c.same_within-in-Either.ensures.inputs next h)

pub returns-in_err-answer-in-Either-clause-inputs : goal.returns-in_err-answer-in-Either-clause-inputs
returns-in_err-answer-in-Either-clause-inputs g t c = λ next h. c.either.ensures.inputs next
    (c.same_within-in-Either-2.ensures.inputs next (c.same_within-in-Either.ensures.inputs next h))

pub returns-in_ok-answer-in-Either-clause-inputs : goal.returns-in_ok-answer-in-Either-clause-inputs
returns-in_ok-answer-in-Either-clause-inputs g t c = λ next h. c.either.ensures.inputs next
    (c.same_within-in-Either-2.ensures.inputs next (c.same_within-in-Either.ensures.inputs next h))

pub returns-in_err-answer-in-Against-clause-inputs : goal.returns-in_err-answer-in-Against-clause-inputs
returns-in_err-answer-in-Against-clause-inputs g t c = λ next h. c.same_within-in-Against.ensures.inputs next (c.make-in-Against.ensures.inputs next h)

pub returns-in_ok-answer-in-Against-clause-inputs : goal.returns-in_ok-answer-in-Against-clause-inputs
returns-in_ok-answer-in-Against-clause-inputs g t c = λ next h. c.same_within-in-Against.ensures.inputs next (c.make-in-Against.ensures.inputs next h)

pub returns-in_err-no-in-Split-clause-grows : goal.returns-in_err-no-in-Split-clause-grows
returns-in_err-no-in-Split-clause-grows g t c =
    extends_both c.args.bank.now c.same_within.new.bank c.same_within-in-Split.new.bank c.same_within.ensures.grows c.same_within-in-Split.ensures.grows

pub returns-in_err-answer-in-Split-clause-grows : goal.returns-in_err-answer-in-Split-clause-grows
returns-in_err-answer-in-Split-clause-grows g t c =
    extends_both c.args.bank.now c.same_within.new.bank c.pick.new.bank c.same_within.ensures.grows
    (extends_both c.same_within.new.bank c.same_within-in-Split.new.bank c.pick.new.bank c.same_within-in-Split.ensures.grows c.pick.ensures.grows)

pub returns-in_ok-answer-in-Split-clause-grows : goal.returns-in_ok-answer-in-Split-clause-grows
returns-in_ok-answer-in-Split-clause-grows g t c =
    extends_both c.args.bank.now c.same_within.new.bank c.pick.new.bank c.same_within.ensures.grows
    (extends_both c.same_within.new.bank c.same_within-in-Split.new.bank c.pick.new.bank c.same_within-in-Split.ensures.grows c.pick.ensures.grows)

pub returns-in_err-second-in-Either-clause-grows : goal.returns-in_err-second-in-Either-clause-grows
returns-in_err-second-in-Either-clause-grows g t c =
    extends_both c.args.bank.now c.same_within-in-Either.new.bank c.same_within-in-Either-2.new.bank c.same_within-in-Either.ensures.grows
    c.same_within-in-Either-2.ensures.grows

pub returns-in_err-answer-in-Either-clause-grows : goal.returns-in_err-answer-in-Either-clause-grows
returns-in_err-answer-in-Either-clause-grows g t c =
    extends_both c.args.bank.now c.same_within-in-Either.new.bank c.either.new.bank c.same_within-in-Either.ensures.grows
    (extends_both c.same_within-in-Either.new.bank c.same_within-in-Either-2.new.bank c.either.new.bank c.same_within-in-Either-2.ensures.grows
    c.either.ensures.grows)

pub returns-in_ok-answer-in-Either-clause-grows : goal.returns-in_ok-answer-in-Either-clause-grows
returns-in_ok-answer-in-Either-clause-grows g t c =
    extends_both c.args.bank.now c.same_within-in-Either.new.bank c.either.new.bank c.same_within-in-Either.ensures.grows
    (extends_both c.same_within-in-Either.new.bank c.same_within-in-Either-2.new.bank c.either.new.bank c.same_within-in-Either-2.ensures.grows
    c.either.ensures.grows)

pub returns-in_err-answer-in-Against-clause-grows : goal.returns-in_err-answer-in-Against-clause-grows
returns-in_err-answer-in-Against-clause-grows g t c =
    extends_both c.args.bank.now c.make-in-Against.new.self c.same_within-in-Against.new.bank c.make-in-Against.ensures.grows
    c.same_within-in-Against.ensures.grows

pub returns-in_ok-answer-in-Against-clause-grows : goal.returns-in_ok-answer-in-Against-clause-grows
returns-in_ok-answer-in-Against-clause-grows g t c =
    extends_both c.args.bank.now c.make-in-Against.new.self c.same_within-in-Against.new.bank c.make-in-Against.ensures.grows
    c.same_within-in-Against.ensures.grows

pub same_within-requires : goal.same_within-requires
same_within-requires g t c κs within =
    let known = subst (λ (s : SoFar). KnownFit c.args.bank.now s.known) (sym c.spend.ensures) c.requires.known in
    (omega arith, (search rules, (c.requires.bank, (c.in-Split.ensures.fits.1, known))))

pub same_within-requires-in-Either : goal.same_within-requires-in-Either
same_within-requires-in-Either g t c κs within =
    let known = subst (λ (s : SoFar). KnownFit c.args.bank.now s.known) (sym c.spend-in-Either.ensures) c.requires.known in
    (omega arith, (search rules, (c.requires.bank, (c.in-Either.ensures.fits.0, known))))

pub form_at-requires-clause-known : goal.form_at-requires-clause-known
form_at-requires-clause-known g t c = c.requires.known

pub returns-in_ok-answer-in-Against-clause-known : goal.returns-in_ok-answer-in-Against-clause-known
returns-in_ok-answer-in-Against-clause-known g t c =
    let now = c.same_within-in-Against.new.bank in
    on_ok c.learn-in-Against.result c.learn-in-Against.ensures.learned
    (λ learned. known_learned now now c.same_within-in-Against.new.progress c.learn-in-Against.new.self c.args.one c.args.two
    c.in_ok-answer-in-Against.answer (extends_self now) c.in_ok-answer-in-Against.ensures.known c.in_ok-answer-in-Against.ensures.width learned)

pub returns-in_ok-answer-in-Against-clause-width : goal.returns-in_ok-answer-in-Against-clause-width
returns-in_ok-answer-in-Against-clause-width g t c =
    this_ok _ c.learn-in-Against.result c.in_ok-answer-in-Against.answer c.learn-in-Against.ensures.learned c.learn-in-Against.ensures.answer
    (λ learned. c.in_ok-answer-in-Against.ensures.width)

pub returns-in_ok-answer-in-Either-clause-width : goal.returns-in_ok-answer-in-Either-clause-width
returns-in_ok-answer-in-Either-clause-width g t c =
    this_ok _ c.learn-in-Either.result c.in_ok-answer-in-Either.answer c.learn-in-Either.ensures.learned c.learn-in-Either.ensures.answer
    (λ learned. c.in_ok-answer-in-Either.ensures.width)

pub make-requires-in-Against : goal.make-requires-in-Against
make-requires-in-Against g t c = c.in-Against.ensures.fits.1

pub returns-in-Known-clause-known : goal.returns-in-Known-clause-known
returns-in-Known-clause-known g t c = c.requires.known

pub plain-requires : goal.plain-requires
plain-requires g t c = c.requires.words

pub plain-requires-in-Plain : goal.plain-requires-in-Plain
plain-requires-in-Plain g t c = c.requires.words

pub returns-in-Known-clause-grows : goal.returns-in-Known-clause-grows
returns-in-Known-clause-grows g t c = extends_self c.args.bank.now

pub returns-then-depth-eq0-clause-width : goal.returns-then-depth-eq0-clause-width
returns-then-depth-eq0-clause-width g t c = c.plain.ensures.width

pub returns-then-depth-eq0-clause-grows : goal.returns-then-depth-eq0-clause-grows
returns-then-depth-eq0-clause-grows g t c = c.plain.ensures.grows

pub returns-then-depth-eq0-clause-bank : goal.returns-then-depth-eq0-clause-bank
returns-then-depth-eq0-clause-bank g t c = c.plain.ensures.bank

pub returns-then-depth-eq0-clause-inputs : goal.returns-then-depth-eq0-clause-inputs
returns-then-depth-eq0-clause-inputs g t c = c.plain.ensures.inputs

pub returns-in-One-clause-width : goal.returns-in-One-clause-width
returns-in-One-clause-width g t c = c.make.ensures.width

pub returns-in-One-clause-grows : goal.returns-in-One-clause-grows
returns-in-One-clause-grows g t c = c.make.ensures.grows

pub returns-in-One-clause-bank : goal.returns-in-One-clause-bank
returns-in-One-clause-bank g t c = c.make.ensures.bank

pub returns-in-One-clause-inputs : goal.returns-in-One-clause-inputs
returns-in-One-clause-inputs g t c = c.make.ensures.inputs

pub returns-in-Never-clause-width : goal.returns-in-Never-clause-width
returns-in-Never-clause-width g t c = c.make-in-Never.ensures.width

pub returns-in-Never-clause-grows : goal.returns-in-Never-clause-grows
returns-in-Never-clause-grows g t c = c.make-in-Never.ensures.grows

pub returns-in-Never-clause-bank : goal.returns-in-Never-clause-bank
returns-in-Never-clause-bank g t c = c.make-in-Never.ensures.bank

pub returns-in-Never-clause-inputs : goal.returns-in-Never-clause-inputs
returns-in-Never-clause-inputs g t c = c.make-in-Never.ensures.inputs

pub returns-in-Known-clause-width : goal.returns-in-Known-clause-width
returns-in-Known-clause-width g t c = c.in-Known.ensures.fits

pub returns-in-Known-clause-bank : goal.returns-in-Known-clause-bank
returns-in-Known-clause-bank g t c = c.requires.bank

pub returns-in-Known-clause-inputs : goal.returns-in-Known-clause-inputs
returns-in-Known-clause-inputs g t c = λ next h. h

pub returns-in-Plain-clause-width : goal.returns-in-Plain-clause-width
returns-in-Plain-clause-width g t c = c.plain-in-Plain.ensures.width

pub returns-in-Plain-clause-grows : goal.returns-in-Plain-clause-grows
returns-in-Plain-clause-grows g t c = c.plain-in-Plain.ensures.grows

pub returns-in-Plain-clause-bank : goal.returns-in-Plain-clause-bank
returns-in-Plain-clause-bank g t c = c.plain-in-Plain.ensures.bank

pub returns-in-Plain-clause-inputs : goal.returns-in-Plain-clause-inputs
returns-in-Plain-clause-inputs g t c = c.plain-in-Plain.ensures.inputs

pub returns-in_err-yes-in-Split-clause-made : goal.returns-in_err-yes-in-Split-clause-made
returns-in_err-yes-in-Split-clause-made g t c = IfOk-from_err c.from_residual.result _ c.from_residual.ensures.0

pub returns-in_err-yes-in-Split-clause-known : goal.returns-in_err-yes-in-Split-clause-known
returns-in_err-yes-in-Split-clause-known g t c = IfOk-from_err c.from_residual.result _ c.from_residual.ensures.0

pub returns-in_err-yes-in-Split-clause-width : goal.returns-in_err-yes-in-Split-clause-width
returns-in_err-yes-in-Split-clause-width g t c = IfOk-from_err c.from_residual.result _ c.from_residual.ensures.0

pub returns-in_err-yes-in-Split-clause-grows : goal.returns-in_err-yes-in-Split-clause-grows
returns-in_err-yes-in-Split-clause-grows g t c = c.same_within.ensures.grows

pub returns-in_err-yes-in-Split-clause-bank : goal.returns-in_err-yes-in-Split-clause-bank
returns-in_err-yes-in-Split-clause-bank g t c = c.same_within.ensures.bank

pub returns-in_err-yes-in-Split-clause-inputs : goal.returns-in_err-yes-in-Split-clause-inputs
returns-in_err-yes-in-Split-clause-inputs g t c = c.same_within.ensures.inputs

pub returns-in_err-no-in-Split-clause-made : goal.returns-in_err-no-in-Split-clause-made
returns-in_err-no-in-Split-clause-made g t c = IfOk-from_err c.from_residual-in_err-no-in-Split.result _ c.from_residual-in_err-no-in-Split.ensures.0

pub returns-in_err-no-in-Split-clause-known : goal.returns-in_err-no-in-Split-clause-known
returns-in_err-no-in-Split-clause-known g t c = IfOk-from_err c.from_residual-in_err-no-in-Split.result _ c.from_residual-in_err-no-in-Split.ensures.0

pub returns-in_err-no-in-Split-clause-width : goal.returns-in_err-no-in-Split-clause-width
returns-in_err-no-in-Split-clause-width g t c = IfOk-from_err c.from_residual-in_err-no-in-Split.result _ c.from_residual-in_err-no-in-Split.ensures.0

pub returns-in_err-no-in-Split-clause-bank : goal.returns-in_err-no-in-Split-clause-bank
returns-in_err-no-in-Split-clause-bank g t c = c.same_within-in-Split.ensures.bank

pub returns-in_err-answer-in-Split-clause-made : goal.returns-in_err-answer-in-Split-clause-made
returns-in_err-answer-in-Split-clause-made g t c =
    IfOk-from_err c.from_residual-in_err-answer-in-Split.result _ c.from_residual-in_err-answer-in-Split.ensures.0

pub returns-in_err-answer-in-Split-clause-known : goal.returns-in_err-answer-in-Split-clause-known
returns-in_err-answer-in-Split-clause-known g t c =
    IfOk-from_err c.from_residual-in_err-answer-in-Split.result _ c.from_residual-in_err-answer-in-Split.ensures.0

pub returns-in_err-answer-in-Split-clause-width : goal.returns-in_err-answer-in-Split-clause-width
returns-in_err-answer-in-Split-clause-width g t c =
    IfOk-from_err c.from_residual-in_err-answer-in-Split.result _ c.from_residual-in_err-answer-in-Split.ensures.0

pub returns-in_err-answer-in-Split-clause-bank : goal.returns-in_err-answer-in-Split-clause-bank
returns-in_err-answer-in-Split-clause-bank g t c = c.pick.ensures.bank

pub returns-in_ok-answer-in-Split-clause-bank : goal.returns-in_ok-answer-in-Split-clause-bank
returns-in_ok-answer-in-Split-clause-bank g t c = c.pick.ensures.bank

pub returns-in_err-first-in-Either-clause-made : goal.returns-in_err-first-in-Either-clause-made
returns-in_err-first-in-Either-clause-made g t c =
    IfOk-from_err c.from_residual-in_err-first-in-Either.result _ c.from_residual-in_err-first-in-Either.ensures.0

pub returns-in_err-first-in-Either-clause-known : goal.returns-in_err-first-in-Either-clause-known
returns-in_err-first-in-Either-clause-known g t c =
    IfOk-from_err c.from_residual-in_err-first-in-Either.result _ c.from_residual-in_err-first-in-Either.ensures.0

pub returns-in_err-first-in-Either-clause-width : goal.returns-in_err-first-in-Either-clause-width
returns-in_err-first-in-Either-clause-width g t c =
    IfOk-from_err c.from_residual-in_err-first-in-Either.result _ c.from_residual-in_err-first-in-Either.ensures.0

pub returns-in_err-first-in-Either-clause-grows : goal.returns-in_err-first-in-Either-clause-grows
returns-in_err-first-in-Either-clause-grows g t c = c.same_within-in-Either.ensures.grows

pub returns-in_err-first-in-Either-clause-bank : goal.returns-in_err-first-in-Either-clause-bank
returns-in_err-first-in-Either-clause-bank g t c = c.same_within-in-Either.ensures.bank

pub returns-in_err-first-in-Either-clause-inputs : goal.returns-in_err-first-in-Either-clause-inputs
returns-in_err-first-in-Either-clause-inputs g t c = c.same_within-in-Either.ensures.inputs

pub returns-in_err-second-in-Either-clause-made : goal.returns-in_err-second-in-Either-clause-made
returns-in_err-second-in-Either-clause-made g t c =
    IfOk-from_err c.from_residual-in_err-second-in-Either.result _ c.from_residual-in_err-second-in-Either.ensures.0

pub returns-in_err-second-in-Either-clause-known : goal.returns-in_err-second-in-Either-clause-known
returns-in_err-second-in-Either-clause-known g t c =
    IfOk-from_err c.from_residual-in_err-second-in-Either.result _ c.from_residual-in_err-second-in-Either.ensures.0

pub returns-in_err-second-in-Either-clause-width : goal.returns-in_err-second-in-Either-clause-width
returns-in_err-second-in-Either-clause-width g t c =
    IfOk-from_err c.from_residual-in_err-second-in-Either.result _ c.from_residual-in_err-second-in-Either.ensures.0

pub returns-in_err-second-in-Either-clause-bank : goal.returns-in_err-second-in-Either-clause-bank
returns-in_err-second-in-Either-clause-bank g t c = c.same_within-in-Either-2.ensures.bank

pub returns-in_err-answer-in-Either-clause-made : goal.returns-in_err-answer-in-Either-clause-made
returns-in_err-answer-in-Either-clause-made g t c =
    IfOk-from_err c.from_residual-in_err-answer-in-Either.result _ c.from_residual-in_err-answer-in-Either.ensures.0

pub returns-in_err-answer-in-Either-clause-known : goal.returns-in_err-answer-in-Either-clause-known
returns-in_err-answer-in-Either-clause-known g t c =
    IfOk-from_err c.from_residual-in_err-answer-in-Either.result _ c.from_residual-in_err-answer-in-Either.ensures.0

pub returns-in_err-answer-in-Either-clause-width : goal.returns-in_err-answer-in-Either-clause-width
returns-in_err-answer-in-Either-clause-width g t c =
    IfOk-from_err c.from_residual-in_err-answer-in-Either.result _ c.from_residual-in_err-answer-in-Either.ensures.0

pub returns-in_err-answer-in-Either-clause-bank : goal.returns-in_err-answer-in-Either-clause-bank
returns-in_err-answer-in-Either-clause-bank g t c = c.either.ensures.bank

pub returns-in_ok-answer-in-Either-clause-bank : goal.returns-in_ok-answer-in-Either-clause-bank
returns-in_ok-answer-in-Either-clause-bank g t c = c.either.ensures.bank

pub returns-in_err-constant-in-Against-clause-made : goal.returns-in_err-constant-in-Against-clause-made
returns-in_err-constant-in-Against-clause-made g t c =
    IfOk-from_err c.from_residual-in_err-constant-in-Against.result _ c.from_residual-in_err-constant-in-Against.ensures.0

pub returns-in_err-constant-in-Against-clause-known : goal.returns-in_err-constant-in-Against-clause-known
returns-in_err-constant-in-Against-clause-known g t c =
    IfOk-from_err c.from_residual-in_err-constant-in-Against.result _ c.from_residual-in_err-constant-in-Against.ensures.0

pub returns-in_err-constant-in-Against-clause-width : goal.returns-in_err-constant-in-Against-clause-width
returns-in_err-constant-in-Against-clause-width g t c =
    IfOk-from_err c.from_residual-in_err-constant-in-Against.result _ c.from_residual-in_err-constant-in-Against.ensures.0

pub returns-in_err-constant-in-Against-clause-grows : goal.returns-in_err-constant-in-Against-clause-grows
returns-in_err-constant-in-Against-clause-grows g t c = c.make-in-Against.ensures.grows

pub returns-in_err-constant-in-Against-clause-bank : goal.returns-in_err-constant-in-Against-clause-bank
returns-in_err-constant-in-Against-clause-bank g t c = c.make-in-Against.ensures.bank

pub returns-in_err-constant-in-Against-clause-inputs : goal.returns-in_err-constant-in-Against-clause-inputs
returns-in_err-constant-in-Against-clause-inputs g t c = c.make-in-Against.ensures.inputs

pub returns-in_err-answer-in-Against-clause-made : goal.returns-in_err-answer-in-Against-clause-made
returns-in_err-answer-in-Against-clause-made g t c =
    IfOk-from_err c.from_residual-in_err-answer-in-Against.result _ c.from_residual-in_err-answer-in-Against.ensures.0

pub returns-in_err-answer-in-Against-clause-known : goal.returns-in_err-answer-in-Against-clause-known
returns-in_err-answer-in-Against-clause-known g t c =
    IfOk-from_err c.from_residual-in_err-answer-in-Against.result _ c.from_residual-in_err-answer-in-Against.ensures.0

pub returns-in_err-answer-in-Against-clause-width : goal.returns-in_err-answer-in-Against-clause-width
returns-in_err-answer-in-Against-clause-width g t c =
    IfOk-from_err c.from_residual-in_err-answer-in-Against.result _ c.from_residual-in_err-answer-in-Against.ensures.0

pub returns-in_err-answer-in-Against-clause-bank : goal.returns-in_err-answer-in-Against-clause-bank
returns-in_err-answer-in-Against-clause-bank g t c = c.same_within-in-Against.ensures.bank

pub returns-in_ok-answer-in-Against-clause-bank : goal.returns-in_ok-answer-in-Against-clause-bank
returns-in_ok-answer-in-Against-clause-bank g t c = c.same_within-in-Against.ensures.bank

pub form_at-requires-clause-words : goal.form_at-requires-clause-words
form_at-requires-clause-words g t c = c.requires.words

pub make-requires : goal.make-requires
make-requires g t c = record { least = omega arith; most = omega arith; fits = omega arith }

pub make-requires-in-Never : goal.make-requires-in-Never
make-requires-in-Never g t c = record { least = omega arith; most = omega arith; fits = omega arith }

pub pick-requires-clause-bank : goal.pick-requires-clause-bank
pick-requires-clause-bank g t c = c.same_within-in-Split.ensures.bank

pub either-requires-clause-two : goal.either-requires-clause-two
either-requires-clause-two g t c = c.in_ok-second-in-Either.ensures.width
