use Rattle.std.proofs.Common.{ℕ, ◌+◌, [], ◌++◌, take, refl, sym, ap, subst, ◌∙◌, arith}
use Rattle.std.proofs.lemmas.List.{length-take-le}
use Rattle.ygg_cert.specs.declared.phase.Next.{Next}
use Rattle.ygg_cert.specs.Standing.{IsAt}
use Rattle.ygg_cert.proofs.Read.{run_fed, ok_count}
use Rattle.ygg_cert.proofs.reading.Reading.run.Goals as goal

pub returns-then-count-eq0-clause-fed : goal.returns-then-count-eq0-clause-fed
returns-then-count-eq0-clause-fed c goals text was =
    run_fed goals text [] c.args.self.now (record { next = c.run_on.new.self; lines = c.args.self.now.lines; column = c.args.self.now.column })
    (λ ended. (
      refl,
      ap (λ (n : Next). record { next = n; lines = c.args.self.now.lines; column = c.args.self.now.column }) (c.in_ok-count.ensures.ended ended).1,
    ))
    (λ place before here.
    subst (λ (n : ℕ). IsAt goals place (before ++ take n c.args.piece.now) c.run_on.new.self) c.if-count-eq0.true
    (c.in_ok-count.ensures.at goals place before here)) refl (omega arith) was

pub returns-then-count-eq0-clause-still : goal.returns-then-count-eq0-clause-still
returns-then-count-eq0-clause-still c ended =
    (refl, ap (λ (n : Next). record { next = n; lines = c.args.self.now.lines; column = c.args.self.now.column }) (c.in_ok-count.ensures.ended ended).1)

pub returns-clause-fed : goal.returns-clause-fed
returns-clause-fed c goals text was =
    run_fed goals text (take c.in_ok-count.count c.args.piece.now) c.args.self.now _
    (λ ended. absurd (c.if-count-eq0.false (ok_count _ _ _ refl (c.in_ok-count.ensures.ended ended).0)))
    (λ place before here. c.in_ok-count.ensures.at goals place before here) refl
    (c.in_ok-self.ensures
    ∙ ap (λ (n : ℕ). c.args.self.now.column + n) (sym (length-take-le c.in_ok-count.count c.args.piece.now c.in_ok-count.ensures.within))) was

pub returns-clause-still : goal.returns-clause-still
returns-clause-still c ended = absurd (c.if-count-eq0.false (ok_count _ _ _ refl (c.in_ok-count.ensures.ended ended).0))
