use Rattle.std.proofs.Common.{refl, ap}
use Rattle.ygg_cert.specs.declared.phase.Next.{Next}
use Rattle.ygg_cert.specs.declared.verdict.Heard.TheVariants as heard
use Rattle.ygg_cert.proofs.Read.{heard_live, more_differs, added_differs, whole_differs, bad_differs, wrong_differs}
use Rattle.ygg_cert.proofs.Read.{byte_more, byte_added, byte_whole, byte_bad, byte_wrong, byte_nothing}
use Rattle.ygg_cert.proofs.reading.Reading.byte.Goals as goal

pub returns-in_ok-self-in-More-clause-fed : goal.returns-in_ok-self-in-More-clause-fed
returns-in_ok-self-in-More-clause-fed g c text was =
    byte_more (g.G.Goals.wanted c.args.goals.now) text c.args.byte c.args.self.now _
    (λ ended. heard_live _ c.in_ok-read.field-0 heard.More more_differs c.in-More.is refl (c.in_ok-read.ensures.ended ended).0)
    (λ place before here. rw c.in-More.is at (c.in_ok-read.ensures.heard (g.G.Goals.wanted c.args.goals.now) place before here)) refl
    c.in_ok-self-in-More.ensures was

pub returns-in_ok-next_line-in-Added-clause-fed : goal.returns-in_ok-next_line-in-Added-clause-fed
returns-in_ok-next_line-in-Added-clause-fed g c text was =
    byte_added (g.G.Goals.wanted c.args.goals.now) text c.args.byte c.args.self.now c.read.new.self c.next_line.new.self
    (λ ended. heard_live _ c.in_ok-read.field-0 heard.Added added_differs c.in-Added.is refl (c.in_ok-read.ensures.ended ended).0)
    (λ place before here. rw c.in-Added.is at (c.in_ok-read.ensures.heard (g.G.Goals.wanted c.args.goals.now) place before here))
    c.next_line.ensures.next c.in_ok-next_line-in-Added.ensures.lines c.in_ok-next_line-in-Added.ensures.column was

pub returns-in_ok-next_line-in-Whole-clause-fed : goal.returns-in_ok-next_line-in-Whole-clause-fed
returns-in_ok-next_line-in-Whole-clause-fed g c text was =
    byte_whole (g.G.Goals.wanted c.args.goals.now) text c.args.byte c.args.self.now c.read.new.self c.go_on.new.self c.next_line-in-Whole.new.self
    (λ ended. heard_live _ c.in_ok-read.field-0 heard.Whole whole_differs c.in-Whole.is refl (c.in_ok-read.ensures.ended ended).0)
    (λ place before here. rw c.in-Whole.is at (c.in_ok-read.ensures.heard (g.G.Goals.wanted c.args.goals.now) place before here))
    (λ to done. c.in_ok-go_on-in-Whole.ensures to done) c.next_line-in-Whole.ensures.next c.in_ok-next_line-in-Whole.ensures.lines
    c.in_ok-next_line-in-Whole.ensures.column was

pub returns-in-Bad-clause-fed : goal.returns-in-Bad-clause-fed
returns-in-Bad-clause-fed g c text was =
    byte_bad (g.G.Goals.wanted c.args.goals.now) text c.args.byte c.in-Bad.id c.args.self.now c.read.new.self
    (λ ended. heard_live _ c.in_ok-read.field-0 (heard.Bad c.in-Bad.id) (bad_differs c.in-Bad.id) c.in-Bad.is refl (c.in_ok-read.ensures.ended ended).0)
    (λ place before here. rw c.in-Bad.is at (c.in_ok-read.ensures.heard (g.G.Goals.wanted c.args.goals.now) place before here)) was

pub returns-in-Wrong-clause-fed : goal.returns-in-Wrong-clause-fed
returns-in-Wrong-clause-fed g c text was =
    byte_wrong (g.G.Goals.wanted c.args.goals.now) text c.args.byte c.args.self.now c.read.new.self
    (λ ended. heard_live _ c.in_ok-read.field-0 heard.Wrong wrong_differs c.in-Wrong.is refl (c.in_ok-read.ensures.ended ended).0)
    (λ place before here. rw c.in-Wrong.is at (c.in_ok-read.ensures.heard (g.G.Goals.wanted c.args.goals.now) place before here)) was

pub returns-in-Nothing-clause-fed : goal.returns-in-Nothing-clause-fed
returns-in-Nothing-clause-fed g c text was =
    byte_nothing (g.G.Goals.wanted c.args.goals.now) text c.args.byte c.args.self.now
    (record { next = c.read.new.self; lines = c.args.self.now.lines; column = c.args.self.now.column })
    (λ place before here. rw c.in-Nothing.is at (c.in_ok-read.ensures.heard (g.G.Goals.wanted c.args.goals.now) place before here))
    (λ ended. ap (λ (n : Next). record { next = n; lines = c.args.self.now.lines; column = c.args.self.now.column }) (c.in_ok-read.ensures.ended ended).1) was
