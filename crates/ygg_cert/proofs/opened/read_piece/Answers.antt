use Rattle.std.proofs.Common.{refl}
use Rattle.ygg_cert.proofs.Giving.{over_ended, lost_ended, piece_more, piece_over, end_over}
use Rattle.ygg_cert.proofs.opened.read_piece.Goals as goal

pub returns-in-More-clause-told : goal.returns-in-More-clause-told
returns-in-More-clause-told g c file was =
    piece_more (g.G.Goals.wanted c.args.goals.now) file (g.L.Library.reading c.args.library.now) (g.L.Library.reading c.next.new.self) c.in-Got.count
    c.next.new.into _ c.args.reading.now c.feed.new.self c.in-Got.ensures.given refl c.in-More.ensures.fed was

pub returns-in-Over-clause-told : goal.returns-in-Over-clause-told
returns-in-Over-clause-told g c file was =
    piece_over (g.G.Goals.wanted c.args.goals.now) file (g.L.Library.reading c.next.new.self) c.feed.new.self
    (over_ended c.feed.new.self.next.phase c.in-Over.ensures.answer)
    (piece_more (g.G.Goals.wanted c.args.goals.now) file (g.L.Library.reading c.args.library.now) (g.L.Library.reading c.next.new.self) c.in-Got.count
    c.next.new.into _ c.args.reading.now c.feed.new.self c.in-Got.ensures.given refl c.in-Over.ensures.fed was)

pub returns-in-Memory-clause-told : goal.returns-in-Memory-clause-told
returns-in-Memory-clause-told g c file was =
    piece_over (g.G.Goals.wanted c.args.goals.now) file (g.L.Library.reading c.next.new.self) c.feed.new.self
    (lost_ended c.feed.new.self.next.phase c.in-Memory.ensures.answer)
    (piece_more (g.G.Goals.wanted c.args.goals.now) file (g.L.Library.reading c.args.library.now) (g.L.Library.reading c.next.new.self) c.in-Got.count
    c.next.new.into _ c.args.reading.now c.feed.new.self c.in-Got.ensures.given refl c.in-Memory.ensures.fed was)

pub returns-in-End-clause-told : goal.returns-in-End-clause-told
returns-in-End-clause-told g c file was =
    end_over (g.G.Goals.wanted c.args.goals.now) file (g.L.Library.reading c.args.library.now) (g.L.Library.reading c.next.new.self) c.next.new.into
    c.args.reading.now c.in-End.ensures.given was
