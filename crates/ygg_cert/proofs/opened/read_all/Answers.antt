use Rattle.std.proofs.Common.{rules, refl, ◌∙◌}
use Rattle.ygg_cert.proofs.Giving.{less_open, less_room, over_judges}
use Rattle.ygg_cert.proofs.opened.read_all.Goals as goal

pub loop-reading-preserved : goal.loop-reading-preserved
loop-reading-preserved g c =
    let i = c.loop-reading.invariant in
    record {
      is_open = less_open (g.L.Library.reading c.loop-reading.library) (g.L.Library.reading c.read_piece.new.library) (c.in-More.ensures.less refl);
      place = search rules;
      read = λ file was. c.in-More.ensures.told file (i.read file was);
      kept = c.read_piece.ensures.kept ∙ i.kept;
      later = search rules;
    }

pub loop-reading-smaller : goal.loop-reading-smaller
loop-reading-smaller g c =
    less_room (g.L.Library.reading c.loop-reading.library) (g.L.Library.reading c.read_piece.new.library) (c.in-More.ensures.less refl)

pub returns-in-Over-clause-judged : goal.returns-in-Over-clause-judged
returns-in-Over-clause-judged g c file was =
    over_judges (g.G.Goals.wanted c.args.goals.now) file c.read_piece.new.reading c.finish.result
    (λ text fed. c.finish.ensures.judged (g.G.Goals.wanted c.args.goals.now) text fed) (c.in-Over.ensures.told file (c.loop-reading.invariant.read file was))
