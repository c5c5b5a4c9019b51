use Rattle.std.proofs.Common.{List, sym, subst}
use Rattle.ygg_value.specs.declared.row.Value.{Value}
use Rattle.ygg_replay.specs.Ends.{FellIn, seen_at}
use Rattle.ygg_replay.specs.Sites.{low_at}
use Rattle.ygg_replay.proofs.site.ReplaySite.cut_and_recovered.Goals as goal

pub returns-in_ok-after_fall-in-Some : goal.returns-in_ok-after_fall-in-Some
returns-in_ok-after_fall-in-Some c = λ b h.
    let s = c.args.self.now in
    let args = seen_at s c.args.part c.args.number c.args.args.now in
    let fell = rw c.in-Some.is at (c.in_ok-fallen.ensures.fell b h) in
    let fallen = low_at s c.in-Some.fallen.values in (
      record {
        fallen = fallen;
        falls = subst (λ (memory : List Value). FellIn s c.args.schedule.now b args memory fallen) c.in_ok-memory.ensures fell;
        recovered = c.in_ok-after_fall-in-Some.ensures.recovered;
      },
      c.in_ok-after_fall-in-Some.ensures.fits,
    )

pub returns-in-None : goal.returns-in-None
returns-in-None c = λ b h fallen f.
    let s = c.args.self.now in
    let args = seen_at s c.args.part c.args.number c.args.args.now in
    let none = rw c.in-None.is at (c.in_ok-fallen.ensures.fell b h) in
    none fallen (subst (λ (memory : List Value). FellIn s c.args.schedule.now b args memory fallen) (sym c.in_ok-memory.ensures) f)
