use Rattle.std.proofs.Common.{[], None, refl, ap}
use Rattle.ygg_replay.specs.ygg_meaning.Obligations.{Init}
use Rattle.ygg_replay.specs.ygg_meaning.Shapes.{values_fit, zeros_of}
use Rattle.ygg_eval_places.specs.ygg_sym_laws.Fronts.{low_at_start}
use Rattle.ygg_oblige_given.specs.ygg_oblige_laws.Schedules.{schedule_from}
use Rattle.ygg_oblige_schedule.specs.Here.{below_of, inputs_of, layer_of, numbers_of}
use Rattle.ygg_oblige_schedule.specs.Schedules.{IsRead, given_here}
use Rattle.ygg_oblige_schedule.proofs.Means.{has_none, picks_are, read_from, read_so}
use Rattle.ygg_oblige_schedule.proofs.reader.EnvironmentReader.formatting.Goals as goal

pub run-requires-clause-run : goal.run-requires-clause-run
run-requires-clause-run c =
    let r = c.args.self.now in
    let l = r.site.layer.now in record {
      kind = refl;
      block = record {
        layer = l;
        block = l.format;
        is = record { layer = c.requires.here.here; block = refl };
        arguments_fit = ap (values_fit []) c.none.ensures;
        variables_fit = c.in_ok-memory.ensures.fits;
      };
    }

pub returns : goal.returns
returns c =
    let r = c.args.self.now in
    let l = r.site.layer.now in
    let want = schedule_from (below_of r) (layer_of r) (inputs_of r) (numbers_of r) Init (given_here r) [] in
    let picks =
    picks_are r _ c.none.result c.in_ok-memory.memory c.in_ok-low.low (zeros_of l.memory) (low_at_start (below_of r)) refl c.in_ok-memory.ensures.is
    c.in_ok-low.ensures.is l.format (record { layer = c.requires.here.here; block = refl }) _ c.in_ok-picks.picks c.in_ok-picks.ensures in
    read_from r (record { state = c.none-2.result; memory = c.none-3.result; low = c.none-4.result }) c.none-5.result
    (record { stop = None; picks = c.in_ok-picks.picks; wake = c.no_picks.result }) c.no_picks-2.result c.scheduled.result (IsRead r want)
    c.scheduled.ensures
    (read_so r want _ refl (has_none r _ _ _ want c.none-2.ensures c.none-3.ensures c.none-4.ensures refl refl refl) c.none-5.ensures tt refl picks
    c.no_picks.ensures c.no_picks-2.ensures)
