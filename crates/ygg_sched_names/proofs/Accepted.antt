-- The names of a file that a text is have the form of a name.
use Rattle.ygg_print.proofs.Reread.{printed_are}
use Rattle.ygg_print.proofs.Marks.{tokens_are}
use Rattle.ygg_sched_names.specs.Laws.{AcceptedHasNames, NamesArePlain, PrintedShows}
use Rattle.ygg_sched_names.proofs.Good.{all_good, plain_at}
use Rattle.ygg_sched_names.proofs.Marks.{names_printed}
use Rattle.ygg_sched_names.proofs.Printed.{shown}

pub accepted_has_names : AcceptedHasNames
accepted_has_names text tokens f a = names_printed f (printed_are tokens.items f (tokens_are text tokens a.spells) a.derives)

pub names_are_plain : NamesArePlain
names_are_plain text tokens f a place s h =
    plain_at f (all_good f ∣ (tokens.items, a.derives) ∣₁ a.typed (accepted_has_names text tokens f a)) place s h

pub printed_shows : PrintedShows
printed_shows text tokens f a place x v = shown f a.typed (accepted_has_names text tokens f a) ∣ (tokens.items, a.derives) ∣₁ place x v
