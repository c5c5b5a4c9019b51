use Rattle.std.proofs.Common.{subst}
use Rattle.ygg_meaning.specs.DiskMachine.{DiskMachine, disk_store}
use Rattle.ygg_meaning.specs.Stack.{BottomOf, TopOf, layers_of}
use Rattle.ygg_meaning.specs.History.{History}
use Rattle.ygg_meaning.specs.HistoryLaws.{ByLinks}
use Rattle.ygg_meaning.proofs.Chains.{history_under}
use Rattle.ygg_meaning.proofs.Plain.{store_plain}
use Rattle.ygg_meaning.proofs.Composed.{compose}
use Rattle.ygg_meaning.proofs.history_law.history.Goals as goal

pub returns : goal.returns
returns c f r t es s h =
    let under = compose (DiskMachine f.disk) (store_plain (disk_store f.disk)) (layers_of f) r t in
    let (u, past, links) = history_under (BottomOf f) (TopOf f) (ByLinks (layers_of f)) under es s h in
    (links.base, subst (History (TopOf f) es) links.is past, links.linked)
