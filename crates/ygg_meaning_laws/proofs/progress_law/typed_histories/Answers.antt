use Rattle.std.proofs.Common.{[], refl, subst}
use Rattle.ygg_meaning.specs.Stack.{BottomOf, TopOf, layers_of}
use Rattle.ygg_meaning.specs.History.{History}
use Rattle.ygg_meaning.specs.HistoryLaws.{ByLinks}
use Rattle.ygg_meaning.proofs.Chains.{history_under}
use Rattle.ygg_meaning_laws.proofs.Derived.{typed_compose}
use Rattle.ygg_meaning_laws.proofs.progress_law.typed_histories.Goals as goal

pub returns : goal.returns
returns c = λ f d t r es s h.
    let (u, past, links) = history_under (BottomOf f) (TopOf f) (ByLinks (layers_of f)) (typed_compose f d t [] (layers_of f) refl r) es s h in
    (links.base, subst (History (TopOf f) es) links.is past, links.linked)
