-- It is the lemma.
use Rattle.ygg_meaning_laws.proofs.OneEnd.{one_conclusion}
use Rattle.ygg_meaning_laws.proofs.direct_law.one_conclusion.Goals as goal

pub returns : goal.returns
returns c = one_conclusion
