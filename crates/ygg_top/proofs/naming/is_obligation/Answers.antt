use Rattle.ygg_top.proofs.Sites as sites
use Rattle.ygg_top.proofs.naming.is_obligation.Goals as goal

pub returns : goal.returns
returns c = sites.is_obligation c.args.file.now c.args.name.now c.claim_named.result c.is_some.result c.is_some.ensures c.claim_named.ensures.named
