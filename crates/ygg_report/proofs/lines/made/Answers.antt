use Rattle.std.proofs.Common.{◌∙◌, ap, append_assoc}
use Rattle.ygg_report.specs.Lines.{made_words}
use Rattle.ygg_report.proofs.lines.made.Goals as goal

pub returns : goal.returns
unfolding made_words
returns c = simp append_assoc (c.from_vec.ensures ∙ ap (λ v. v.items) c.into_bytes.ensures.value ∙ c.in_ok-written.ensures.ok)
