use Rattle.std.proofs.Common.{sym, ap, ◌∙◌, List, ℕ}
use Rattle.std.specs.Str.{bytes_eq}
use Rattle.ygg_sched.proofs.Finding.{rest_is, eq_in_parts}
use Rattle.ygg_sched.proofs.naming.is_marked.Goals as goal

pub returns-in-Some : goal.returns-in-Some
returns-in-Some c =
    c.eq.ensures ∙ ap (λ (name : List ℕ). bytes_eq name c.in-Some.rest.now) c.as_slice.ensures
    ∙ ap (rest_is c.args.name.now.text) c.in-Some.ensures ∙ sym (eq_in_parts c.args.mark.now c.args.name.now.text c.args.bytes.now)

pub returns-in-None : goal.returns-in-None
returns-in-None c = ap (rest_is c.args.name.now.text) c.in-None.ensures ∙ sym (eq_in_parts c.args.mark.now c.args.name.now.text c.args.bytes.now)
