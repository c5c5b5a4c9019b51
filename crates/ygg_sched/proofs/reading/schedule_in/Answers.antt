use Rattle.std.proofs.Common.{◌≡◌, ◌∙◌, List, ℕ, Bor, sym, ap, subst, Ok, Err}
use Rattle.ygg_syntax.specs.declared.tree.File.{File}
use Rattle.ygg_sched.specs.declared.claim.Claim.{Claim}
use Rattle.ygg_sched.specs.declared.rest.Rest.{Rest}
use Rattle.ygg_sched.specs.Sites.{Site, site_in}
use Rattle.ygg_sched.specs.Lines.{Left, Gives, left_of, obligation_at}
use Rattle.ygg_sched.proofs.Onward.{begun, fails_first, fails_second}
use Rattle.ygg_sched.proofs.reading.schedule_in.Goals as goal

pub returns : goal.returns
returns c =
    let named : obligation_at c.args.typed.now.file (left_of c.in_ok-at.at)
    ≡ Ok ((c.in_ok-name.name.now, site_in c.in_ok-name.claim), left_of c.in_ok-name.at) =
    ap (λ (f : File). obligation_at f (left_of c.in_ok-at.at)) (sym c.file.ensures.same) ∙ c.in_ok-name.ensures in
    rw (begun c.args.typed.now.file c.args.text.now (left_of c.in_ok-at.at) _ c.in_ok-at.ensures named) c.schedule_lines.ensures

pub returns-in_err-at : goal.returns-in_err-at
returns-in_err-at c =
    fails_first c.args.typed.now.file c.args.text.now left_of c.from_residual.result c.in_err-at.field-0.0 c.from_residual.ensures.1 c.in_err-at.ensures

pub returns-in_err-name : goal.returns-in_err-name
returns-in_err-name c =
    let seen : Bor (List ℕ) × Claim × Rest → (List ℕ × Site) × Left = λ x. ((x.0.now, site_in x.1), left_of x.2) in
    fails_second c.args.typed.now.file c.args.text.now (left_of c.in_ok-at.at) seen c.from_residual-in_err-name.result c.in_err-name.field-0.0
    c.from_residual-in_err-name.ensures.1 c.in_ok-at.ensures
    (subst (λ (f : File). Gives seen (Err c.in_err-name.field-0.0) (obligation_at f (left_of c.in_ok-at.at))) c.file.ensures.same c.in_err-name.ensures)
