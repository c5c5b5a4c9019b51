use Rattle.std.proofs.Common.{◌≡◌, ◌<◌, ◌∙◌, ℕ, List, [], length, get_or, sym, ap, subst}
use Rattle.std.proofs.lemmas.List.{get_or-map}
use Rattle.ygg_syntax.specs.declared.tree.File.{File}
use Rattle.ygg_oblige_reading.specs.ygg_rules.declared.rule.RuleKind.{RuleKind}
use Rattle.ygg_oblige_reading.specs.Obligations.{names_in}
use Rattle.ygg_oblige_reading.specs.Obligation.{Obligation}
use Rattle.ygg_top.specs.Findings.{IsRefuting, IsRefutingBy}
use Rattle.ygg_top.specs.declared.verdict.Refutation.{Refutation}
use Rattle.ygg_top.proofs.Reporting.{answered}
use Rattle.ygg_top.proofs.verdict.refuting.Goals as goal

-- the name of the obligation at a place
name_at : (all : List Obligation) (place : ℕ) (o : Obligation) → place < length all → (get_or all place o).name ≡ get_or (names_in all) place []
name_at all place o within = sym (get_or-map (λ (x : Obligation). x.name) all place o [] within)

-- what is printed of the obligation at a place
refuting_one : (kinds : List RuleKind) (f : File) (all : List Obligation) (r : Refutation) (o : Obligation) (text : List ℕ) → r.place < length all →
    o ≡ get_or all r.place o → IsRefutingBy kinds f o.name r.place r.env text → IsRefuting kinds f (names_in all) r text
refuting_one kinds f all r o text within is e =
    subst (λ (n : List ℕ). IsRefutingBy kinds f n r.place r.env text) (ap (λ (q : Obligation). q.name) is ∙ name_at all r.place o within) e

pub refuted_by-requires-clause-there : goal.refuted_by-requires-clause-there
refuted_by-requires-clause-there g c = subst (λ (n : ℕ). c.args.refuted_at.now.place < n) c.requires.each c.requires.there

pub refuted_by-requires-clause-fit : goal.refuted_by-requires-clause-fit
refuted_by-requires-clause-fit g c = c.requires.fit

pub returns : goal.returns
returns g c =
    answered c.refuted_by.result c.refuted_by.ensures (λ text e.
    refuting_one (g.B.Book.kinds c.args.rules.now) c.args.typed.now.file c.args.all.now c.args.refuted_at.now c.index-all-place.result text c.requires.there
    c.index-all-place.is e)
