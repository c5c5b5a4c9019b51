use Rattle.std.proofs.Common.{◌<◌, sym, ◌∙◌}
use Rattle.std.proofs.lemmas.Bool.{false≢true}
use Rattle.std.proofs.lemmas.List.Elements.{All-contains}
use Rattle.ygg_cnf.specs.declared.lit.Lit.{Lit}
use Rattle.ygg_watch.proofs.StatusLemmas.{free_of, all_but_one}
use Rattle.ygg_watch.proofs.visit.judge_read.Goals as goal

pub replacement_from-requires : goal.replacement_from-requires
replacement_from-requires c = c.requires.within

pub is_false-requires : goal.is_false-requires
is_false-requires c = All-contains (λ (y : Lit). y.var < c.args.trail.now.variable_count) c.args.clause.now c.args.other c.requires.within c.requires.here

pub returns-in-Some : goal.returns-in-Some
returns-in-Some c = c.in-Some.ensures.some

pub returns-then-is_false : goal.returns-then-is_false
returns-then-is_false c = all_but_one c.args.clause.now c.args.trail.now.entries.items c.args.other (c.is_false.ensures.0 c.if-is_false.true)
    c.in-None.ensures.none

pub returns-else-is_false : goal.returns-else-is_false
returns-else-is_false c = (
  free_of c.args.trail.now.entries.items c.args.other c.requires.unsettled (λ f. false≢true (sym c.if-is_false.false ∙ c.is_false.ensures.1 f)),
  c.in-None.ensures.none,
)
