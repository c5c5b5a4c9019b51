use Rattle.std.proofs.Common.{◌≡◌, Some, refl, subst}
use Rattle.ygg_sched.specs.ygg_meaning.Obligations.{CallOf, CutOf, TickOf, CutTickOf}
use Rattle.ygg_sched.specs.declared.case.CaseKind.{CaseKind}
use Rattle.ygg_sched.specs.Cases.{obligation_at}
use Rattle.ygg_replay.proofs.Asked.{if_ok}
use Rattle.ygg_replay.proofs.Reaching.{can_operate, can_tick, called, fallen, fallen_tick}
use Rattle.ygg_replay.proofs.site.ReplaySite.reached.Goals as goal

pub whole-requires-clause-block : goal.whole-requires-clause-block
whole-requires-clause-block c =
    let s = c.args.self.now in
    let (o, is, fit) = c.requires.fits in
    can_operate s c.args.schedule.now c.args.number c.requires.here CallOf (λ o. refl) o
    (subst (λ (k : CaseKind). obligation_at s.layer.now k c.args.number ≡ Some o) c.in-Call.is is) fit

pub returns-in-Call : goal.returns-in-Call
returns-in-Call c = λ o h.
    let s = c.args.self.now in
    called s c.args.schedule.now c.args.number c.in_ok-end-in-Call.end c.in_ok-end-in-Call.ensures.ran c.in_ok-end-in-Call.ensures.fits o
    (subst (λ (k : CaseKind). obligation_at s.layer.now k c.args.number ≡ Some o) c.in-Call.is h)

pub cut_and_recovered-requires-clause-block : goal.cut_and_recovered-requires-clause-block
cut_and_recovered-requires-clause-block c =
    let s = c.args.self.now in
    let (o, is, fit) = c.requires.fits in
    can_operate s c.args.schedule.now c.args.number c.requires.here CutOf (λ o. refl) o
    (subst (λ (k : CaseKind). obligation_at s.layer.now k c.args.number ≡ Some o) c.in-Cut.is is) fit

pub returns-in-Cut : goal.returns-in-Cut
returns-in-Cut c =
    let s = c.args.self.now in
    if_ok _ _ c.cut_and_recovered.result c.cut_and_recovered.ensures
    (λ found ran o h. fallen s c.args.schedule.now c.args.number found ran o
    (subst (λ (k : CaseKind). obligation_at s.layer.now k c.args.number ≡ Some o) c.in-Cut.is h))

pub whole-requires-in-Tick-clause-block : goal.whole-requires-in-Tick-clause-block
whole-requires-in-Tick-clause-block c =
    let s = c.args.self.now in
    let (o, is, fit) = c.requires.fits in
    can_tick s c.args.schedule.now c.args.number c.requires.here TickOf (λ t. refl) o
    (subst (λ (k : CaseKind). obligation_at s.layer.now k c.args.number ≡ Some o) c.in-Tick.is is) fit c.new-none.result c.new-none.ensures

pub cut_and_recovered-requires-in-CutTick-clause-block : goal.cut_and_recovered-requires-in-CutTick-clause-block
cut_and_recovered-requires-in-CutTick-clause-block c =
    let s = c.args.self.now in
    let (o, is, fit) = c.requires.fits in
    can_tick s c.args.schedule.now c.args.number c.requires.here CutTickOf (λ t. refl) o
    (subst (λ (k : CaseKind). obligation_at s.layer.now k c.args.number ≡ Some o) c.in-CutTick.is is) fit c.new-none.result c.new-none.ensures

pub returns-in-CutTick : goal.returns-in-CutTick
returns-in-CutTick c =
    let s = c.args.self.now in
    if_ok _ _ c.cut_and_recovered-in-CutTick.result c.cut_and_recovered-in-CutTick.ensures
    (λ found ran o h. fallen_tick s c.args.schedule.now c.args.number c.new-none.result c.new-none.ensures found ran o
    (subst (λ (k : CaseKind). obligation_at s.layer.now k c.args.number ≡ Some o) c.in-CutTick.is h))
