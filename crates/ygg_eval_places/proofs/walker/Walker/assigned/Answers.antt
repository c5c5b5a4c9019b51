use Rattle.std.proofs.Common.{List, ap, ◌∙◌, sym, subst}
use Rattle.ygg_meaning_laws.specs.Direct.{source_got}
use Rattle.ygg_eval.specs.ygg_eval_expr.Held.{env_of}
use Rattle.ygg_eval.specs.ygg_eval_expr.declared.held.Binding.{Binding}
use Rattle.ygg_eval.specs.Ready.{eval_in}
use Rattle.ygg_eval_places.proofs.PlacesBelow.{places_evaluate}
use Rattle.ygg_eval_places.proofs.Sides.{can_write}
use Rattle.ygg_value.specs.declared.row.Value.{Value}
use Rattle.ygg_meaning_laws.specs.ygg_meaning.Progress.{assigned}
use Rattle.ygg_eval_places.specs.Ready.{CanAsk}
use Rattle.ygg_eval_places.proofs.Parts.{assign_asks}
use Rattle.ygg_eval_places.proofs.walker.Walker.assigned.Goals as goal

pub write-requires-clause-evaluates : goal.write-requires-clause-evaluates
write-requires-clause-evaluates g c =
    let r = c.args.self.now in
    let M = g.W.Places.means r.machine.now in
    places_evaluate M r.runner.typed.now.file r.runner.number c.args.x.now c.args.indices.now c.args.from.now (env_of c.args.names.now.items)
    (M.state c.args.state.now) c.requires.can

pub write-requires-clause-writes : goal.write-requires-clause-writes
write-requires-clause-writes g c =
    let r = c.args.self.now in
    let M = g.W.Places.means r.machine.now in
    let law = g.met.W.Places.keeps r.machine.now in
    let file = r.runner.typed.now.file in
    let s = M.state c.args.state.now in
    can_write M file law r.runner.number c.args.x.now c.args.indices.now c.args.from.now c.args.place (env_of c.args.names.now.items) s c.in_ok-value.value
    c.requires.can
    (c.in_ok-value.ensures.value
    ∙ ap (λ (bs : List Binding). (source_got (eval_in file) M.space M.handle c.args.from.now c.args.place (env_of bs) s).value) c.as_slice.ensures.value)

pub after-requires : goal.after-requires
after-requires g c = let can = c.requires.can in let fits = can.fits in record { serves = fits.serves }

pub source-requires : goal.source-requires
source-requires g c =
    let r = c.args.self.now in
    let M = g.W.Places.means r.machine.now in
    let file = r.runner.typed.now.file in
    let env = env_of c.args.names.now.items in
    let s = M.state c.args.state.now in
    let law = g.met.W.Places.keeps r.machine.now in
    record {
      can = subst (λ (bs : List Binding). CanAsk M file r.runner.number c.args.from.now (env_of bs) s) (sym c.as_slice.ensures.value)
          (assign_asks M law file r.runner.number c.args.x.now c.args.indices.now c.args.from.now env s c.requires.can);
    }

pub returns : goal.returns
returns g c =
    let r = c.args.self.now in
    let M = g.W.Places.means r.machine.now in
    let file = r.runner.typed.now.file in
    let env = env_of c.args.names.now.items in
    let s = M.state c.args.state.now in
    let got = λ (bs : List Binding). source_got (eval_in file) M.space M.handle c.args.from.now c.args.place (env_of bs) s in
    let same = c.as_slice.ensures.value in
    record {
      ran = record {
        place = c.in_ok-end.ensures;
        names = c.in_ok-write.ensures ∙ ap (λ (v : Value). assigned (eval_in file) env c.args.x.now.text c.args.indices.now v)
            (c.in_ok-value.ensures.value ∙ ap (λ (bs : List Binding). (got bs).value) same);
        state = c.in_ok-value.ensures.state ∙ ap (λ (bs : List Binding). (got bs).to) same;
      };
    }
