-- A direct run of a block as a machine sees the block.
use Rattle.std.proofs.Common.{◌≡◌, Bool, true, false, List, [], ◌∷◌, ◌++◌, ◌+◌, map, take, length, Option, Some, sym, ap, ◌∙◌, subst}
use Rattle.std.proofs.lemmas.List.{append-nil}
use Rattle.ygg_syntax.specs.declared.tree.Expr.{Expr}
use Rattle.ygg_syntax.specs.declared.tree.Block.{Block}
use Rattle.ygg_meaning_laws.specs.Environments.{Env}
use Rattle.ygg_meaning_laws.specs.Progress.{Eval, Call, Answer, Point, Ends, in_turn, run_of, ended, answer_of}
use Rattle.ygg_meaning_laws.specs.Machine.{Picks, State, on, Machine}
use Rattle.ygg_meaning_laws.specs.Runs.{Dialogue, WholeRun, FallenRun, FallsAt, answers_of, notes_of}
use Rattle.ygg_meaning_laws.specs.Layer.{ClosedLayer, eval_of, dialogue_of}
use Rattle.ygg_meaning_laws.specs.Direct.{Event, Reached, told_by, Chained, AsksAll, direct_of, total}
use Rattle.ygg_meaning_laws.specs.Acts.{Taken, Took, Notes, Did, Fell, Acts, Standing, serve, run_from, did_by, lost_at, cut_at, stopped_in, AreCalls, IsActed}
use Rattle.ygg_meaning_laws.proofs.Taking.{taken_split}
use Rattle.ygg_meaning_laws.proofs.Order.{GoesSo, block_follows}
use Rattle.ygg_meaning_laws.proofs.Unique.{Asked, question_is, never_both, standing, walk}

asked_all : (eval : Eval) (answer : Option Expr) (before : Env) {S : Type 0} (t : List Answer → Point) (told : List Answer) (es : List (Event S)) →
    AsksAll t told es → Asked (λ answers. ended eval answer before (t answers)) told es
asked_all eval answer before t told [] h = tt
asked_all eval answer before t told (e ∷ es) h = (ap (ended eval answer before) h.0, asked_all eval answer before t (told ++ e.answer ∷ []) es h.1)

module _ {B X : Type 0} (F : Acts B X) (L : ClosedLayer) (b : Block) (memory args : Env) (lower : State B) (picks : Picks) where
  abbrev reached : Reached (Standing B X)
  reached = run_from F L b args (on memory lower) picks

  abbrev block : Dialogue
  block = dialogue_of L b memory args

  follows : GoesSo (eval_of L) (λ f. 1) (serve F) (in_turn (map (run_of (eval_of L)) b.statements) (memory ++ args)) (standing lower [] picks) 0
      (0 + total (map (λ d. d.room) (map (direct_of (eval_of L) (λ f. 1) (serve F)) b.statements))) reached
  follows = block_follows (eval_of L) (λ f. 1) (serve F) b.statements 0 (memory ++ args) (record { at = lower; notes = []; left = picks })

  pub run_asks : Asked block [] reached.events
  run_asks = asked_all (eval_of L) b.answer (memory ++ args) _ [] reached.events follows.asks

  pub run_chains : Chained (serve F) (record { at = lower; notes = []; left = picks }) reached.events reached.to
  run_chains = follows.chained

  pub run_ends : block (told_by reached.events) ≡ Ends (take (length (memory ++ args)) reached.env) (answer_of (eval_of L) b.answer reached.env)
  run_ends = ap (ended (eval_of L) b.answer (memory ++ args))
      (ap (in_turn (map (run_of (eval_of L)) b.statements) (memory ++ args)) (sym (append-nil (told_by reached.events))) ∙ follows.goes [])

  -- a whole run of the machine is the direct run on the picks that it took
  module _ (past : Bool) (N : Notes X) (M : Machine B X) (acted : AreCalls past N M F) where
    pub whole_unique : (notes : List X) (left : Picks) (env : Env) (answer : Answer) (to : State B) → WholeRun M block lower notes env answer to →
        Took past N notes picks left →
        did_by F L b args memory reached ≡ record { answer = answer; to = on (take (length memory) env) to; notes = notes; left = left }
    whole_unique notes left env answer to run takes =
        let w = walk past N M F acted block [] run.calls lower to run.path [] picks left (subst (λ t. Took past N t picks left) run.takes takes)
        reached.events reached.to run_asks run_chains _ _ run_ends in
        ended_there w.rest w.asks (w.chained) (ap block (sym w.told_is) ∙ run_ends)
      where
        ends_are : (e f : Env) (y z : Answer) → Ends e y ≡ Ends f z → (e ≡ f) × (y ≡ z)
        ends_are e f y z h = (cc, cc)

        ended_there : (rest : List (Event (Standing B X))) → Asked block (answers_of run.calls) rest →
            Chained (serve F) (standing to (notes_of run.calls) left) rest reached.to →
            block (answers_of run.calls ++ told_by rest) ≡ Ends (take (length (memory ++ args)) reached.env) (answer_of (eval_of L) b.answer reached.env) →
            did_by F L b args memory reached ≡ record { answer = answer; to = on (take (length memory) env) to; notes = notes; left = left }
        ended_there [] asked chained ends =
            let same = ends_are _ _ _ _ (sym ends ∙ ap block (append-nil (answers_of run.calls)) ∙ run.ends) in
            ap (λ (e : Env). let d : Did B X = record {
              answer = answer_of (eval_of L) b.answer reached.env;
              to =
                  on (take (length memory) e) reached.to.at;
              notes = reached.to.notes;
              left = reached.to.left;
            } in d) same.0
            ∙ ap (λ (y : Answer). let d : Did B X = record {
              answer = y;
              to = on (take (length memory) env) reached.to.at;
              notes = reached.to.notes;
              left = reached.to.left;
            } in d) same.1
            ∙ ap (λ (z : Standing B X). let d : Did B X = record {
              answer = answer;
              to = on (take (length memory) env) z.at;
              notes = z.notes;
              left =
                  z.left;
            } in d) (sym chained)
            ∙ ap (λ (t : List X). let d : Did B X = record { answer = answer; to = on (take (length memory) env) to; notes = t; left = left } in d)
            (sym run.takes)
        ended_there (e ∷ rest) asked chained ends = never_both (block (answers_of run.calls)) e.question env answer asked.0 run.ends

  module _ (past : Bool) (N : Notes X) (M : Machine B X) (acted : IsActed past N M F) where
    -- a run of the machine in which power fails is the direct run up to the stop
    pub fall_unique : (notes : List X) (left : Picks) (fallen : B) (run : FallenRun M block lower notes fallen) → Took past N notes picks left →
        stopped_in F run.within reached.events (length run.calls) reached.to ≡ Some (record { base = fallen; notes = notes; left = left })
    fall_unique notes left fallen run takes =
        let split = taken_split past (N.picks_in (notes_of run.calls)) (N.picks_in run.last) picks left
        (subst (λ t. Taken past t picks left) (ap N.picks_in run.takes ∙ N.joined (notes_of run.calls) run.last) takes) in
        let w = walk past N M F acted.calls block [] run.calls lower run.at run.path [] picks split.mid split.first
        reached.events reached.to run_asks run_chains _ _ run_ends in
        w.stops run.within ∙ stopped_there run.within split.mid split.second run.falls w.rest w.asks w.chained (ap block (sym w.told_is) ∙ run_ends)
        ∙ ap (λ t. Some (let f : Fell B X = record { base = fallen; notes = t; left = left } in f)) (sym run.takes)
      where
        stopped_there : (within : Bool) (mid : Picks) → Took past N run.last mid left → FallsAt within M block (answers_of run.calls) run.at run.last fallen →
            (rest : List (Event (Standing B X))) → Asked block (answers_of run.calls) rest →
            Chained (serve F) (standing run.at (notes_of run.calls) mid) rest reached.to →
            block (answers_of run.calls ++ told_by rest) ≡ Ends (take (length (memory ++ args)) reached.env) (answer_of (eval_of L) b.answer reached.env) →
            stopped_in F within rest 0 reached.to ≡ Some (record { base = fallen; notes = notes_of run.calls ++ run.last; left = left })
        stopped_there true mid last falls [] asked chained ends =
            never_both (block (answers_of run.calls)) (Call falls.name falls.args) _ _ falls.asks (ap block (sym (append-nil (answers_of run.calls))) ∙ ends)
        stopped_there true mid last falls (e ∷ rest) asked chained ends =
            let question : e.question ≡ Call falls.name falls.args = question_is e.question (Call falls.name falls.args) (sym asked.0 ∙ falls.asks) in
            ap (λ q. Some (cut_at F q e.before)) question ∙ ap (λ z. Some (cut_at F (Call falls.name falls.args) z)) chained.0
            ∙ ap (λ f. Some (lost_at F (standing run.at (notes_of run.calls) mid) f))
            (acted.falls run.at falls.name falls.args run.last mid left fallen falls.falls last)
        stopped_there false mid last falls [] asked chained ends =
            ap (λ (z : Standing B X). Some (lost_at F z (F.loses z.at z.left))) (sym chained)
            ∙ ap (λ f. Some (lost_at F (standing run.at (notes_of run.calls) mid) f)) (acted.loses run.at run.last mid left fallen falls last)
        stopped_there false mid last falls (e ∷ rest) asked chained ends =
            ap (λ (z : Standing B X). Some (lost_at F z (F.loses z.at z.left))) chained.0
            ∙ ap (λ f. Some (lost_at F (standing run.at (notes_of run.calls) mid) f)) (acted.loses run.at run.last mid left fallen falls last)
