-- A specification's step takes its picks from the front.
use Rattle.std.proofs.Common.{◌≡◌, true, false, List, [], ◌∷◌, ◌++◌, map, Option, Some, None, refl, sym, ap, ◌∙◌, append_assoc}
use Rattle.ygg_syntax.specs.declared.tree.Block.{Block}
use Rattle.ygg_syntax.specs.declared.tree.Operation.{Operation}
use Rattle.ygg_value.specs.declared.row.Value.{Value}
use Rattle.ygg_value.specs.Values.{digit}
use Rattle.ygg_meaning.specs.Environments.{Env, bind}
use Rattle.ygg_meaning.specs.Progress.{Run, Answer, Point, Waits, Goes, in_turn, run_of}
use Rattle.ygg_meaning.specs.Machine.{Picks}
use Rattle.ygg_meaning.specs.Layer.{ClosedLayer, eval_of}
use Rattle.ygg_meaning.specs.Shapes.{zeros_of}
use Rattle.ygg_meaning.specs.Spec.{Outcome, chosen, outcome_at, block_outcome, then_block, call_outcome, fall_outcome, fall_with, crash_outcome, start_outcome}
use Rattle.ygg_meaning.proofs.Uses.{Good, statements_good}

abbrev pub Step : Type 0
Step = List Answer → Option Outcome

pub record UsedBy (F : Step) (answers : List Answer) (o : Outcome) : Type 0 where
  pub front : List Answer
  pub is : answers ≡ front ++ o.left
  pub gives : F front ≡ Some (record o { left = [] })

pub record Exact (F : Step) : Type 0 where
  pub extends : (answers more : List Answer) (o : Outcome) → F answers ≡ Some o → F (answers ++ more) ≡ Some (record o { left = o.left ++ more })
  pub uses : (answers : List Answer) (o : Outcome) → F answers ≡ Some o → UsedBy F answers o

abbrev outcome_of : Outcome → Option Outcome → Outcome
outcome_of d None = d
outcome_of d (Some o) = o

some_is : (a b : Outcome) → Some a ≡ Some b → a ≡ b
some_is a b h = ap (outcome_of a) h

module _ (L : ClosedLayer) (b : Block) (vars args : Env) where
  abbrev calls : Run
  calls = in_turn (map (run_of (eval_of L)) b.statements)

  abbrev at_point : Point → Option Outcome
  at_point = outcome_at (eval_of L) b vars

  good : Good calls
  good = statements_good (eval_of L) b.statements

  block_extends : (answers more : List Answer) (o : Outcome) → block_outcome L b vars args answers ≡ Some o →
      block_outcome L b vars args (answers ++ more) ≡ Some (record o { left = o.left ++ more })
  block_extends answers more o h = at (calls (vars ++ args) answers) refl h
    where
      at : (p : Point) → calls (vars ++ args) answers ≡ p → at_point p ≡ Some o →
          block_outcome L b vars args (answers ++ more) ≡ Some (record o { left = o.left ++ more })
      at (Waits q) e h = absurd (cc)
      at (Goes env left) e h =
          ap at_point (good.extends (vars ++ args) answers more env left e) ∙ ap (λ (x : Outcome). Some (record x { left = x.left ++ more })) (some_is _ o h)

  block_uses : (answers : List Answer) (o : Outcome) → block_outcome L b vars args answers ≡ Some o → UsedBy (block_outcome L b vars args) answers o
  block_uses answers o h = at (calls (vars ++ args) answers) refl h
    where
      at : (p : Point) → calls (vars ++ args) answers ≡ p → at_point p ≡ Some o → UsedBy (block_outcome L b vars args) answers o
      at (Waits q) e h = absurd (cc)
      at (Goes env left) e h =
          let u = good.uses (vars ++ args) answers env left e in
          record {
            front = u.front;
            is = u.is ∙ ap (λ (x : Outcome). u.front ++ x.left) (some_is _ o h);
            gives = ap at_point u.goes ∙ ap (λ (x : Outcome). Some (record x { left = [] })) (some_is _ o h);
          }

  pub block_exact : Exact (block_outcome L b vars args)
  block_exact = record { extends = block_extends; uses = block_uses }

pub then_exact : (L : ClosedLayer) (b : Block) (F : Step) → Exact F → Exact (λ answers. then_block L b (F answers))
then_exact L b F exact = record {
  extends = λ answers more o h. at_more answers more o (F answers) refl h;
  uses = λ answers o h. at_front answers o (F answers) refl h;
}
  where
    at_more : (answers more : List Answer) (o : Outcome) (x : Option Outcome) → F answers ≡ x → then_block L b x ≡ Some o →
        then_block L b (F (answers ++ more)) ≡ Some (record o { left = o.left ++ more })
    at_more answers more o None e h = absurd (cc)
    at_more answers more o (Some o1) e h =
        ap (then_block L b) (exact.extends answers more o1 e) ∙ (block_exact L b o1.vars []).extends o1.left more o h

    at_front : (answers : List Answer) (o : Outcome) (x : Option Outcome) → F answers ≡ x → then_block L b x ≡ Some o →
        UsedBy (λ answers. then_block L b (F answers)) answers o
    at_front answers o None e h = absurd (cc)
    at_front answers o (Some o1) e h =
        let u = exact.uses answers o1 e in
        let v = (block_exact L b o1.vars []).uses o1.left o h in
        record {
          front = u.front ++ v.front;
          is = u.is ∙ ap (λ l. u.front ++ l) v.is ∙ sym (append_assoc u.front v.front o.left);
          gives = ap (then_block L b) (exact.extends u.front v.front (record o1 { left = [] }) u.gives) ∙ v.gives;
        }

abbrev first_of : Answer → List Answer → Answer
first_of d [] = d
first_of d (a ∷ rest) = a

abbrev rest_of : List Answer → List Answer
rest_of [] = []
rest_of (a ∷ rest) = rest

-- what is chosen is chosen of some picks
chosen_front : (front left : List Answer) (picks : Picks) → chosen picks ≡ front ++ left → (before : Picks) × (front ≡ chosen before)
chosen_front [] left picks h = ([], refl)
chosen_front (a ∷ front) left [] h = absurd (cc)
chosen_front (a ∷ front) left (p ∷ picks) h =
    let (before, e) = chosen_front front left picks (ap rest_of h) in
    (p ∷ before, ap (λ x. x ∷ front) (sym (ap (first_of None) h)) ∙ ap (λ r. Some (digit p) ∷ r) e)

pub exact_picks : (F : Step) → Exact F → (picks : Picks) (o : Outcome) → F (chosen picks) ≡ Some o → (before : Picks)
    × (F (chosen before) ≡ Some (record o { left = [] }))
exact_picks F exact picks o h =
    let u = exact.uses (chosen picks) o h in
    let (before, e) = chosen_front u.front o.left picks u.is in
    (before, ap F (sym e) ∙ u.gives)

pub call_picks_exact : (L : ClosedLayer) (op : Operation) (vars : Env) (args : List Value) (picks : Picks) (o : Outcome) →
    call_outcome L op vars args (chosen picks) ≡ Some o →
    (before : Picks) × (call_outcome L op vars args (chosen before) ≡ Some (record o { left = [] }))
call_picks_exact L op vars args picks o h = exact_picks (call_outcome L op vars args) (block_exact L op.spec vars (bind op.arguments args)) picks o h

pub crash_picks_exact : (L : ClosedLayer) (vars : Env) (picks : Picks) (o : Outcome) → crash_outcome L vars (chosen picks) ≡ Some o →
    (before : Picks) × (crash_outcome L vars (chosen before) ≡ Some (record o { left = [] }))
crash_picks_exact L vars picks o h = exact_picks (crash_outcome L vars) (block_exact L L.layer.crash vars []) picks o h

pub fall_picks_exact : (L : ClosedLayer) (op : Operation) (vars : Env) (args : List Value) (picks : Picks) (o : Outcome) →
    fall_outcome L op vars args picks ≡ Some o →
    (before : Picks) × (fall_outcome L op vars args before ≡ Some (record o { left = [] }))
fall_picks_exact L op vars args picks o h = by_block op.on_crash picks h
  where
    by_block : (block : Option Block) (picks : Picks) → fall_with L op block vars args picks ≡ Some o → (before : Picks)
        × (fall_with L op block vars args before ≡ Some (record o { left = [] }))
    by_block (Some b) picks h =
        exact_picks (λ answers. then_block L L.layer.crash (block_outcome L b vars (bind op.arguments args) answers))
        (then_exact L L.layer.crash (block_outcome L b vars (bind op.arguments args)) (block_exact L b vars (bind op.arguments args))) picks o h
    by_block None [] h = absurd (cc)
    by_block None (true ∷ picks) h =
        let (before, e) = exact_picks (λ answers. then_block L L.layer.crash (call_outcome L op vars args answers))
        (then_exact L L.layer.crash (call_outcome L op vars args) (block_exact L op.spec vars (bind op.arguments args))) picks o h in
        (true ∷ before, e)
    by_block None (false ∷ picks) h = let (before, e) = crash_picks_exact L vars picks o h in (false ∷ before, e)

-- with no answers none are left
pub start_exact : (L : ClosedLayer) (o : Outcome) → start_outcome L ≡ Some o → start_outcome L ≡ Some (record o { left = [] })
start_exact L o h =
    let u = (block_exact L L.layer.start (zeros_of L.layer.state) []).uses [] o h in
    by_front u.front u.is u.gives
  where
    by_front : (front : List Answer) → [] ≡ front ++ o.left →
        block_outcome L L.layer.start (zeros_of L.layer.state) [] front ≡ Some (record o { left = [] }) → start_outcome L ≡ Some (record o { left = [] })
    by_front [] is gives = gives
    by_front (a ∷ front) is gives = absurd (cc)
