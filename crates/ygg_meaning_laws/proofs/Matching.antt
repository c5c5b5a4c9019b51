-- Steps of a specification with picks by place, and from the front.
use Rattle.std.proofs.Common.{
  ◌≡◌,
  ◌↔◌,
  ◌≤◌,
  ℕ,
  suc,
  ◌+◌,
  ◌-◌,
  Bool,
  true,
  false,
  if◌then◌else◌,
  List,
  [],
  ◌∷◌,
  ◌++◌,
  take,
  length,
  replicate,
  Option,
  Some,
  None,
  refl,
  sym,
  ap,
  ◌∙◌,
  subst,
  append_assoc,
  arith,
}
use Rattle.ygg_value.specs.declared.row.Value.{Value}
use Rattle.ygg_syntax.specs.declared.grammar.BlockKind.TheVariants.{Spec}
use Rattle.ygg_syntax.specs.Choices.{choices_of}
use Rattle.ygg_syntax.specs.declared.tree.Block.{Block}
use Rattle.ygg_syntax.specs.declared.tree.Operation.{Operation}
use Rattle.ygg_meaning_laws.specs.Environments.{Env, bind}
use Rattle.ygg_meaning_laws.specs.Progress.{answer_of}
use Rattle.ygg_meaning_laws.specs.Machine.{Picks}
use Rattle.ygg_meaning_laws.specs.Layer.{ClosedLayer, eval_of}
use Rattle.ygg_meaning_laws.specs.Spec.{Outcome, chosen, block_outcome, then_block, crash_outcome, call_outcome, fall_with}
use Rattle.ygg_meaning_laws.specs.Obligations.{NoPicksPass}
use Rattle.ygg_meaning_laws.specs.Kinds.{keeps}
use Rattle.ygg_meaning_laws.specs.Direct.{Handled, Event, Reached, told_by, Chained, Within, question_space, room_of, direct_run}
use Rattle.ygg_meaning_laws.specs.Acts.{next_of, later}
use Rattle.ygg_meaning_laws.specs.Places.{Held, left_after, by_place, from_front, choosing, Result, outcome_by_place}
use Rattle.ygg_meaning_laws.specs.SpecPlaces.{crash_by_place, fall_by_place}
use Rattle.ygg_meaning_laws.proofs.Order.{block_follows}
use Rattle.ygg_meaning_laws.proofs.Rooms.{room_is}
use Rattle.ygg_meaning_laws.proofs.Placing.{fronted, all_placed, long_append, zeros_long, after_front}
use Rattle.ygg_meaning_laws.proofs.Choosing.{one, choices_room, questions_few, choosing_draws, told_chosen, outcome_is}
use Rattle.ygg_meaning_laws.proofs.SpecServes.{ran_gives}

-- an outcome with these picks left
abbrev pub with_left : Result → Picks → Option Outcome
with_left r left = Some (record { vars = r.vars; answer = r.answer; left = chosen left })

-- what some picks by place lead to, some picks from the front do, whatever follows them
pub record Fronts (n : ℕ) (O : Picks → Option Outcome) (r : Result) : Type 0 where
  pub taken : Picks
  pub few : length taken ≤ n
  pub gives : (more : Picks) → O (taken ++ more) ≡ with_left r more

-- and the other way round
pub record Puts (n : ℕ) (O : Picks → Option Outcome) (P : Picks → Result) (picks : Picks) : Type 0 where
  pub put : Picks
  pub long : length put ≡ n
  pub left : Picks
  pub enough : length picks ≤ n + length left
  pub result : Result
  pub gives : O picks ≡ with_left result left
  pub same : (more : Picks) → P (put ++ more) ≡ result

-- a step with picks from the front, and the same with picks by place
pub record Matches (n : ℕ) (O : Picks → Option Outcome) (P : Picks → Result) : Type 0 where
  pub front : (picks : Picks) → Fronts n O (P picks)
  pub place : (picks : Picks) → n ≤ length picks → Puts n O P picks

module _ (past : Bool) (L : ClosedLayer) where
  -- the state of a run by place is as long as its events are many
  long_state : (picks : Picks) (es : List (Event Picks)) (z end : Picks) → Chained (by_place (choosing past) picks) z es end → length end ≡ length z + length es
  long_state picks [] z end c = let h : length z ≡ length end = ap length c in omega (arith, h)
  long_state picks (e ∷ es) z end c =
      let bit = next_of past (left_after e.place picks) in
      let s : e.after ≡ z ++ bit ∷ [] = ap (λ (h : Handled Picks). h.to) (sym c.1) in
      let h = long_state picks es (z ++ bit ∷ []) end (subst (λ h. Chained (by_place (choosing past) picks) h es end) s c.2) in
      let n = long_append z (bit ∷ []) in
      omega (arith, h, n)

  left_long : (es : List (Event (Held Picks))) (picks : Picks) (end : Held Picks) → told_by es ++ chosen end.left ≡ chosen picks →
      length picks ≤ length es + length end.left
  left_long [] picks end h = let k : length (chosen end.left) ≡ length (chosen picks) = ap length h in let a = chosen_long end.left in let b =
      chosen_long picks in omega (arith, k, a, b)
    where
      chosen_long : (p : Picks) → length (chosen p) ≡ length p
      chosen_long [] = refl
      chosen_long (b ∷ p) = ap suc (chosen_long p)
  left_long (e ∷ es) [] end h = omega arith
  left_long (e ∷ es) (p ∷ picks) end h = let k = left_long es picks end (tails h) in omega (arith, k)
    where
      tails : {A : Type 0} {x y : A} {xs ys : List A} → x ∷ xs ≡ y ∷ ys → xs ≡ ys
      tails h = cc

  -- a block
  pub block_matches : (b : Block) (vars args : Env) → keeps Spec b ≡ true →
      Matches (choices_of b) (λ picks. block_outcome L b vars args (chosen picks)) (outcome_by_place past L b vars args)
  block_matches b vars args kept = record { front = front; place = place }
    where
      room : room_of one b ≡ choices_of b
      room = choices_room b kept

      front : (picks : Picks) → Fronts (choices_of b) (λ picks. block_outcome L b vars args (chosen picks)) (outcome_by_place past L b vars args picks)
      front picks =
          let p = direct_run (eval_of L) one (by_place (choosing past) picks) b (vars ++ args) [] in
          let f = block_follows (eval_of L) one (by_place (choosing past) picks) b.statements 0 (vars ++ args) [] in
          let few = questions_few p.events 0 (room_of one b)
          (subst (λ n. Within (question_space one) 0 p.events n) (room_is one (eval_of L) (by_place (choosing past) picks) b) f.within) in
          let long = long_state picks p.events [] p.to f.chained in
          let h = fronted past (eval_of L) one (choosing past) (choosing_draws past) b (vars ++ args) [] picks in
          let g = ran_gives past L b vars args (h.taken ++ []) in
          let room = choices_room b kept in
          record {
            taken = p.to;
            few = omega (arith, few, long, room);
            gives = λ more.
                ap (λ (z : Held Picks). block_outcome L b vars args (chosen (z.at ++ more))) (sym (h.ends [])) ∙ g.gives more
                ∙ ap (λ env. with_left (record { vars = take (length vars) env; answer = answer_of (eval_of L) b.answer env }) more) (h.names []);
          }

      place : (picks : Picks) → choices_of b ≤ length picks →
          Puts (choices_of b) (λ picks. block_outcome L b vars args (chosen picks)) (outcome_by_place past L b vars args) picks
      place picks enough =
          let room = choices_room b kept in
          let start : Held Picks = record { at = []; left = picks } in
          let r = direct_run (eval_of L) one (from_front (choosing past)) b (vars ++ args) start in
          let f = block_follows (eval_of L) one (from_front (choosing past)) b.statements 0 (vars ++ args) start in
          let few = questions_few r.events 0 (room_of one b)
          (subst (λ n. Within (question_space one) 0 r.events n) (room_is one (eval_of L) (from_front (choosing past)) b) f.within) in
          let told = told_chosen past r.events [] picks r.to (omega (arith, few, enough, room)) f.chained in
          let long = left_long r.events picks r.to told in
          let p = all_placed past (eval_of L) one (choosing past) (choosing_draws past) b (vars ++ args) [] (choices_of b) (omega (arith, room)) picks in
          record {
            put = p.put;
            long = p.long;
            left = r.to.left;
            enough = omega (arith, long, few, room);
            result = record { vars = take (length vars) r.env; answer = answer_of (eval_of L) b.answer r.env };
            gives = outcome_is past L b vars args picks (omega (arith, enough, room));
            same = λ more. ap (λ (x : Reached Picks). let s : Result =
                record { vars = take (length vars) x.env; answer = answer_of (eval_of L) b.answer x.env } in s) (p.mirrors more);
          }

  -- one step and then the `crash` block
  pub then_matches : (n : ℕ) (O : Picks → Option Outcome) (P : Picks → Result) → keeps Spec L.layer.crash ≡ true → Matches n O P →
      Matches (n + choices_of L.layer.crash) (λ picks. then_block L L.layer.crash (O picks))
      (λ picks. crash_by_place past L (P picks).vars (left_after n picks))
  then_matches n O P kept m = record {
    front = λ picks.
        let a = m.front picks in
        let c = (block_matches L.layer.crash (P picks).vars [] kept).front (left_after n picks) in
        let af = a.few in let cf = c.few in let l = long_append a.taken c.taken in
        record {
          taken = a.taken ++ c.taken;
          few = omega (arith, af, cf, l);
          gives = λ more. ap (λ z. then_block L L.layer.crash (O z)) (append_assoc a.taken c.taken more)
              ∙ ap (then_block L L.layer.crash) (a.gives (c.taken ++ more)) ∙ c.gives more;
        };
    place = λ picks enough.
        let a = m.place picks (omega (arith, enough)) in
        let ae = a.enough in
        let c = (block_matches L.layer.crash a.result.vars [] kept).place a.left (omega (arith, enough, ae)) in
        let ce = c.enough in let al = a.long in let cl = c.long in let l = long_append a.put c.put in
        record {
          put = a.put ++ c.put;
          long = omega (arith, al, cl, l);
          left = c.left;
          enough = omega (arith, ae, ce);
          result = c.result;
          gives = ap (then_block L L.layer.crash) a.gives ∙ c.gives;
          same = λ more.
              ap (λ z. crash_by_place past L (P z).vars (left_after n z)) (append_assoc a.put c.put more)
              ∙ ap (λ (r : Result). crash_by_place past L r.vars (left_after n (a.put ++ (c.put ++ more)))) (a.same (c.put ++ more))
              ∙ ap (crash_by_place past L a.result.vars) (after_front a.put (c.put ++ more) n (sym a.long)) ∙ c.same more;
        };
  }

  -- places that are passed over
  shifted : (k n : ℕ) (O : Picks → Option Outcome) (P : Picks → Result) → Matches n O P → Matches (k + n) O (λ picks. P (left_after k picks))
  shifted k n O P m = record {
    front = λ picks. let a = m.front (left_after k picks) in let f = a.few in record { taken = a.taken; few = omega (arith, f); gives = a.gives };
    place = λ picks enough.
        let a = m.place picks (omega (arith, enough)) in
        let e = a.enough in let al = a.long in let z = zeros_long k in let l = long_append (replicate k false) a.put in
        record {
          put = replicate k false ++ a.put;
          long = omega (arith, al, z, l);
          left = a.left;
          enough = omega (arith, e);
          result = a.result;
          gives = a.gives;
          same = λ more.
              ap (λ x. P (left_after k x)) (append_assoc (replicate k false) a.put more)
              ∙ ap P (after_front (replicate k false) (a.put ++ more) k (sym (zeros_long k))) ∙ a.same more;
        };
  }

  -- one pick that says which of two steps comes
  abbrev either : (O Q : Picks → Option Outcome) → Picks → Option Outcome
  either O Q [] = None
  either O Q (p ∷ picks) = if p then O picks else Q picks

  picked : (n : ℕ) (O Q : Picks → Option Outcome) (P R : Picks → Result) → Matches n O P → Matches n Q R →
      Matches (1 + n) (either O Q) (λ picks. if next_of past picks then P (later picks) else R (later picks))
  picked n O Q P R m k = record { front = λ picks. front (next_of past picks) picks; place = place }
    where
      front : (p : Bool) (picks : Picks) → Fronts (1 + n) (either O Q) (if p then P (later picks) else R (later picks))
      front true picks = let a = m.front (later picks) in let f = a.few in record { taken = true ∷ a.taken; few = omega (arith, f); gives = a.gives }
      front false picks = let a = k.front (later picks) in let f = a.few in record { taken = false ∷ a.taken; few = omega (arith, f); gives = a.gives }

      place : (picks : Picks) → 1 + n ≤ length picks → Puts (1 + n) (either O Q)
          (λ picks. if next_of past picks then P (later picks) else R (later picks)) picks
      place [] enough = absurd (omega (arith, enough))
      place (true ∷ picks) enough =
          let a = m.place picks (omega (arith, enough)) in let e = a.enough in let l = a.long in
          record { put = true ∷ a.put; long = omega (arith, l); left = a.left; enough = omega (arith, e); result = a.result; gives = a.gives; same = a.same }
      place (false ∷ picks) enough =
          let a = k.place picks (omega (arith, enough)) in let e = a.enough in let l = a.long in
          record { put = false ∷ a.put; long = omega (arith, l); left = a.left; enough = omega (arith, e); result = a.result; gives = a.gives; same = a.same }

  -- an operation that power has cut, by its own `on crash` block
  pub fall_on_crash : (o : Operation) (b : Block) (vars : Env) (args : List Value) → keeps Spec b ≡ true → keeps Spec L.layer.crash ≡ true →
      Matches (choices_of b + choices_of L.layer.crash) (fall_with L o (Some b) vars args) (fall_by_place past L o (Some b) vars args)
  fall_on_crash o b vars args kept crash = then_matches (choices_of b) _ _ crash (block_matches b vars (bind o.arguments args) kept)

  -- and without one
  pub fall_maybe : (o : Operation) (vars : Env) (args : List Value) → keeps Spec o.spec ≡ true → keeps Spec L.layer.crash ≡ true →
      Matches (1 + (choices_of o.spec + choices_of L.layer.crash)) (fall_with L o None vars args) (fall_by_place past L o None vars args)
  fall_maybe o vars args kept crash =
      let m = picked (choices_of o.spec + choices_of L.layer.crash) (λ picks. then_block L L.layer.crash (call_outcome L o vars args (chosen picks)))
      (λ picks. crash_outcome L vars (chosen picks)) _ _
      (then_matches (choices_of o.spec) _ _ crash (block_matches o.spec vars (bind o.arguments args) kept))
      (shifted (choices_of o.spec) (choices_of L.layer.crash) _ _ (block_matches L.layer.crash vars [] crash)) in
      record {
        front = λ picks. let f = m.front picks in record { taken = f.taken; few = f.few; gives = λ more. maybe_is (f.taken ++ more) ∙ f.gives more };
        place = λ picks enough.
            let p = m.place picks enough in
            record { put = p.put; long = p.long; left = p.left; enough = p.enough; result = p.result; gives = maybe_is picks ∙ p.gives; same = p.same };
      }
    where
      maybe_is : (picks : Picks) → fall_with L o None vars args picks
          ≡ either (λ picks. then_block L L.layer.crash (call_outcome L o vars args (chosen picks))) (λ picks. crash_outcome L vars (chosen picks)) picks
      maybe_is [] = refl
      maybe_is (p ∷ picks) = refl

-- where a test doesn't look at the picks that are left, it fails for all picks from the front just where it does for all picks by place
pub fails_alike : (n most : ℕ) (O : Picks → Option Outcome) (P : Picks → Result) (test : Option Outcome → Bool) → n ≤ most → Matches n O P →
    ((r : Result) (left : Picks) → test (with_left r left) ≡ test (with_left r [])) →
    NoPicksPass most (λ picks. test (O picks)) ↔ NoPicksPass most (λ picks. test (with_left (P picks) []))
fails_alike n most O P test enough m blind = (
  λ none picks long.
      let a = m.front picks in
      let more = replicate (most - length a.taken) false in
      let f = a.few in let l = long_append a.taken more in let z = zeros_long (most - length a.taken) in
      sym (blind (P picks) more) ∙ ap test (sym (a.gives more)) ∙ none (a.taken ++ more) (omega (arith, f, l, z, enough)),
  λ none picks long.
      let a = m.place picks (omega (arith, enough, long)) in
      let more = replicate (most - n) false in
      let e = a.long in let l = long_append a.put more in let z = zeros_long (most - n) in
      ap test a.gives ∙ blind a.result a.left ∙ ap (λ r. test (with_left r [])) (sym (a.same more)) ∙ none (a.put ++ more) (omega (arith, e, l, z, enough)),
)
