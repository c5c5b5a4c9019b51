-- A specification does what its function of picks says.
use Rattle.std.proofs.Common.{
  ◌≡◌,
  Bool,
  true,
  false,
  if◌then◌else◌,
  List,
  [],
  ◌∷◌,
  ◌++◌,
  map,
  take,
  length,
  Option,
  Some,
  None,
  refl,
  sym,
  ap,
  ◌∙◌,
  subst,
  append_assoc,
}
use Rattle.std.proofs.lemmas.List.{append-nil}
use Rattle.ygg_value.specs.Values.{digit}
use Rattle.ygg_value.specs.declared.row.Value.{Value}
use Rattle.ygg_syntax.specs.declared.tree.Block.{Block}
use Rattle.ygg_syntax.specs.declared.tree.Operation.{Operation}
use Rattle.ygg_meaning_laws.specs.Environments.{Env, bind}
use Rattle.ygg_meaning_laws.specs.Progress.{Question, Answer, Point, Waits, Goes, in_turn, run_of, answer_of}
use Rattle.ygg_meaning_laws.specs.Machine.{Picks, State}
use Rattle.ygg_meaning_laws.specs.Layer.{ClosedLayer, eval_of}
use Rattle.ygg_meaning_laws.specs.Spec.{Outcome, chosen, outcome_at, block_outcome, then_block, call_outcome, fall_with, Spec}
use Rattle.ygg_meaning_laws.specs.Direct.{Handled, Event, told_by, AsksAll, Chained}
use Rattle.ygg_meaning_laws.specs.Acts.{later, Taken, Did, noted_picks, IsActed}
use Rattle.ygg_meaning_laws.specs.Places.{Held, from_front, choosing}
use Rattle.ygg_meaning_laws.specs.SpecActs.{Ran, chooses, block_ran, then_crash, fall_ran, did_so, fell_so, spec_does, spec_drops, spec_acts}
use Rattle.ygg_meaning_laws.proofs.Order.{block_follows}

-- a run that was told picks, and the direct run on a list of which they are the next
pub record Follows (past : Bool) (notes picks left so_far : Picks) (e f : Env) (rest : List Answer) (end : Held Picks) : Type 0 where
  pub first : Picks
  pub second : Picks
  pub mid : Picks
  pub splits : notes ≡ first ++ second
  pub takes : Taken past first picks mid
  pub later_on : Taken past second mid left
  pub names : f ≡ e
  pub over : rest ≡ chosen second
  pub ends : end ≡ record { at = so_far ++ first; left = mid }

goes_is : (e f : Env) (l m : List Answer) → Goes e l ≡ Goes f m → (e ≡ f) × (l ≡ m)
goes_is e f l m h = (cc, cc)

never_goes : {A : Type 0} (p : Point) (q : Question) (env : Env) (left : List Answer) → p ≡ Waits q → p ≡ Goes env left → A
never_goes p q env left h g = let k : Waits q ≡ Goes env left = sym h ∙ g in absurd (cc)

module _ (past : Bool) where
  follow : (t : List Answer → Point) (told : List Answer) (notes picks left so_far : Picks) (es : List (Event (Held Picks))) (end : Held Picks)
      (e f : Env) (rest : List Answer) →
      t (told ++ chosen notes) ≡ Goes e rest → Taken past notes picks left →
      AsksAll t told es → Chained (from_front (choosing past)) (record { at = so_far; left = picks }) es end →
      ((more : List Answer) → t ((told ++ told_by es) ++ more) ≡ Goes f more) →
      Follows past notes picks left so_far e f rest end
  follow t told notes picks left so_far [] end e f rest g took a c goes =
      let same = goes_is f e (chosen notes) rest (sym (goes (chosen notes)) ∙ ap (λ z. t (z ++ chosen notes)) (append-nil told) ∙ g) in
      record {
        first = [];
        second = notes;
        mid = picks;
        splits = refl;
        takes = refl;
        later_on = took;
        names = same.0;
        over = sym same.1;
        ends = sym c ∙ ap (λ z. let h : Held Picks = record { at = z; left = picks } in h) (sym (append-nil so_far));
      }
  follow t told [] picks left so_far (x ∷ es) end e f rest g took a c goes = never_goes (t told) x.question e rest a.0 (ap t (sym (append-nil told)) ∙ g)
  follow t told (n ∷ notes) picks left so_far (x ∷ es) end e f rest g took a c goes =
      let answer : x.answer ≡ Some (digit n) = ap (λ (h : Handled (Held Picks)). h.answer) (sym c.1) ∙ ap (λ p. Some (digit p)) (sym took.0) in
      let stands : x.after ≡ record { at = so_far ++ n ∷ []; left = later picks } =
      ap (λ (h : Handled (Held Picks)). h.to) (sym c.1) ∙ ap (λ p. let h : Held Picks = record { at = so_far ++ p ∷ []; left = later picks } in h)
      (sym took.0) in
      let r = follow t (told ++ x.answer ∷ []) notes (later picks) left (so_far ++ n ∷ []) es end e f rest
      (ap t (append_assoc told (x.answer ∷ []) (chosen notes) ∙ ap (λ y. told ++ y ∷ chosen notes) answer) ∙ g) took.1 a.1
      (subst (λ h. Chained (from_front (choosing past)) h es end) stands c.2)
      (λ more. ap (λ z. t (z ++ more)) (append_assoc told (x.answer ∷ []) (told_by es)) ∙ goes more) in
      record {
        first = n ∷ r.first;
        second = r.second;
        mid = r.mid;
        splits = ap (λ z. n ∷ z) r.splits;
        takes = (took.0, r.takes);
        later_on = r.later_on;
        names = r.names;
        over = r.over;
        ends = r.ends ∙ ap (λ z. let h : Held Picks = record { at = z; left = r.mid } in h) (append_assoc so_far (n ∷ []) r.first);
      }

  module _ (L : ClosedLayer) where
    -- a block that has ended with some picks, and the direct run
    pub record Finds (b : Block) (vars args : Env) (notes picks left : Picks) (o : Outcome) : Type 0 where
      pub first : Picks
      pub second : Picks
      pub mid : Picks
      pub splits : notes ≡ first ++ second
      pub takes : Taken past first picks mid
      pub later_on : Taken past second mid left
      pub over : o.left ≡ chosen second
      pub is : block_ran past L b vars args picks ≡ record { vars = o.vars; answer = o.answer; taken = first; left = mid }

    outcome_is : (o p : Outcome) → Some o ≡ Some p → o ≡ p
    outcome_is o p h = cc

    pub finds : (b : Block) (vars args : Env) (notes picks left : Picks) (o : Outcome) → block_outcome L b vars args (chosen notes) ≡ Some o →
        Taken past notes picks left →
        Finds b vars args notes picks left o
    finds b vars args notes picks left o h took = by_point (in_turn (map (run_of (eval_of L)) b.statements) (vars ++ args) (chosen notes)) refl h
      where
        by_point : (p : Point) → in_turn (map (run_of (eval_of L)) b.statements) (vars ++ args) (chosen notes) ≡ p → outcome_at (eval_of L) b vars p ≡ Some o →
            Finds b vars args notes picks left o
        by_point (Waits q) e h = absurd (cc)
        by_point (Goes env rest) e h =
            let r = chooses past L b vars args picks in
            let f = block_follows (eval_of L) (λ f. 1) (from_front (choosing past)) b.statements 0 (vars ++ args) (record { at = []; left = picks }) in
            let w = follow (in_turn (map (run_of (eval_of L)) b.statements) (vars ++ args)) [] notes picks left
            [] r.events r.to env r.env rest e took f.asks f.chained f.goes in
            let same = outcome_is _ o h in
            record {
              first = w.first;
              second = w.second;
              mid = w.mid;
              splits = w.splits;
              takes = w.takes;
              later_on = w.later_on;
              over = ap (λ (o : Outcome). o.left) (sym same) ∙ w.over;
              is = ap (λ (env : Env). let x : Ran = record {
                vars = take (length vars) env;
                answer = answer_of (eval_of L) b.answer env;
                taken =
                    r.to.at;
                left = r.to.left;
              } in x) w.names
                  ∙ ap (λ (h : Held Picks). let x : Ran = record {
                    vars = take (length vars) env;
                    answer = answer_of (eval_of L) b.answer env;
                    taken =
                        h.at;
                    left = h.left;
                  } in x) w.ends
                  ∙ ap (λ (o : Outcome). let x : Ran = record { vars = o.vars; answer = o.answer; taken = w.first; left = w.mid } in x) same;
            }

    -- a block that has used all picks up
    pub block_whole : (b : Block) (vars args : Env) (notes picks left : Picks) (v : Env) (y : Answer) →
        block_outcome L b vars args (chosen notes) ≡ Some (record { vars = v; answer = y; left = [] }) → Taken past notes picks left →
        block_ran past L b vars args picks ≡ record { vars = v; answer = y; taken = notes; left = left }
    block_whole b vars args notes picks left v y h took =
        let w = finds b vars args notes picks left _ h took in all_used w.first w.second w.mid w.splits w.later_on w.over w.is
      where
        all_used : (first second mid : Picks) → notes ≡ first ++ second → Taken past second mid left → [] ≡ chosen second →
            block_ran past L b vars args picks ≡ record { vars = v; answer = y; taken = first; left = mid } →
            block_ran past L b vars args picks ≡ record { vars = v; answer = y; taken = notes; left = left }
        all_used first [] mid splits later_on over is =
            is ∙ ap (λ t. let x : Ran = record { vars = v; answer = y; taken = t; left = mid } in x) (sym (append-nil first) ∙ sym splits)
            ∙ ap (λ l. let x : Ran = record { vars = v; answer = y; taken = notes; left = l } in x) (sym later_on)
        all_used first (p ∷ second) mid splits later_on over is = absurd (cc)

    -- a block and then the `crash` block
    pub then_whole : (b : Block) (vars args : Env) (notes picks left : Picks) (v : Env) (y : Answer) →
        then_block L L.layer.crash (block_outcome L b vars args (chosen notes)) ≡ Some (record { vars = v; answer = y; left = [] }) →
        Taken past notes picks left →
        then_crash past L (block_ran past L b vars args picks) ≡ record { vars = v; answer = y; taken = notes; left = left }
    then_whole b vars args notes picks left v y h took = by_outcome (block_outcome L b vars args (chosen notes)) refl h
      where
        by_outcome : (o : Option Outcome) → block_outcome L b vars args (chosen notes) ≡ o →
            then_block L L.layer.crash o ≡ Some (record { vars = v; answer = y; left = [] }) →
            then_crash past L (block_ran past L b vars args picks) ≡ record { vars = v; answer = y; taken = notes; left = left }
        by_outcome None e h = absurd (cc)
        by_outcome (Some o) e h =
            let w = finds b vars args notes picks left o e took in
            let c = block_whole L.layer.crash o.vars [] w.second w.mid left v y
            (ap (λ l. block_outcome L L.layer.crash o.vars [] l) (sym w.over) ∙ h) w.later_on in
            ap (then_crash past L) w.is
            ∙ ap (λ (c : Ran). let x : Ran = record { vars = c.vars; answer = c.answer; taken = w.first ++ c.taken; left = c.left } in x) c
            ∙ ap (λ t. let x : Ran = record { vars = v; answer = y; taken = t; left = left } in x) (sym w.splits)

    -- an operation that power has cut
    pub fall_whole : (o : Operation) (crash : Option Block) (vars : Env) (args : List Value) (notes picks left : Picks) (v : Env) (y : Answer) →
        fall_with L o crash vars args notes ≡ Some (record { vars = v; answer = y; left = [] }) → Taken past notes picks left →
        fall_ran past L o crash vars args picks ≡ record { vars = v; answer = y; taken = notes; left = left }
    fall_whole o (Some b) vars args notes picks left v y h took = then_whole b vars (bind o.arguments args) notes picks left v y h took
    fall_whole o None vars args [] picks left v y h took = absurd (cc)
    fall_whole o None vars args (n ∷ notes) picks left v y h took =
        ap (λ p. happened p (if p then then_crash past L (block_ran past L o.spec vars (bind o.arguments args) (later picks))
        else block_ran past L L.layer.crash vars [] (later picks))) (sym took.0)
        ∙ ap (happened n) (by_pick n h)
      where
        happened : Bool → Ran → Ran
        happened p r = record { vars = r.vars; answer = r.answer; taken = p ∷ r.taken; left = r.left }

        by_pick : (n : Bool) →
            (if n then then_block L L.layer.crash (call_outcome L o vars args (chosen notes)) else block_outcome L L.layer.crash vars []
            (chosen notes)) ≡ Some (record { vars = v; answer = y; left = [] }) →
            (if n then then_crash past L (block_ran past L o.spec vars (bind o.arguments args) (later picks)) else block_ran past L L.layer.crash vars
            [] (later picks))
            ≡ record { vars = v; answer = y; taken = notes; left = left }
        by_pick true h = then_whole o.spec vars (bind o.arguments args) notes (later picks) left v y h took.1
        by_pick false h = block_whole L.layer.crash vars [] notes (later picks) left v y h took.1

    -- whatever a specification does is what its function says
    pub spec_acted : IsActed past noted_picks (Spec L) (spec_acts past L)
    spec_acted = record {
      calls = λ s s' name args notes picks left y h took.
          ap (λ o. spec_does past L s o args picks) h.is
          ∙ ap (λ (s : State Env). spec_does past L s (Some h.operation) args picks) h.from_is
          ∙ ap (did_so past L) (block_whole h.operation.spec h.vars (bind h.operation.arguments args) notes picks left h.vars' y h.gives took)
          ∙ ap (λ (s : State Env). let d : Did Env Bool = record { answer = y; to = s; notes = notes; left = left } in d) (sym h.to_is);
      falls = λ s name args notes picks left f h took.
          ap (λ o. spec_drops past L s o args picks) h.is
          ∙ ap (λ (s : State Env). spec_drops past L s (Some h.operation) args picks) h.from_is
          ∙ ap (fell_so past L) (fall_whole h.operation h.operation.on_crash h.vars args notes picks left f h.answer h.gives took);
      loses = λ s notes picks left f h took.
          ap (λ (s : State Env). fell_so past L (block_ran past L L.layer.crash s.base [] picks)) h.from_is
          ∙ ap (fell_so past L) (block_whole L.layer.crash h.vars [] notes picks left f h.answer h.gives took);
    }
